-- What may follow in each part of a string, and that a step takes one byte of it.
use Rattle.std.proofs.Common.{◌≡◌, ℕ, Bool, true, false, cond, List, [], ◌∷◌, ◌++◌, Option, Some, None, Ok, Err, refl, sym, ap, subst, ◌∙◌, append_assoc, inl, inr}
use Rattle.std.specs.Prelude.{◌==◌, ◌&&◌, encode_utf8}
use Rattle.std.proofs.lemmas.Bool.{cond_both, eqb-true, and_parts}
use Rattle.std.proofs.lemmas.List.{append-nil}
use Rattle.json_machine.specs.Refusal as e
use Rattle.json_machine.specs.Part.{Part}
use Rattle.json_machine.specs.Part as p
use Rattle.json_machine.specs.Progress as s
use Rattle.json_machine.specs.declared.begun.Tail.{Tail}
use Rattle.json_machine.specs.declared.begun.Tail.TheVariants as tails
use Rattle.json_machine.specs.Quad.{Quad}
use Rattle.json_machine.specs.Quad as q
use Rattle.json_value.specs.Strings.{within, is_plain, short, hex_digit, is_high, is_low, join, four_digits, IsUnit, digits, Chars, end, plain, wide, short_escape, escape, pair_escape, cut_escape}
use Rattle.json_machine.specs.Scan.{Scanned, lead, with, wide_by, plain_scan, short_by, escape_scan, unit_scan, hex_by, is_cut, hex_scan, may_be_low, pair_scan, low_by, low_scan, wide_scan, slash_scan, letter_scan, scan}
use Rattle.json_machine.specs.Left.{OneDigit, Digits, CutDigits, Unit_, alone, two, HexLeft, PartLeft, TextLeft}
use Rattle.json_machine.proofs.Wides.{tails_wide}

digits_unit : (u : ℕ) (l w : List ℕ) → Digits q.Nothing u l w → (ds : List ℕ) × IsUnit u ds × (w ≡ ds ++ l)
digits_unit u l w ds =
    let y = ds.onward in
    let x = y.onward in
    let z = x.onward in (
      ds.byte ∷ (y.byte ∷ (x.byte ∷ (z.byte ∷ []))),
      subst (λ (k : ℕ). IsUnit k (ds.byte ∷ (y.byte ∷ (x.byte ∷ (z.byte ∷ []))))) z.onward.0 (digits ds.value y.value x.value z.value ds.byte y.byte x.byte z.byte ds.is y.is x.is z.is),
      ds.parts ∙ ap (λ (k : List ℕ). ds.byte ∷ k) (y.parts ∙ ap (λ (k : List ℕ). y.byte ∷ k) (x.parts ∙ ap (λ (k : List ℕ). x.byte ∷ k) (z.parts ∙ ap (λ (k : List ℕ). z.byte ∷ k) z.onward.1))),
    )

-- a digit is read
pub one_digit : (K : ℕ → List ℕ → Type 0) (b d : ℕ) (w : List ℕ) → hex_digit b ≡ Some d → K d w → OneDigit K (b ∷ w)
one_digit K b d w is onward = record { byte = b; value = d; after = w; parts = refl; is = is; onward = onward }

pub unit_digits : (u : ℕ) (ds l : List ℕ) → IsUnit u ds → Digits q.Nothing u l (ds ++ l)
unit_digits _ _ l (digits a b c d x y z w hx hy hz hw) =
    one_digit _ x a (y ∷ (z ∷ (w ∷ l))) hx (one_digit _ y b (z ∷ (w ∷ l)) hy (one_digit _ z c (w ∷ l) hz (one_digit _ w d l hw (refl, refl))))

unit_escape : (cut : Bool) (u : ℕ) (t l w : List ℕ) → Digits q.Nothing u l w → Unit_ cut u t l → Chars cut t (92 ∷ (117 ∷ w))
unit_escape cut _ _ _ w ds (alone u t l hi lo chars) =
    let k = digits_unit u l w ds in
    subst (λ (x : List ℕ). Chars cut (encode_utf8 u ++ t) (92 ∷ (117 ∷ x))) (sym k.2) (escape u k.0 t l k.1 hi lo chars)
unit_escape cut _ _ _ w ds (two u v t w' l hi lo es chars) =
    let k = digits_unit u (92 ∷ (117 ∷ w')) w ds in
    let m = digits_unit v l w' es in
    subst (λ (x : List ℕ). Chars cut (encode_utf8 (join u v) ++ t) (92 ∷ (117 ∷ x))) (sym (k.2 ∙ ap (λ (x : List ℕ). k.0 ++ (92 ∷ (117 ∷ x))) m.2)) (pair_escape u v k.0 m.0 t l k.1 m.1 hi lo chars)

pub hex_escape : (cut : Bool) (t w : List ℕ) → HexLeft cut q.Nothing t w → Chars cut t (92 ∷ (117 ∷ w))
hex_escape cut t w (inl (u, l, ds, un)) = unit_escape cut u t l w ds un
hex_escape cut t w (inr (on, l, ds, chars)) =
    let y = ds.onward in
    let x = y.onward in
    let spelled : w ≡ ds.byte ∷ (y.byte ∷ (x.byte ∷ (256 ∷ l))) = ds.parts ∙ ap (λ (k : List ℕ). ds.byte ∷ k) (y.parts ∙ ap (λ (k : List ℕ). y.byte ∷ k) (x.parts ∙ ap (λ (k : List ℕ). x.byte ∷ k) x.onward.1)) in
    subst (λ (k : List ℕ). Chars cut t (92 ∷ (117 ∷ k))) (sym spelled) (cut_escape ds.value y.value x.value ds.byte y.byte x.byte t l on ds.is y.is x.is x.onward.0 chars)

abbrev pub IsScanSound : Bool → (List ℕ → List ℕ → Type 0) → ℕ → Scanned → Type 0
IsScanSound cut L b (Ok (s.Done f)) = L (b ∷ []) f
IsScanSound cut L b (Ok (s.More part text)) = (w f : List ℕ) → TextLeft cut part text w f → L (b ∷ w) f
IsScanSound cut L b (Err why) = Unit {0}

regroup : (text more t f : List ℕ) → f ≡ (text ++ more) ++ t → f ≡ text ++ (more ++ t)
regroup text more t f e = e ∙ append_assoc text more t

plain_sound : (cut : Bool) (at : ℕ) (text : List ℕ) (b : ℕ) → IsScanSound cut (TextLeft cut p.Plain text) b (plain_scan at text b)
unfolding plain_scan
plain_sound cut at text b =
    cond_both (b == 34) (Ok (s.Done text)) _ (IsScanSound cut (TextLeft cut p.Plain text) b) (λ h. done (eqb-true _ _ h))
    (λ _. cond_both (b == 92) (Ok (s.More (p.Escape at) text)) _ (IsScanSound cut (TextLeft cut p.Plain text) b) (λ h. slash (eqb-true _ _ h))
    (λ _. cond_both (is_plain b) (with text (b ∷ [])) (wide_by at text b (lead b)) (IsScanSound cut (TextLeft cut p.Plain text) b) plainly (λ _. by_lead (lead b) refl)))
  where
    done : b ≡ 34 → TextLeft cut p.Plain text (b ∷ []) text
    done is = ([], rw is end, sym (append-nil text))

    slash : b ≡ 92 → (w f : List ℕ) → TextLeft cut (p.Escape at) text w f → TextLeft cut p.Plain text (b ∷ w) f
    slash is w f (t, chars, e) = (t, rw is chars, e)

    plainly : is_plain b ≡ true → (w f : List ℕ) → TextLeft cut p.Plain (text ++ (b ∷ [])) w f → TextLeft cut p.Plain text (b ∷ w) f
    plainly is w f (t, chars, e) = (b ∷ t, plain b t w is chars, regroup text (b ∷ []) t f e)

    by_lead : (o : Option Tail) → lead b ≡ o → IsScanSound cut (TextLeft cut p.Plain text) b (wide_by at text b o)
    by_lead None is = tt
    by_lead (Some tail) is = λ w f left. widely w f left
      where
        widely : (w f : List ℕ) → TextLeft cut (p.Wide at tail) (text ++ (b ∷ [])) w f → TextLeft cut p.Plain text (b ∷ w) f
        widely w f (t, (u, l, t', ts, chars, same), e) =
            let k = tails_wide b tail u l w is ts in
            (b ∷ (u ++ t'), subst (λ (x : List ℕ). Chars cut (b ∷ (u ++ t')) (b ∷ x)) (sym k.1) (wide (b ∷ u) t' l k.0 chars), regroup text (b ∷ []) t f e ∙ ap (λ (k : List ℕ). text ++ (b ∷ k)) same)

escape_sound : (cut : Bool) (place : ℕ) (text : List ℕ) (b : ℕ) → IsScanSound cut (TextLeft cut (p.Escape place) text) b (escape_scan place text b)
unfolding escape_scan
escape_sound cut place text b =
    cond_both (b == 117) (Ok (s.More (p.Hex place q.Nothing) text)) _ (IsScanSound cut (TextLeft cut (p.Escape place) text) b) (λ h. hexes (eqb-true _ _ h)) (λ _. shortly (short b) refl)
  where
    hexes : b ≡ 117 → (w f : List ℕ) → TextLeft cut (p.Hex place q.Nothing) text w f → TextLeft cut (p.Escape place) text (b ∷ w) f
    hexes is w f (t, left, e) = (t, rw is (hex_escape cut t w left), e)

    shortly : (o : Option ℕ) → short b ≡ o → IsScanSound cut (TextLeft cut (p.Escape place) text) b (short_by text o)
    shortly None is = tt
    shortly (Some c) is = λ w f left. escaped w f left
      where
        escaped : (w f : List ℕ) → TextLeft cut p.Plain (text ++ (c ∷ [])) w f → TextLeft cut (p.Escape place) text (b ∷ w) f
        escaped w f (t, chars, e) = (c ∷ t, short_escape b c t w is chars, regroup text (c ∷ []) t f e)

unit_sound : (cut : Bool) (place : ℕ) (text : List ℕ) (u b : ℕ) (part : Part) → ((t w : List ℕ) → Unit_ cut u t w → PartLeft cut part t (b ∷ w))
    → IsScanSound cut (TextLeft cut part text) b (unit_scan place text u)
unfolding unit_scan
unit_sound cut place text u b part lift =
    cond_both (is_high u) (Ok (s.More (p.Slash place u) text)) _ (IsScanSound cut (TextLeft cut part text) b) (λ _. slash)
    (λ not_high. cond_both (is_low u) (Err (e.Surrogate place)) (with text (encode_utf8 u)) (IsScanSound cut (TextLeft cut part text) b) (λ _. tt) (λ not_low. whole not_high not_low))
  where
    slash : (w f : List ℕ) → TextLeft cut (p.Slash place u) text w f → TextLeft cut part text (b ∷ w) f
    slash w f (t, un, e) = (t, lift t w un, e)

    whole : is_high u ≡ false → is_low u ≡ false → (w f : List ℕ) → TextLeft cut p.Plain (text ++ encode_utf8 u) w f → TextLeft cut part text (b ∷ w) f
    whole not_high not_low w f (t, chars, e) = (encode_utf8 u ++ t, lift (encode_utf8 u ++ t) w (alone u t w not_high not_low chars), regroup text (encode_utf8 u) t f e)

not_cut : (cut t : Bool) → (cut && (t && false)) ≡ true → ⊥
not_cut true true e = cc
not_cut true false e = cc
not_cut false t e = cc

-- 256 in the place of the fourth digit
cut_sound : (cut : Bool) (place : ℕ) (quad : Quad) (text : List ℕ) (b : ℕ) → (cut && (b == 256 && is_cut quad)) ≡ true → (w f : List ℕ) → TextLeft cut p.Plain text w f → TextLeft cut (p.Hex place quad) text (b ∷ w) f
cut_sound cut place (q.Three a c d) text b h w f (t, chars, e) =
    let on = and_parts cut (b == 256 && is_low (four_digits a c d 0)) h in
    let k = and_parts (b == 256) (is_low (four_digits a c d 0)) on.1 in
    (t, inr (on.0, w, (k.1, ap (λ (n : ℕ). n ∷ w) (eqb-true b 256 k.0)), chars), e)
cut_sound cut place _ text b h w f left = absurd (not_cut cut (b == 256) h)

hex_sound : (cut : Bool) (place : ℕ) (quad : Quad) (text : List ℕ) (b : ℕ) → IsScanSound cut (TextLeft cut (p.Hex place quad) text) b (hex_scan cut place quad text b)
unfolding hex_scan
hex_sound cut place quad text b =
    cond_both (cut && (b == 256 && is_cut quad)) (Ok (s.More p.Plain text)) (hex_by place quad text (hex_digit b)) (IsScanSound cut (TextLeft cut (p.Hex place quad) text) b)
    (cut_sound cut place quad text b) (λ _. by_digit quad (hex_digit b) refl)
  where
    more : (quad quad' : Quad) → ((u : ℕ) (l w : List ℕ) → Digits quad' u l w → Digits quad u l (b ∷ w)) → ((l w : List ℕ) → CutDigits quad' l w → CutDigits quad l (b ∷ w))
        → (w f : List ℕ) → TextLeft cut (p.Hex place quad') text w f → TextLeft cut (p.Hex place quad) text (b ∷ w) f
    more quad quad' lift lift' w f (t, inl (u, l, ds, un), e) = (t, inl (u, l, lift u l w ds, un), e)
    more quad quad' lift lift' w f (t, inr (on, l, ds, chars), e) = (t, inr (on, l, lift' l w ds, chars), e)

    by_digit : (quad : Quad) (o : Option ℕ) → hex_digit b ≡ o → IsScanSound cut (TextLeft cut (p.Hex place quad) text) b (hex_by place quad text o)
    by_digit quad None is = tt
    by_digit q.Nothing (Some d) is = more q.Nothing (q.One d) (λ u l w ds. record { byte = b; value = d; after = w; parts = refl; is = is; onward = ds })
        (λ l w ds. record { byte = b; value = d; after = w; parts = refl; is = is; onward = ds })
    by_digit (q.One a) (Some d) is = more (q.One a) (q.Two a d) (λ u l w ds. record { byte = b; value = d; after = w; parts = refl; is = is; onward = ds })
        (λ l w ds. record { byte = b; value = d; after = w; parts = refl; is = is; onward = ds })
    by_digit (q.Two a c) (Some d) is = more (q.Two a c) (q.Three a c d) (λ u l w ds. record { byte = b; value = d; after = w; parts = refl; is = is; onward = ds })
        (λ l w ds. record { byte = b; value = d; after = w; parts = refl; is = is; onward = ds })
    by_digit (q.Three a c k) (Some d) is = unit_sound cut place text (four_digits a c k d) b (p.Hex place (q.Three a c k))
        (λ t w un. inl (four_digits a c k d, w, record { byte = b; value = d; after = w; parts = refl; is = is; onward = (refl, refl) }, un))

slash_sound : (cut : Bool) (place high : ℕ) (text : List ℕ) (b : ℕ) → IsScanSound cut (TextLeft cut (p.Slash place high) text) b (slash_scan place high text b)
unfolding slash_scan
slash_sound cut place high text b =
    cond_both (b == 92) (Ok (s.More (p.Letter place high) text)) (Err (e.Surrogate place)) (IsScanSound cut (TextLeft cut (p.Slash place high) text) b) (λ h. go (eqb-true _ _ h)) (λ _. tt)
  where
    go : b ≡ 92 → (w f : List ℕ) → TextLeft cut (p.Letter place high) text w f → TextLeft cut (p.Slash place high) text (b ∷ w) f
    go is w f (t, un, e) = (t, rw is un, e)

letter_sound : (cut : Bool) (place high : ℕ) (text : List ℕ) (b : ℕ) → IsScanSound cut (TextLeft cut (p.Letter place high) text) b (letter_scan place high text b)
unfolding letter_scan
letter_sound cut place high text b =
    cond_both (b == 117) (Ok (s.More (p.Low place high q.Nothing) text)) (Err (e.Surrogate place)) (IsScanSound cut (TextLeft cut (p.Letter place high) text) b) (λ h. go (eqb-true _ _ h)) (λ _. tt)
  where
    go : b ≡ 117 → (w f : List ℕ) → TextLeft cut (p.Low place high q.Nothing) text w f → TextLeft cut (p.Letter place high) text (b ∷ w) f
    go is w f (t, (v, l, t', hi, lo, ds, chars, same), e) = (encode_utf8 (join high v) ++ t', rw is (two high v t' w l hi lo ds chars), e ∙ ap (λ (k : List ℕ). text ++ k) same)

low_sound : (cut : Bool) (place high : ℕ) (quad : Quad) (text : List ℕ) (b : ℕ) → IsScanSound cut (TextLeft cut (p.Low place high quad) text) b (low_scan place high quad text b)
unfolding low_scan pair_scan
low_sound cut place high quad text b = by_digit quad (hex_digit b) refl
  where
    more : (quad quad' : Quad) → ((v : ℕ) (l w : List ℕ) → Digits quad' v l w → Digits quad v l (b ∷ w))
        → IsScanSound cut (TextLeft cut (p.Low place high quad) text) b (cond (may_be_low quad') (Ok (s.More (p.Low place high quad') text)) (Err (e.Surrogate place)))
    more quad quad' lift = cond_both (may_be_low quad') (Ok (s.More (p.Low place high quad') text)) (Err (e.Surrogate place)) (IsScanSound cut (TextLeft cut (p.Low place high quad) text) b) (λ _. go) (λ _. tt)
      where
        go : (w f : List ℕ) → TextLeft cut (p.Low place high quad') text w f → TextLeft cut (p.Low place high quad) text (b ∷ w) f
        go w f (t, (v, l, t', hi, lo, ds, chars, same), e) = (t, (v, l, t', hi, lo, lift v l w ds, chars, same), e)

    whole : (a c k d : ℕ) → hex_digit b ≡ Some d → IsScanSound cut (TextLeft cut (p.Low place high (q.Three a c k)) text) b (pair_scan place text high (four_digits a c k d))
    whole a c k d is = cond_both (is_high high && is_low (four_digits a c k d)) (with text (encode_utf8 (join high (four_digits a c k d)))) (Err (e.Surrogate place)) (IsScanSound cut (TextLeft cut (p.Low place high (q.Three a c k)) text) b)
        (λ h. go (and_parts _ _ h)) (λ _. tt)
      where
        go : (is_high high ≡ true) × (is_low (four_digits a c k d) ≡ true) → (w f : List ℕ) → TextLeft cut p.Plain (text ++ encode_utf8 (join high (four_digits a c k d))) w f → TextLeft cut (p.Low place high (q.Three a c k)) text (b ∷ w) f
        go h w f (t, chars, e) = (
          encode_utf8 (join high (four_digits a c k d)) ++ t,
          (four_digits a c k d, w, t, h.0, h.1, record { byte = b; value = d; after = w; parts = refl; is = is; onward = (refl, refl) }, chars, refl),
          regroup text (encode_utf8 (join high (four_digits a c k d))) t f e,
        )

    by_digit : (quad : Quad) (o : Option ℕ) → hex_digit b ≡ o → IsScanSound cut (TextLeft cut (p.Low place high quad) text) b (low_by place high quad text o)
    by_digit quad None is = tt
    by_digit q.Nothing (Some d) is = more q.Nothing (q.One d) (λ v l w ds. record { byte = b; value = d; after = w; parts = refl; is = is; onward = ds })
    by_digit (q.One a) (Some d) is = more (q.One a) (q.Two a d) (λ v l w ds. record { byte = b; value = d; after = w; parts = refl; is = is; onward = ds })
    by_digit (q.Two a c) (Some d) is = more (q.Two a c) (q.Three a c d) (λ v l w ds. record { byte = b; value = d; after = w; parts = refl; is = is; onward = ds })
    by_digit (q.Three a c k) (Some d) is = whole a c k d is

wide_sound : (cut : Bool) (place : ℕ) (tail : Tail) (text : List ℕ) (b : ℕ) → IsScanSound cut (TextLeft cut (p.Wide place tail) text) b (wide_scan place tail text b)
unfolding wide_scan
wide_sound cut place (tails.One lo hi) text b = cond_both (within lo hi b) (with text (b ∷ [])) (Err (e.Malformed place)) (IsScanSound cut (TextLeft cut (p.Wide place (tails.One lo hi)) text) b) go (λ _. tt)
  where
    go : within lo hi b ≡ true → (w f : List ℕ) → TextLeft cut p.Plain (text ++ (b ∷ [])) w f → TextLeft cut (p.Wide place (tails.One lo hi)) text (b ∷ w) f
    go is w f (t, chars, e) = (b ∷ t, (b ∷ [], w, t, record { byte = b; others = []; after = w; made = refl; parts = refl; is = is; onward = (refl, refl) }, chars, refl), regroup text (b ∷ []) t f e)
wide_sound cut place (tails.Two lo hi) text b = cond_both (within lo hi b) (Ok (s.More (p.Wide place (tails.One 128 191)) (text ++ (b ∷ [])))) (Err (e.Malformed place)) (IsScanSound cut (TextLeft cut (p.Wide place (tails.Two lo hi)) text) b) go (λ _. tt)
  where
    go : within lo hi b ≡ true → (w f : List ℕ) → TextLeft cut (p.Wide place (tails.One 128 191)) (text ++ (b ∷ [])) w f → TextLeft cut (p.Wide place (tails.Two lo hi)) text (b ∷ w) f
    go is w f (t, (u, l, t', ts, chars, same), e) =
        (b ∷ t, (b ∷ u, l, t', record { byte = b; others = u; after = w; made = refl; parts = refl; is = is; onward = ts }, chars, ap (λ (k : List ℕ). b ∷ k) same), regroup text (b ∷ []) t f e)
wide_sound cut place (tails.Three lo hi) text b = cond_both (within lo hi b) (Ok (s.More (p.Wide place (tails.Two 128 191)) (text ++ (b ∷ [])))) (Err (e.Malformed place)) (IsScanSound cut (TextLeft cut (p.Wide place (tails.Three lo hi)) text) b) go (λ _. tt)
  where
    go : within lo hi b ≡ true → (w f : List ℕ) → TextLeft cut (p.Wide place (tails.Two 128 191)) (text ++ (b ∷ [])) w f → TextLeft cut (p.Wide place (tails.Three lo hi)) text (b ∷ w) f
    go is w f (t, (u, l, t', ts, chars, same), e) =
        (b ∷ t, (b ∷ u, l, t', record { byte = b; others = u; after = w; made = refl; parts = refl; is = is; onward = ts }, chars, ap (λ (k : List ℕ). b ∷ k) same), regroup text (b ∷ []) t f e)

pub scan_sound : (cut : Bool) (at : ℕ) (part : Part) (text : List ℕ) (b : ℕ) → IsScanSound cut (TextLeft cut part text) b (scan cut at part text b)
unfolding scan
scan_sound cut at p.Plain text b = plain_sound cut at text b
scan_sound cut at (p.Escape place) text b = escape_sound cut place text b
scan_sound cut at (p.Hex place quad) text b = hex_sound cut place quad text b
scan_sound cut at (p.Slash place high) text b = slash_sound cut place high text b
scan_sound cut at (p.Letter place high) text b = letter_sound cut place high text b
scan_sound cut at (p.Low place high quad) text b = low_sound cut place high quad text b
scan_sound cut at (p.Wide place tail) text b = wide_sound cut place tail text b
