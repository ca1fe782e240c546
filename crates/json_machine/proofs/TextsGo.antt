-- A step takes the first byte of what may follow in a string.
use Rattle.std.proofs.Common.{◌≡◌, ℕ, ◌≤◌, Bool, true, false, List, [], ◌∷◌, ◌++◌, Some, Ok, refl, sym, ap, subst, ◌∙◌, arith, append_assoc, ◌⊎◌, inl, inr}
use Rattle.std.specs.Prelude.{◌==◌, ◌&&◌, encode_utf8}
use Rattle.std.proofs.lemmas.Bool.{cond-true, cond-false, eqb-true, ne_eqb, le-leb, lt-ltb, eq-eqb, and_parts, both_ways, and_from}
use Rattle.std.proofs.lemmas.List.{append-nil}
use Rattle.std.proofs.lemmas.Bool.Decides.{nat_tests}
use Rattle.json_machine.specs.Part.{Part}
use Rattle.json_machine.specs.Part as p
use Rattle.json_machine.specs.Progress as s
use Rattle.json_machine.specs.declared.begun.Tail.{Tail}
use Rattle.json_machine.specs.declared.begun.Tail.TheVariants as tails
use Rattle.json_machine.specs.Quad.{Quad}
use Rattle.json_machine.specs.Quad as q
use Rattle.json_machine.specs.Grown as g
use Rattle.json_value.specs.Strings.{within, is_plain, short, hex_digit, is_high, is_low, join, four_digits, Chars, end, plain, wide, short_escape, escape, pair_escape, cut_escape}
use Rattle.json_machine.specs.Scan.{Scanned, lead, with, plain_scan, escape_scan, unit_scan, hex_by, hex_grown, grow, is_cut, hex_scan, may_be_low, pair_scan, low_scan, wide_scan, slash_scan, letter_scan, scan, tail_low, tail_high}
use Rattle.json_machine.specs.Left.{OneDigit, Tails, CutDigits, Unit_, alone, two, HexLeft, PartLeft, TextLeft}
use Rattle.json_machine.proofs.Wides.{wide_tails}
use Rattle.json_machine.proofs.Texts.{one_digit, unit_digits}
use Rattle.json_machine.proofs.Utf8.{digit_small}

abbrev pub tail_holds : Tail → Type 0
tail_holds tail = (within (tail_low tail) (tail_high tail) (tail_low tail) ≡ true) × ((128 ≤ tail_low tail) × (tail_high tail ≤ 191))

-- what holds of the parts that are reached
abbrev pub IsPart : Part → Type 0
IsPart (p.Slash at high) = is_high high ≡ true
IsPart (p.Letter at high) = is_high high ≡ true
IsPart (p.Low at high quad) = (is_high high ≡ true) × (may_be_low quad ≡ true)
IsPart (p.Wide at tail) = tail_holds tail
IsPart _ = Unit {0}

-- the text goes on, and the rest may follow
pub record GoesOn (cut : Bool) (o : Scanned) (w f : List ℕ) : Type 0 where
  pub part : Part
  pub text : List ℕ
  pub steps : o ≡ Ok (s.More part text)
  pub valid : IsPart part
  pub left : TextLeft cut part text w f

-- the text is whole
pub record IsDone (o : Scanned) (w f : List ℕ) : Type 0 where
  pub steps : o ≡ Ok (s.Done f)
  pub nothing : w ≡ []

abbrev pub ScanGoes : Bool → Scanned → List ℕ → List ℕ → Type 0
ScanGoes cut o w f = GoesOn cut o w f ⊎ IsDone o w f

pub heads : (t c : ℕ) (w r : List ℕ) → t ∷ w ≡ c ∷ r → (t ≡ c) × (w ≡ r)
heads t c w r e = (cc, cc)

ungroup : (text more t f : List ℕ) → f ≡ text ++ (more ++ t) → f ≡ (text ++ more) ++ t
ungroup text more t f e = e ∙ sym (append_assoc text more t)

-- the bounds of each row of the table are in order
pub lead_holds : (b : ℕ) (tail : Tail) → lead b ≡ Some tail → tail_holds tail
lead_holds b tail is = (grind (arith, nat_tests), (grind (arith, nat_tests), grind (arith, nat_tests)))

pub lead_big : (b : ℕ) (tail : Tail) → lead b ≡ Some tail → 194 ≤ b
lead_big b tail is = grind (arith, nat_tests)

pub plain_steps : (at : ℕ) (text : List ℕ) (c : ℕ) → is_plain c ≡ true → plain_scan at text c ≡ with text (c ∷ [])
unfolding plain_scan
plain_steps at text c is = grind (arith, nat_tests)

pub wide_steps : (at : ℕ) (text : List ℕ) (c : ℕ) (tail : Tail) → lead c ≡ Some tail → plain_scan at text c ≡ Ok (s.More (p.Wide at tail) (text ++ c ∷ []))
unfolding plain_scan
wide_steps at text c tail is = grind (arith, nat_tests)

slashed : (cuts : Bool) (at : ℕ) (text t : List ℕ) (b : ℕ) (w f w' : List ℕ) → Chars cuts t (92 ∷ w') → b ∷ w ≡ 92 ∷ w' → f ≡ text ++ t → ScanGoes cuts (plain_scan at text b) w f
unfolding plain_scan
slashed cuts at text t b w f w' chars cut e =
    let h = heads b 92 w w' cut in
    inl (record { part = p.Escape at; text = text; steps = rw h.0 refl; valid = tt; left = (t, rw h.1 chars, e) })

plain_goes : (cuts : Bool) (at : ℕ) (text t w' : List ℕ) (b : ℕ) (w f : List ℕ) → Chars cuts t w' → b ∷ w ≡ w' → f ≡ text ++ t → ScanGoes cuts (plain_scan at text b) w f
unfolding plain_scan
plain_goes cuts at text _ _ b w f end cut e =
    let h = heads b 34 w [] cut in
    inr (record { steps = rw h.0 (ap (λ (k : List ℕ). Ok (s.Done k)) (sym (e ∙ append-nil text))); nothing = h.1 })
plain_goes cuts at text _ _ b w f (plain c t w' is chars) cut e =
    let h = heads b c w w' cut in
    inl (record { part = p.Plain; text = text ++ (c ∷ []); steps = rw h.0 (plain_steps at text c is); valid = tt; left = (t, rw h.1 chars, ungroup text (c ∷ []) t f e) })
plain_goes cuts at text _ _ b w f (wide k t w' is chars) cut e =
    let m = wide_tails k is in
    let made : b ∷ w ≡ m.first ∷ (m.others ++ w') = cut ∙ ap (λ (x : List ℕ). x ++ w') m.parts in
    let whole : f ≡ text ++ (m.first ∷ (m.others ++ t)) = e ∙ ap (λ (x : List ℕ). text ++ (x ++ t)) m.parts in
    widely m.first m.tail m.others made m.is (subst (λ (x : List ℕ). Tails m.tail w' m.others x) (sym (heads b m.first w (m.others ++ w') made).1) (m.tails w')) chars whole
  where
    widely : (c : ℕ) (tail : Tail) (u : List ℕ) → b ∷ w ≡ c ∷ (u ++ w') → lead c ≡ Some tail → Tails tail w' u w → Chars cuts t w' → f ≡ text ++ (c ∷ (u ++ t)) → ScanGoes cuts (plain_scan at text b) w f
    widely c tail u cut is ts chars e =
        let h = heads b c w (u ++ w') cut in
        inl (record {
          part = p.Wide at tail;
          text = text ++ (c ∷ []);
          steps = rw h.0 (wide_steps at text c tail is);
          valid = lead_holds c tail is;
          left = (u ++ t, (u, w', t, ts, chars, refl), ungroup text (c ∷ []) (u ++ t) f e);
        })
plain_goes cuts at text _ _ b w f (short_escape c d t w' is chars) cut e = slashed cuts at text (d ∷ t) b w f (c ∷ w') (short_escape c d t w' is chars) cut e
plain_goes cuts at text _ _ b w f (escape u ds t w' is hi lo chars) cut e = slashed cuts at text (encode_utf8 u ++ t) b w f (117 ∷ (ds ++ w')) (escape u ds t w' is hi lo chars) cut e
plain_goes cuts at text _ _ b w f (pair_escape u v ds es t w' is js hi lo chars) cut e =
    slashed cuts at text (encode_utf8 (join u v) ++ t) b w f (117 ∷ (ds ++ (92 ∷ (117 ∷ (es ++ w'))))) (pair_escape u v ds es t w' is js hi lo chars) cut e
plain_goes cuts at text _ _ b w f (cut_escape a c d x y z t w' on hx hy hz lo chars) cut e =
    slashed cuts at text t b w f (117 ∷ (x ∷ (y ∷ (z ∷ (256 ∷ w'))))) (cut_escape a c d x y z t w' on hx hy hz lo chars) cut e

three_digits : (a b c x y z : ℕ) (l : List ℕ) → hex_digit x ≡ Some a → hex_digit y ≡ Some b → hex_digit z ≡ Some c → is_low (four_digits a b c 0) ≡ true → CutDigits q.Nothing l (x ∷ (y ∷ (z ∷ (256 ∷ l))))
three_digits a b c x y z l hx hy hz lo = one_digit _ x a (y ∷ (z ∷ (256 ∷ l))) hx (one_digit _ y b (z ∷ (256 ∷ l)) hy (one_digit _ z c (256 ∷ l) hz (lo, refl)))

lettered : (cuts : Bool) (place : ℕ) (text t : List ℕ) (b : ℕ) (w f w' : List ℕ) → HexLeft cuts q.Nothing t w' → 92 ∷ (b ∷ w) ≡ 92 ∷ (117 ∷ w') → f ≡ text ++ t → ScanGoes cuts (escape_scan place text b) w f
unfolding escape_scan
lettered cuts place text t b w f w' left cut e =
    let h = heads 92 92 (b ∷ w) (117 ∷ w') cut in
    let k = heads b 117 w w' h.1 in
    inl (record { part = p.Hex place q.Nothing; text = text; steps = rw k.0 refl; valid = tt; left = (t, rw k.1 left, e) })

escape_goes : (cuts : Bool) (place : ℕ) (text t w' : List ℕ) (b : ℕ) (w f : List ℕ) → Chars cuts t w' → 92 ∷ (b ∷ w) ≡ w' → f ≡ text ++ t → ScanGoes cuts (escape_scan place text b) w f
unfolding escape_scan
escape_goes cuts place text _ _ b w f end cut e =
    let h = heads 92 34 (b ∷ w) [] cut in
    absurd (omega arith)
escape_goes cuts place text _ _ b w f (plain c t w' is chars) cut e =
    let h = heads 92 c (b ∷ w) w' cut in
    let no : is_plain 92 ≡ true = subst (λ (n : ℕ). is_plain n ≡ true) (sym h.0) is in
    absurd cc
escape_goes cuts place text _ _ b w f (wide k t w' is chars) cut e =
    let m = wide_tails k is in
    let h = heads 92 m.first (b ∷ w) (m.others ++ w') (cut ∙ ap (λ (x : List ℕ). x ++ w') m.parts) in
    let big = lead_big m.first m.tail m.is in
    absurd (omega arith)
escape_goes cuts place text _ _ b w f (short_escape c d t w' is chars) cut e =
    let h = heads 92 92 (b ∷ w) (c ∷ w') cut in
    let k = heads b c w w' h.1 in
    let other : (c == 117) ≡ false = ne_eqb c 117 (λ same. not_u (subst (λ (n : ℕ). short n ≡ Some d) same is)) in
    inl (record { part = p.Plain; text = text ++ (d ∷ []); steps = rw (k.0, other, is) refl; valid = tt; left = (t, rw k.1 chars, ungroup text (d ∷ []) t f e) })
  where
    not_u : short 117 ≡ Some d → ⊥
    not_u same = cc
escape_goes cuts place text _ _ b w f (escape u ds t w' is hi lo chars) cut e =
    lettered cuts place text (encode_utf8 u ++ t) b w f (ds ++ w') (inl (u, w', unit_digits u ds w' is, alone u t w' hi lo chars)) cut e
escape_goes cuts place text _ _ b w f (pair_escape u v ds es t w' is js hi lo chars) cut e =
    lettered cuts place text (encode_utf8 (join u v) ++ t) b w f (ds ++ (92 ∷ (117 ∷ (es ++ w'))))
    (inl (u, 92 ∷ (117 ∷ (es ++ w')), unit_digits u ds (92 ∷ (117 ∷ (es ++ w'))) is, two u v t (es ++ w') w' hi lo (unit_digits v es w' js) chars)) cut e
escape_goes cuts place text _ _ b w f (cut_escape a c d x y z t w' on hx hy hz lo chars) cut e =
    lettered cuts place text t b w f (x ∷ (y ∷ (z ∷ (256 ∷ w')))) (inr (on, w', three_digits a c d x y z w' hx hy hz lo, chars)) cut e

-- the two kinds differ
pub high_not_low : (u : ℕ) → is_high u ≡ true → is_low u ≡ true → ⊥
high_not_low u hi lo = grind (arith, nat_tests)

unit_goes : (cut : Bool) (place : ℕ) (text : List ℕ) (u : ℕ) (t w f : List ℕ) → Unit_ cut u t w → f ≡ text ++ t → ScanGoes cut (unit_scan place text u) w f
unfolding unit_scan
unit_goes cut place text _ _ _ f (alone u t w hi lo chars) e =
    inl (record { part = p.Plain; text = text ++ encode_utf8 u; steps = rw (hi, lo) refl; valid = tt; left = (t, chars, ungroup text (encode_utf8 u) t f e) })
unit_goes cut place text _ _ _ f (two u v t w l hi lo ds chars) e =
    inl (record { part = p.Slash place u; text = text; steps = rw hi refl; valid = hi; left = (encode_utf8 (join u v) ++ t, two u v t w l hi lo ds chars, e) })

no_cut : (cut : Bool) (quad : Quad) (b d : ℕ) → hex_digit b ≡ Some d → (cut && (b == 256 && is_cut quad)) ≡ false
no_cut cut quad b d is = grind (arith, nat_tests)

-- a digit is read
pub digit_steps : (cut : Bool) (place : ℕ) (quad : Quad) (text : List ℕ) (b d : ℕ) → hex_digit b ≡ Some d → hex_scan cut place quad text b ≡ hex_by place quad text (Some d)
unfolding hex_scan
digit_steps cut place quad text b d is = cond-false (cut && (b == 256 && is_cut quad)) _ _ (no_cut cut quad b d is) ∙ ap (hex_by place quad text) is

-- and 256 in the place of the fourth
cut_steps : (cut : Bool) (place : ℕ) (a c d : ℕ) (text : List ℕ) (b : ℕ) → cut ≡ true → b ≡ 256 → is_low (four_digits a c d 0) ≡ true → hex_scan cut place (q.Three a c d) text b ≡ Ok (s.More p.Plain text)
unfolding hex_scan
cut_steps cut place a c d text b on is lo = cond-true (cut && (b == 256 && is_low (four_digits a c d 0))) _ _ (and_from cut _ on (and_from (b == 256) _ (eq-eqb b 256 is) lo))

-- one digit more, which is not the fourth
one_goes : (cut : Bool) (place : ℕ) (quad : Quad) (grown : ℕ → Quad) → ((d : ℕ) → grow quad d ≡ g.Part (grown d)) → (K : ℕ → List ℕ → Type 0) (text t : List ℕ) (b : ℕ) (w f : List ℕ) → OneDigit K (b ∷ w)
    → ((d : ℕ) → K d w → HexLeft cut (grown d) t w) → f ≡ text ++ t → ScanGoes cut (hex_scan cut place quad text b) w f
one_goes cut place quad grown grows K text t b w f ds lift e =
    let h = heads b ds.byte w ds.after ds.parts in
    let steps : hex_scan cut place quad text ds.byte ≡ Ok (s.More (p.Hex place (grown ds.value)) text) = digit_steps cut place quad text ds.byte ds.value ds.is ∙ ap (hex_grown place text) (grows ds.value) in
    inl (record { part = p.Hex place (grown ds.value); text = text; steps = rw h.0 steps; valid = tt; left = (t, lift ds.value (rw h.1 ds.onward), e) })

hex_goes : (cut : Bool) (place : ℕ) (quad : Quad) (text t : List ℕ) (b : ℕ) (w f : List ℕ) → HexLeft cut quad t (b ∷ w) → f ≡ text ++ t → ScanGoes cut (hex_scan cut place quad text b) w f
hex_goes cut place q.Nothing text t b w f (inl (u, l, ds, un)) e = one_goes cut place q.Nothing (λ d. q.One d) (λ d. refl) _ text t b w f ds (λ d k. inl (u, l, k, un)) e
hex_goes cut place q.Nothing text t b w f (inr (on, l, ds, chars)) e = one_goes cut place q.Nothing (λ d. q.One d) (λ d. refl) _ text t b w f ds (λ d k. inr (on, l, k, chars)) e
hex_goes cut place (q.One a) text t b w f (inl (u, l, ds, un)) e = one_goes cut place (q.One a) (λ d. q.Two a d) (λ d. refl) _ text t b w f ds (λ d k. inl (u, l, k, un)) e
hex_goes cut place (q.One a) text t b w f (inr (on, l, ds, chars)) e = one_goes cut place (q.One a) (λ d. q.Two a d) (λ d. refl) _ text t b w f ds (λ d k. inr (on, l, k, chars)) e
hex_goes cut place (q.Two a c) text t b w f (inl (u, l, ds, un)) e = one_goes cut place (q.Two a c) (λ d. q.Three a c d) (λ d. refl) _ text t b w f ds (λ d k. inl (u, l, k, un)) e
hex_goes cut place (q.Two a c) text t b w f (inr (on, l, ds, chars)) e = one_goes cut place (q.Two a c) (λ d. q.Three a c d) (λ d. refl) _ text t b w f ds (λ d k. inr (on, l, k, chars)) e
hex_goes cut place (q.Three a c d) text t b w f (inl (u, l, ds, un)) e =
    let h = heads b ds.byte w ds.after ds.parts in
    let steps : hex_scan cut place (q.Three a c d) text b ≡ unit_scan place text (four_digits a c d ds.value) = rw h.0 (digit_steps cut place (q.Three a c d) text ds.byte ds.value ds.is) in
    rw steps (unit_goes cut place text (four_digits a c d ds.value) t w f (rw (ds.onward.0, h.1, ds.onward.1) un) e)
hex_goes cut place (q.Three a c d) text t b w f (inr (on, l, ds, chars)) e =
    let h = heads b 256 w l ds.1 in
    inl (record { part = p.Plain; text = text; steps = cut_steps cut place a c d text b on h.0 ds.0; valid = tt; left = (t, rw h.1 chars, e) })

slash_goes : (cuts : Bool) (place high : ℕ) (text t w' : List ℕ) (b : ℕ) (w f : List ℕ) → is_high high ≡ true → Unit_ cuts high t w' → b ∷ w ≡ w' → f ≡ text ++ t → ScanGoes cuts (slash_scan place high text b) w f
unfolding slash_scan
slash_goes cuts place _ text _ _ b w f valid (alone u t w' hi lo chars) cut e = absurd (both_ways (is_high u) hi valid)
slash_goes cuts place _ text _ _ b w f valid (two u v t w' l hi lo ds chars) cut e =
    let h = heads b 92 w (117 ∷ w') cut in
    inl (record { part = p.Letter place u; text = text; steps = rw h.0 refl; valid = hi; left = (encode_utf8 (join u v) ++ t, rw h.1 (two u v t w' l hi lo ds chars), e) })

letter_goes : (cuts : Bool) (place high : ℕ) (text t w' : List ℕ) (b : ℕ) (w f : List ℕ) → is_high high ≡ true → Unit_ cuts high t w' → 92 ∷ (b ∷ w) ≡ w' → f ≡ text ++ t → ScanGoes cuts (letter_scan place high text b) w f
unfolding letter_scan
letter_goes cuts place _ text _ _ b w f valid (alone u t w' hi lo chars) cut e = absurd (both_ways (is_high u) hi valid)
letter_goes cuts place _ text _ _ b w f valid (two u v t w' l hi lo ds chars) cut e =
    let h = heads 92 92 (b ∷ w) (117 ∷ w') cut in
    let k = heads b 117 w w' h.1 in
    inl (record { part = p.Low place u q.Nothing; text = text; steps = rw k.0 refl; valid = (hi, refl); left = (encode_utf8 (join u v) ++ t, (v, l, t, hi, lo, rw k.1 ds, chars, refl), e) })

-- the digits of a low surrogate
low_digits : (a b c d : ℕ) → b ≤ 15 → c ≤ 15 → d ≤ 15 → is_low (four_digits a b c d) ≡ true → (a ≡ 13) × ((12 ≤ b) × (b ≤ 15))
low_digits a b c d lb lc ld lo = (grind (arith, nat_tests), (grind (arith, nat_tests), lb))

low_goes : (cut : Bool) (place high : ℕ) (quad : Quad) (text t : List ℕ) (b : ℕ) (w f : List ℕ) → may_be_low quad ≡ true → PartLeft cut (p.Low place high quad) t (b ∷ w) → f ≡ text ++ t → ScanGoes cut (low_scan place high quad text b) w f
unfolding low_scan pair_scan
low_goes cut place high q.Nothing text t b w f valid (v, l, t', hi, lo, ds, chars, same) e =
    let h = heads b ds.byte w ds.after ds.parts in
    let y = ds.onward in
    let x = y.onward in
    let z = x.onward in
    let k = low_digits ds.value y.value x.value z.value (digit_small y.byte _ y.is) (digit_small x.byte _ x.is) (digit_small z.byte _ z.is) (rw z.onward.0 lo) in
    let ok : may_be_low (q.One ds.value) ≡ true = eq-eqb ds.value 13 k.0 in
    inl (record { part = p.Low place high (q.One ds.value); text = text; steps = rw (h.0, ds.is, ok) refl; valid = (hi, ok); left = (t, (v, l, t', hi, lo, rw h.1 ds.onward, chars, same), e) })
low_goes cut place high (q.One a) text t b w f valid (v, l, t', hi, lo, ds, chars, same) e =
    let h = heads b ds.byte w ds.after ds.parts in
    let x = ds.onward in
    let z = x.onward in
    let is_13 : a ≡ 13 = eqb-true a 13 valid in
    let k = low_digits a ds.value x.value z.value (digit_small ds.byte _ ds.is) (digit_small x.byte _ x.is) (digit_small z.byte _ z.is) (rw z.onward.0 lo) in
    let ok : may_be_low (q.Two a ds.value) ≡ true = and_from _ _ (eq-eqb a 13 k.0) (and_from _ _ (le-leb 12 ds.value k.1.0) (le-leb ds.value 15 k.1.1)) in
    inl (record { part = p.Low place high (q.Two a ds.value); text = text; steps = rw (h.0, ds.is, ok) refl; valid = (hi, ok); left = (t, (v, l, t', hi, lo, rw h.1 ds.onward, chars, same), e) })
low_goes cut place high (q.Two a c) text t b w f valid (v, l, t', hi, lo, ds, chars, same) e =
    let h = heads b ds.byte w ds.after ds.parts in
    let z = ds.onward in
    let small : ds.value ≤ 15 = digit_small ds.byte ds.value ds.is in
    let k = and_parts _ _ valid in
    let ok : may_be_low (q.Three a c ds.value) ≡ true = and_from _ _ k.0 (and_from _ _ k.1 (lt-ltb ds.value 16 (omega arith))) in
    inl (record { part = p.Low place high (q.Three a c ds.value); text = text; steps = rw (h.0, ds.is, ok) refl; valid = (hi, ok); left = (t, (v, l, t', hi, lo, rw h.1 ds.onward, chars, same), e) })
low_goes cut place high (q.Three a c d) text t b w f valid (v, l, t', hi, lo, ds, chars, same) e =
    let h = heads b ds.byte w ds.after ds.parts in
    let is_pair : (is_high high && is_low (four_digits a c d ds.value)) ≡ true = and_from _ _ hi (rw ds.onward.0 lo) in
    rw (h.0, ds.is, is_pair) (inl (record {
      part = p.Plain;
      text = text ++ encode_utf8 (join high (four_digits a c d ds.value));
      steps = refl;
      valid = tt;
      left = (t', rw (h.1, ds.onward.1) chars, ungroup text (encode_utf8 (join high (four_digits a c d ds.value))) t' f (rw ds.onward.0 (e ∙ ap (λ (k : List ℕ). text ++ k) same)));
    }))

wide_goes : (cut : Bool) (place : ℕ) (tail : Tail) (text t : List ℕ) (b : ℕ) (w f : List ℕ) → PartLeft cut (p.Wide place tail) t (b ∷ w) → f ≡ text ++ t → ScanGoes cut (wide_scan place tail text b) w f
unfolding wide_scan
wide_goes cut place (tails.One lo hi) text t b w f (u, l, t', ts, chars, same) e =
    let h = heads b ts.byte w ts.after ts.parts in
    let whole : t ≡ ts.byte ∷ t' = same ∙ ap (λ (k : List ℕ). k ++ t') (ts.made ∙ ap (λ (k : List ℕ). ts.byte ∷ k) ts.onward.0) in
    inl (record { part = p.Plain; text = text ++ (ts.byte ∷ []); steps = rw (h.0, ts.is) refl; valid = tt; left = (t', rw (h.1, ts.onward.1) chars, ungroup text (ts.byte ∷ []) t' f (e ∙ ap (λ (k : List ℕ). text ++ k) whole)) })
wide_goes cut place (tails.Two lo hi) text t b w f (u, l, t', ts, chars, same) e =
    let h = heads b ts.byte w ts.after ts.parts in
    let whole : t ≡ ts.byte ∷ (ts.others ++ t') = same ∙ ap (λ (k : List ℕ). k ++ t') ts.made in
    inl (record {
      part = p.Wide place (tails.One 128 191);
      text = text ++ (ts.byte ∷ []);
      steps = rw (h.0, ts.is) refl;
      valid = (refl, (omega arith, omega arith));
      left = (ts.others ++ t', (ts.others, l, t', rw h.1 ts.onward, chars, refl), ungroup text (ts.byte ∷ []) (ts.others ++ t') f (e ∙ ap (λ (k : List ℕ). text ++ k) whole));
    })
wide_goes cut place (tails.Three lo hi) text t b w f (u, l, t', ts, chars, same) e =
    let h = heads b ts.byte w ts.after ts.parts in
    let whole : t ≡ ts.byte ∷ (ts.others ++ t') = same ∙ ap (λ (k : List ℕ). k ++ t') ts.made in
    inl (record {
      part = p.Wide place (tails.Two 128 191);
      text = text ++ (ts.byte ∷ []);
      steps = rw (h.0, ts.is) refl;
      valid = (refl, (omega arith, omega arith));
      left = (ts.others ++ t', (ts.others, l, t', rw h.1 ts.onward, chars, refl), ungroup text (ts.byte ∷ []) (ts.others ++ t') f (e ∙ ap (λ (k : List ℕ). text ++ k) whole));
    })

pub scan_goes : (cut : Bool) (at : ℕ) (part : Part) (text : List ℕ) (b : ℕ) (w f : List ℕ) → IsPart part → TextLeft cut part text (b ∷ w) f → ScanGoes cut (scan cut at part text b) w f
unfolding scan
scan_goes cut at p.Plain text b w f valid (t, left, e) = plain_goes cut at text t (b ∷ w) b w f left refl e
scan_goes cut at (p.Escape place) text b w f valid (t, left, e) = escape_goes cut place text t (92 ∷ (b ∷ w)) b w f left refl e
scan_goes cut at (p.Hex place quad) text b w f valid (t, left, e) = hex_goes cut place quad text t b w f left e
scan_goes cut at (p.Slash place high) text b w f valid (t, left, e) = slash_goes cut place high text t (b ∷ w) b w f valid left refl e
scan_goes cut at (p.Letter place high) text b w f valid (t, left, e) = letter_goes cut place high text t (92 ∷ (b ∷ w)) b w f valid left refl e
scan_goes cut at (p.Low place high quad) text b w f valid (t, left, e) = low_goes cut place high quad text t b w f valid.1 left e
scan_goes cut at (p.Wide place tail) text b w f valid (t, left, e) = wide_goes cut place tail text t b w f left e
