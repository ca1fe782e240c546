-- Each part that is reached can be completed, and a step reaches no other.
use Rattle.std.proofs.Common.{◌≡◌, ℕ, zero, suc, ◌≤◌, Bool, true, false, List, [], ◌∷◌, ◌++◌, length, Some, Ok, Err, refl, sym, ap, ◌∙◌, arith, length-append, inl, inr}
use Rattle.std.specs.Prelude.{encode_utf8}
use Rattle.std.proofs.lemmas.Bool.{eqb-true}
use Rattle.std.proofs.lemmas.Bool.Decides.{nat_tests}
use Rattle.json_machine.specs.Part.{Part}
use Rattle.json_machine.specs.Part as p
use Rattle.json_machine.specs.Progress as s
use Rattle.json_machine.specs.declared.begun.Tail.{Tail}
use Rattle.json_machine.specs.declared.begun.Tail.TheVariants as tails
use Rattle.json_machine.specs.Quad.{Quad}
use Rattle.json_machine.specs.Quad as q
use Rattle.json_value.specs.Strings.{is_high, is_low, join, four_digits, Chars, end, plain, wide, short_escape, escape, pair_escape, cut_escape}
use Rattle.json_machine.specs.Scan.{Scanned, lead, plain_scan, escape_scan, unit_scan, hex_scan, may_be_low, pair_scan, low_scan, wide_scan, slash_scan, letter_scan, scan}
use Rattle.json_machine.specs.Left.{OneDigit, Digits, CutDigits, Tails, Unit_, alone, two, HexLeft, PartLeft, TextLeft}
use Rattle.json_machine.proofs.Wides.{wide_tails, one_tail, two_tails, three_tails}
use Rattle.json_machine.proofs.TextsGo.{IsPart, tail_holds, heads}

-- ---- a step reaches valid parts

abbrev pub ScanKeeps : Scanned → Type 0
ScanKeeps (Ok (s.Done f)) = Unit {0}
ScanKeeps (Ok (s.More part text)) = IsPart part
ScanKeeps (Err why) = Unit {0}

pub scan_keeps : (cut : Bool) (at : ℕ) (part : Part) (text : List ℕ) (b : ℕ) → IsPart part → ScanKeeps (scan cut at part text b)
unfolding scan plain_scan escape_scan hex_scan unit_scan slash_scan letter_scan low_scan pair_scan wide_scan
scan_keeps cut at p.Plain text b valid = grind (arith, nat_tests)
scan_keeps cut at _ text b valid = grind (arith, nat_tests)

-- ---- the empty text completes nothing

chars_not_empty : (cut : Bool) (t w : List ℕ) → Chars cut t w → w ≡ [] → ⊥
chars_not_empty cut _ _ (wide k t w is chars) e =
    let m = wide_tails k is in
    let none : m.first ∷ (m.others ++ w) ≡ [] = ap (λ (x : List ℕ). x ++ w) (sym m.parts) ∙ e in
    absurd cc
chars_not_empty cut _ _ _ e = absurd cc

not_nil : (x : ℕ) (xs : List ℕ) → x ∷ xs ≡ [] → ⊥
not_nil x xs e = absurd cc

lead_not_slash : (c : ℕ) (tail : Tail) → lead c ≡ Some tail → c ≡ 92 → ⊥
lead_not_slash c tail is same = grind (arith, nat_tests)

chars_not_slash : (cut : Bool) (t w : List ℕ) → Chars cut t w → w ≡ 92 ∷ [] → ⊥
chars_not_slash cut _ _ end e = not_slash 34 refl (heads 34 92 [] [] e).0
  where
    not_slash : (n : ℕ) → n ≡ 34 → n ≡ 92 → ⊥
    not_slash n h k = omega arith
chars_not_slash cut _ _ (plain c t w is chars) e = chars_not_empty cut t w chars (heads c 92 w [] e).1
chars_not_slash cut _ _ (wide k t w is chars) e =
    let m = wide_tails k is in
    lead_not_slash m.first m.tail m.is (heads m.first 92 (m.others ++ w) [] (ap (λ (x : List ℕ). x ++ w) (sym m.parts) ∙ e)).0
chars_not_slash cut _ _ (short_escape b c t w is chars) e = not_nil b w (heads 92 92 (b ∷ w) [] e).1
chars_not_slash cut _ _ (escape u ds t w is hi lo chars) e = not_nil 117 (ds ++ w) (heads 92 92 (117 ∷ (ds ++ w)) [] e).1
chars_not_slash cut _ _ (pair_escape u v ds es t w is js hi lo chars) e =
    not_nil 117 (ds ++ (92 ∷ (117 ∷ (es ++ w)))) (heads 92 92 (117 ∷ (ds ++ (92 ∷ (117 ∷ (es ++ w))))) [] e).1
chars_not_slash cut _ _ (cut_escape a b c x y z t w on hx hy hz lo chars) e = not_nil 117 (x ∷ (y ∷ (z ∷ (256 ∷ w)))) (heads 92 92 (117 ∷ (x ∷ (y ∷ (z ∷ (256 ∷ w))))) [] e).1

digits_not_empty : (quad : Quad) (u : ℕ) (l : List ℕ) → Digits quad u l [] → ⊥
digits_not_empty q.Nothing u l ds = let h = ds.parts in absurd cc
digits_not_empty _ u l ds = let h = ds.parts in absurd cc

cuts_not_empty : (quad : Quad) (l : List ℕ) → CutDigits quad l [] → ⊥
cuts_not_empty (q.Three a b c) l ds = let h = ds.1 in absurd cc
cuts_not_empty _ l ds = let h = ds.parts in absurd cc

hex_not_empty : (cut : Bool) (quad : Quad) (t : List ℕ) → HexLeft cut quad t [] → ⊥
hex_not_empty cut quad t (inl (u, l, ds, un)) = digits_not_empty quad u l ds
hex_not_empty cut quad t (inr (on, l, ds, chars)) = cuts_not_empty quad l ds

unit_not_empty : (cut : Bool) (u : ℕ) (t w : List ℕ) → is_high u ≡ true → Unit_ cut u t w → w ≡ [] → ⊥
unit_not_empty cut _ _ _ valid (alone u t w hi lo chars) e = chars_not_empty cut t w chars e
unit_not_empty cut _ _ _ valid (two u v t w l hi lo ds chars) e = absurd cc

unit_not_slash : (cut : Bool) (u : ℕ) (t w : List ℕ) → Unit_ cut u t w → w ≡ 92 ∷ [] → ⊥
unit_not_slash cut _ _ _ (alone u t w hi lo chars) e = chars_not_slash cut t w chars e
unit_not_slash cut _ _ _ (two u v t w l hi lo ds chars) e = not_nil 117 w (heads 92 92 (117 ∷ w) [] e).1

tails_not_empty : (tail : Tail) (l u : List ℕ) → Tails tail l u [] → ⊥
tails_not_empty (tails.One lo hi) l u ts = let h = ts.parts in absurd cc
tails_not_empty _ l u ts = let h = ts.parts in absurd cc

pub text_not_empty : (cut : Bool) (part : Part) (text f : List ℕ) → IsPart part → TextLeft cut part text [] f → ⊥
text_not_empty cut p.Plain text f valid (t, left, e) = chars_not_empty cut t [] left refl
text_not_empty cut (p.Escape place) text f valid (t, left, e) = chars_not_slash cut t (92 ∷ []) left refl
text_not_empty cut (p.Hex place quad) text f valid (t, left, e) = hex_not_empty cut quad t left
text_not_empty cut (p.Slash place high) text f valid (t, left, e) = unit_not_empty cut high t [] valid left refl
text_not_empty cut (p.Letter place high) text f valid (t, left, e) = unit_not_slash cut high t (92 ∷ []) left refl
text_not_empty cut (p.Low place high quad) text f valid (t, (v, l, t', hi, lo, ds, chars, same), e) = digits_not_empty quad v l ds
text_not_empty cut (p.Wide place tail) text f valid (t, (u, l, t', ts, chars, same), e) = tails_not_empty tail l u ts

-- ---- each part can be completed, with a text as long as is wanted

pub record Completed (cut : Bool) (part : Part) (n : ℕ) : Type 0 where
  pub more : List ℕ
  pub bytes : List ℕ
  pub left : PartLeft cut part more bytes
  pub long : n ≤ length more

plain_ends : (cut : Bool) (n : ℕ) → Completed cut p.Plain n
plain_ends cut zero = record { more = []; bytes = 34 ∷ []; left = end; long = omega arith }
plain_ends cut (suc n) =
    let k = plain_ends cut n in
    let h = k.long in
    record { more = 120 ∷ k.more; bytes = 120 ∷ k.bytes; left = plain 120 k.more k.bytes refl k.left; long = omega arith }

zero_digit : (K : ℕ → List ℕ → Type 0) (w : List ℕ) → K 0 w → OneDigit K (48 ∷ w)
zero_digit K w h = record { byte = 48; value = 0; after = w; parts = refl; is = refl; onward = h }

c_digit : (K : ℕ → List ℕ → Type 0) (w : List ℕ) → K 12 w → OneDigit K (99 ∷ w)
c_digit K w h = record { byte = 99; value = 12; after = w; parts = refl; is = refl; onward = h }

d_digit : (K : ℕ → List ℕ → Type 0) (w : List ℕ) → K 13 w → OneDigit K (100 ∷ w)
d_digit K w h = record { byte = 100; value = 13; after = w; parts = refl; is = refl; onward = h }

low_of_two : (a b : ℕ) → may_be_low (q.Two a b) ≡ true → is_low (four_digits a b 0 0) ≡ true
low_of_two a b h = grind (arith, nat_tests)

low_of_three : (a b c : ℕ) → may_be_low (q.Three a b c) ≡ true → is_low (four_digits a b c 0) ≡ true
low_of_three a b c h = grind (arith, nat_tests)

pub record LowDigited (quad : Quad) (l : List ℕ) : Type 0 where
  pub unit : ℕ
  pub bytes : List ℕ
  pub digits : Digits quad unit l bytes
  pub low : is_low unit ≡ true

pub lowest : (quad : Quad) (l : List ℕ) → may_be_low quad ≡ true → LowDigited quad l
lowest q.Nothing l h = record { unit = four_digits 13 12 0 0; bytes = 100 ∷ (99 ∷ (48 ∷ (48 ∷ l))); digits = d_digit _ (99 ∷ (48 ∷ (48 ∷ l))) (c_digit _ (48 ∷ (48 ∷ l)) (zero_digit _ (48 ∷ l) (zero_digit _ l (refl, refl)))); low = refl }
lowest (q.One a) l h =
    let low : is_low (four_digits a 12 0 0) ≡ true = rw (eqb-true a 13 h) refl in
    record { unit = four_digits a 12 0 0; bytes = 99 ∷ (48 ∷ (48 ∷ l)); digits = c_digit _ (48 ∷ (48 ∷ l)) (zero_digit _ (48 ∷ l) (zero_digit _ l (refl, refl))); low = low }
lowest (q.Two a b) l h = record { unit = four_digits a b 0 0; bytes = 48 ∷ (48 ∷ l); digits = zero_digit _ (48 ∷ l) (zero_digit _ l (refl, refl)); low = low_of_two a b h }
lowest (q.Three a b c) l h = record { unit = four_digits a b c 0; bytes = 48 ∷ l; digits = zero_digit _ l (refl, refl); low = low_of_three a b c h }

longer : (n : ℕ) (a b : List ℕ) → n ≤ length b → n ≤ length (a ++ b)
longer n a b h = omega (arith, length-append a b)

low_ends : (cut : Bool) (place high : ℕ) (quad : Quad) (n : ℕ) → is_high high ≡ true → may_be_low quad ≡ true → Completed cut (p.Low place high quad) n
low_ends cut place high quad n hi h =
    let k = plain_ends cut n in
    let d = lowest quad k.bytes h in
    record {
      more = encode_utf8 (join high d.unit) ++ k.more;
      bytes = d.bytes;
      left = (d.unit, k.bytes, k.more, hi, d.low, d.digits, k.left, refl);
      long = longer n (encode_utf8 (join high d.unit)) k.more k.long;
    }

slash_ends : (cut : Bool) (place high n : ℕ) → is_high high ≡ true → Completed cut (p.Slash place high) n
slash_ends cut place high n hi =
    let k = plain_ends cut n in
    let d = lowest q.Nothing k.bytes refl in
    record {
      more = encode_utf8 (join high d.unit) ++ k.more;
      bytes = 92 ∷ (117 ∷ d.bytes);
      left = two high d.unit k.more d.bytes k.bytes hi d.low d.digits k.left;
      long = longer n (encode_utf8 (join high d.unit)) k.more k.long;
    }

letter_ends : (cut : Bool) (place high n : ℕ) → is_high high ≡ true → Completed cut (p.Letter place high) n
letter_ends cut place high n hi =
    let k = plain_ends cut n in
    let d = lowest q.Nothing k.bytes refl in
    record {
      more = encode_utf8 (join high d.unit) ++ k.more;
      bytes = 117 ∷ d.bytes;
      left = two high d.unit k.more d.bytes k.bytes hi d.low d.digits k.left;
      long = longer n (encode_utf8 (join high d.unit)) k.more k.long;
    }

-- the least digits that complete the unit make this one
abbrev least : Quad → ℕ
least q.Nothing = four_digits 0 0 0 0
least (q.One a) = four_digits a 0 0 0
least (q.Two a b) = four_digits a b 0 0
least (q.Three a b c) = four_digits a b c 0

zeros : (quad : Quad) (l : List ℕ) → (w : List ℕ) × Digits quad (least quad) l w
zeros (q.Three a b c) l = (48 ∷ l, zero_digit _ l (refl, refl))
zeros (q.Two a b) l = (48 ∷ (48 ∷ l), zero_digit _ (48 ∷ l) (zero_digit _ l (refl, refl)))
zeros (q.One a) l = (48 ∷ (48 ∷ (48 ∷ l)), zero_digit _ (48 ∷ (48 ∷ l)) (zero_digit _ (48 ∷ l) (zero_digit _ l (refl, refl))))
zeros q.Nothing l = (48 ∷ (48 ∷ (48 ∷ (48 ∷ l))), zero_digit _ (48 ∷ (48 ∷ (48 ∷ l))) (zero_digit _ (48 ∷ (48 ∷ l)) (zero_digit _ (48 ∷ l) (zero_digit _ l (refl, refl)))))

cut_zeros : (quad : Quad) (l : List ℕ) → is_low (least quad) ≡ true → (w : List ℕ) × CutDigits quad l w
cut_zeros (q.Three a b c) l lo = (256 ∷ l, (lo, refl))
cut_zeros (q.Two a b) l lo = (48 ∷ (256 ∷ l), zero_digit _ (256 ∷ l) (lo, refl))
cut_zeros (q.One a) l lo = (48 ∷ (48 ∷ (256 ∷ l)), zero_digit _ (48 ∷ (256 ∷ l)) (zero_digit _ (256 ∷ l) (lo, refl)))
cut_zeros q.Nothing l lo = (48 ∷ (48 ∷ (48 ∷ (256 ∷ l))), zero_digit _ (48 ∷ (48 ∷ (256 ∷ l))) (zero_digit _ (48 ∷ (256 ∷ l)) (zero_digit _ (256 ∷ l) (lo, refl))))

-- the escape of a low surrogate ends with 256 in the place of its fourth digit, any other with its digits
hex_ends : (cut : Bool) (place : ℕ) (quad : Quad) (n : ℕ) → cut ≡ true → Completed cut (p.Hex place quad) n
hex_ends cut place quad n on = by_test (is_high (least quad)) refl (is_low (least quad)) refl
  where
    by_test : (x : Bool) → is_high (least quad) ≡ x → (y : Bool) → is_low (least quad) ≡ y → Completed cut (p.Hex place quad) n
    by_test true hi y lo =
        let k = slash_ends cut 0 (least quad) n hi in
        let z = zeros quad k.bytes in
        record { more = k.more; bytes = z.0; left = inl (least quad, k.bytes, z.1, k.left); long = k.long }
    by_test false hi true lo =
        let k = plain_ends cut n in
        let z = cut_zeros quad k.bytes lo in
        record { more = k.more; bytes = z.0; left = inr (on, k.bytes, z.1, k.left); long = k.long }
    by_test false hi false lo =
        let k = plain_ends cut n in
        let z = zeros quad k.bytes in
        record { more = encode_utf8 (least quad) ++ k.more; bytes = z.0; left = inl (least quad, k.bytes, z.1, alone (least quad) k.more k.bytes hi lo k.left); long = longer n (encode_utf8 (least quad)) k.more k.long }

escape_ends : (cut : Bool) (place n : ℕ) → Completed cut (p.Escape place) n
escape_ends cut place n =
    let k = plain_ends cut n in
    let h = k.long in
    record { more = 10 ∷ k.more; bytes = 110 ∷ k.bytes; left = short_escape 110 10 k.more k.bytes refl k.left; long = omega arith }

wide_ends : (cut : Bool) (place : ℕ) (tail : Tail) (n : ℕ) → tail_holds tail → Completed cut (p.Wide place tail) n
wide_ends cut place (tails.One lo hi) n h =
    let k = plain_ends cut n in
    record { more = lo ∷ k.more; bytes = lo ∷ k.bytes; left = (lo ∷ [], k.bytes, k.more, one_tail lo hi lo k.bytes h.0, k.left, refl); long = longer n (lo ∷ []) k.more k.long }
wide_ends cut place (tails.Two lo hi) n h =
    let k = plain_ends cut n in
    record {
      more = lo ∷ (128 ∷ k.more);
      bytes = lo ∷ (128 ∷ k.bytes);
      left = (lo ∷ (128 ∷ []), k.bytes, k.more, two_tails lo hi lo 128 k.bytes h.0 refl, k.left, refl);
      long = longer n (lo ∷ (128 ∷ [])) k.more k.long;
    }
wide_ends cut place (tails.Three lo hi) n h =
    let k = plain_ends cut n in
    record {
      more = lo ∷ (128 ∷ (128 ∷ k.more));
      bytes = lo ∷ (128 ∷ (128 ∷ k.bytes));
      left = (lo ∷ (128 ∷ (128 ∷ [])), k.bytes, k.more, three_tails lo hi lo 128 128 k.bytes h.0 refl refl, k.left, refl);
      long = longer n (lo ∷ (128 ∷ (128 ∷ []))) k.more k.long;
    }

pub part_ends : (cut : Bool) (part : Part) (n : ℕ) → cut ≡ true → IsPart part → Completed cut part n
part_ends cut p.Plain n on valid = plain_ends cut n
part_ends cut (p.Escape place) n on valid = escape_ends cut place n
part_ends cut (p.Hex place quad) n on valid = hex_ends cut place quad n on
part_ends cut (p.Slash place high) n on valid = slash_ends cut place high n valid
part_ends cut (p.Letter place high) n on valid = letter_ends cut place high n valid
part_ends cut (p.Low place high quad) n on valid = low_ends cut place high quad n valid.0 valid.1
part_ends cut (p.Wide place tail) n on valid = wide_ends cut place tail n valid
