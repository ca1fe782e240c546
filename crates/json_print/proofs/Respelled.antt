-- What a string spells, its text between quotes spells.
use Rattle.std.proofs.Common.{◌≡◌, ℕ, ◌+◌, ◌-◌, ◌/◌, ◌%◌, ◌<◌, ◌≤◌, Bool, true, false, List, [], ◌∷◌, ◌++◌, Option, Some, None, refl, sym, subst, ap, ◌∙◌, arith, inl, inr, append_assoc}
use Rattle.std.specs.Prelude.{◌==◌, nat_le, nat_lt, encode_utf8}
use Rattle.std.proofs.lemmas.Bool.{cond_both, eqb-true, leb-true, le-leb, lt-leb, ltb-true, ltb-false, and_parts, cases_lt}
use Rattle.std.proofs.lemmas.Str.{encode_ascii}
use Rattle.json_value.specs.Strings.{within, is_plain, short, hex_digit, is_high, is_low, join, four_digits, IsWide, two, three_first, three, three_below, three_above, four_first, four, four_last, IsUnit, digits, Chars, end, plain, wide, short_escape, escape as escape_of, pair_escape, cut_escape}
use Rattle.json_print.specs.Escapes.{NeedsEscape, hex, control, escape, escaped}
use Rattle.json_print.proofs.Runs.{escape-plain}
use Rattle.json_print.proofs.Wide.{bounds, within-true, wide_below, wide_join}

-- ---- past ASCII

abbrev IsHigh : List ℕ → Type 0
IsHigh [] = Unit {0}
IsHigh (b ∷ bs) = (128 ≤ b) × IsHigh bs

no_escape : (b : ℕ) → 128 ≤ b → NeedsEscape b → ⊥
no_escape b high (inl h) = omega arith
no_escape b high (inr (inl h)) = omega arith
no_escape b high (inr (inr h)) = omega arith

escaped-high : (s t : List ℕ) → IsHigh s → escaped (s ++ t) ≡ s ++ escaped t
escaped-high [] t high = refl
escaped-high (b ∷ bs) t high = rw (escape-plain b (no_escape b high.0), escaped-high bs t high.1) refl

-- each byte of it, from the first and the others
at_least : (low high b : ℕ) → 128 ≤ low → within low high b ≡ true → 128 ≤ b
at_least low high b l is = let h : low ≤ b = (bounds low high b is).0 in omega arith

wide-high : (s : List ℕ) → IsWide s → IsHigh s
wide-high _ (two a b ha hb) = (at_least 0xC2 0xDF a (omega arith) ha, (at_least 128 191 b (omega arith) hb, tt))
wide-high _ (three_first b c hb hc) = (omega arith, (at_least 0xA0 0xBF b (omega arith) hb, (at_least 128 191 c (omega arith) hc, tt)))
wide-high _ (three a b c ha hb hc) = (at_least 0xE1 0xEC a (omega arith) ha, (at_least 128 191 b (omega arith) hb, (at_least 128 191 c (omega arith) hc, tt)))
wide-high _ (three_below b c hb hc) = (omega arith, (at_least 0x80 0x9F b (omega arith) hb, (at_least 128 191 c (omega arith) hc, tt)))
wide-high _ (three_above a b c ha hb hc) = (at_least 0xEE 0xEF a (omega arith) ha, (at_least 128 191 b (omega arith) hb, (at_least 128 191 c (omega arith) hc, tt)))
wide-high _ (four_first b c d hb hc hd) = (omega arith, (at_least 0x90 0xBF b (omega arith) hb, (at_least 128 191 c (omega arith) hc, (at_least 128 191 d (omega arith) hd, tt))))
wide-high _ (four a b c d ha hb hc hd) = (at_least 0xF1 0xF3 a (omega arith) ha, (at_least 128 191 b (omega arith) hb, (at_least 128 191 c (omega arith) hc, (at_least 128 191 d (omega arith) hd, tt))))
wide-high _ (four_last b c d hb hc hd) = (omega arith, (at_least 0x80 0x8F b (omega arith) hb, (at_least 128 191 c (omega arith) hc, (at_least 128 191 d (omega arith) hd, tt))))

-- ---- ASCII

hex-digit : (n : ℕ) → n ≤ 15 → hex_digit (hex n) ≡ Some n
hex-digit n small = cond_both (nat_lt n 10) (48 + n) (87 + n) (λ b. hex_digit b ≡ Some n) digit letter
  where
    digit : nat_lt n 10 ≡ true → hex_digit (48 + n) ≡ Some n
    digit is =
        let lt : n < 10 = ltb-true n 10 is in
        let e : 48 + n - 48 ≡ n = omega arith in
        rw (within-true 48 57 (48 + n) (omega arith) (omega arith)) (ap (λ (m : ℕ). Some m) e)

    letter : nat_lt n 10 ≡ false → hex_digit (87 + n) ≡ Some n
    letter is =
        let ge : 10 ≤ n = ltb-false n 10 is in
        let e : 87 + n - 87 ≡ n = omega arith in
        let no_digit : within 48 57 (87 + n) ≡ false = rw (lt-leb (87 + n) 57 (omega arith), le-leb 48 (87 + n) (omega arith)) refl in
        rw (no_digit, within-true 97 102 (87 + n) (omega arith) (omega arith)) (ap (λ (m : ℕ). Some m) e)

not_surrogate : (c : ℕ) → c < 128 → (is_high c ≡ false) × (is_low c ≡ false)
not_surrogate c small = (rw (lt-leb 0xD800 c (omega arith)) refl, rw (lt-leb 0xDC00 c (omega arith)) refl)

control_spells : (cut : Bool) (c : ℕ) (t w : List ℕ) → c < 32 → Chars cut t w → Chars cut (c ∷ t) (control c ++ w)
control_spells cut c t w small chars =
    let e : four_digits 0 0 (c / 16) (c % 16) ≡ c = omega arith in
    let unit : IsUnit (four_digits 0 0 (c / 16) (c % 16)) (48 ∷ (48 ∷ (hex (c / 16) ∷ (hex (c % 16) ∷ [])))) =
    digits 0 0 (c / 16) (c % 16) 48 48 (hex (c / 16)) (hex (c % 16)) refl refl (hex-digit (c / 16) (omega arith)) (hex-digit (c % 16) (omega arith)) in
    let same : IsUnit c (48 ∷ (48 ∷ (hex (c / 16) ∷ (hex (c % 16) ∷ [])))) = subst (λ (u : ℕ). IsUnit u (48 ∷ (48 ∷ (hex (c / 16) ∷ (hex (c % 16) ∷ []))))) e unit in
    let no = not_surrogate c (omega arith) in
    subst (λ (s : List ℕ). Chars cut (s ++ t) (control c ++ w)) (encode_ascii c (omega arith)) (escape_of c (48 ∷ (48 ∷ (hex (c / 16) ∷ (hex (c % 16) ∷ [])))) t w same no.0 no.1 chars)

plain-true : (c : ℕ) → 32 ≤ c → c < 128 → (c == 34) ≡ false → (c == 92) ≡ false → is_plain c ≡ true
plain-true c low high quote slash = rw (within-true 32 127 c low (omega arith), quote, slash) refl

byte_spells : (cut : Bool) (c : ℕ) (t w : List ℕ) → c < 128 → Chars cut t w → Chars cut (c ∷ t) (escape c ++ w)
byte_spells cut c t w ascii chars =
    cond_both (c == 34) (92 ∷ (34 ∷ [])) _ P (λ h. letter 34 34 refl (eqb-true c 34 h))
    (λ quote. cond_both (c == 92) (92 ∷ (92 ∷ [])) _ P (λ h. letter 92 92 refl (eqb-true c 92 h))
    (λ slash. cond_both (c == 8) (92 ∷ (98 ∷ [])) _ P (λ h. letter 98 8 refl (eqb-true c 8 h))
    (λ _. cond_both (c == 9) (92 ∷ (116 ∷ [])) _ P (λ h. letter 116 9 refl (eqb-true c 9 h))
    (λ _. cond_both (c == 10) (92 ∷ (110 ∷ [])) _ P (λ h. letter 110 10 refl (eqb-true c 10 h))
    (λ _. cond_both (c == 12) (92 ∷ (102 ∷ [])) _ P (λ h. letter 102 12 refl (eqb-true c 12 h))
    (λ _. cond_both (c == 13) (92 ∷ (114 ∷ [])) _ P (λ h. letter 114 13 refl (eqb-true c 13 h))
    (λ _. cond_both (nat_lt c 32) (control c) (c ∷ []) P (λ h. control_spells cut c t w (ltb-true c 32 h) chars)
    (λ h. plain c t w (plain-true c (ltb-false c 32 h) ascii quote slash) chars))))))))
  where
    P : List ℕ → Type 0
    P e = Chars cut (c ∷ t) (e ++ w)

    letter : (b n : ℕ) → short b ≡ Some n → c ≡ n → P (92 ∷ (b ∷ []))
    letter b n is same = subst (λ (m : ℕ). Chars cut (m ∷ t) (92 ∷ (b ∷ w))) (sym same) (short_escape b n t w is chars)

short_ascii : (b c : ℕ) → short b ≡ Some c → c < 128
short_ascii b c =
    cond_both (b == 34) (Some 34) _ P (λ _. row 34 (omega arith))
    (λ _. cond_both (b == 92) (Some 92) _ P (λ _. row 92 (omega arith))
    (λ _. cond_both (b == 47) (Some 47) _ P (λ _. row 47 (omega arith))
    (λ _. cond_both (b == 98) (Some 8) _ P (λ _. row 8 (omega arith))
    (λ _. cond_both (b == 102) (Some 12) _ P (λ _. row 12 (omega arith))
    (λ _. cond_both (b == 110) (Some 10) _ P (λ _. row 10 (omega arith))
    (λ _. cond_both (b == 114) (Some 13) _ P (λ _. row 13 (omega arith))
    (λ _. cond_both (b == 116) (Some 9) None P (λ _. row 9 (omega arith)) (λ _ same. absurd (never same)))))))))
  where
    P : Option ℕ → Type 0
    P o = o ≡ Some c → c < 128

    row : (n : ℕ) → n < 128 → P (Some n)
    row n small same = let k : n ≡ c = cc in omega arith

    never : None ≡ Some c → ⊥
    never same = cc

digit_small : (b d : ℕ) → hex_digit b ≡ Some d → d ≤ 15
digit_small b d is = by_test (within 48 57 b) refl (within 97 102 b) refl (within 65 70 b) refl
  where
    by_test : (x : Bool) → within 48 57 b ≡ x → (y : Bool) → within 97 102 b ≡ y → (z : Bool) → within 65 70 b ≡ z → d ≤ 15
    by_test true hx y hy z hz =
        let k = and_parts (nat_le 48 b) (nat_le b 57) hx in
        let v : Some (b - 48) ≡ Some d = rw hx at is in
        let same : b - 48 ≡ d = cc in
        let le : b ≤ 57 = leb-true b 57 k.1 in
        omega arith
    by_test false hx true hy z hz =
        let k = and_parts (nat_le 97 b) (nat_le b 102) hy in
        let v : Some (b - 87) ≡ Some d = rw (hx, hy) at is in
        let same : b - 87 ≡ d = cc in
        let le : b ≤ 102 = leb-true b 102 k.1 in
        omega arith
    by_test false hx false hy true hz =
        let k = and_parts (nat_le 65 b) (nat_le b 70) hz in
        let v : Some (b - 55) ≡ Some d = rw (hx, hy, hz) at is in
        let same : b - 55 ≡ d = cc in
        let le : b ≤ 70 = leb-true b 70 k.1 in
        omega arith
    by_test false hx false hy false hz =
        let v : None ≡ Some d = rw (hx, hy, hz) at is in
        absurd cc

unit_small : (u : ℕ) (ds : List ℕ) → IsUnit u ds → u ≤ 65535
unit_small _ _ (digits a b c d x y z w hx hy hz hw) =
    let ha = digit_small x a hx in
    let hb = digit_small y b hy in
    let hc = digit_small z c hz in
    let hd = digit_small w d hw in
    omega arith

-- ---- strings

-- a byte, or a character of more bytes, before a text that is spelled by its escapes
then_byte : (c : ℕ) (t : List ℕ) → c < 128 → Chars false t (escaped t ++ (34 ∷ [])) → Chars false (c ∷ t) (escaped (c ∷ t) ++ (34 ∷ []))
then_byte c t ascii chars = rw append_assoc (byte_spells false c t (escaped t ++ (34 ∷ [])) ascii chars)

then_wide : (s t : List ℕ) → IsWide s → Chars false t (escaped t ++ (34 ∷ [])) → Chars false (s ++ t) (escaped (s ++ t) ++ (34 ∷ []))
then_wide s t is chars = rw (escaped-high s t (wide-high s is), append_assoc s (escaped t) (34 ∷ [])) (wide s t (escaped t ++ (34 ∷ [])) is chars)

then_unit : (u : ℕ) (ds t : List ℕ) → IsUnit u ds → is_high u ≡ false → is_low u ≡ false → Chars false t (escaped t ++ (34 ∷ [])) →
    Chars false (encode_utf8 u ++ t) (escaped (encode_utf8 u ++ t) ++ (34 ∷ []))
then_unit u ds t is hi lo chars = elim (cases_lt u 128) [
  | inl lt ↦ subst (λ (s : List ℕ). Chars false (s ++ t) (escaped (s ++ t) ++ (34 ∷ []))) (sym (encode_ascii u lt)) (then_byte u t lt chars)
  | inr ge ↦ then_wide (encode_utf8 u) t (wide_below u ge (unit_small u ds is) hi lo) chars
]

plain_ascii : (b : ℕ) → is_plain b ≡ true → b < 128
plain_ascii b is = let h : b ≤ 127 = (bounds 32 127 b (and_parts (within 32 127 b) _ is).0).1 in omega arith

pub chars_again : (cut : Bool) → cut ≡ false → (t w : List ℕ) → Chars cut t w → Chars false t (escaped t ++ (34 ∷ []))
chars_again cut off _ _ end = end
chars_again cut off _ _ (plain c t w is chars) = then_byte c t (plain_ascii c is) (chars_again cut off t w chars)
chars_again cut off _ _ (wide s t w is chars) = then_wide s t is (chars_again cut off t w chars)
chars_again cut off _ _ (short_escape b c t w is chars) = then_byte c t (short_ascii b c is) (chars_again cut off t w chars)
chars_again cut off _ _ (escape_of u ds t w is hi lo chars) = then_unit u ds t is hi lo (chars_again cut off t w chars)
chars_again cut off _ _ (pair_escape u v ds es t w is js hi lo chars) = then_wide (encode_utf8 (join u v)) t (wide_join u v hi lo) (chars_again cut off t w chars)
chars_again cut off _ _ (cut_escape a b c x y z t w on hx hy hz lo chars) = let e : false ≡ true = sym off ∙ on in absurd cc
