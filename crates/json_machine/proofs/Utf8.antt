-- What a string spells is UTF-8, and so is what is held of it, once it is completed.
use Rattle.std.proofs.Common.{◌≡◌, ℕ, ◌+◌, ◌-◌, ◌*◌, ◌/◌, ◌%◌, ◌<◌, ◌≤◌, Bool, true, false, List, [], ◌∷◌, ◌++◌, Some, Ok, IsUtf8, refl, sym, subst, ◌∙◌, arith}
use Rattle.std.specs.Prelude.{◌==◌, ◌||◌}
use Rattle.std.specs.Char.{IsScalar, encode_utf8}
use Rattle.std.proofs.Math.Utf8.{low_scalar}
use Rattle.std.proofs.lemmas.Bool.{lt-ltb, le-ltb}
use Rattle.std.proofs.lemmas.Str.{IsUtf8-append, IsUtf8-nil, IsUtf8-encode, encode_ascii}
use Rattle.std.proofs.lemmas.Bool.Decides.{nat_tests}
use Rattle.json_machine.specs.declared.begun.Digit.{Digit}
use Rattle.json_machine.specs.Part.{Part}
use Rattle.json_machine.specs.Part as p
use Rattle.json_machine.specs.Progress as s
use Rattle.json_value.specs.Strings.{is_plain, short, hex_digit, is_high, is_low, join, IsWide, two, three_first, three, three_below, three_above, four_first, four, four_last, IsUnit, digits as unit_digits, Chars, end, plain, wide, short_escape, escape, pair_escape, cut_escape}
use Rattle.json_value.specs.Numbers.{is_digit, is_e, AreDigits, IsMinus, positive, minus, IsInt, zero, digits, IsFrac, no_frac, frac, IsExp, no_exp, exp, signed_exp, IsNumber, number}
use Rattle.json_machine.specs.Numbers.{number_start}
use Rattle.json_machine.specs.Left.{CompletesNumber, TextLeft}
use Rattle.json_machine.specs.Scan.{scan}
use Rattle.json_machine.proofs.Wides.{bounds}
use Rattle.json_machine.proofs.Texts.{IsScanSound, scan_sound}
use Rattle.json_machine.proofs.NumberTexts.{reads_number}

high_scalar : (c : ℕ) → 57344 ≤ c → c < 1114112 → IsScalar c
high_scalar c low high = grind (arith, nat_tests)

encode_two : (c : ℕ) → 128 ≤ c → c < 2048 → encode_utf8 c ≡ (192 + c / 64) ∷ ((128 + c % 64) ∷ [])
unfolding encode_utf8
encode_two c low high = rw (le-ltb c 128 low, lt-ltb c 2048 high) refl

encode_three : (c : ℕ) → 2048 ≤ c → c < 65536 → encode_utf8 c ≡ (224 + c / 4096) ∷ ((128 + (c / 64) % 64) ∷ ((128 + c % 64) ∷ []))
unfolding encode_utf8
encode_three c low high = rw (le-ltb c 128 (omega arith), le-ltb c 2048 low, lt-ltb c 65536 high) refl

encode_four : (c : ℕ) → 65536 ≤ c → encode_utf8 c ≡ (240 + c / 262144) ∷ ((128 + (c / 4096) % 64) ∷ ((128 + (c / 64) % 64) ∷ ((128 + c % 64) ∷ [])))
unfolding encode_utf8
encode_four c low = rw (le-ltb c 128 (omega arith), le-ltb c 2048 (omega arith), le-ltb c 65536 low) refl

two_bytes : (a b : ℕ) → 194 ≤ a → a ≤ 223 → 128 ≤ b → b ≤ 191 → IsUtf8 (a ∷ (b ∷ []))
two_bytes a b la ha lb hb =
    let c : ℕ = (a - 192) * 64 + (b - 128) in
    let p : 192 + c / 64 ≡ a = omega arith in
    let q : 128 + c % 64 ≡ b = omega arith in
    let same : encode_utf8 c ≡ a ∷ (b ∷ []) = encode_two c (omega arith) (omega arith) ∙ (λ i. p i ∷ (q i ∷ [])) in
    subst IsUtf8 same (IsUtf8-encode c (low_scalar c (omega arith)))

three_bytes : (a b d c : ℕ) → 224 ≤ a → a ≤ 239 → 128 ≤ b → b ≤ 191 → 128 ≤ d → d ≤ 191 → c ≡ (a - 224) * 4096 + (b - 128) * 64 + (d - 128) → 2048 ≤ c → IsScalar c → IsUtf8 (a ∷ (b ∷ (d ∷ [])))
three_bytes a b d c la ha lb hb ld hd is low scalar =
    let p : 224 + c / 4096 ≡ a = omega arith in
    let q : 128 + (c / 64) % 64 ≡ b = omega arith in
    let r : 128 + c % 64 ≡ d = omega arith in
    let same : encode_utf8 c ≡ a ∷ (b ∷ (d ∷ [])) = encode_three c low (omega arith) ∙ (λ i. p i ∷ (q i ∷ (r i ∷ []))) in
    subst IsUtf8 same (IsUtf8-encode c scalar)

four_bytes : (a b d e c m : ℕ) → 240 ≤ a → a ≤ 244 → 128 ≤ b → b ≤ 191 → 128 ≤ d → d ≤ 191 → 128 ≤ e → e ≤ 191 → m ≡ (a - 240) * 4096 + (b - 128) * 64 + (d - 128) → c ≡ m * 64 + (e - 128)
    → 65536 ≤ c → c < 1114112 → IsUtf8 (a ∷ (b ∷ (d ∷ (e ∷ []))))
four_bytes a b d e c m la ha lb hb ld hd le he is_m is low high =
    let up : c / 64 ≡ m = omega arith in
    let p : 240 + c / 262144 ≡ a = omega arith in
    let q : 128 + (c / 4096) % 64 ≡ b = omega arith in
    let r : 128 + (c / 64) % 64 ≡ d = subst (λ (k : ℕ). 128 + k % 64 ≡ d) (sym up) (omega arith) in
    let t : 128 + c % 64 ≡ e = omega arith in
    let same : encode_utf8 c ≡ a ∷ (b ∷ (d ∷ (e ∷ []))) = encode_four c low ∙ (λ i. p i ∷ (q i ∷ (r i ∷ (t i ∷ [])))) in
    subst IsUtf8 same (IsUtf8-encode c (high_scalar c (omega arith) high))

pub IsUtf8-wide : (s : List ℕ) → IsWide s → IsUtf8 s
IsUtf8-wide _ (two a b ha hb) =
    let x = bounds 0xC2 0xDF a ha in
    let y = bounds 128 191 b hb in
    two_bytes a b x.0 x.1 y.0 y.1
IsUtf8-wide _ (three_first b c hb hc) =
    let y = bounds 0xA0 0xBF b hb in
    let z = bounds 128 191 c hc in
    let u : ℕ = (224 - 224) * 4096 + (b - 128) * 64 + (c - 128) in
    three_bytes 0xE0 b c u (omega arith) (omega arith) (omega arith) (omega arith) (omega arith) (omega arith) refl (omega arith) (low_scalar u (omega arith))
IsUtf8-wide _ (three a b c ha hb hc) =
    let x = bounds 0xE1 0xEC a ha in
    let y = bounds 128 191 b hb in
    let z = bounds 128 191 c hc in
    let u : ℕ = (a - 224) * 4096 + (b - 128) * 64 + (c - 128) in
    three_bytes a b c u (omega arith) (omega arith) y.0 y.1 z.0 z.1 refl (omega arith) (low_scalar u (omega arith))
IsUtf8-wide _ (three_below b c hb hc) =
    let y = bounds 0x80 0x9F b hb in
    let z = bounds 128 191 c hc in
    let u : ℕ = (237 - 224) * 4096 + (b - 128) * 64 + (c - 128) in
    three_bytes 0xED b c u (omega arith) (omega arith) y.0 (omega arith) z.0 z.1 refl (omega arith) (low_scalar u (omega arith))
IsUtf8-wide _ (three_above a b c ha hb hc) =
    let x = bounds 0xEE 0xEF a ha in
    let y = bounds 128 191 b hb in
    let z = bounds 128 191 c hc in
    let u : ℕ = (a - 224) * 4096 + (b - 128) * 64 + (c - 128) in
    three_bytes a b c u (omega arith) x.1 y.0 y.1 z.0 z.1 refl (omega arith) (high_scalar u (omega arith) (omega arith))
IsUtf8-wide _ (four_first b c d hb hc hd) =
    let y = bounds 0x90 0xBF b hb in
    let z = bounds 128 191 c hc in
    let w = bounds 128 191 d hd in
    let u : ℕ = (240 - 240) * 4096 + (b - 128) * 64 + (c - 128) in
    four_bytes 0xF0 b c d (u * 64 + (d - 128)) u (omega arith) (omega arith) (omega arith) y.1 z.0 z.1 w.0 w.1 refl refl (omega arith) (omega arith)
IsUtf8-wide _ (four a b c d ha hb hc hd) =
    let x = bounds 0xF1 0xF3 a ha in
    let y = bounds 128 191 b hb in
    let z = bounds 128 191 c hc in
    let w = bounds 128 191 d hd in
    let u : ℕ = (a - 240) * 4096 + (b - 128) * 64 + (c - 128) in
    four_bytes a b c d (u * 64 + (d - 128)) u (omega arith) (omega arith) y.0 y.1 z.0 z.1 w.0 w.1 refl refl (omega arith) (omega arith)
IsUtf8-wide _ (four_last b c d hb hc hd) =
    let y = bounds 0x80 0x8F b hb in
    let z = bounds 128 191 c hc in
    let w = bounds 128 191 d hd in
    let u : ℕ = (244 - 240) * 4096 + (b - 128) * 64 + (c - 128) in
    four_bytes 0xF4 b c d (u * 64 + (d - 128)) u (omega arith) (omega arith) y.0 (omega arith) z.0 z.1 w.0 w.1 refl refl (omega arith) (omega arith)

-- ---- numbers

ascii_then : (b : ℕ) (bs : List ℕ) → b < 128 → IsUtf8 bs → IsUtf8 (b ∷ bs)
ascii_then b bs small u = IsUtf8-append (b ∷ []) bs (subst IsUtf8 (encode_ascii b small) (IsUtf8-encode b (low_scalar b (omega arith)))) u

digit_ascii : (b : ℕ) → is_digit b ≡ true → b < 128
digit_ascii b is = grind (arith, nat_tests)

IsUtf8-digits : (bs : List ℕ) → AreDigits bs → IsUtf8 bs
IsUtf8-digits [] are = IsUtf8-nil
IsUtf8-digits (b ∷ bs) are = ascii_then b bs (digit_ascii b are.0) (IsUtf8-digits bs are.1)

IsUtf8-minus : (bs : List ℕ) → IsMinus bs → IsUtf8 bs
IsUtf8-minus _ positive = IsUtf8-nil
IsUtf8-minus _ minus = ascii_then 45 [] (omega arith) IsUtf8-nil

IsUtf8-int : (bs : List ℕ) → IsInt bs → IsUtf8 bs
IsUtf8-int _ zero = ascii_then 48 [] (omega arith) IsUtf8-nil
IsUtf8-int _ (digits b bs is are) = let h = bounds 49 57 b is in ascii_then b bs (omega arith) (IsUtf8-digits bs are)

IsUtf8-frac : (bs : List ℕ) → IsFrac bs → IsUtf8 bs
IsUtf8-frac _ no_frac = IsUtf8-nil
IsUtf8-frac _ (frac b bs is are) = ascii_then 46 (b ∷ bs) (omega arith) (ascii_then b bs (digit_ascii b is) (IsUtf8-digits bs are))

e_ascii : (b : ℕ) → is_e b ≡ true → b < 128
e_ascii b is = grind (arith, nat_tests)

sign_ascii : (b : ℕ) → (b == 45 || b == 43) ≡ true → b < 128
sign_ascii b is = grind (arith, nat_tests)

IsUtf8-exp : (bs : List ℕ) → IsExp bs → IsUtf8 bs
IsUtf8-exp _ no_exp = IsUtf8-nil
IsUtf8-exp _ (exp e b bs is_letter is are) = ascii_then e (b ∷ bs) (e_ascii e is_letter) (ascii_then b bs (digit_ascii b is) (IsUtf8-digits bs are))
IsUtf8-exp _ (signed_exp e sign b bs is_letter is_sign is are) = ascii_then e (sign ∷ (b ∷ bs)) (e_ascii e is_letter) (ascii_then sign (b ∷ bs) (sign_ascii sign is_sign) (ascii_then b bs (digit_ascii b is) (IsUtf8-digits bs are)))

IsUtf8-number : (a : List ℕ) → IsNumber a → IsUtf8 a
IsUtf8-number _ (number m i f e hm hi hf he) = IsUtf8-append m (i ++ (f ++ e)) (IsUtf8-minus m hm) (IsUtf8-append i (f ++ e) (IsUtf8-int i hi) (IsUtf8-append f e (IsUtf8-frac f hf) (IsUtf8-exp e he)))

-- ---- strings

pub short_ascii : (b c : ℕ) → short b ≡ Some c → c < 128
short_ascii b c is = grind (arith, nat_tests)

-- a digit is below 16
pub digit_small : (b d : ℕ) → hex_digit b ≡ Some d → d ≤ 15
digit_small b d is = grind (arith, nat_tests)

unit_small : (u : ℕ) (ds : List ℕ) → IsUnit u ds → u ≤ 65535
unit_small _ _ (unit_digits a b c d x y z w hx hy hz hw) =
    let ha = digit_small x a hx in
    let hb = digit_small y b hy in
    let hc = digit_small z c hz in
    let hd = digit_small w d hw in
    omega arith

pub unit_scalar : (u : ℕ) → u ≤ 65535 → is_high u ≡ false → is_low u ≡ false → IsScalar u
unit_scalar u small hi lo = grind (arith, nat_tests)

pub pair_scalar : (u v : ℕ) → is_high u ≡ true → is_low v ≡ true → IsScalar (join u v)
pair_scalar u v hi lo = grind (arith, nat_tests)

plain_ascii : (b : ℕ) → is_plain b ≡ true → b < 128
plain_ascii b is = grind (arith, nat_tests)

pub IsUtf8-chars : (cut : Bool) (t w : List ℕ) → Chars cut t w → IsUtf8 t
IsUtf8-chars cut _ _ end = IsUtf8-nil
IsUtf8-chars cut _ _ (plain c t w is chars) = ascii_then c t (plain_ascii c is) (IsUtf8-chars cut t w chars)
IsUtf8-chars cut _ _ (wide s t w is chars) = IsUtf8-append s t (IsUtf8-wide s is) (IsUtf8-chars cut t w chars)
IsUtf8-chars cut _ _ (short_escape b c t w is chars) = ascii_then c t (short_ascii b c is) (IsUtf8-chars cut t w chars)
IsUtf8-chars cut _ _ (escape u ds t w is hi lo chars) = IsUtf8-append (encode_utf8 u) t (IsUtf8-encode u (unit_scalar u (unit_small u ds is) hi lo)) (IsUtf8-chars cut t w chars)
IsUtf8-chars cut _ _ (pair_escape u v ds es t w is js hi lo chars) = IsUtf8-append (encode_utf8 (join u v)) t (IsUtf8-encode (join u v) (pair_scalar u v hi lo)) (IsUtf8-chars cut t w chars)
IsUtf8-chars cut _ _ (cut_escape a b c x y z t w on hx hy hz lo chars) = IsUtf8-chars cut t w chars

-- ---- what is held stays such

pub plain_holds : (w f : List ℕ) → TextLeft false p.Plain [] w f → IsUtf8 f
plain_holds w f (t, chars, e) = subst IsUtf8 (sym e) (IsUtf8-chars false t w chars)

pub more_holds : (at : ℕ) (part part' : Part) (text text' : List ℕ) (b : ℕ) → ((w f : List ℕ) → TextLeft false part text w f → IsUtf8 f) → scan false at part text b ≡ Ok (s.More part' text')
    → (w f : List ℕ) → TextLeft false part' text' w f → IsUtf8 f
more_holds at part part' text text' b holds is w f left = holds (b ∷ w) f (subst (IsScanSound false (TextLeft false part text) b) is (scan_sound false at part text b) w f left)

pub done_holds : (at : ℕ) (part : Part) (text f : List ℕ) (b : ℕ) → ((w f : List ℕ) → TextLeft false part text w f → IsUtf8 f) → scan false at part text b ≡ Ok (s.Done f) → IsUtf8 f
done_holds at part text f b holds is = holds (b ∷ []) f (subst (IsScanSound false (TextLeft false part text) b) is (scan_sound false at part text b))

pub number_holds : (b : ℕ) (part : Digit) → number_start b ≡ Some part → (a : List ℕ) → CompletesNumber part a → IsUtf8 ((b ∷ []) ++ a)
number_holds b part is a h = IsUtf8-number (b ∷ a) (reads_number b a part is h)
