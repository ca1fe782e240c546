-- The text of a string, front by front.
use Rattle.std.proofs.Common.{◌≡◌, ℕ, zero, suc, ◌+◌, ◌-◌, ◌<◌, ◌≤◌, Bool, true, false, ◌&&◌, ◌==◌, if◌then◌else◌, List, [], ◌∷◌, ◌++◌, Option, Some, None, length, get_or, take, drop, refl, sym, ap, ◌∙◌, subst, append_assoc, arith}
use Rattle.std.specs.Prelude.{encode_utf8}
use Rattle.std.specs.Str.{IsUtf8, IsCharBoundary}
use Rattle.std.proofs.lemmas.Bool.{eqb-true}
use Rattle.std.proofs.lemmas.List.{append-nil, get_or-drop, length-drop}
use Rattle.std.proofs.lemmas.Str.{encode_ascii, IsCharBoundary-after_ascii}
use Rattle.std.proofs.lemmas.Bool.Decides.{nat_tests}
use Rattle.json_value.specs.Strings.{short, hex_digit, is_high, is_low, join}
use Rattle.gql_inputs.specs.Strings.{number_of, unit, letter, alone, escape_by, escape_read, unescaped_past, unescaped, GoesOn}

skipped : (n : ℕ) (s : List ℕ) → unescaped_past n s ≡ unescaped_past 0 (drop n s)
unfolding unescaped_past
skipped zero s = refl
skipped (suc n) [] = refl
skipped (suc n) (b ∷ w) = skipped n w

past_itself : (b : ℕ) (w : List ℕ) → escape_read (b ∷ w) ≡ None → unescaped (b ∷ w) ≡ b ∷ unescaped w
unfolding unescaped_past
past_itself b w is = rw is refl

pub past_escape : (s : List ℕ) (c n : ℕ) → escape_read s ≡ Some (c, n) → 0 < n → n ≤ length s → unescaped s ≡ encode_utf8 c ++ unescaped (drop n s)
unfolding unescaped_past
past_escape [] c n is some within = absurd (omega arith)
past_escape (b ∷ w) c zero is some within = absurd (omega arith)
past_escape (b ∷ w) c (suc n) is some within =
    let less : suc n - 1 ≡ n = omega arith in
    rw is (rw less (ap (λ (t : List ℕ). encode_utf8 c ++ t) (skipped n w)))

pub past_backslash : (s : List ℕ) → escape_read s ≡ None → 0 < length s → get_or s 0 0 ≡ 92 → unescaped s ≡ (92 ∷ []) ++ unescaped (drop 1 s)
past_backslash [] is some first = absurd (omega arith)
past_backslash (b ∷ w) is some first = past_itself b w is ∙ ap (λ (x : ℕ). x ∷ unescaped w) first

unit_else : (b : ℕ) (w : List ℕ) → (b == 92) ≡ false → unit (b ∷ w) ≡ None
unit_else b [] differs = refl
unit_else b (x₁ ∷ []) differs = refl
unit_else b (x₁ ∷ (x₂ ∷ [])) differs = refl
unit_else b (x₁ ∷ (x₂ ∷ (x₃ ∷ []))) differs = refl
unit_else b (x₁ ∷ (x₂ ∷ (x₃ ∷ (x₄ ∷ [])))) differs = refl
unit_else b (x₁ ∷ (x₂ ∷ (x₃ ∷ (x₄ ∷ (x₅ ∷ w))))) differs = rw differs refl

letter_else : (b : ℕ) (w : List ℕ) → (b == 92) ≡ false → letter (b ∷ w) ≡ None
letter_else b [] differs = refl
letter_else b (x ∷ w) differs = rw differs refl

not_equal : (b : ℕ) (t : Bool) → (b == 92) ≡ t → (b ≡ 92 → ⊥) → (b == 92) ≡ false
not_equal b true is differs = absurd (differs (eqb-true b 92 is))
not_equal b false is differs = is

no_escape : (b : ℕ) (w : List ℕ) → (b ≡ 92 → ⊥) → escape_read (b ∷ w) ≡ None
no_escape b w differs =
    let other : (b == 92) ≡ false = not_equal b (b == 92) refl differs in
    rw (unit_else b w other, letter_else b w other) refl

pub past_plain : (n : ℕ) (s : List ℕ) → n ≤ length s → ((k : ℕ) → k < n → get_or s k 0 ≡ 92 → ⊥) → unescaped s ≡ take n s ++ unescaped (drop n s)
past_plain zero s within plain = refl
past_plain (suc n) [] within plain = absurd (omega arith)
past_plain (suc n) (b ∷ w) within plain =
    past_itself b w (no_escape b w (plain 0 (omega arith)))
    ∙ ap (λ (t : List ℕ). b ∷ t) (past_plain n w (omega arith) (λ k below. plain (suc k) (omega arith)))

-- The source may be cut after so many bytes.
pub record Cut (s : List ℕ) (n : ℕ) : Type 0 where
  pub some : 0 < n
  pub within : n ≤ length s
  pub ascii : get_or s (n - 1) 0 < 128

digit_ascii : (b d : ℕ) → hex_digit b ≡ Some d → b < 128
digit_ascii b d is = grind (arith, nat_tests)

last_digit : (a b c d : Option ℕ) (u : ℕ) → number_of a b c d ≡ Some u → (n : ℕ) × (d ≡ Some n)
last_digit (Some a) (Some b) (Some c) (Some d) u is = (d, refl)
last_digit (Some a) (Some b) (Some c) None u is = absurd cc
last_digit (Some a) (Some b) None d u is = absurd cc
last_digit (Some a) None c d u is = absurd cc
last_digit None b c d u is = absurd cc

under_test : (t : Bool) (o : Option ℕ) (u : ℕ) → (if t then o else None) ≡ Some u → o ≡ Some u
under_test true o u is = is
under_test false o u is = absurd cc

unit_cut : (s : List ℕ) (u : ℕ) → unit s ≡ Some u → Cut s 6
unit_cut [] u is = absurd cc
unit_cut (x₁ ∷ []) u is = absurd cc
unit_cut (x₁ ∷ (x₂ ∷ [])) u is = absurd cc
unit_cut (x₁ ∷ (x₂ ∷ (x₃ ∷ []))) u is = absurd cc
unit_cut (x₁ ∷ (x₂ ∷ (x₃ ∷ (x₄ ∷ [])))) u is = absurd cc
unit_cut (x₁ ∷ (x₂ ∷ (x₃ ∷ (x₄ ∷ (x₅ ∷ []))))) u is = absurd cc
unit_cut (x₁ ∷ (x₂ ∷ (x₃ ∷ (x₄ ∷ (x₅ ∷ (x₆ ∷ w)))))) u is =
    let number : number_of (hex_digit x₃) (hex_digit x₄) (hex_digit x₅) (hex_digit x₆) ≡ Some u = under_test (x₁ == 92 && x₂ == 117) _ u is in
    let digit = last_digit (hex_digit x₃) (hex_digit x₄) (hex_digit x₅) (hex_digit x₆) u number in
    let small : x₆ < 128 = digit_ascii x₆ digit.0 digit.1 in
    record { some = omega arith; within = omega arith; ascii = small }

short_ascii : (b c : ℕ) → short b ≡ Some c → b < 128
short_ascii b c is = grind (arith, nat_tests)

letter_cut : (s : List ℕ) (c : ℕ) → letter s ≡ Some c → Cut s 2
letter_cut [] c is = absurd cc
letter_cut (a ∷ []) c is = absurd cc
letter_cut (a ∷ (b ∷ w)) c is =
    let small : b < 128 = short_ascii b c (under_test (a == 92) _ c is) in
    record { some = omega arith; within = omega arith; ascii = small }

further : (n m : ℕ) (s : List ℕ) → Cut (drop n s) m → Cut s (n + m)
further n m s cut =
    let long : m ≤ length s - n = rw length-drop at cut.within in
    let small : get_or s (n + (m - 1)) 0 < 128 = rw get_or-drop at cut.ascii in
    let place : n + (m - 1) ≡ n + m - 1 = omega arith in
    record { some = omega arith; within = omega arith; ascii = rw place at small }

either : (s : List ℕ) (t : Bool) (x y : ℕ × ℕ) → Cut s x.1 → Cut s y.1 → Cut s (if t then x else y).1
either s true x y p q = p
either s false x y p q = q

some_same : (a b : ℕ × ℕ) → Some a ≡ Some b → a ≡ b
some_same a b is = cc

cut_by : (s : List ℕ) (a b c : Option ℕ) → unit s ≡ a → unit (drop 6 s) ≡ b → letter s ≡ c → (e : ℕ × ℕ) → escape_by a b c ≡ Some e → Cut s e.1
cut_by s (Some u) None c first next by e is = subst (λ (x : ℕ × ℕ). Cut s x.1) (some_same _ e is) (unit_cut s u first)
cut_by s (Some u) (Some v) c first next by e is =
    subst (λ (x : ℕ × ℕ). Cut s x.1) (some_same _ e is)
    (either s (is_high u && is_low v) (join u v, 12) (alone u, 6) (further 6 6 s (unit_cut (drop 6 s) v next)) (unit_cut s u first))
cut_by s None b (Some x) first next by e is = subst (λ (y : ℕ × ℕ). Cut s y.1) (some_same _ e is) (letter_cut s x by)
cut_by s None b None first next by e is = absurd cc

pub escape_cut : (s : List ℕ) (e : ℕ × ℕ) → escape_read s ≡ Some e → Cut s e.1
escape_cut s e is = cut_by s (unit s) (unit (drop 6 s)) (letter s) refl refl refl e is

-- ---- one front after the other

pub cut_escape : (s : List ℕ) (e : ℕ × ℕ) → IsUtf8 s → escape_read s ≡ Some e → IsCharBoundary s e.1
cut_escape s e utf8 is =
    let cut : Cut s e.1 = escape_cut s e is in
    let last : e.1 - 1 < length s = omega arith in
    let place : e.1 - 1 + 1 ≡ e.1 = omega arith in
    subst (λ (n : ℕ). IsCharBoundary s n) place (IsCharBoundary-after_ascii s (e.1 - 1) utf8 last cut.ascii)

pub cut_backslash : (s : List ℕ) → IsUtf8 s → 0 < length s → get_or s 0 0 ≡ 92 → IsCharBoundary s 1
cut_backslash s utf8 some first = IsCharBoundary-after_ascii s 0 utf8 some (omega arith)

goes_on : (text front source more : List ℕ) (n : ℕ) → unescaped source ≡ front ++ unescaped (drop n source) → more ≡ text ++ front → GoesOn text source n more
goes_on text front source more n splits is =
    ap (λ (t : List ℕ). t ++ unescaped (drop n source)) is ∙ append_assoc text front (unescaped (drop n source)) ∙ ap (λ (t : List ℕ). text ++ t) (sym splits)

pub goes_plain : (text source more : List ℕ) (n : ℕ) → n ≤ length source → ((k : ℕ) → k < n → get_or source k 0 ≡ 92 → ⊥) → more ≡ text ++ take n source → GoesOn text source n more
goes_plain text source more n within plain is = goes_on text (take n source) source more n (past_plain n source within plain) is

pub goes_escape : (text source more : List ℕ) (e : ℕ × ℕ) → escape_read source ≡ Some e → more ≡ text ++ encode_utf8 e.0 → GoesOn text source e.1 more
goes_escape text source more e found is =
    let cut : Cut source e.1 = escape_cut source e found in
    goes_on text (encode_utf8 e.0) source more e.1 (past_escape source e.0 e.1 found cut.some cut.within) is

pub goes_backslash : (text source more : List ℕ) → escape_read source ≡ None → 0 < length source → get_or source 0 0 ≡ 92 → more ≡ text ++ encode_utf8 92 → GoesOn text source 1 more
goes_backslash text source more none some first is =
    goes_on text (92 ∷ []) source more 1 (past_backslash source none some first) (is ∙ ap (λ (t : List ℕ). text ++ t) (encode_ascii 92 (omega arith)))

pub done : (text rest whole : List ℕ) → text ++ unescaped rest ≡ whole → length rest ≡ 0 → text ≡ whole
unfolding unescaped_past
done text [] whole is none = sym (append-nil text) ∙ is
done text (b ∷ w) whole is none = absurd (omega arith)
