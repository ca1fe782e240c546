-- Where a text may be cut: behind a token, and behind what is ignored.
use Rattle.std.proofs.Common.{◌≡◌, ℕ, zero, suc, ◌+◌, ◌-◌, ◌*◌, ◌<◌, ◌≤◌, Bool, true, false, cond, List, [], ◌∷◌, ◌++◌, length, get_or, take, drop, Option, Some, None, refl, sym, ap, subst, ◌∙◌, arith, append_assoc, length-append, ◌⊎◌, inl, inr}
use Rattle.std.specs.Prelude.{◌==◌, ◌||◌, ◌&&◌, nat_le}
use Rattle.std.specs.Str.{IsUtf8, IsCharBoundary, chars}
use Rattle.std.proofs.Math.Utf8.{encode}
use Rattle.std.proofs.lemmas.Bool.{eqb-true, leb-true, leb-false, or_cases, or_from, and_parts, and_from, cond_both, or_left}
use Rattle.std.proofs.lemmas.List.{get_or-drop, get_or_at, length-drop}
use Rattle.std.proofs.lemmas.Str.{IsCharBoundary-end, IsCharBoundary-before_ascii, IsCharBoundary-after_ascii, IsCharBoundary-past_char, IsUtf8-drop, encodes-chars}
use Rattle.gql_tokens.specs.declared.kinds.Kind.{Kind}
use Rattle.gql_tokens.specs.declared.numbers.Digit.{Digit}
use Rattle.gql_tokens.specs.declared.numbers.Digit.TheVariants as d
use Rattle.gql_tokens.specs.declared.scanner.Class.{Class}
use Rattle.gql_tokens.specs.declared.scanner.Class.TheVariants as c
use Rattle.gql_tokens.specs.Numbers.{is_digit, is_e, IsNumber}
use Rattle.gql_tokens.specs.Lexical.{is_blank, is_inline, is_name_start, is_name_continue, mark_of, Every, Stops, IsString, close, plain, escape, unicode, IsBlock, IsLexeme, mark, dots, name, number, empty, string, block, IsIgnored, blank, byte_order_mark, comment}
use Rattle.gql_tokens.specs.Lexical as grammar
use Rattle.gql_tokens.specs.Scanning.{number_start, number_next, CompletesNumber}
use Rattle.gql_tokens.proofs.NumberTexts.{number_reads}
use Rattle.gql_tokens.proofs.Lexemes.{NoMark, not_mark}
use Rattle.gql_lexer.specs.Endings.{IsQuoted}

-- ---- around a byte of ASCII

pub stands : (text : List ℕ) (at : ℕ) (u : List ℕ) (b : ℕ) (w : List ℕ) → at ≤ length text → drop at text ≡ u ++ (b ∷ w) → (at + length u < length text) × (get_or text (at + length u) 0 ≡ b)
stands text at u b w le e = (
  omega (arith, ap length e, length-drop at text, length-append u (b ∷ w)),
  sym (get_or-drop at text (length u) 0) ∙ ap (λ (q : List ℕ). get_or q (length u) 0) e ∙ get_or_at u b w 0 (length u) refl,
)

after_low : (text : List ℕ) (at : ℕ) (u : List ℕ) (b : ℕ) (w : List ℕ) → IsUtf8 text → at ≤ length text → drop at text ≡ u ++ (b ∷ w) → b < 128 → IsCharBoundary text (at + length u + 1)
after_low text at u b w utf8 le e low =
    let s = stands text at u b w le e in
    IsCharBoundary-after_ascii text (at + length u) utf8 s.0 (subst (λ (q : ℕ). q < 128) (sym s.1) low)

before_low : (text : List ℕ) (at : ℕ) (u : List ℕ) (b : ℕ) (w : List ℕ) → at ≤ length text → drop at text ≡ u ++ (b ∷ w) → b < 128 → IsCharBoundary text (at + length u)
before_low text at u b w le e low =
    let s = stands text at u b w le e in
    IsCharBoundary-before_ascii text (at + length u) s.0 (subst (λ (q : ℕ). q < 128) (sym s.1) low)

pub record EndsLow (a : List ℕ) : Type 0 where
  pub init : List ℕ
  pub last : ℕ
  pub parts : a ≡ init ++ (last ∷ [])
  pub low : last < 128

after_ends_low : (text : List ℕ) (at : ℕ) (a w : List ℕ) → IsUtf8 text → at ≤ length text → drop at text ≡ a ++ w → EndsLow a → IsCharBoundary text (at + length a)
after_ends_low text at a w utf8 le e ends =
    let cut : drop at text ≡ ends.init ++ (ends.last ∷ w) = e ∙ ap (λ (q : List ℕ). q ++ w) ends.parts ∙ append_assoc ends.init (ends.last ∷ []) w in
    let same : at + length ends.init + 1 ≡ at + length a = omega (arith, ap length ends.parts, length-append ends.init (ends.last ∷ [])) in
    subst (IsCharBoundary text) same (after_low text at ends.init ends.last w utf8 le cut ends.low)

-- ---- a token ends in ASCII

abbrev AllLow : List ℕ → Type 0
AllLow [] = Unit {0}
AllLow (b ∷ bs) = (b < 128) × AllLow bs

all_low : (b : ℕ) (a : List ℕ) → b < 128 → AllLow a → EndsLow (b ∷ a)
all_low b [] low all = record { init = []; last = b; parts = refl; low = low }
all_low b (x ∷ a) low all = let t = all_low x a all.0 all.1 in record { init = b ∷ t.init; last = t.last; parts = ap (λ (q : List ℕ). b ∷ q) t.parts; low = t.low }

eq_low : (b x : ℕ) → (b == x) ≡ true → x < 128 → b < 128
eq_low b x e lt = subst (λ (q : ℕ). q < 128) (sym (eqb-true b x e)) lt

digit_low : (b : ℕ) → is_digit b ≡ true → b < 128
digit_low b is = let above : b ≤ 57 = leb-true b 57 (and_parts (nat_le 48 b) (nat_le b 57) is).1 in omega arith

name_start_low : (b : ℕ) → is_name_start b ≡ true → b < 128
name_start_low b is = go (or_cases ((nat_le 65 b && nat_le b 90) || (nat_le 97 b && nat_le b 122)) (b == 95) is)
  where
    letter : ((nat_le 65 b && nat_le b 90) ≡ true) ⊎ ((nat_le 97 b && nat_le b 122) ≡ true) → b < 128
    letter (inl x) = let above : b ≤ 90 = leb-true b 90 (and_parts (nat_le 65 b) (nat_le b 90) x).1 in omega arith
    letter (inr x) = let above : b ≤ 122 = leb-true b 122 (and_parts (nat_le 97 b) (nat_le b 122) x).1 in omega arith

    go : (((nat_le 65 b && nat_le b 90) || (nat_le 97 b && nat_le b 122)) ≡ true) ⊎ ((b == 95) ≡ true) → b < 128
    go (inl x) = letter (or_cases (nat_le 65 b && nat_le b 90) (nat_le 97 b && nat_le b 122) x)
    go (inr x) = eq_low b 95 x (omega arith)

every_low : (a : List ℕ) → Every is_name_continue a → AllLow a
every_low [] every = tt
every_low (b ∷ a) every = (elim (or_cases (is_name_start b) (is_digit b) every.0) [ inl x ↦ name_start_low b x | inr x ↦ digit_low b x ], every_low a every.1)

-- what a number goes on with
abbrev LowIf : ℕ → Option Digit → Type 0
LowIf b (Some x) = b < 128
LowIf b None = Unit {0}

e_low : (b : ℕ) → is_e b ≡ true → b < 128
e_low b is = elim (or_cases (b == 101) (b == 69) is) [ inl x ↦ eq_low b 101 x (omega arith) | inr x ↦ eq_low b 69 x (omega arith) ]

start_low : (b : ℕ) → LowIf b (number_start b)
start_low b = cond_both (b == 45) (Some d.Minus) (cond (b == 48) (Some d.Zero) (cond (is_digit b) (Some d.Whole) None)) (LowIf b) (λ is. eq_low b 45 is (omega arith))
    (λ _. cond_both (b == 48) (Some d.Zero) (cond (is_digit b) (Some d.Whole) None) (LowIf b) (λ is. eq_low b 48 is (omega arith))
    (λ _. cond_both (is_digit b) (Some d.Whole) None (LowIf b) (λ is. digit_low b is) (λ _. tt)))

digits_low : (part : Digit) (b : ℕ) (o : Option Digit) → LowIf b o → LowIf b (cond (is_digit b) (Some part) o)
digits_low part b o h = cond_both (is_digit b) (Some part) o (LowIf b) (λ is. digit_low b is) (λ _. h)

e_or_none : (b : ℕ) → LowIf b (cond (is_e b) (Some d.E) None)
e_or_none b = cond_both (is_e b) (Some d.E) None (LowIf b) (λ is. e_low b is) (λ _. tt)

dot_or_e : (b : ℕ) → LowIf b (cond (b == 46) (Some d.Dot) (cond (is_e b) (Some d.E) None))
dot_or_e b = cond_both (b == 46) (Some d.Dot) (cond (is_e b) (Some d.E) None) (LowIf b) (λ is. eq_low b 46 is (omega arith)) (λ _. e_or_none b)

next_low : (part : Digit) (b : ℕ) → LowIf b (number_next part b)
next_low d.Minus b = cond_both (b == 48) (Some d.Zero) (cond (is_digit b) (Some d.Whole) None) (LowIf b) (λ is. eq_low b 48 is (omega arith)) (λ _. digits_low d.Whole b None tt)
next_low d.Zero b = dot_or_e b
next_low d.Whole b = digits_low d.Whole b (cond (b == 46) (Some d.Dot) (cond (is_e b) (Some d.E) None)) (dot_or_e b)
next_low d.Dot b = digits_low d.Fraction b None tt
next_low d.Fraction b = digits_low d.Fraction b (cond (is_e b) (Some d.E) None) (e_or_none b)
next_low d.E b = cond_both (b == 43 || b == 45) (Some d.Sign) (cond (is_digit b) (Some d.Exponent) None) (LowIf b)
    (λ is. elim (or_cases (b == 43) (b == 45) is) [ inl x ↦ eq_low b 43 x (omega arith) | inr x ↦ eq_low b 45 x (omega arith) ]) (λ _. digits_low d.Exponent b None tt)
next_low d.Sign b = digits_low d.Exponent b None tt
next_low d.Exponent b = digits_low d.Exponent b None tt

completes_low : (part : Digit) (a : List ℕ) → CompletesNumber part a → AllLow a
completes_low part [] h = tt
completes_low part (b ∷ a) (next, is, h) = (subst (LowIf b) is (next_low part b), completes_low next a h)

number_low : (a : List ℕ) → IsNumber a → EndsLow a
number_low a is =
    let r = number_reads a is in
    subst EndsLow (sym r.parts) (all_low r.first r.others (subst (LowIf r.first) r.begins (start_low r.first)) (completes_low r.part r.others r.completes))

-- a byte between ASCII and 256
abbrev high : ℕ → Bool
high b = nat_le 128 b && nat_le b 255

none_is : (kind : Kind) → ◌≡◌ {A = Option Kind} None (Some kind) → ⊥
none_is kind e = cc

mark_low : (b : ℕ) (kind : Kind) → b < 256 → mark_of b ≡ Some kind → b < 128
mark_low b kind byte is = go (nat_le 128 b) refl
  where
    below : b ≤ 255 → nat_le b 255 ≡ true
    below le = elim (nat_le b 255) as (λ q. nat_le b 255 ≡ q → nat_le b 255 ≡ true) [ true ↦ λ e. e | false ↦ λ e. absurd (let over : 255 < b = leb-false b 255 e in omega arith) ] refl

    go : (q : Bool) → nat_le 128 b ≡ q → b < 128
    go false e = leb-false 128 b e
    go true e = absurd (none_is kind (sym (not_mark high b (refl, refl, refl, refl, refl, refl, refl, refl, refl, refl, refl, refl, refl, refl) (and_from (nat_le 128 b) (nat_le b 255) e (below (omega arith)))) ∙ is))

string_ends : (w : List ℕ) → IsString w → (u : List ℕ) × (w ≡ u ++ (34 ∷ []))
string_ends _ close = ([], refl)
string_ends _ (plain b w is l) = let t = string_ends w l in (b ∷ t.0, ap (λ (q : List ℕ). b ∷ q) t.1)
string_ends _ (escape e w is l) = let t = string_ends w l in (92 ∷ (e ∷ t.0), ap (λ (q : List ℕ). 92 ∷ (e ∷ q)) t.1)
string_ends _ (unicode x y z u w i j g h l) = let t = string_ends w l in (92 ∷ (117 ∷ (x ∷ (y ∷ (z ∷ (u ∷ t.0))))), ap (λ (q : List ℕ). 92 ∷ (117 ∷ (x ∷ (y ∷ (z ∷ (u ∷ q)))))) t.1)

block_ends : (w : List ℕ) → IsBlock w → (u : List ℕ) × (w ≡ u ++ (34 ∷ (34 ∷ (34 ∷ []))))
block_ends _ grammar.IsBlock.close = ([], refl)
block_ends _ (grammar.IsBlock.escaped w l) = let t = block_ends w l in (92 ∷ (34 ∷ (34 ∷ (34 ∷ t.0))), ap (λ (q : List ℕ). 92 ∷ (34 ∷ (34 ∷ (34 ∷ q)))) t.1)
block_ends _ (grammar.IsBlock.plain b w is x y l) = let t = block_ends w l in (b ∷ t.0, ap (λ (q : List ℕ). b ∷ q) t.1)

quote_low : 34 < 128
quote_low = omega arith

lexeme_ends : (class : Class) (b : ℕ) (bs : List ℕ) → b < 256 → IsLexeme class (b ∷ bs) → EndsLow (b ∷ bs)
lexeme_ends _ _ _ byte (mark kind b is) = record { init = []; last = b; parts = refl; low = mark_low b kind byte is }
lexeme_ends _ _ _ byte dots = record { init = 46 ∷ (46 ∷ []); last = 46; parts = refl; low = omega arith }
lexeme_ends _ _ _ byte (name b bs is every) = all_low b bs (name_start_low b is) (every_low bs every)
lexeme_ends _ b bs byte (number _ is) = number_low (b ∷ bs) is
lexeme_ends _ _ _ byte empty = record { init = 34 ∷ []; last = 34; parts = refl; low = quote_low }
lexeme_ends _ _ _ byte (string b w n is) = let t = string_ends (b ∷ w) is in record { init = 34 ∷ t.0; last = 34; parts = ap (λ (q : List ℕ). 34 ∷ q) t.1; low = quote_low }
lexeme_ends _ _ _ byte (block w is) =
    let t = block_ends w is in
    record {
      init = 34 ∷ (34 ∷ (34 ∷ (t.0 ++ (34 ∷ (34 ∷ [])))));
      last = 34;
      low = quote_low;
      parts = ap (λ (q : List ℕ). 34 ∷ (34 ∷ (34 ∷ q))) (t.1 ∙ sym (append_assoc t.0 (34 ∷ (34 ∷ [])) (34 ∷ [])));
    }

pub after_token : (text : List ℕ) (at : ℕ) (class : Class) (b : ℕ) (bs w : List ℕ) → IsUtf8 text → at ≤ length text → drop at text ≡ (b ∷ bs) ++ w → b < 256 → IsLexeme class (b ∷ bs) → IsCharBoundary text (at + length (b ∷ bs))
after_token text at class b bs w utf8 le e byte is = after_ends_low text at (b ∷ bs) w utf8 le e (lexeme_ends class b bs byte is)

-- ---- behind what is ignored

blank_low : (b : ℕ) → is_blank b ≡ true → b < 128
blank_low b is = go (or_cases (b == 32 || b == 9 || b == 10 || b == 13) (b == 44) is)
  where
    go1 : ((b == 32) ≡ true) ⊎ ((b == 9) ≡ true) → b < 128
    go1 (inl h) = eq_low b 32 h (omega arith)
    go1 (inr h) = eq_low b 9 h (omega arith)

    go2 : ((b == 32 || b == 9) ≡ true) ⊎ ((b == 10) ≡ true) → b < 128
    go2 (inl h) = go1 (or_cases (b == 32) (b == 9) h)
    go2 (inr h) = eq_low b 10 h (omega arith)

    go3 : ((b == 32 || b == 9 || b == 10) ≡ true) ⊎ ((b == 13) ≡ true) → b < 128
    go3 (inl h) = go2 (or_cases (b == 32 || b == 9) (b == 10) h)
    go3 (inr h) = eq_low b 13 h (omega arith)

    go : ((b == 32 || b == 9 || b == 10 || b == 13) ≡ true) ⊎ ((b == 44) ≡ true) → b < 128
    go (inl h) = go3 (or_cases (b == 32 || b == 9 || b == 10) (b == 13) h)
    go (inr h) = eq_low b 44 h (omega arith)

control_low : (b : ℕ) → is_inline b ≡ false → b < 128
control_low b outside = go (nat_le 32 b) refl
  where
    differ : {q : Bool} → q ≡ true → q ≡ false → ⊥
    differ t f = cc

    go : (q : Bool) → nat_le 32 b ≡ q → b < 128
    go true e = absurd (differ (or_left (nat_le 32 b) (b == 9) e) outside)
    go false e = let below : b < 32 = leb-false 32 b e in omega arith

-- U+FEFF
encoded : encode 65279 ≡ 239 ∷ (187 ∷ (191 ∷ []))
unfolding encode
encoded = refl

after_mark : (text : List ℕ) (at : ℕ) (w : List ℕ) → IsUtf8 text → IsCharBoundary text at → at ≤ length text → drop at text ≡ 239 ∷ (187 ∷ (191 ∷ w)) → IsCharBoundary text (at + 3)
after_mark text at w utf8 bound le e = IsCharBoundary-past_char text w at 65279 le (IsUtf8-drop text at utf8 bound) (e ∙ ap (λ (q : List ℕ). q ++ w) (sym encoded))

pub after_ignored : (text : List ℕ) (at : ℕ) (a w : List ℕ) → IsUtf8 text → IsCharBoundary text at → at ≤ length text → drop at text ≡ a ++ w → IsIgnored a w → IsCharBoundary text (at + length a)
after_ignored text at _ w utf8 bound le e (blank b is) = after_ends_low text at (b ∷ []) w utf8 le e (record { init = []; last = b; parts = refl; low = blank_low b is })
after_ignored text at _ w utf8 bound le e byte_order_mark = after_mark text at w utf8 bound le e
after_ignored text at _ [] utf8 bound le e (comment a every stops) =
    let same : length text ≡ at + length (35 ∷ a) = omega (arith, ap length e, length-drop at text, length-append (35 ∷ a) []) in
    subst (IsCharBoundary text) same (IsCharBoundary-end text)
after_ignored text at _ (b ∷ w) utf8 bound le e (comment a every stops) = before_low text at (35 ∷ a) b w le e (control_low b stops)

-- ---- a byte order mark is not cut by the end of a text

pub cut_one : IsUtf8 (239 ∷ []) → ⊥
unfolding chars
cut_one u = nil (encodes-chars (239 ∷ []) u)
  where
    nil : ◌≡◌ {A = List ℕ} [] (239 ∷ []) → ⊥
    nil e = cc

pub cut_two : (x : ℕ) → IsUtf8 (239 ∷ (x ∷ [])) → ⊥
unfolding chars
cut_two x u = nil (encodes-chars (239 ∷ (x ∷ [])) u)
  where
    nil : ◌≡◌ {A = List ℕ} [] (239 ∷ (x ∷ [])) → ⊥
    nil e = cc

-- ---- between quotes

drop_none : (a : List ℕ) → drop 0 a ≡ a
drop_none a = refl

pub string_quoted : (a : List ℕ) → IsUtf8 a → IsLexeme c.Str a → IsQuoted 1 a
string_quoted _ utf8 (string b w n is) = go (string_ends (b ∷ w) is)
  where
    go : ((u : List ℕ) × (b ∷ w ≡ u ++ (34 ∷ []))) → IsQuoted 1 (34 ∷ (b ∷ w))
    go (u, e) =
        let same : 0 + length (34 ∷ u) ≡ length (34 ∷ (b ∷ w)) - 1 = omega (arith, ap length e, length-append u (34 ∷ [])) in
        record {
          room = omega arith;
          front = after_low (34 ∷ (b ∷ w)) 0 [] 34 (b ∷ w) utf8 (omega arith) refl quote_low;
          back = subst (IsCharBoundary (34 ∷ (b ∷ w))) same (before_low (34 ∷ (b ∷ w)) 0 (34 ∷ u) 34 [] (omega arith) (ap (λ (q : List ℕ). 34 ∷ q) e) quote_low);
        }

pub block_quoted : (a : List ℕ) → IsUtf8 a → IsLexeme c.Block a → IsQuoted 3 a
block_quoted _ utf8 (block w is) = go (block_ends w is)
  where
    go : ((u : List ℕ) × (w ≡ u ++ (34 ∷ (34 ∷ (34 ∷ []))))) → IsQuoted 3 (34 ∷ (34 ∷ (34 ∷ w)))
    go (u, e) =
        let same : 0 + length (34 ∷ (34 ∷ (34 ∷ u))) ≡ length (34 ∷ (34 ∷ (34 ∷ w))) - 3 = omega (arith, ap length e, length-append u (34 ∷ (34 ∷ (34 ∷ [])))) in
        let long : length w ≡ length u + 3 = omega (arith, ap length e, length-append u (34 ∷ (34 ∷ (34 ∷ [])))) in
        record {
          room = omega arith;
          front = after_low (34 ∷ (34 ∷ (34 ∷ w))) 0 (34 ∷ (34 ∷ [])) 34 w utf8 (omega arith) refl quote_low;
          back = subst (IsCharBoundary (34 ∷ (34 ∷ (34 ∷ w)))) same (before_low (34 ∷ (34 ∷ (34 ∷ w))) 0 (34 ∷ (34 ∷ (34 ∷ u))) 34 (34 ∷ (34 ∷ [])) (omega arith) (ap (λ (q : List ℕ). 34 ∷ (34 ∷ (34 ∷ q))) e) quote_low);
        }
