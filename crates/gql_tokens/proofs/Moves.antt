-- What each byte does to a token is what the lexical grammar says.
use Rattle.std.proofs.Common.{◌≡◌, ℕ, ◌+◌, ◌<◌, ◌≤◌, Bool, true, false, cond, List, [], ◌∷◌, ◌++◌, Option, Some, None, refl, sym, ap, subst, ◌∙◌, arith, ◌⊎◌, inl, inr}
use Rattle.std.specs.Prelude.{◌==◌, ◌||◌, ◌&&◌, not, nat_le, codes}
use Rattle.std.proofs.lemmas.Bool.{eqb-true, ne_eqb, or_cases, or_left, or_right, or_from, or_parts, and_parts, and_from, and_cases, not_from_false, cond-true, cond-false, cond_both}
use Rattle.gql_tokens.specs.declared.kinds.Kind.{Kind}
use Rattle.gql_tokens.specs.declared.kinds.Kind.TheVariants as k
use Rattle.gql_tokens.specs.declared.numbers.Digit.{Digit}
use Rattle.gql_tokens.specs.declared.numbers.Digit.TheVariants as d
use Rattle.gql_tokens.specs.declared.scanner.Class.{Class}
use Rattle.gql_tokens.specs.declared.scanner.Class.TheVariants as c
use Rattle.gql_tokens.specs.declared.scanner.Chars.TheVariants as s
use Rattle.gql_tokens.specs.declared.scanner.Marks.{Marks}
use Rattle.gql_tokens.specs.declared.scanner.Marks.TheVariants as q
use Rattle.gql_tokens.specs.declared.scanner.State.{State}
use Rattle.gql_tokens.specs.declared.scanner.State.TheVariants as st
use Rattle.gql_tokens.specs.declared.scanner.Move.{Move}
use Rattle.gql_tokens.specs.declared.scanner.Move.TheVariants as m
use Rattle.gql_tokens.specs.Numbers.{is_digit, is_e}
use Rattle.gql_tokens.specs.Lexical.{is_inline, is_name_start, is_name_continue, is_escape, is_hex, is_plain, is_block_char, lengthens_number, is_quote, IsString, close, plain, escape, unicode, IsBlock, Every, Stops, MayFollow, begins}
use Rattle.gql_tokens.specs.Lexical as grammar
use Rattle.gql_tokens.specs.Scanning.{number_next, may_end, CompletesNumber, number_by, pending, plain_move, escape_move, hex_move, chars_next, on_quote, block_next, dot_move, name_move, next, Hex, QuotesLeft, Left}

-- what a move says of the bytes that complete a token
abbrev pub Moves : State → ℕ → Move → Type 0
Moves s b (m.Go after) = ((class : Class) (a : List ℕ) → Left s class (b ∷ a) → Left after class a) × ((class : Class) (a : List ℕ) → Left after class a → Left s class (b ∷ a))
    × ((class : Class) (w : List ℕ) → Left s class [] → MayFollow class (b ∷ w) → ⊥)
Moves s b (m.Done found) = ((class : Class) (a : List ℕ) → Left s class (b ∷ a) → (class ≡ found) × (a ≡ [])) × Left s found (b ∷ []) × ((class : Class) → Left s class [] → ⊥)
    × ((w : List ℕ) → MayFollow found w)
Moves s b (m.Stop found) = ((class : Class) (a : List ℕ) → Left s class (b ∷ a) → ⊥) × Left s found [] × ((class : Class) → Left s class [] → class ≡ found)
    × ((w : List ℕ) → MayFollow found (b ∷ w))
Moves s b m.Bad = ((class : Class) (a : List ℕ) → Left s class (b ∷ a) → ⊥) × ((class : Class) (w : List ℕ) → Left s class [] → MayFollow class (b ∷ w) → ⊥)

differ : {b : Bool} → b ≡ true → b ≡ false → ⊥
differ x y = cc

first_is : (b x : ℕ) (a v : List ℕ) → b ∷ a ≡ x ∷ v → b ≡ x
first_is b x a v e = cc

rest_is : (b x : ℕ) (a v : List ℕ) → b ∷ a ≡ x ∷ v → a ≡ v
rest_is b x a v e = cc

-- ---- dots and names

dot_moves : (b : ℕ) → Moves st.Dot b (dot_move b (m.Go st.Dots))
dot_moves b = cond_both (b == 46) (m.Go st.Dots) m.Bad (Moves st.Dot b)
    (λ is. (λ class a l. (l.0, rest_is b 46 a (46 ∷ []) l.1), λ class a l. (l.0, cc (eqb-true b 46 is, l.1)), λ class w l f. absurd cc))
    (λ not. (λ class a l. differ (ap (λ (x : ℕ). x == 46) (first_is b 46 a (46 ∷ []) l.1)) not, λ class w l f. absurd cc))

dots_moves : (b : ℕ) → Moves st.Dots b (dot_move b (m.Done (c.Mark k.Dots)))
dots_moves b = cond_both (b == 46) (m.Done (c.Mark k.Dots)) m.Bad (Moves st.Dots b)
    (λ is. (λ class a l. (l.0, rest_is b 46 a [] l.1), (refl, cc (eqb-true b 46 is)), λ class l. absurd cc, λ w. tt))
    (λ not. (λ class a l. differ (ap (λ (x : ℕ). x == 46) (first_is b 46 a [] l.1)) not, λ class w l f. absurd cc))

name_moves : (b : ℕ) → Moves st.Name b (name_move b)
name_moves b = cond_both (is_name_continue b) (m.Go st.Name) (m.Stop c.Name) (Moves st.Name b)
    (λ is. (λ class a l. (l.0, l.1.1), λ class a l. (l.0, (is, l.1)), λ class w l f. differ is (subst (λ (x : Class). MayFollow x (b ∷ w)) l.0 f)))
    (λ not. (λ class a l. differ l.1.0 not, (refl, tt), λ class l. l.0, λ w. not))

-- ---- numbers

-- whatever a number that may end goes on with lengthens it
digit_lengthens : (b : ℕ) → is_digit b ≡ true → lengthens_number b ≡ true
digit_lengthens b is = or_left (is_digit b || b == 46) (is_name_start b) (or_left (is_digit b) (b == 46) is)

dot_lengthens : (b : ℕ) → (b == 46) ≡ true → lengthens_number b ≡ true
dot_lengthens b is = or_left (is_digit b || b == 46) (is_name_start b) (or_right (is_digit b) (b == 46) is)

e_lengthens : (b : ℕ) → is_e b ≡ true → lengthens_number b ≡ true
e_lengthens b is = elim (or_cases (b == 101) (b == 69) is) [ inl h ↦ ap lengthens_number (eqb-true b 101 h) | inr h ↦ ap lengthens_number (eqb-true b 69 h) ]

IsSome_ : Option Digit → Type 0
IsSome_ (Some x) = Unit {0}
IsSome_ None = ⊥

-- some next part, or none
abbrev Lengthens : ℕ → Option Digit → Type 0
Lengthens b (Some next) = lengthens_number b ≡ true
Lengthens b None = Unit {0}

e_or_none : (b : ℕ) → Lengthens b (cond (is_e b) (Some d.E) None)
e_or_none b = cond_both (is_e b) (Some d.E) None (Lengthens b) (λ is. e_lengthens b is) (λ _. tt)

goes_on : (part : Digit) (b : ℕ) → may_end part ≡ true → Lengthens b (number_next part b)
goes_on d.Zero b e = cond_both (b == 46) (Some d.Dot) (cond (is_e b) (Some d.E) None) (Lengthens b) (λ is. dot_lengthens b is) (λ _. e_or_none b)
goes_on d.Whole b e = cond_both (is_digit b) (Some d.Whole) (cond (b == 46) (Some d.Dot) (cond (is_e b) (Some d.E) None)) (Lengthens b) (λ is. digit_lengthens b is)
    (λ _. cond_both (b == 46) (Some d.Dot) (cond (is_e b) (Some d.E) None) (Lengthens b) (λ is. dot_lengthens b is) (λ _. e_or_none b))
goes_on d.Fraction b e = cond_both (is_digit b) (Some d.Fraction) (cond (is_e b) (Some d.E) None) (Lengthens b) (λ is. digit_lengthens b is) (λ _. e_or_none b)
goes_on d.Exponent b e = cond_both (is_digit b) (Some d.Exponent) None (Lengthens b) (λ is. digit_lengthens b is) (λ _. tt)
goes_on d.Minus b e = absurd cc
goes_on d.Dot b e = absurd cc
goes_on d.E b e = absurd cc
goes_on d.Sign b e = absurd cc

some_is : (x y : Digit) → ◌≡◌ {A = Option Digit} (Some x) (Some y) → x ≡ y
some_is x y e = cc

none_is : (x : Digit) → ◌≡◌ {A = Option Digit} None (Some x) → ⊥
none_is x e = cc

number_moves : (part : Digit) (b : ℕ) (o : Option Digit) → number_next part b ≡ o → Moves (st.Number part) b (number_by part b o)
number_moves part b (Some next) is = (
  λ class a l. (l.0, subst (λ (x : Digit). CompletesNumber x a) (some_is l.1.0 next (sym l.1.1 ∙ is)) l.1.2),
  λ class a l. (l.0, (next, is, l.1)),
  λ class w l f. differ (subst (Lengthens b) is (goes_on part b l.1)) (subst (λ (x : Class). MayFollow x (b ∷ w)) l.0 f),
)
number_moves part b None is = cond_both (may_end part && not (lengthens_number b)) (m.Stop c.Number) m.Bad (Moves (st.Number part) b)
    (λ ends. (λ class a l. none_is l.1.0 (sym is ∙ l.1.1), (refl, (and_parts (may_end part) (not (lengthens_number b)) ends).0), λ class l. l.0, λ w. was_not (lengthens_number b) (and_parts (may_end part) (not (lengthens_number b)) ends).1))
    (λ bad. (
      λ class a l. none_is l.1.0 (sym is ∙ l.1.1),
      λ class w l f. differ (and_from (may_end part) (not (lengthens_number b)) l.1 (not_from_false (lengthens_number b) (subst (λ (x : Class). MayFollow x (b ∷ w)) l.0 f))) bad,
    ))
  where
    was_not : (x : Bool) → not x ≡ true → x ≡ false
    was_not false e = refl
    was_not true e = absurd cc

-- ---- strings

-- neither a quote nor a backslash begins here
string_back : (b : ℕ) (a : List ℕ) → (b == 34) ≡ false → (b == 92) ≡ false → IsString (b ∷ a) → (is_inline b ≡ true) × IsString a
string_back _ _ n e close = absurd cc
string_back _ _ n e (plain b w is l) = ((and_parts (is_inline b) (not (b == 34) && not (b == 92)) is).0, l)
string_back _ _ n e (escape x w is l) = absurd cc
string_back _ _ n e (unicode x y z u w i j g h l) = absurd cc

string_on : (b : ℕ) (a : List ℕ) → (b == 34) ≡ false → (b == 92) ≡ false → is_inline b ≡ true → IsString a → IsString (b ∷ a)
string_on b a n e is l = plain b a (and_from (is_inline b) (not (b == 34) && not (b == 92)) is (and_from (not (b == 34)) (not (b == 92)) (not_from_false (b == 34) n) (not_from_false (b == 92) e))) l

closed : (a : List ℕ) → IsString (34 ∷ a) → a ≡ []
closed _ close = refl
closed _ (plain b w is l) = absurd cc

pub no_string : IsString [] → ⊥
no_string h = elim h [ ]

quote_is : (b : ℕ) (a : List ℕ) → (b == 34) ≡ true → IsString (b ∷ a) → IsString (34 ∷ a)
quote_is b a is l = subst (λ (x : ℕ). IsString (x ∷ a)) (eqb-true b 34 is) l

slash_is : (b : ℕ) (a : List ℕ) → (b == 92) ≡ true → IsString (b ∷ a) → IsString (92 ∷ a)
slash_is b a is l = subst (λ (x : ℕ). IsString (x ∷ a)) (eqb-true b 92 is) l

is_slash : (b : ℕ) (a : List ℕ) → (b == 92) ≡ true → IsString (92 ∷ a) → IsString (b ∷ a)
is_slash b a is l = subst (λ (x : ℕ). IsString (x ∷ a)) (sym (eqb-true b 92 is)) l

plain_moves : (b : ℕ) → Moves (st.Str s.Plain) b (plain_move b)
plain_moves b = cond_both (b == 34) (m.Done c.Str) (cond (b == 92) (m.Go (st.Str s.Escape)) (cond (is_inline b) (m.Go (st.Str s.Plain)) m.Bad)) (Moves (st.Str s.Plain) b)
    (λ is. (λ class a l. (l.0, closed a (quote_is b a is l.1)), (refl, subst (λ (x : ℕ). IsString (x ∷ [])) (sym (eqb-true b 34 is)) close), λ class l. no_string l.1, λ w. tt))
    (λ n. cond_both (b == 92) (m.Go (st.Str s.Escape)) (cond (is_inline b) (m.Go (st.Str s.Plain)) m.Bad) (Moves (st.Str s.Plain) b)
    (λ is. (λ class a l. (l.0, slash_is b a is l.1), λ class a l. (l.0, is_slash b a is l.1), λ class w l f. no_string l.1))
    (λ e. cond_both (is_inline b) (m.Go (st.Str s.Plain)) m.Bad (Moves (st.Str s.Plain) b)
    (λ is. (λ class a l. (l.0, (string_back b a n e l.1).1), λ class a l. (l.0, string_on b a n e is l.1), λ class w l f. no_string l.1))
    (λ i. (λ class a l. differ (string_back b a n e l.1).0 i, λ class w l f. no_string l.1))))

-- after a backslash
u_back : (a : List ℕ) → IsString (92 ∷ (117 ∷ a)) → Hex (Hex (Hex (Hex IsString))) a
u_back _ (plain b w is l) = absurd cc
u_back _ (escape x w is l) = absurd cc
u_back _ (unicode x y z u w i j g h l) = (i, (j, (g, (h, l))))

u_on : (a : List ℕ) → Hex (Hex (Hex (Hex IsString))) a → IsString (92 ∷ (117 ∷ a))
u_on [] h = absurd h
u_on (x ∷ []) h = absurd h.1
u_on (x ∷ (y ∷ [])) h = absurd h.1.1
u_on (x ∷ (y ∷ (z ∷ []))) h = absurd h.1.1.1
u_on (x ∷ (y ∷ (z ∷ (u ∷ w)))) h = unicode x y z u w h.0 h.1.0 h.1.1.0 h.1.1.1.0 h.1.1.1.1

escape_back : (b : ℕ) (a : List ℕ) → (b == 117) ≡ false → IsString (92 ∷ (b ∷ a)) → (is_escape b ≡ true) × IsString a
escape_back _ _ n (plain b w is l) = absurd cc
escape_back _ _ n (escape x w is l) = (is, l)
escape_back _ _ n (unicode x y z u w i j g h l) = absurd cc

pub no_escape : IsString (92 ∷ []) → ⊥
no_escape (plain b w is l) = absurd cc

escape_moves : (b : ℕ) → Moves (st.Str s.Escape) b (escape_move b)
escape_moves b = cond_both (b == 117) (m.Go (st.Str s.Four)) (cond (is_escape b) (m.Go (st.Str s.Plain)) m.Bad) (Moves (st.Str s.Escape) b)
    (λ is. (
      λ class a l. (l.0, u_back a (subst (λ (x : ℕ). IsString (92 ∷ (x ∷ a))) (eqb-true b 117 is) l.1)),
      λ class a l. (l.0, subst (λ (x : ℕ). IsString (92 ∷ (x ∷ a))) (sym (eqb-true b 117 is)) (u_on a l.1)),
      λ class w l f. no_escape l.1,
    ))
    (λ n. cond_both (is_escape b) (m.Go (st.Str s.Plain)) m.Bad (Moves (st.Str s.Escape) b)
    (λ is. (λ class a l. (l.0, (escape_back b a n l.1).1), λ class a l. (l.0, escape b a is l.1), λ class w l f. no_escape l.1))
    (λ e. (λ class a l. differ (escape_back b a n l.1).0 e, λ class w l f. no_escape l.1)))

hex_moves_ : (b : ℕ) (K : List ℕ → Type 0) (before after : State)
    → ((class : Class) (a : List ℕ) → Left before class (b ∷ a) → Hex K (b ∷ a) × (class ≡ c.Str)) → ((class : Class) (a : List ℕ) → Hex K (b ∷ a) → class ≡ c.Str → Left before class (b ∷ a))
    → ((class : Class) (a : List ℕ) → Left after class a → K a × (class ≡ c.Str)) → ((class : Class) (a : List ℕ) → K a → class ≡ c.Str → Left after class a)
    → ((class : Class) → Left before class [] → ⊥) → Moves before b (cond (is_hex b) (m.Go after) m.Bad)
hex_moves_ b K before after to from to2 from2 none = cond_both (is_hex b) (m.Go after) m.Bad (Moves before b)
    (λ is. (λ class a l. let h = to class a l in from2 class a h.0.1 h.1, λ class a l. let h = to2 class a l in from class a (is, h.0) h.1, λ class w l f. none class l))
    (λ n. (λ class a l. differ (to class a l).0.0 n, λ class w l f. none class l))

four_moves : (b : ℕ) → Moves (st.Str s.Four) b (hex_move b s.Three)
four_moves b = hex_moves_ b (Hex (Hex (Hex IsString))) (st.Str s.Four) (st.Str s.Three) (λ class a l. (l.1, l.0)) (λ class a h e. (e, h)) (λ class a l. (l.1, l.0)) (λ class a h e. (e, h)) (λ class l. l.1)

three_moves : (b : ℕ) → Moves (st.Str s.Three) b (hex_move b s.Two)
three_moves b = hex_moves_ b (Hex (Hex IsString)) (st.Str s.Three) (st.Str s.Two) (λ class a l. (l.1, l.0)) (λ class a h e. (e, h)) (λ class a l. (l.1, l.0)) (λ class a h e. (e, h)) (λ class l. l.1)

two_moves : (b : ℕ) → Moves (st.Str s.Two) b (hex_move b s.One)
two_moves b = hex_moves_ b (Hex IsString) (st.Str s.Two) (st.Str s.One) (λ class a l. (l.1, l.0)) (λ class a h e. (e, h)) (λ class a l. (l.1, l.0)) (λ class a h e. (e, h)) (λ class l. l.1)

one_moves : (b : ℕ) → Moves (st.Str s.One) b (hex_move b s.Plain)
one_moves b = hex_moves_ b IsString (st.Str s.One) (st.Str s.Plain) (λ class a l. (l.1, l.0)) (λ class a h e. (e, h)) (λ class a l. (l.1, l.0)) (λ class a h e. (e, h)) (λ class l. l.1)

-- ---- block strings

abbrev Quotes : List ℕ
Quotes = 34 ∷ (34 ∷ (34 ∷ []))

abbrev Escaped : List ℕ
Escaped = 92 ∷ (34 ∷ (34 ∷ (34 ∷ [])))

-- neither the closing quotes nor escaped ones begin here
abbrev Alone : ℕ → List ℕ → Type 0
Alone b w = (begins Quotes (b ∷ w) ≡ false) × (begins Escaped (b ∷ w) ≡ false)

block_back : (b : ℕ) (a : List ℕ) → Alone b a → IsBlock (b ∷ a) → (is_block_char b ≡ true) × IsBlock a
block_back _ _ n grammar.IsBlock.close = absurd cc
block_back _ _ n (grammar.IsBlock.escaped w l) = absurd cc
block_back _ _ n (grammar.IsBlock.plain b w is q e l) = (is, l)

block_on : (b : ℕ) (a : List ℕ) → Alone b a → is_block_char b ≡ true → IsBlock a → IsBlock (b ∷ a)
block_on b a n is l = grammar.IsBlock.plain b a is n.0 n.1 l

stops_first : (x y : Bool) → x ≡ false → (x && y) ≡ false
stops_first x y h = ap (λ (z : Bool). z && y) h

no_block : IsBlock [] → ⊥
no_block h = elim h [ ]

alone : (b : ℕ) (a : List ℕ) → (b == 34) ≡ false → (b == 92) ≡ false → Alone b a
alone b a n e = (stops_first (b == 34) (begins (34 ∷ (34 ∷ [])) a) n, stops_first (b == 92) (begins (34 ∷ (34 ∷ (34 ∷ []))) a) e)

one_alone : (b : ℕ) (a : List ℕ) → (b == 34) ≡ false → Alone 34 (b ∷ a)
one_alone b a n = (stops_first (b == 34) (begins (34 ∷ []) a) n, refl)

two_alone : (b : ℕ) (a : List ℕ) → (b == 34) ≡ false → Alone 34 (34 ∷ (b ∷ a))
two_alone b a n = (stops_first (b == 34) true n, refl)

slash_alone : (b : ℕ) (a : List ℕ) → (b == 34) ≡ false → Alone 92 (b ∷ a)
slash_alone b a n = (refl, stops_first (b == 34) (begins (34 ∷ (34 ∷ [])) a) n)

slash_one_alone : (b : ℕ) (a : List ℕ) → (b == 34) ≡ false → Alone 92 (34 ∷ (b ∷ a))
slash_one_alone b a n = (refl, stops_first (b == 34) (begins (34 ∷ []) a) n)

slash_two_alone : (b : ℕ) (a : List ℕ) → (b == 34) ≡ false → Alone 92 (34 ∷ (34 ∷ (b ∷ a)))
slash_two_alone b a n = (refl, stops_first (b == 34) true n)

-- where no quote follows, what was pending are characters
clear_back : (marks : Marks) (b : ℕ) (a : List ℕ) → (b == 34) ≡ false → IsBlock (pending marks (b ∷ a)) → IsBlock (b ∷ a)
clear_back q.Plain b a n l = l
clear_back q.One b a n l = (block_back 34 (b ∷ a) (one_alone b a n) l).1
clear_back q.Two b a n l = (block_back 34 (b ∷ a) (one_alone b a n) (block_back 34 (34 ∷ (b ∷ a)) (two_alone b a n) l).1).1
clear_back q.Slash b a n l = (block_back 92 (b ∷ a) (slash_alone b a n) l).1
clear_back q.SlashOne b a n l = (block_back 34 (b ∷ a) (one_alone b a n) (block_back 92 (34 ∷ (b ∷ a)) (slash_one_alone b a n) l).1).1
clear_back q.SlashTwo b a n l = (block_back 34 (b ∷ a) (one_alone b a n) (block_back 34 (34 ∷ (b ∷ a)) (two_alone b a n) (block_back 92 (34 ∷ (34 ∷ (b ∷ a))) (slash_two_alone b a n) l).1).1).1

pub clear_on : (marks : Marks) (b : ℕ) (a : List ℕ) → (b == 34) ≡ false → IsBlock (b ∷ a) → IsBlock (pending marks (b ∷ a))
clear_on q.Plain b a n l = l
clear_on q.One b a n l = block_on 34 (b ∷ a) (one_alone b a n) refl l
clear_on q.Two b a n l = block_on 34 (34 ∷ (b ∷ a)) (two_alone b a n) refl (block_on 34 (b ∷ a) (one_alone b a n) refl l)
clear_on q.Slash b a n l = block_on 92 (b ∷ a) (slash_alone b a n) refl l
clear_on q.SlashOne b a n l = block_on 92 (34 ∷ (b ∷ a)) (slash_one_alone b a n) refl (block_on 34 (b ∷ a) (one_alone b a n) refl l)
clear_on q.SlashTwo b a n l = block_on 92 (34 ∷ (34 ∷ (b ∷ a))) (slash_two_alone b a n) refl (block_on 34 (34 ∷ (b ∷ a)) (two_alone b a n) refl (block_on 34 (b ∷ a) (one_alone b a n) refl l))

inside : (b : ℕ) (w : List ℕ) → IsBlock (b ∷ w) → ((v : List ℕ) → w ≡ 34 ∷ v → ⊥) → IsBlock w
inside _ _ grammar.IsBlock.close n = absurd (n (34 ∷ []) refl)
inside _ _ (grammar.IsBlock.escaped w l) n = absurd (n (34 ∷ (34 ∷ w)) refl)
inside _ _ (grammar.IsBlock.plain b w is q e l) n = l

no_one : IsBlock (34 ∷ []) → ⊥
no_one (grammar.IsBlock.plain b w is x y l) = no_block l

no_two : IsBlock (34 ∷ (34 ∷ [])) → ⊥
no_two (grammar.IsBlock.plain b w is x y l) = no_one l

no_slash : IsBlock (92 ∷ []) → ⊥
no_slash (grammar.IsBlock.plain b w is x y l) = no_block l

no_slash_one : IsBlock (92 ∷ (34 ∷ [])) → ⊥
no_slash_one (grammar.IsBlock.plain b w is x y l) = no_one l

no_slash_two : IsBlock (92 ∷ (34 ∷ (34 ∷ []))) → ⊥
no_slash_two (grammar.IsBlock.plain b w is x y l) = no_two l

pub none_pending : (marks : Marks) → IsBlock (pending marks []) → ⊥
none_pending q.Plain l = no_block l
none_pending q.One l = no_one l
none_pending q.Two l = no_two l
none_pending q.Slash l = no_slash l
none_pending q.SlashOne l = no_slash_one l
none_pending q.SlashTwo l = no_slash_two l

shut : (a : List ℕ) → IsBlock (34 ∷ (34 ∷ (34 ∷ a))) → a ≡ []
shut _ grammar.IsBlock.close = refl
shut _ (grammar.IsBlock.plain b w is q e l) = absurd cc

escaped_back : (a : List ℕ) → IsBlock (92 ∷ (34 ∷ (34 ∷ (34 ∷ a)))) → IsBlock a
escaped_back _ (grammar.IsBlock.escaped w l) = l
escaped_back _ (grammar.IsBlock.plain b w is q e l) = absurd cc

quote_moves : (marks : Marks) → Moves (st.Block marks) 34 (on_quote marks)
quote_moves q.Plain = (λ class a l. l, λ class a l. l, λ class w l f. none_pending q.Plain l.1)
quote_moves q.One = (λ class a l. l, λ class a l. l, λ class w l f. none_pending q.One l.1)
quote_moves q.Two = (λ class a l. (l.0, shut a l.1), (refl, grammar.IsBlock.close), λ class l. none_pending q.Two l.1, λ w. tt)
quote_moves q.Slash = (λ class a l. l, λ class a l. l, λ class w l f. none_pending q.Slash l.1)
quote_moves q.SlashOne = (λ class a l. l, λ class a l. l, λ class w l f. none_pending q.SlashOne l.1)
quote_moves q.SlashTwo = (λ class a l. (l.0, escaped_back a l.1), λ class a l. (l.0, grammar.IsBlock.escaped a l.1), λ class w l f. none_pending q.SlashTwo l.1)

block_moves : (marks : Marks) (b : ℕ) → Moves (st.Block marks) b (block_next marks b)
block_moves marks b = cond_both (b == 34) (on_quote marks) (cond (b == 92) (m.Go (st.Block q.Slash)) (cond (is_block_char b) (m.Go (st.Block q.Plain)) m.Bad)) (Moves (st.Block marks) b)
    (λ is. subst (λ (x : ℕ). Moves (st.Block marks) x (on_quote marks)) (sym (eqb-true b 34 is)) (quote_moves marks))
    (λ n. cond_both (b == 92) (m.Go (st.Block q.Slash)) (cond (is_block_char b) (m.Go (st.Block q.Plain)) m.Bad) (Moves (st.Block marks) b)
    (λ is. (
      λ class a l. (l.0, subst (λ (x : ℕ). IsBlock (x ∷ a)) (eqb-true b 92 is) (clear_back marks b a n l.1)),
      λ class a l. (l.0, clear_on marks b a n (subst (λ (x : ℕ). IsBlock (x ∷ a)) (sym (eqb-true b 92 is)) l.1)),
      λ class w l f. none_pending marks l.1,
    ))
    (λ e. cond_both (is_block_char b) (m.Go (st.Block q.Plain)) m.Bad (Moves (st.Block marks) b)
    (λ is. (λ class a l. (l.0, (block_back b a (alone b a n e) (clear_back marks b a n l.1)).1), λ class a l. (l.0, clear_on marks b a n (block_on b a (alone b a n e) is l.1)), λ class w l f. none_pending marks l.1))
    (λ i. (λ class a l. differ (block_back b a (alone b a n e) (clear_back marks b a n l.1)).0 i, λ class w l f. none_pending marks l.1))))

-- ---- after one quote, and after two

quotes_moves : (b : ℕ) → Moves st.Quotes b (cond (b == 34) (m.Go (st.Block q.Plain)) (m.Stop c.Empty))
quotes_moves b = cond_both (b == 34) (m.Go (st.Block q.Plain)) (m.Stop c.Empty) (Moves st.Quotes b)
    (λ is. (λ class a l. third class a l, λ class a l. inr (l.0, a, ap (λ (x : ℕ). x ∷ a) (eqb-true b 34 is), l.1), λ class w l f. at_end class w is l f))
    (λ n. (λ class a l. not_third class a n l, inl (refl, refl), λ class l. is_empty class l, λ w. n))
  where
    third : (class : Class) (a : List ℕ) → QuotesLeft class (b ∷ a) → (class ≡ c.Block) × IsBlock a
    third class a (inl (e, none)) = absurd cc
    third class a (inr (e, w, cut, l)) = (e, subst IsBlock (sym (rest_is b 34 a w cut)) l)

    at_end : (class : Class) (w : List ℕ) → (b == 34) ≡ true → QuotesLeft class [] → MayFollow class (b ∷ w) → ⊥
    at_end class w is (inl (e, none)) f = differ is (subst (λ (x : Class). MayFollow x (b ∷ w)) e f)
    at_end class w is (inr (e, v, cut, l)) f = absurd cc

    not_third : (class : Class) (a : List ℕ) → (b == 34) ≡ false → QuotesLeft class (b ∷ a) → ⊥
    not_third class a n (inl (e, none)) = absurd cc
    not_third class a n (inr (e, w, cut, l)) = differ (ap (λ (x : ℕ). x == 34) (first_is b 34 a w cut)) n

    is_empty : (class : Class) → QuotesLeft class [] → class ≡ c.Empty
    is_empty class (inl (e, none)) = e
    is_empty class (inr (e, w, cut, l)) = absurd cc

quote_back : (b : ℕ) (class : Class) (a : List ℕ) → (b == 34) ≡ false → Left st.Quote class (b ∷ a) → Left (st.Str s.Plain) class (b ∷ a)
quote_back b class a n (inl (w, cut, l)) = absurd (differ (ap (λ (x : ℕ). x == 34) (first_is b 34 a w cut)) n)
quote_back b class a n (inr (e, no_quote, l)) = (e, l)

pub no_quote_left : (class : Class) → Left st.Quote class [] → ⊥
no_quote_left class (inl (w, cut, l)) = absurd cc
no_quote_left class (inr (e, no_quote, l)) = no_string l

as_string : (b : ℕ) (move : Move) → (b == 34) ≡ false → Moves (st.Str s.Plain) b move → Moves st.Quote b move
as_string b (m.Go after) n h = (λ class a l. h.0 class a (quote_back b class a n l), λ class a l. let k = h.1 class a l in inr (k.0, stops_first (b == 34) true n, k.1), λ class w l f. no_quote_left class l)
as_string b (m.Done found) n h = (λ class a l. h.0 class a (quote_back b class a n l), inr (h.1.0, stops_first (b == 34) true n, h.1.1), λ class l. no_quote_left class l, h.3)
as_string b (m.Stop found) n h = absurd (no_string h.1.1)
as_string b m.Bad n h = (λ class a l. h.0 class a (quote_back b class a n l), λ class w l f. no_quote_left class l)

after_quote : (b : ℕ) → Moves st.Quote b (cond (b == 34) (m.Go st.Quotes) (plain_move b))
after_quote b = cond_both (b == 34) (m.Go st.Quotes) (plain_move b) (Moves st.Quote b)
    (λ is. (λ class a l. second class a is l, λ class a l. inl (a, ap (λ (x : ℕ). x ∷ a) (eqb-true b 34 is), l), λ class w l f. no_quote_left class l))
    (λ n. as_string b (plain_move b) n (plain_moves b))
  where
    second : (class : Class) (a : List ℕ) → (b == 34) ≡ true → Left st.Quote class (b ∷ a) → QuotesLeft class a
    second class a is (inl (w, cut, l)) = subst (QuotesLeft class) (sym (rest_is b 34 a w cut)) l
    second class a is (inr (e, no_quote, l)) = absurd (differ (and_from (b == 34) true is refl) no_quote)

pub moves : (s : State) (b : ℕ) → Moves s b (next s b)
unfolding next
moves st.Dot b = dot_moves b
moves st.Dots b = dots_moves b
moves st.Name b = name_moves b
moves (st.Number part) b = number_moves part b (number_next part b) refl
moves st.Quote b = after_quote b
moves st.Quotes b = quotes_moves b
moves (st.Str s.Plain) b = plain_moves b
moves (st.Str s.Escape) b = escape_moves b
moves (st.Str s.Four) b = four_moves b
moves (st.Str s.Three) b = three_moves b
moves (st.Str s.Two) b = two_moves b
moves (st.Str s.One) b = one_moves b
moves (st.Block marks) b = block_moves marks b
