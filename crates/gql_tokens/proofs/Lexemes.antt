-- The first byte of a token, and that each token is one only.
use Rattle.std.proofs.Common.{◌≡◌, ℕ, suc, ◌+◌, ◌<◌, ◌≤◌, Bool, true, false, cond, List, [], ◌∷◌, ◌++◌, length, Option, Some, None, refl, sym, ap, subst, ◌∙◌, arith, append_assoc, ◌⊎◌, inl, inr}
use Rattle.std.specs.Prelude.{◌==◌, ◌||◌, ◌&&◌, not, nat_le, codes}
use Rattle.std.proofs.lemmas.Bool.{eqb-true, leb-true, ne_eqb, or_cases, or_left, or_right, or_from, or_parts, and_parts, and_from, and_cases, not_from_false, cond-true, cond-false, cond_both}
use Rattle.gql_tokens.specs.declared.kinds.Kind.{Kind}
use Rattle.gql_tokens.specs.declared.kinds.Kind.TheVariants as k
use Rattle.gql_tokens.specs.declared.numbers.Digit.{Digit}
use Rattle.gql_tokens.specs.declared.numbers.Digit.TheVariants as d
use Rattle.gql_tokens.specs.declared.scanner.Class.{Class}
use Rattle.gql_tokens.specs.declared.scanner.Class.TheVariants as c
use Rattle.gql_tokens.specs.declared.scanner.Chars.TheVariants as s
use Rattle.gql_tokens.specs.declared.scanner.Marks.TheVariants as q
use Rattle.gql_tokens.specs.declared.scanner.State.{State}
use Rattle.gql_tokens.specs.declared.scanner.State.TheVariants as st
use Rattle.gql_tokens.specs.declared.scanner.Move.{Move}
use Rattle.gql_tokens.specs.declared.scanner.Move.TheVariants as m
use Rattle.gql_tokens.specs.declared.scanner.Scan.{Scan}
use Rattle.gql_tokens.specs.declared.scanner.Scan.TheVariants as sc
use Rattle.gql_tokens.specs.Numbers.{is_digit, IsNumber}
use Rattle.gql_tokens.specs.Lexical.{mark_of, is_name_start, is_name_continue, Every, MayFollow, IsString, IsBlock, IsLexeme, mark, dots, name, number, empty, string, block, begins}
use Rattle.gql_tokens.specs.Scanning.{number_start, start_other, start_by, start, scan_by, scan, token_at, CompletesNumber, Left, QuotesLeft}
use Rattle.gql_tokens.proofs.NumberTexts.{ReadsNumber, number_reads, reads_number}
use Rattle.gql_tokens.proofs.Scans.{Taken, scan_found, scan_once, scan_bad, scan_end, end_scan, heads_are, tails_are}

differ : {b : Bool} → b ≡ true → b ≡ false → ⊥
differ x y = cc

some_is : {A : Type 0} (x y : A) → Some x ≡ Some y → x ≡ y
some_is x y e = cc

none_is : {A : Type 0} (x : A) → ◌≡◌ {A = Option A} None (Some x) → ⊥
none_is x e = cc

-- ---- what begins with which byte

-- a test that no mark passes
abbrev pub NoMark : (ℕ → Bool) → Type 0
NoMark P = (P 33 ≡ false) × (P 36 ≡ false) × (P 38 ≡ false) × (P 40 ≡ false) × (P 41 ≡ false) × (P 58 ≡ false) × (P 61 ≡ false) × (P 64 ≡ false) × (P 91 ≡ false) × (P 93 ≡ false) × (P 123 ≡ false) × (P 124 ≡ false)
    × (P 125 ≡ false) × (P 256 ≡ false)

pub not_mark : (P : ℕ → Bool) (b : ℕ) → NoMark P → P b ≡ true → mark_of b ≡ None
not_mark P b n h = cond_both (b == 33) _ _ Nothing (at 33 n.0) (λ _. cond_both (b == 36) _ _ Nothing (at 36 n.1) (λ _. cond_both (b == 38) _ _ Nothing (at 38 n.2) (λ _. cond_both (b == 40) _ _ Nothing (at 40 n.3) (λ _.
    cond_both (b == 41) _ _ Nothing (at 41 n.4) (λ _. cond_both (b == 58) _ _ Nothing (at 58 n.5) (λ _. cond_both (b == 61) _ _ Nothing (at 61 n.6) (λ _. cond_both (b == 64) _ _ Nothing (at 64 n.7) (λ _.
    cond_both (b == 91) _ _ Nothing (at 91 n.8) (λ _. cond_both (b == 93) _ _ Nothing (at 93 n.9) (λ _. cond_both (b == 123) _ _ Nothing (at 123 n.10) (λ _. cond_both (b == 124) _ _ Nothing (at 124 n.11) (λ _.
    cond_both (b == 125) _ _ Nothing (at 125 n.12) (λ _. cond_both (b == 256) _ _ Nothing (at 256 n.13) (λ _. refl))))))))))))))
  where
    Nothing : Option Kind → Type 0
    Nothing o = o ≡ None

    at : {o : Option Kind} (x : ℕ) → P x ≡ false → (b == x) ≡ true → o ≡ None
    at x fails is = absurd (differ (sym (ap P (eqb-true b x is)) ∙ h) fails)

starts_number : ℕ → Bool
starts_number b = b == 45 || (b == 48 || is_digit b)

number_starts : (b : ℕ) (part : Digit) → number_start b ≡ Some part → starts_number b ≡ true
unfolding starts_number
number_starts b part = cond_both (b == 45) (Some d.Minus) (cond (b == 48) (Some d.Zero) (cond (is_digit b) (Some d.Whole) None)) Starts
    (λ is e. or_left (b == 45) (b == 48 || is_digit b) is)
    (λ _. cond_both (b == 48) (Some d.Zero) (cond (is_digit b) (Some d.Whole) None) Starts
    (λ is e. or_right (b == 45) (b == 48 || is_digit b) (or_left (b == 48) (is_digit b) is))
    (λ _. cond_both (is_digit b) (Some d.Whole) None Starts (λ is e. or_right (b == 45) (b == 48 || is_digit b) (or_right (b == 48) (is_digit b) is)) (λ _ e. absurd (none_is part e))))
  where
    Starts : Option Digit → Type 0
    Starts o = o ≡ Some part → starts_number b ≡ true

number_unmarked : (b : ℕ) (part : Digit) → number_start b ≡ Some part → mark_of b ≡ None
unfolding starts_number
number_unmarked b part is = not_mark starts_number b (refl, refl, refl, refl, refl, refl, refl, refl, refl, refl, refl, refl, refl, refl) (number_starts b part is)

name_unmarked : (b : ℕ) → is_name_start b ≡ true → mark_of b ≡ None
name_unmarked b is = not_mark is_name_start b (refl, refl, refl, refl, refl, refl, refl, refl, refl, refl, refl, refl, refl, refl) is

digit_no_name : (b : ℕ) → is_digit b ≡ true → is_name_start b ≡ true → ⊥
digit_no_name b is h = go (or_cases ((nat_le 65 b && nat_le b 90) || (nat_le 97 b && nat_le b 122)) (b == 95) h)
  where
    above : b ≤ 57
    above = leb-true b 57 (and_parts (nat_le 48 b) (nat_le b 57) is).1

    letter : ((nat_le 65 b && nat_le b 90) ≡ true) ⊎ ((nat_le 97 b && nat_le b 122) ≡ true) → ⊥
    letter (inl x) = let low : 65 ≤ b = leb-true 65 b (and_parts (nat_le 65 b) (nat_le b 90) x).0 in absurd (omega (arith, above))
    letter (inr x) = let low : 97 ≤ b = leb-true 97 b (and_parts (nat_le 97 b) (nat_le b 122) x).0 in absurd (omega (arith, above))

    go : (((nat_le 65 b && nat_le b 90) || (nat_le 97 b && nat_le b 122)) ≡ true) ⊎ ((b == 95) ≡ true) → ⊥
    go (inl x) = letter (or_cases (nat_le 65 b && nat_le b 90) (nat_le 97 b && nat_le b 122) x)
    go (inr x) = let same : b ≡ 95 = eqb-true b 95 x in absurd (omega (arith, above))

number_no_name : (b : ℕ) (part : Digit) → number_start b ≡ Some part → is_name_start b ≡ true → ⊥
unfolding starts_number
number_no_name b part is h = go (or_cases (b == 45) (b == 48 || is_digit b) (number_starts b part is))
  where
    other : ((b == 48) ≡ true) ⊎ (is_digit b ≡ true) → ⊥
    other (inl x) = differ h (ap is_name_start (eqb-true b 48 x))
    other (inr x) = digit_no_name b x h

    go : ((b == 45) ≡ true) ⊎ ((b == 48 || is_digit b) ≡ true) → ⊥
    go (inl x) = differ h (ap is_name_start (eqb-true b 45 x))
    go (inr x) = other (or_cases (b == 48) (is_digit b) x)

-- ---- the first byte of a token

abbrev pub Starts : ℕ → Move → Type 0
Starts b (m.Go s) = ((class : Class) (a : List ℕ) → IsLexeme class (b ∷ a) → Left s class a) × ((class : Class) (a : List ℕ) → Left s class a → IsLexeme class (b ∷ a))
Starts b (m.Done found) = ((class : Class) (a : List ℕ) → IsLexeme class (b ∷ a) → (class ≡ found) × (a ≡ [])) × IsLexeme found (b ∷ []) × ((w : List ℕ) → MayFollow found w)
Starts b (m.Stop found) = ⊥
Starts b m.Bad = (class : Class) (a : List ℕ) → IsLexeme class (b ∷ a) → ⊥

-- how a number begins
reads_as : (b : ℕ) (a : List ℕ) → IsNumber (b ∷ a) → (part : Digit) × (number_start b ≡ Some part) × CompletesNumber part a
reads_as b a is =
    let r = number_reads (b ∷ a) is in
    (r.part, ap number_start (heads_are b r.first a r.others r.parts) ∙ r.begins, subst (CompletesNumber r.part) (sym (tails_are b r.first a r.others r.parts)) r.completes)

mark_starts : (b : ℕ) (kind : Kind) → mark_of b ≡ Some kind → Starts b (m.Done (c.Mark kind))
mark_starts b kind is = (λ class a l. back b class a is l, mark kind b is, λ w. tt)
  where
    back : (b : ℕ) (class : Class) (a : List ℕ) → mark_of b ≡ Some kind → IsLexeme class (b ∷ a) → (class ≡ c.Mark kind) × (a ≡ [])
    back _ _ _ is (mark other b e) = (ap c.Mark (some_is other kind (sym e ∙ is)), refl)
    back _ _ _ is dots = absurd (none_is kind is)
    back _ _ _ is (name b bs e every) = absurd (none_is kind (sym (name_unmarked b e) ∙ is))
    back b _ a is (number _ e) = let r = reads_as b a e in absurd (none_is kind (sym (number_unmarked b r.0 r.1) ∙ is))
    back _ _ _ is empty = absurd (none_is kind is)
    back _ _ _ is (string b w n e) = absurd (none_is kind is)
    back _ _ _ is (block w e) = absurd (none_is kind is)

number_starts_here : (b : ℕ) (part : Digit) → number_start b ≡ Some part → Starts b (m.Go (st.Number part))
number_starts_here b part is = (λ class a l. back b class a is l, λ class a l. subst (λ (x : Class). IsLexeme x (b ∷ a)) (sym l.0) (number (b ∷ a) (reads_number b a part is l.1)))
  where
    back : (b : ℕ) (class : Class) (a : List ℕ) → number_start b ≡ Some part → IsLexeme class (b ∷ a) → (class ≡ c.Number) × CompletesNumber part a
    back _ _ _ is (mark other b e) = absurd (none_is other (sym (number_unmarked b part is) ∙ e))
    back _ _ _ is dots = absurd (none_is part is)
    back _ _ _ is (name b bs e every) = absurd (number_no_name b part is e)
    back b _ a is (number _ e) = let r = reads_as b a e in (refl, subst (λ (x : Digit). CompletesNumber x a) (some_is r.0 part (sym r.1 ∙ is)) r.2)
    back _ _ _ is empty = absurd (none_is part is)
    back _ _ _ is (string b w n e) = absurd (none_is part is)
    back _ _ _ is (block w e) = absurd (none_is part is)

dot_starts : (b : ℕ) → (b == 46) ≡ true → Starts b (m.Go st.Dot)
dot_starts b is = subst (λ (x : ℕ). Starts x (m.Go st.Dot)) (sym (eqb-true b 46 is)) (λ class a l. back class a l, λ class a l. on class a l.0 l.1)
  where
    back : (class : Class) (a : List ℕ) → IsLexeme class (46 ∷ a) → (class ≡ c.Mark k.Dots) × (a ≡ 46 ∷ (46 ∷ []))
    back _ _ (mark other _ e) = absurd (none_is other e)
    back _ _ dots = (refl, refl)
    back _ _ (name _ bs e every) = absurd cc
    back _ a (number _ e) = let r = reads_as 46 a e in absurd (none_is r.0 r.1)

    on : (class : Class) (a : List ℕ) → class ≡ c.Mark k.Dots → a ≡ 46 ∷ (46 ∷ []) → IsLexeme class (46 ∷ a)
    on class a e cut = rw (e, cut) dots

quote_starts : (b : ℕ) → (b == 34) ≡ true → Starts b (m.Go st.Quote)
quote_starts b is = subst (λ (x : ℕ). Starts x (m.Go st.Quote)) (sym (eqb-true b 34 is)) (λ class a l. back class a l, λ class a l. on class a l)
  where
    stops_first : (x y : Bool) → x ≡ false → (x && y) ≡ false
    stops_first x y h = ap (λ (z : Bool). z && y) h

    back : (class : Class) (a : List ℕ) → IsLexeme class (34 ∷ a) → Left st.Quote class a
    back _ _ (mark other _ e) = absurd (none_is other e)
    back _ _ (name _ bs e every) = absurd cc
    back _ a (number _ e) = let r = reads_as 34 a e in absurd (none_is r.0 r.1)
    back _ _ empty = inl ([], refl, inl (refl, refl))
    back _ _ (string b w n e) = inr (refl, stops_first (b == 34) true n, e)
    back _ _ (block w e) = inl (34 ∷ w, refl, inr (refl, w, refl, e))

    on_quotes : (class : Class) (w : List ℕ) → QuotesLeft class w → IsLexeme class (34 ∷ (34 ∷ w))
    on_quotes class w (inl (e, none)) = rw (e, none) empty
    on_quotes class w (inr (e, v, cut, l)) = rw (e, cut) (block v l)

    on_string : (a : List ℕ) → begins (codes "\"") a ≡ false → IsString a → IsLexeme c.Str (34 ∷ a)
    on_string [] n l = elim l [ ]
    on_string (b ∷ w) n l = string b w (not_quote (b == 34) n) l
      where
        not_quote : (x : Bool) → (x && true) ≡ false → x ≡ false
        not_quote true n = n
        not_quote false n = refl

    on : (class : Class) (a : List ℕ) → Left st.Quote class a → IsLexeme class (34 ∷ a)
    on class a (inl (w, cut, l)) = rw cut (on_quotes class w l)
    on class a (inr (e, n, l)) = rw e (on_string a n l)

name_starts_here : (b : ℕ) → is_name_start b ≡ true → Starts b (m.Go st.Name)
name_starts_here b is = (λ class a l. back b class a is l, λ class a l. subst (λ (x : Class). IsLexeme x (b ∷ a)) (sym l.0) (name b a is l.1))
  where
    back : (b : ℕ) (class : Class) (a : List ℕ) → is_name_start b ≡ true → IsLexeme class (b ∷ a) → (class ≡ c.Name) × Every is_name_continue a
    back _ _ _ is (mark other b e) = absurd (none_is other (sym (name_unmarked b is) ∙ e))
    back _ _ _ is dots = absurd cc
    back _ _ _ is (name b bs e every) = (refl, every)
    back b _ a is (number _ e) = let r = reads_as b a e in absurd (number_no_name b r.0 r.1 is)
    back _ _ _ is empty = absurd cc
    back _ _ _ is (string b w n e) = absurd cc
    back _ _ _ is (block w e) = absurd cc

nothing_starts : (b : ℕ) → mark_of b ≡ None → number_start b ≡ None → (b == 46) ≡ false → (b == 34) ≡ false → is_name_start b ≡ false → Starts b m.Bad
nothing_starts b unmarked no_number n e i class a l = back b class a unmarked no_number n e i l
  where
    back : (b : ℕ) (class : Class) (a : List ℕ) → mark_of b ≡ None → number_start b ≡ None → (b == 46) ≡ false → (b == 34) ≡ false → is_name_start b ≡ false → IsLexeme class (b ∷ a) → ⊥
    back _ _ _ x y n e i (mark other b h) = none_is other (sym x ∙ h)
    back _ _ _ x y n e i dots = absurd cc
    back _ _ _ x y n e i (name b bs h every) = differ h i
    back b _ a x y n e i (number _ h) = let r = reads_as b a h in none_is r.0 (sym y ∙ r.1)
    back _ _ _ x y n e i empty = absurd cc
    back _ _ _ x y n e i (string b w g h) = absurd cc
    back _ _ _ x y n e i (block w h) = absurd cc

other_starts : (b : ℕ) → mark_of b ≡ None → number_start b ≡ None → Starts b (start_other b)
other_starts b x y = cond_both (b == 46) (m.Go st.Dot) (cond (b == 34) (m.Go st.Quote) (cond (is_name_start b) (m.Go st.Name) m.Bad)) (Starts b)
    (λ is. dot_starts b is)
    (λ n. cond_both (b == 34) (m.Go st.Quote) (cond (is_name_start b) (m.Go st.Name) m.Bad) (Starts b)
    (λ is. quote_starts b is)
    (λ e. cond_both (is_name_start b) (m.Go st.Name) m.Bad (Starts b) (λ is. name_starts_here b is) (λ i. nothing_starts b x y n e i)))

pub starts : (b : ℕ) → Starts b (start b)
unfolding start
starts b = go (mark_of b) (number_start b) refl refl
  where
    go : (o : Option Kind) (p : Option Digit) → mark_of b ≡ o → number_start b ≡ p → Starts b (start_by b o p)
    go (Some kind) p is e = mark_starts b kind is
    go None (Some part) is e = number_starts_here b part e
    go None None is e = other_starts b is e

-- ---- tokens are determined

left_once : (t : State) (u v : Class) → Left t u [] → Left t v [] → u ≡ v
left_once st.Dot u v l k = l.0 ∙ sym k.0
left_once st.Dots u v l k = l.0 ∙ sym k.0
left_once st.Name u v l k = l.0 ∙ sym k.0
left_once (st.Number part) u v l k = l.0 ∙ sym k.0
left_once st.Quote u v (inl (w, cut, l)) k = absurd cc
left_once st.Quote u v (inr l) (inl (w, cut, k)) = absurd cc
left_once st.Quote u v (inr l) (inr k) = l.0 ∙ sym k.0
left_once st.Quotes u v (inl l) (inl k) = l.0 ∙ sym k.0
left_once st.Quotes u v (inl l) (inr (e, w, cut, k)) = absurd cc
left_once st.Quotes u v (inr (e, w, cut, l)) k = absurd cc
left_once (st.Str s.Plain) u v l k = l.0 ∙ sym k.0
left_once (st.Str s.Escape) u v l k = l.0 ∙ sym k.0
left_once (st.Str s.Four) u v l k = l.0 ∙ sym k.0
left_once (st.Str s.Three) u v l k = l.0 ∙ sym k.0
left_once (st.Str s.Two) u v l k = l.0 ∙ sym k.0
left_once (st.Str s.One) u v l k = l.0 ∙ sym k.0
left_once (st.Block marks) u v l k = l.0 ∙ sym k.0

pub no_lexeme : (class : Class) → IsLexeme class [] → ⊥
no_lexeme class (number _ h) = let r = number_reads [] h in absurd (none r.first r.others r.parts)
  where
    none : (x : ℕ) (xs : List ℕ) → [] ≡ x ∷ xs → ⊥
    none x xs e = cc

pub lexeme_once : (x : Class) (a rest : List ℕ) (y : Class) (a' rest' : List ℕ) → IsLexeme x a → MayFollow x rest → IsLexeme y a' → MayFollow y rest' → a ++ rest ≡ a' ++ rest' → (x ≡ y) × (a ≡ a') × (rest ≡ rest')
lexeme_once x [] rest y a' rest' l f l' f' e = absurd (no_lexeme x l)
lexeme_once x (b ∷ a) rest y [] rest' l f l' f' e = absurd (no_lexeme y l')
lexeme_once x (b ∷ a) rest y (b' ∷ a') rest' l f l' f' e = go (start b) (starts b)
  where
    same : b ≡ b'
    same = heads_are b b' (a ++ rest) (a' ++ rest') e

    others : a ++ rest ≡ a' ++ rest'
    others = tails_are b b' (a ++ rest) (a' ++ rest') e

    l2 : IsLexeme y (b ∷ a')
    l2 = subst (λ (k : ℕ). IsLexeme y (k ∷ a')) (sym same) l'

    go : (o : Move) → Starts b o → (x ≡ y) × ((b ∷ a) ≡ (b' ∷ a')) × (rest ≡ rest')
    go (m.Go s) is = let t = scan_once a s x rest y a' rest' (left_once s) left_once (is.0 x a l) f (is.0 y a' l2) f' others in (t.0, cc (same, t.1), t.2)
    go (m.Done found) is =
        let one = is.0 x a l in
        let two = is.0 y a' l2 in
        (one.0 ∙ sym two.0, cc (same, one.1, two.1), sym (ap (λ (k : List ℕ). k ++ rest) one.1) ∙ others ∙ ap (λ (k : List ℕ). k ++ rest') two.1)
    go (m.Stop found) is = absurd is
    go m.Bad is = absurd (is x a l)
