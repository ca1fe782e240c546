-- The characters of several bytes, byte by byte, are those of the grammar.
use Rattle.std.proofs.Common.{◌≡◌, ℕ, ◌≤◌, true, false, List, [], ◌∷◌, ◌++◌, Option, Some, None, refl, sym, ap, subst, ◌∙◌, arith}
use Rattle.std.specs.Prelude.{◌==◌}
use Rattle.std.proofs.lemmas.Bool.{cond_both, eqb-true}
use Rattle.std.proofs.lemmas.Bool.Decides.{nat_tests}
use Rattle.json_machine.specs.declared.begun.Tail.{Tail}
use Rattle.json_machine.specs.declared.begun.Tail.TheVariants as tails
use Rattle.json_value.specs.Strings.{within, is_tail, IsWide, two, three_first, three, three_below, three_above, four_first, four, four_last}
use Rattle.json_machine.specs.Scan.{lead}
use Rattle.json_machine.specs.Left.{Tails}

pub one_tail : (low high b : ℕ) (l : List ℕ) → within low high b ≡ true → Tails (tails.One low high) l (b ∷ []) (b ∷ l)
one_tail low high b l hb = record { byte = b; others = []; after = l; made = refl; parts = refl; is = hb; onward = (refl, refl) }

pub two_tails : (low high b c : ℕ) (l : List ℕ) → within low high b ≡ true → is_tail c ≡ true → Tails (tails.Two low high) l (b ∷ (c ∷ [])) (b ∷ (c ∷ l))
two_tails low high b c l hb hc = record { byte = b; others = c ∷ []; after = c ∷ l; made = refl; parts = refl; is = hb; onward = one_tail 128 191 c l hc }

pub three_tails : (low high b c d : ℕ) (l : List ℕ) → within low high b ≡ true → is_tail c ≡ true → is_tail d ≡ true → Tails (tails.Three low high) l (b ∷ (c ∷ (d ∷ []))) (b ∷ (c ∷ (d ∷ l)))
three_tails low high b c d l hb hc hd = record { byte = b; others = c ∷ (d ∷ []); after = c ∷ (d ∷ l); made = refl; parts = refl; is = hb; onward = two_tails 128 191 c d l hc hd }

-- ---- the grammar's characters are read

pub record WideTails (s : List ℕ) : Type 0 where
  pub first : ℕ
  pub others : List ℕ
  pub tail : Tail
  pub parts : s ≡ first ∷ others
  pub is : lead first ≡ Some tail
  pub tails : (l : List ℕ) → Tails tail l others (others ++ l)

pub bounds : (low high b : ℕ) → within low high b ≡ true → (low ≤ b) × (b ≤ high)
bounds low high b is = (grind (arith, nat_tests), grind (arith, nat_tests))

lead_three : (a : ℕ) → 225 ≤ a → a ≤ 239 → (a ≡ 237 → ⊥) → lead a ≡ Some (tails.Two 128 191)
lead_three a low high other = grind (arith, nat_tests)

lead_four : (a : ℕ) → 241 ≤ a → a ≤ 243 → lead a ≡ Some (tails.Three 128 191)
lead_four a low high = grind (arith, nat_tests)

pub wide_tails : (s : List ℕ) → IsWide s → WideTails s
wide_tails _ (two a b ha hb) = record { first = a; others = b ∷ []; tail = tails.One 128 191; parts = refl; is = rw ha refl; tails = λ l. one_tail 128 191 b l hb }
wide_tails _ (three_first b c hb hc) = record { first = 0xE0; others = b ∷ (c ∷ []); tail = tails.Two 160 191; parts = refl; is = refl; tails = λ l. two_tails 160 191 b c l hb hc }
wide_tails _ (three a b c ha hb hc) =
    let k = bounds 0xE1 0xEC a ha in
    let low : 225 ≤ a = k.0 in
    let high : a ≤ 236 = k.1 in
    record { first = a; others = b ∷ (c ∷ []); tail = tails.Two 128 191; parts = refl; is = lead_three a low (omega arith) (λ h. omega arith); tails = λ l. two_tails 128 191 b c l hb hc }
wide_tails _ (three_below b c hb hc) = record { first = 0xED; others = b ∷ (c ∷ []); tail = tails.Two 128 159; parts = refl; is = refl; tails = λ l. two_tails 128 159 b c l hb hc }
wide_tails _ (three_above a b c ha hb hc) =
    let k = bounds 0xEE 0xEF a ha in
    let low : 238 ≤ a = k.0 in
    let high : a ≤ 239 = k.1 in
    record { first = a; others = b ∷ (c ∷ []); tail = tails.Two 128 191; parts = refl; is = lead_three a (omega arith) high (λ h. omega arith); tails = λ l. two_tails 128 191 b c l hb hc }
wide_tails _ (four_first b c d hb hc hd) = record { first = 0xF0; others = b ∷ (c ∷ (d ∷ [])); tail = tails.Three 144 191; parts = refl; is = refl; tails = λ l. three_tails 144 191 b c d l hb hc hd }
wide_tails _ (four a b c d ha hb hc hd) =
    let k = bounds 0xF1 0xF3 a ha in
    record { first = a; others = b ∷ (c ∷ (d ∷ [])); tail = tails.Three 128 191; parts = refl; is = lead_four a k.0 k.1; tails = λ l. three_tails 128 191 b c d l hb hc hd }
wide_tails _ (four_last b c d hb hc hd) = record { first = 0xF4; others = b ∷ (c ∷ (d ∷ [])); tail = tails.Three 128 143; parts = refl; is = refl; tails = λ l. three_tails 128 143 b c d l hb hc hd }

-- ---- what is read the grammar allows

-- a character that begins with a, and what follows
abbrev Spelled : ℕ → List ℕ → List ℕ → List ℕ → Type 0
Spelled a l u w = IsWide (a ∷ u) × (w ≡ u ++ l)

one_spelled : (a low high : ℕ) (l u w : List ℕ) → ((b : ℕ) → within low high b ≡ true → IsWide (a ∷ (b ∷ []))) → Tails (tails.One low high) l u w → Spelled a l u w
one_spelled a low high l u w make ts =
    let made : u ≡ ts.byte ∷ [] = ts.made ∙ ap (λ (k : List ℕ). ts.byte ∷ k) ts.onward.0 in
    let cut : w ≡ ts.byte ∷ l = ts.parts ∙ ap (λ (k : List ℕ). ts.byte ∷ k) ts.onward.1 in
    (subst (λ (k : List ℕ). IsWide (a ∷ k)) (sym made) (make ts.byte ts.is), cut ∙ ap (λ (k : List ℕ). k ++ l) (sym made))

two_spelled : (a low high : ℕ) (l u w : List ℕ) → ((b c : ℕ) → within low high b ≡ true → is_tail c ≡ true → IsWide (a ∷ (b ∷ (c ∷ [])))) → Tails (tails.Two low high) l u w → Spelled a l u w
two_spelled a low high l u w make ts =
    let k = ts.onward in
    let made : u ≡ ts.byte ∷ (k.byte ∷ []) = ts.made ∙ ap (λ (x : List ℕ). ts.byte ∷ x) (k.made ∙ ap (λ (x : List ℕ). k.byte ∷ x) k.onward.0) in
    let cut : w ≡ ts.byte ∷ (k.byte ∷ l) = ts.parts ∙ ap (λ (x : List ℕ). ts.byte ∷ x) (k.parts ∙ ap (λ (x : List ℕ). k.byte ∷ x) k.onward.1) in
    (subst (λ (x : List ℕ). IsWide (a ∷ x)) (sym made) (make ts.byte k.byte ts.is k.is), cut ∙ ap (λ (x : List ℕ). x ++ l) (sym made))

three_spelled : (a low high : ℕ) (l u w : List ℕ) → ((b c d : ℕ) → within low high b ≡ true → is_tail c ≡ true → is_tail d ≡ true → IsWide (a ∷ (b ∷ (c ∷ (d ∷ []))))) → Tails (tails.Three low high) l u w → Spelled a l u w
three_spelled a low high l u w make ts =
    let k = ts.onward in
    let m = k.onward in
    let made : u ≡ ts.byte ∷ (k.byte ∷ (m.byte ∷ [])) = ts.made ∙ ap (λ (x : List ℕ). ts.byte ∷ x) (k.made ∙ ap (λ (x : List ℕ). k.byte ∷ x) (m.made ∙ ap (λ (x : List ℕ). m.byte ∷ x) m.onward.0)) in
    let cut : w ≡ ts.byte ∷ (k.byte ∷ (m.byte ∷ l)) = ts.parts ∙ ap (λ (x : List ℕ). ts.byte ∷ x) (k.parts ∙ ap (λ (x : List ℕ). k.byte ∷ x) (m.parts ∙ ap (λ (x : List ℕ). m.byte ∷ x) m.onward.1)) in
    (subst (λ (x : List ℕ). IsWide (a ∷ x)) (sym made) (make ts.byte k.byte m.byte ts.is k.is m.is), cut ∙ ap (λ (x : List ℕ). x ++ l) (sym made))

none_some : {A : Type 0} (x : A) (o : Option A) → o ≡ None → o ≡ Some x → ⊥
none_some x o a b = cc

some_is : {A : Type 0} (x y : A) → Some x ≡ Some y → x ≡ y
some_is x y e = cc

three_of : (a : ℕ) → within 225 239 a ≡ true → (a == 237) ≡ false → (b c : ℕ) → within 128 191 b ≡ true → is_tail c ≡ true → IsWide (a ∷ (b ∷ (c ∷ [])))
three_of a h other b c hb hc = grind (arith, nat_tests, three, three_above)

pub tails_wide : (a : ℕ) (tail : Tail) (u l w : List ℕ) → lead a ≡ Some tail → Tails tail l u w → Spelled a l u w
tails_wide a tail u l w =
    cond_both (within 194 223 a) (Some (tails.One 128 191)) _ P (λ h. row (tails.One 128 191) (one_spelled a 128 191 l u w (λ b hb. two a b h hb)))
    (λ _. cond_both (a == 224) (Some (tails.Two 160 191)) _ P (λ h. row (tails.Two 160 191) (two_spelled a 160 191 l u w (λ b c hb hc. at 224 (eqb-true a 224 h) (b ∷ (c ∷ [])) (three_first b c hb hc))))
    (λ _. cond_both (a == 237) (Some (tails.Two 128 159)) _ P (λ h. row (tails.Two 128 159) (two_spelled a 128 159 l u w (λ b c hb hc. at 237 (eqb-true a 237 h) (b ∷ (c ∷ [])) (three_below b c hb hc))))
    (λ other. cond_both (within 225 239 a) (Some (tails.Two 128 191)) _ P (λ h. row (tails.Two 128 191) (two_spelled a 128 191 l u w (three_of a h other)))
    (λ _. cond_both (a == 240) (Some (tails.Three 144 191)) _ P (λ h. row (tails.Three 144 191) (three_spelled a 144 191 l u w (λ b c d hb hc hd. at 240 (eqb-true a 240 h) (b ∷ (c ∷ (d ∷ []))) (four_first b c d hb hc hd))))
    (λ _. cond_both (within 241 243 a) (Some (tails.Three 128 191)) _ P (λ h. row (tails.Three 128 191) (three_spelled a 128 191 l u w (λ b c d hb hc hd. four a b c d h hb hc hd)))
    (λ _. cond_both (a == 244) (Some (tails.Three 128 143)) None P (λ h. row (tails.Three 128 143) (three_spelled a 128 143 l u w (λ b c d hb hc hd. at 244 (eqb-true a 244 h) (b ∷ (c ∷ (d ∷ []))) (four_last b c d hb hc hd))))
    (λ _ same ts. absurd (none_some tail None refl same))))))))
  where
    P : Option Tail → Type 0
    P o = o ≡ Some tail → Tails tail l u w → Spelled a l u w

    row : (k : Tail) → (Tails k l u w → Spelled a l u w) → P (Some k)
    row k f same ts = f (subst (λ (x : Tail). Tails x l u w) (sym (some_is k tail same)) ts)

    at : (n : ℕ) → a ≡ n → (xs : List ℕ) → IsWide (n ∷ xs) → IsWide (a ∷ xs)
    at n is xs h = subst (λ (k : ℕ). IsWide (k ∷ xs)) (sym is) h
