-- A digest that is put into a table is found there, and so are those that stood in it slots_before.
use Rattle.std.proofs.Common.{◌≡◌, ℕ, zero, suc, ◌+◌, ◌<◌, true, false, not, ◌||◌, ◌==◌, List, [], ◌∷◌, length, get_or, drop, set, replicate, ◌⊎◌, inl, inr, refl, sym, ap, subst, ◌∙◌, arith, length-drop, get_or-drop}
use Rattle.std.proofs.lemmas.Bool.{false≢true, both_ways, cond_both, and_parts, and_from, and_left, and_right, or_parts, or_from, or_cases, or_left, or_right, not-true, not_from_true, not_from_false, not-false, eqb-true, eq-eqb, ne_eqb}
use Rattle.std.proofs.lemmas.List.{drop-set-add, get_or_read}
use Rattle.json_members.specs.Slots.{slots_before, stands}

-- ---- what stands where

slot_at : (xs : List ℕ) (d : ℕ) → slots_before xs d < length xs → (get_or xs (slots_before xs d) 0 ≡ 0) ⊎ (get_or xs (slots_before xs d) 0 ≡ d)
slot_at [] d = λ lt. absurd (omega arith)
slot_at (s ∷ ss) d =
    cond_both (s == 0 || s == d) 0 (suc (slots_before ss d)) (λ n. n < length (s ∷ ss) → (get_or (s ∷ ss) n 0 ≡ 0) ⊎ (get_or (s ∷ ss) n 0 ≡ d))
    (λ found lt. elim (or_cases (s == 0) (s == d) found) [ inl h ↦ inl (eqb-true s 0 h) | inr h ↦ inr (eqb-true s d h) ])
    (λ other lt. slot_at ss d (omega arith))

nothing_stands : (xs : List ℕ) (d : ℕ) → get_or xs (slots_before xs d) 0 ≡ 0 → stands xs d ≡ false
nothing_stands [] d = λ empty. refl
nothing_stands (s ∷ ss) d =
    cond_both (s == 0 || s == d) 0 (suc (slots_before ss d)) (λ n. get_or (s ∷ ss) n 0 ≡ 0 → stands (s ∷ ss) d ≡ false)
    (λ found empty. and_left (not (s == 0)) (s == d || stands ss d) (not_from_true (s == 0) (eq-eqb s 0 empty)))
    (λ other empty. and_right (not (s == 0)) (s == d || stands ss d) (or_from (s == d) (stands ss d) (or_parts (s == 0) (s == d) other).1 (nothing_stands ss d empty)))

stands_put : (xs : List ℕ) (d : ℕ) → (d ≡ 0 → ⊥) → slots_before xs d < length xs → stands (set xs (slots_before xs d) d) d ≡ true
stands_put [] d some = λ lt. absurd (omega arith)
stands_put (s ∷ ss) d some =
    cond_both (s == 0 || s == d) 0 (suc (slots_before ss d)) (λ n. n < length (s ∷ ss) → stands (set (s ∷ ss) n d) d ≡ true)
    (λ found lt. and_from (not (d == 0)) (d == d || stands ss d) (not_from_false (d == 0) (ne_eqb d 0 some)) (or_left (d == d) (stands ss d) (eq-eqb d d refl)))
    (λ other lt.
    and_from (not (s == 0)) (s == d || stands (set ss (slots_before ss d) d) d) (not_from_false (s == 0) (or_parts (s == 0) (s == d) other).0)
    (or_right (s == d) (stands (set ss (slots_before ss d) d) d) (stands_put ss d some (omega arith))))

stands_still : (xs : List ℕ) (j d e : ℕ) → (get_or xs j 0 ≡ 0) ⊎ (get_or xs j 0 ≡ d) → stands xs e ≡ true → stands (set xs j d) e ≡ true
stands_still [] j d e slot is = absurd (false≢true is)
stands_still (s ∷ ss) zero d e (inl empty) is = absurd (both_ways (s == 0) (not-true (s == 0) (and_parts (not (s == 0)) (s == e || stands ss e) is).0) (eq-eqb s 0 empty))
stands_still (s ∷ ss) zero d e (inr same) is = subst (λ (x : ℕ). stands (x ∷ ss) e ≡ true) same is
stands_still (s ∷ ss) (suc j) d e slot is =
    let parts = and_parts (not (s == 0)) (s == e || stands ss e) is in
    and_from (not (s == 0)) (s == e || stands (set ss j d) e) parts.0
    (elim (or_cases (s == e) (stands ss e) parts.1)
    [ inl h ↦ or_left (s == e) (stands (set ss j d) e) h | inr h ↦ or_right (s == e) (stands (set ss j d) e) (stands_still ss j d e slot h) ])

still_behind : (n : ℕ) (xs : List ℕ) (j d e : ℕ) → (get_or xs j 0 ≡ 0) ⊎ (get_or xs j 0 ≡ d) → stands (drop n xs) e ≡ true → stands (drop n (set xs j d)) e ≡ true
still_behind zero xs j d e slot is = stands_still xs j d e slot is
still_behind (suc n) [] j d e slot is = absurd (false≢true is)
still_behind (suc n) (s ∷ ss) zero d e slot is = is
still_behind (suc n) (s ∷ ss) (suc j) d e slot is = still_behind n ss j d e slot is

-- ---- at a digest's place, which was found in `ys`

pub not_there : (xs ys : List ℕ) (first d i x : ℕ) → ys ≡ xs → i < length ys → i ≡ first + slots_before (drop first ys) d → x ≡ get_or xs i x → not (x == 0) ≡ false
    → stands (drop first xs) d ≡ false
not_there xs ys first d i x same lt place at empty =
    let lt' : i < length xs = subst (λ (zs : List ℕ). i < length zs) same lt in
    let place' : i ≡ first + slots_before (drop first xs) d = subst (λ (zs : List ℕ). i ≡ first + slots_before (drop first zs) d) same place in
    let zero_here : get_or xs i 0 ≡ 0 = sym (get_or_read xs i x lt' at 0) ∙ eqb-true x 0 (not-false (x == 0) empty) in
    nothing_stands (drop first xs) d (get_or-drop first xs (slots_before (drop first xs) d) 0 ∙ (ap (λ (k : ℕ). get_or xs k 0) (sym place') ∙ zero_here))

pub put_there : (xs ys : List ℕ) (first d i : ℕ) → ys ≡ xs → i < length ys → i ≡ first + slots_before (drop first ys) d → (d ≡ 0 → ⊥) → stands (drop first (set xs i d)) d ≡ true
put_there xs ys first d i same lt place some =
    let way : ℕ = slots_before (drop first xs) d in
    let lt' : i < length xs = subst (λ (zs : List ℕ). i < length zs) same lt in
    let place' : i ≡ first + way = subst (λ (zs : List ℕ). i ≡ first + slots_before (drop first zs) d) same place in
    ap (λ (k : ℕ). stands (drop first (set xs k d)) d) place'
    ∙ (ap (λ (zs : List ℕ). stands zs d) (drop-set-add first xs way d) ∙ stands_put (drop first xs) d some (omega (arith, length-drop first xs)))

pub others_stay : (xs ys : List ℕ) (first d i : ℕ) → ys ≡ xs → i < length ys → i ≡ first + slots_before (drop first ys) d → (n e : ℕ) → stands (drop n xs) e ≡ true
    → stands (drop n (set xs i d)) e ≡ true
others_stay xs ys first d i same lt place n e =
    let way : ℕ = slots_before (drop first xs) d in
    let lt' : i < length xs = subst (λ (zs : List ℕ). i < length zs) same lt in
    let place' : i ≡ first + way = subst (λ (zs : List ℕ). i ≡ first + slots_before (drop first zs) d) same place in
    let here : get_or (drop first xs) way 0 ≡ get_or xs i 0 = get_or-drop first xs way 0 ∙ ap (λ (k : ℕ). get_or xs k 0) (sym place') in
    still_behind n xs i d e (elim (slot_at (drop first xs) d (omega (arith, length-drop first xs))) [ inl h ↦ inl (sym here ∙ h) | inr h ↦ inr (sym here ∙ h) ])

-- ---- all digests of a table

pub in_a_slot : (n : ℕ) (xs : List ℕ) (e : ℕ) → stands (drop n xs) e ≡ true → (k : ℕ) × (k < length xs) × (get_or xs k 0 ≡ e) × (e ≡ 0 → ⊥)
in_a_slot zero [] e is = absurd (false≢true is)
in_a_slot zero (s ∷ ss) e is =
    let parts = and_parts (not (s == 0)) (s == e || stands ss e) is in
    elim (or_cases (s == e) (stands ss e) parts.1) [
      | inl h ↦ (0, omega arith, eqb-true s e h, λ empty. both_ways (s == 0) (not-true (s == 0) parts.0) (eq-eqb s 0 (eqb-true s e h ∙ empty)))
      | inr h ↦ let r = in_a_slot zero ss e h in (suc r.0, omega (arith, r.1), r.2, r.3)
    ]
in_a_slot (suc n) [] e is = absurd (false≢true is)
in_a_slot (suc n) (s ∷ ss) e is = let r = in_a_slot n ss e is in (suc r.0, omega (arith, r.1), r.2, r.3)

pub none_in_zeros : (n m d : ℕ) → stands (drop n (replicate m 0)) d ≡ false
none_in_zeros zero zero d = refl
none_in_zeros (suc n) zero d = refl
none_in_zeros zero (suc m) d = refl
none_in_zeros (suc n) (suc m) d = none_in_zeros n m d
