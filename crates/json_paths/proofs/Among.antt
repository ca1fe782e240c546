-- Membership by cases on the list.
use Rattle.std.proofs.Common.{◌≡◌, List, [], ◌∷◌, ◌++◌, ◌⊎◌, inl, inr, subst, ◌<◌, arith}
use Rattle.std.specs.Prelude.{Contains}
use Rattle.std.proofs.lemmas.List.Elements.{Contains-append_cases, Contains-append_left, Contains-append_right, Contains-push, Contains-push_cases}

abbrev pub Among : {X : Type 0} → X → List X → Type 0
Among x [] = ⊥
Among x (y ∷ ys) = (y ≡ x) ⊎ Among x ys

none : {X : Type 0} (x : X) → Contains [] x → ⊥
none x has = let below : has.0 < 0 = has.1 in omega arith

pub Among-from_contains : {X : Type 0} (xs : List X) (x : X) → Contains xs x → Among x xs
Among-from_contains [] x has = none x has
Among-from_contains (y ∷ ys) x has = elim (Contains-append_cases (y ∷ []) ys x has) [ inl one ↦ elim (Contains-push_cases [] y x one) [ inl never ↦ absurd (none x never) | inr e ↦ inl e ] | inr later ↦ inr (Among-from_contains ys x later) ]

pub Contains-from_among : {X : Type 0} (xs : List X) (x : X) → Among x xs → Contains xs x
Contains-from_among [] x has = absurd has
Contains-from_among (y ∷ ys) x (inl e) = subst (λ z. Contains (y ∷ ys) z) e (Contains-append_left (y ∷ []) ys y (Contains-push [] y))
Contains-from_among (y ∷ ys) x (inr later) = Contains-append_right (y ∷ []) ys x (Contains-from_among ys x later)

pub Among-append_cases : {X : Type 0} (xs ys : List X) (x : X) → Among x (xs ++ ys) → Among x xs ⊎ Among x ys
Among-append_cases [] ys x has = inr has
Among-append_cases (z ∷ xs) ys x (inl e) = inl (inl e)
Among-append_cases (z ∷ xs) ys x (inr later) = elim (Among-append_cases xs ys x later) [ inl l ↦ inl (inr l) | inr r ↦ inr r ]

pub Among-append_left : {X : Type 0} (xs ys : List X) (x : X) → Among x xs → Among x (xs ++ ys)
Among-append_left [] ys x has = absurd has
Among-append_left (z ∷ xs) ys x (inl e) = inl e
Among-append_left (z ∷ xs) ys x (inr later) = inr (Among-append_left xs ys x later)

pub Among-append_right : {X : Type 0} (xs ys : List X) (x : X) → Among x ys → Among x (xs ++ ys)
Among-append_right [] ys x has = has
Among-append_right (z ∷ xs) ys x has = inr (Among-append_right xs ys x has)
