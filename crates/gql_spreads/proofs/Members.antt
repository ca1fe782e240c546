-- What a list contains.
use Rattle.std.proofs.Common.{◌≡◌, ℕ, zero, suc, ◌+◌, ◌<◌, ◌≤◌, List, [], ◌∷◌, ◌++◌, length, get_or, refl, sym, ap, subst, ◌∙◌, ◌⊎◌, inl, inr, arith}
use Rattle.std.specs.Prelude.{Contains, All}
use Rattle.std.proofs.lemmas.Bool.{cases_lt}
use Rattle.std.proofs.lemmas.List.{get_or_default, get_or_past}
use Rattle.std.proofs.lemmas.List.Elements.{Contains-append_cases, Contains-get_or, All-contains}
use Rattle.gql_spreads.specs.Graph.{IsEdge, IsGraph, LeadToNodes}

pub contains_none : (x : ℕ) → Contains {X = ℕ} [] x → ⊥
contains_none x h = let within : h.0 < 0 = h.1 in absurd (omega arith)

pub contains_one : (x : ℕ) → Contains (x ∷ []) x
contains_one x = (0, omega arith, refl)

pub one_contains : (x y : ℕ) → Contains (x ∷ []) y → x ≡ y
one_contains x y (zero, within, is) = is
one_contains x y (suc k, within, is) = let w : suc k < 1 = within in absurd (omega arith)

-- the parts of a list that has one more element at its end
pub before_last : (xs : List ℕ) (x y : ℕ) → Contains (xs ++ (x ∷ [])) y → Contains xs y ⊎ (x ≡ y)
before_last xs x y h = elim (Contains-append_cases xs (x ∷ []) y h) [ inl a ↦ inl a | inr b ↦ inr (one_contains x y b) ]

pub contains_along : (xs ys : List ℕ) (x : ℕ) → xs ≡ ys → Contains xs x → Contains ys x
contains_along xs ys x e h = subst (λ (q : List ℕ). Contains q x) e h

pub contains_same : (xs : List ℕ) (x y : ℕ) → x ≡ y → Contains xs x → Contains xs y
contains_same xs x y e h = subst (λ (q : ℕ). Contains xs q) e h

-- by the place, with the default 0
pub contains_place : (xs : List ℕ) (x : ℕ) → Contains xs x → (k : ℕ) × (k < length xs) × (get_or xs k 0 ≡ x)
contains_place xs x (k, within, is) = (k, within, get_or_default xs k 0 x within ∙ is)

pub place_contains : (xs : List ℕ) (x k : ℕ) → k < length xs → get_or xs k 0 ≡ x → Contains xs x
place_contains xs x k within is = (k, within, get_or_default xs k x 0 within ∙ is)

pub edge_within : (graph : List (List ℕ)) → IsGraph graph → (a b : ℕ) → IsEdge graph a b → b < length graph
edge_within graph nodes a b e = elim (cases_lt a (length graph)) [
  | inl lt ↦ All-contains (λ (t : ℕ). t < length graph) (get_or graph a []) b (nodes a [] lt) e
  | inr ge ↦ absurd (contains_none b (subst (λ (q : List ℕ). Contains q b) (get_or_past graph a [] ge) e))
]
