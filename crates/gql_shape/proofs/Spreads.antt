-- How many fragments a collection can still spread, by which collecting comes to its end.
use Rattle.std.proofs.Common.{◌≡◌, ℕ, zero, suc, ◌+◌, ◌*◌, ◌<◌, ◌≤◌, Bool, true, false, cond, List, [], ◌∷◌, ◌++◌, Some, ◌⊎◌, inl, inr, refl, sym, ap, ◌∙◌, arith}
use Rattle.std.specs.Prelude.{◌||◌}
use Rattle.std.specs.Str.{bytes_eq}
use Rattle.std.proofs.lemmas.Slice.Eq.{bytes_eq-Decides}
use denote.Param.Weighed.{most}
use Rattle.gql_terms.specs.declared.documents.Selection.{Selection}
use Rattle.gql_terms.specs.declared.documents.Fragment.{Fragment}
use Rattle.gql_types.specs.Schemas.{is_among}
use Rattle.gql_shape.specs.Terms.{Scope, Collection}
use Rattle.gql_shape.specs.Collecting.{fragment_named, Standing, Collects, CollectsOne, none, next, nothing, takes_field, within, spreads}

pub either : (b : Bool) → (b ≡ true) ⊎ (b ≡ false)
either true = inl refl
either false = inr refl

abbrev pub fresh : List (List ℕ) → List ℕ → ℕ
fresh seen name = cond (is_among seen name) 0 1

-- the fragments whose names were not seen
abbrev pub unseen : List (List ℕ) → List Fragment → ℕ
unseen seen [] = 0
unseen seen (f ∷ fs) = fresh seen f.name + unseen seen fs

is_among-more : (seen : List (List ℕ)) (name other : List ℕ) → is_among (seen ++ (name ∷ [])) other ≡ (is_among seen other || bytes_eq name other)
is_among-more [] name other = or_false (bytes_eq name other)
  where
    or_false : (b : Bool) → (b || false) ≡ b
    or_false true = refl
    or_false false = refl
is_among-more (n ∷ seen) name other = ap (λ (b : Bool). bytes_eq n other || b) (is_among-more seen name other) ∙ regroup (bytes_eq n other) (is_among seen other) (bytes_eq name other)
  where
    regroup : (a b c : Bool) → (a || (b || c)) ≡ ((a || b) || c)
    regroup true b c = refl
    regroup false b c = refl

at_most_one : (b : Bool) → cond b 0 1 ≤ 1
at_most_one true = omega arith
at_most_one false = omega arith

fresh-more : (seen : List (List ℕ)) (name other : List ℕ) → fresh (seen ++ (name ∷ [])) other ≤ fresh seen other
fresh-more seen name other = rw is_among-more (fewer (is_among seen other) (bytes_eq name other))
  where
    fewer : (a b : Bool) → cond (a || b) 0 1 ≤ cond a 0 1
    fewer true b = omega arith
    fewer false b = at_most_one b

fresh-noted : (seen : List (List ℕ)) (name other : List ℕ) → other ≡ name → is_among seen name ≡ false → fresh (seen ++ (name ∷ [])) other < fresh seen other
fresh-noted seen name other same new =
    let was : is_among seen other ≡ false = rw same new in
    let is : bytes_eq name other ≡ true = (bytes_eq-Decides name other).1 (sym same) in
    rw (is_among-more, was, is) (omega arith)

pub unseen-more : (seen : List (List ℕ)) (name : List ℕ) (fs : List Fragment) → unseen (seen ++ (name ∷ [])) fs ≤ unseen seen fs
unseen-more seen name [] = omega arith
unseen-more seen name (f ∷ fs) =
    let here : fresh (seen ++ (name ∷ [])) f.name ≤ fresh seen f.name = fresh-more seen name f.name in
    let later : unseen (seen ++ (name ∷ [])) fs ≤ unseen seen fs = unseen-more seen name fs in
    omega arith

pub unseen-noted : (seen : List (List ℕ)) (name : List ℕ) (fs : List Fragment) (f : Fragment) → fragment_named name fs ≡ Some f → is_among seen name ≡ false →
    unseen (seen ++ (name ∷ [])) fs < unseen seen fs
unseen-noted seen name [] f is new = absurd cc
unseen-noted seen name (g ∷ fs) f is new = elim (either (bytes_eq g.name name)) [
  | inl this ↦ (
      let here : fresh (seen ++ (name ∷ [])) g.name < fresh seen g.name = fresh-noted seen name g.name ((bytes_eq-Decides g.name name).0 this) new in
      let later : unseen (seen ++ (name ∷ [])) fs ≤ unseen seen fs = unseen-more seen name fs in
      omega arith)
  | inr other ↦ (
      let here : fresh (seen ++ (name ∷ [])) g.name ≤ fresh seen g.name = fresh-more seen name g.name in
      let there : fragment_named name fs ≡ Some f = rw other at is in
      let later : unseen (seen ++ (name ∷ [])) fs < unseen seen fs = unseen-noted seen name fs f there new in
      omega arith)
]

-- the largest measure of a selection of a fragment
abbrev pub deepest : (Selection → ℕ) → List Fragment → ℕ
deepest μ fs = most (λ f. most μ f.selections) fs

pub deepest-has : (μ : Selection → ℕ) (name : List ℕ) (fs : List Fragment) (f : Fragment) → fragment_named name fs ≡ Some f → most μ f.selections ≤ deepest μ fs
deepest-has μ name [] f is = absurd cc
deepest-has μ name (g ∷ fs) f is = elim (either (bytes_eq g.name name)) [
  | inl this ↦ (
      let at : Some g ≡ Some f = rw this at is in
      let same : g ≡ f = cc in
      let e : most μ g.selections ≡ most μ f.selections = ap (λ (h : Fragment). most μ h.selections) same in
      omega arith)
  | inr other ↦ (
      let there : fragment_named name fs ≡ Some f = rw other at is in
      let later : most μ f.selections ≤ deepest μ fs = deepest-has μ name fs f there in
      omega arith)
]

-- a spread spends more than its selections need
pub falls : (u v d k : ℕ) → u < v → k < d → u * d + k < v * d
falls u zero d k less small = absurd (omega arith)
falls u (suc v) d k less small =
    let whole : suc v * d ≡ v * d + d = omega arith in
    elim (split u v (omega arith)) [
      | inl same ↦ (let e : u * d ≡ v * d = ap (λ (n : ℕ). n * d) same in omega arith)
      | inr below ↦ (let h : u * d + k < v * d = falls u v d k below small in omega arith)
    ]
  where
    split : (u v : ℕ) → u ≤ v → (u ≡ v) ⊎ (u < v)
    split zero zero le = inl refl
    split zero (suc v) le = inr (omega arith)
    split (suc u) zero le = absurd (omega arith)
    split (suc u) (suc v) le = elim (split u v (omega arith)) [ inl e ↦ inl (ap suc e) | inr lt ↦ inr (omega arith) ]

pub scaled : (u v d : ℕ) → u ≤ v → u * d ≤ v * d
scaled zero v d le = omega arith
scaled (suc u) zero d le = absurd (omega arith)
scaled (suc u) (suc v) d le = let h : u * d ≤ v * d = scaled u v d (omega arith) in
    let a : suc u * d ≡ u * d + d = omega arith in
    let b : suc v * d ≡ v * d + d = omega arith in
    omega arith

-- collecting sees no fragment less
module _ (s : Scope) (type_name : List ℕ) where
  mutual
    pub unseen-Collects : {xs : List Selection} {c d : Collection} → Collects s type_name xs c d → unseen d.seen s.fragments ≤ unseen c.seen s.fragments
    unseen-Collects none = omega arith
    unseen-Collects (next takes collects) =
        let here = unseen-Takes takes in
        let later = unseen-Collects collects in
        omega (arith, here, later)

    pub unseen-Takes : {standing : Standing} {c d : Collection} → CollectsOne s type_name standing c d → unseen d.seen s.fragments ≤ unseen c.seen s.fragments
    unseen-Takes nothing = omega arith
    unseen-Takes takes_field = omega arith
    unseen-Takes (within collects) = unseen-Collects collects
    unseen-Takes (spreads {name} {xs} {c} {d} collects) =
        let inner = unseen-Collects collects in
        let more = unseen-more c.seen name s.fragments in
        omega (arith, inner, more)
