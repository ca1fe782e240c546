-- Collecting goes selection by selection.
use Rattle.std.proofs.Common.{◌≡◌, ℕ, suc, ◌+◌, ◌<◌, ◌≤◌, List, [], ◌∷◌, drop, get_or, length, drop-cons, add-one, sym, ap, ◌∙◌, arith}
use Rattle.std.proofs.lemmas.List.{drop_all}
use Rattle.gql_terms.specs.declared.documents.Selection.{Selection}
use Rattle.gql_shape.specs.Terms.{Scope, Collection}
use Rattle.gql_shape.specs.Collecting.{standing, Collects, CollectsOne, none, next}
use Rattle.gql_shape.proofs.Spreads.{unseen, unseen-Takes}

-- what completes the rest from here completes the whole from the beginning
pub record Going (s : Scope) (type_name : List ℕ) (all rest : List Selection) (first now : Collection) : Type 0 where
  pub goes : (e : Collection) → Collects s type_name rest now e → Collects s type_name all first e
  pub fewer : unseen now.seen s.fragments ≤ unseen first.seen s.fragments

pub begins : (s : Scope) (type_name : List ℕ) (xs : List Selection) (c : Collection) → Going s type_name xs xs c c
begins s type_name xs c = record { goes = λ e h. h; fewer = omega arith }

pub goes_on : (s : Scope) (type_name : List ℕ) (xs : List Selection) (i : ℕ) (x : Selection) (first now after : Collection) → i < length xs → x ≡ get_or xs i x →
    Going s type_name xs (drop i xs) first now → CollectsOne s type_name (standing s type_name now.seen x) now after → Going s type_name xs (drop (i + 1) xs) first after
goes_on s type_name xs i x first now after within is going takes =
    let cut : drop i xs ≡ x ∷ drop (i + 1) xs = rw add-one (drop-cons xs i x within ∙ ap (λ (y : Selection). y ∷ drop (suc i) xs) (sym is)) in
    let before : (e : Collection) → Collects s type_name (x ∷ drop (i + 1) xs) now e → Collects s type_name xs first e = rw cut at going.goes in
    let less = unseen-Takes s type_name takes in
    record {
      goes = λ e h. before e (next takes h);
      fewer = omega (arith, less, going.fewer);
    }

pub ends : (s : Scope) (type_name : List ℕ) (xs : List Selection) (i : ℕ) (first now : Collection) → length xs ≤ i → Going s type_name xs (drop i xs) first now → Collects s type_name xs first now
ends s type_name xs i first now all going =
    let whole : (e : Collection) → Collects s type_name [] now e → Collects s type_name xs first e = rw (drop_all i xs all) at going.goes in
    whole now none
