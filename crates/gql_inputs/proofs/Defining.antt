-- Definitions are coerced one after the other.
use Rattle.std.proofs.Common.{◌≡◌, ℕ, suc, ◌+◌, ◌<◌, ◌≤◌, true, false, List, [], ◌∷◌, ◌++◌, Option, Some, None, length, get_or, take, drop, drop-cons, add-one, append_assoc, refl, sym, ap, ◌∙◌}
use Rattle.std.proofs.Math.Seq.{take-suc}
use Rattle.std.proofs.lemmas.List.{drop_all, append-nil}
use Rattle.json_value.specs.declared.tree.Json.{Json}
use Rattle.gql_terms.specs.declared.documents.VarDef.{VarDef}
use Rattle.gql_types.specs.declared.definition.TypeDef.{TypeDef}
use Rattle.json_paths.specs.declared.path.Spot.{Spot}
use Rattle.gql_inputs.specs.Coercing.{RefusesAt}
use Rattle.gql_inputs.specs.declared.fault.Refusal.{Refusal}
use Rattle.gql_inputs.specs.declared.fault.Refusal.TheVariants as refusals
use Rattle.gql_inputs.specs.declared.fault.VarFault.{VarFault}
use Rattle.gql_inputs.specs.declared.fault.VarFault.TheVariants as faults
use Rattle.gql_inputs.specs.Variables.{Coercion, known, faulty, after_known, defines, CoercesVariable, CoercesVariables, no_more, passed_over, stops, another, with_known, Next, one_more, Faults, IsPlacedAt}

pub Faults-map : {P Q : Type 0} (e : VarFault) → Faults e P → (P → Q) → Faults e Q
Faults-map (faults.Missing n) h f = f h
Faults-map (faults.Null n) h f = f h
Faults-map (faults.WrongKind n q) h f = f h
Faults-map faults.Memory h f = tt

abbrev pub ahead : List (List ℕ × Json) → Coercion (List (List ℕ × Json)) → Coercion (List (List ℕ × Json))
ahead made (known ms) = known (made ++ ms)
ahead made (faulty e) = faulty e

ahead-none : (o : Coercion (List (List ℕ × Json))) → ahead [] o ≡ o
ahead-none (known ms) = refl
ahead-none (faulty e) = refl

ahead-known : (made : List (List ℕ × Json)) (name : List ℕ) (w : Option Json) (o : Coercion (List (List ℕ × Json))) → ahead (with_known name w made) o ≡ ahead made (after_known name w o)
ahead-known made name w (faulty e) = refl
ahead-known made name None (known ms) = refl
ahead-known made name (Some w) (known ms) = ap (λ (xs : List (List ℕ × Json)). known xs) (append_assoc made ((name, w) ∷ []) ms)

pub record VarsRun (schema : List TypeDef) (given : List (List ℕ × Json)) (all before left : List VarDef) (made : List (List ℕ × Json)) : Type 0 where
  pub goes : (o : Coercion (List (List ℕ × Json))) → CoercesVariables schema given before left o → CoercesVariables schema given [] all (ahead made o)

module _ (schema : List TypeDef) (given : List (List ℕ × Json)) (all : List VarDef) where
  pub vars_begin : VarsRun schema given all [] all []
  vars_begin = record { goes = λ o h. rw (ahead-none o) h }

  module _ (i : ℕ) (made : List (List ℕ × Json)) (run : VarsRun schema given all (take i all) (drop i all) made) where
    module _ (d : VarDef) (within : i < length all) (is : d ≡ get_or all i d) where
      into : (o : Coercion (List (List ℕ × Json))) → CoercesVariables schema given (take i all) (d ∷ drop (suc i) all) o → CoercesVariables schema given [] all (ahead made o)
      into = rw (drop-cons all i d within ∙ ap (λ (e : VarDef). e ∷ drop (suc i) all) (sym is)) at run.goes

      grown : take (i + 1) all ≡ take i all ++ (d ∷ [])
      grown = rw add-one (take-suc all i d within ∙ ap (λ (e : VarDef). take i all ++ (e ∷ [])) (sym is))

      next_of : (ms : List (List ℕ × Json)) → defines (take i all) d.name ≡ false → Next schema given d made ms → VarsRun schema given all (take i all ++ (d ∷ [])) (drop (suc i) all) ms
      next_of ms new (one_more {w} v) = record { goes = λ o h. rw (ahead-known made d.name w o) (into (after_known d.name w o) (another new v h)) }

      pub vars_next : (ms : List (List ℕ × Json)) → defines (take i all) d.name ≡ false → Next schema given d made ms → VarsRun schema given all (take (i + 1) all) (drop (i + 1) all) ms
      vars_next ms new next = rw (grown, add-one) (next_of ms new next)

      pub vars_pass : defines (take i all) d.name ≡ true → VarsRun schema given all (take (i + 1) all) (drop (i + 1) all) made
      vars_pass defined =
          let run : VarsRun schema given all (take i all ++ (d ∷ [])) (drop (suc i) all) made = record { goes = λ o h. into o (passed_over defined h) } in
          rw (grown, add-one) run

      pub vars_stop : (e : VarFault) → defines (take i all) d.name ≡ false → CoercesVariable schema given d (faulty e) → CoercesVariables schema given [] all (faulty e)
      vars_stop e new v = into (faulty e) (stops new v)

    pub vars_end : length all ≤ i → CoercesVariables schema given [] all (known made)
    vars_end past =
        let before : (o : Coercion (List (List ℕ × Json))) → CoercesVariables schema given (take i all) [] o → CoercesVariables schema given [] all (ahead made o) = rw (drop_all i all past) at run.goes in
        rw (append-nil made) at (before (known []) no_more)

pub at_place : {P Q : List Spot → Type 0} (r : Refusal) → IsPlacedAt r P → RefusesAt r Q → (q : List Spot) × P q × Q q
at_place refusals.Memory h k = absurd h
at_place (refusals.At q) h k = (q, h, k)
