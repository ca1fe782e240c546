-- CoercesVariables come to one object or one fault.
use Rattle.std.proofs.Common.{◌≡◌, ℕ, List, [], Option, Some, refl, sym, ap, ◌∙◌}
use Rattle.json_value.specs.declared.tree.Json.{Json}
use Rattle.json_paths.specs.declared.path.Spot.{Spot}
use Rattle.gql_terms.specs.declared.documents.Value.{Value}
use Rattle.gql_terms.specs.declared.documents.VarDef.{VarDef}
use Rattle.gql_types.specs.declared.definition.TypeDef.{TypeDef}
use Rattle.gql_inputs.specs.declared.fault.VarFault.{VarFault}
use Rattle.gql_inputs.specs.declared.fault.VarFault.TheVariants as faults
use Rattle.gql_inputs.specs.Constants.{constant}
use Rattle.gql_inputs.specs.Coercing.{is_null, fine, refused}
use Rattle.gql_inputs.specs.Variables.{Coercion, known, faulty, after_known, CoercesVariable, is_value, is_wrong, is_null_given, is_default, is_left_out, is_missing, CoercesVariables, no_more, passed_over, stops, another}
use Rattle.gql_inputs.proofs.Rules.{null_refused}
use Rattle.gql_inputs.proofs.Determined.{some_same, two_ways, both_values, at_value, Coerces-one, fine_same, refused_same, not_both}

known_same : {X : Type 0} {x y : X} → known x ≡ known y → x ≡ y
known_same e = cc

faulty_same : {X : Type 0} {e f : VarFault} → ◌≡◌ {A = Coercion X} (faulty e) (faulty f) → e ≡ f
faulty_same e = cc

not_known : {X : Type 0} {x : X} {e : VarFault} → ◌≡◌ {A = Coercion X} (known x) (faulty e) → ⊥
not_known e = cc

module _ (schema : List TypeDef) (given : List (List ℕ × Json)) where
  Variable-one : {d : VarDef} {o o' : Coercion (Option Json)} → CoercesVariable schema given d o → CoercesVariable schema given d o' → o ≡ o'
  Variable-one (is_value {d = d} {v = v} is c) (is_value {v = v'} {w = w'} is' c') =
      ap (λ (w : Json). known (Some w)) (fine_same (Coerces-one schema c (at_value schema d.of [] (fine w') v v' (some_same (sym is ∙ is')) c')))
  Variable-one (is_value {d = d} {v = v} is c) (is_wrong {v = v'} {q = q'} is' n' c') = absurd (not_both (Coerces-one schema c (at_value schema d.of [] (refused q') v v' (some_same (sym is ∙ is')) c')))
  Variable-one (is_value {d = d} {v = v} is c) (is_null_given {v = v'} is' n' r') =
      absurd (not_both (Coerces-one schema c (at_value schema d.of [] (refused []) v v' (some_same (sym is ∙ is')) (null_refused schema d.of v' [] n' r'))))
  Variable-one (is_value is c) (is_default is' d') = absurd (two_ways is is')
  Variable-one (is_value is c) (is_left_out is' d' r') = absurd (two_ways is is')
  Variable-one (is_value is c) (is_missing is' d' r') = absurd (two_ways is is')
  Variable-one (is_wrong {d = d} {v = v} is n c) (is_value {v = v'} {w = w'} is' c') = absurd (not_both (sym (Coerces-one schema c (at_value schema d.of [] (fine w') v v' (some_same (sym is ∙ is')) c'))))
  Variable-one (is_wrong {d = d} {v = v} is n c) (is_wrong {v = v'} {q = q'} is' n' c') =
      ap (λ (q : List Spot). faulty (faults.WrongKind d.name (record { spots = q }))) (refused_same (Coerces-one schema c (at_value schema d.of [] (refused q') v v' (some_same (sym is ∙ is')) c')))
  Variable-one (is_wrong is n c) (is_null_given is' n' r') = absurd (both_values n' (ap is_null (some_same (sym is' ∙ is)) ∙ n))
  Variable-one (is_wrong is n c) (is_default is' d') = absurd (two_ways is is')
  Variable-one (is_wrong is n c) (is_left_out is' d' r') = absurd (two_ways is is')
  Variable-one (is_wrong is n c) (is_missing is' d' r') = absurd (two_ways is is')
  Variable-one (is_null_given {d = d} {v = v} is n r) (is_value {v = v'} is' c') =
      absurd (not_both (Coerces-one schema c' (at_value schema d.of [] (refused []) v' v (some_same (sym is' ∙ is)) (null_refused schema d.of v [] n r))))
  Variable-one (is_null_given is n r) (is_wrong is' n' c') = absurd (both_values n (ap is_null (some_same (sym is ∙ is')) ∙ n'))
  Variable-one (is_null_given is n r) (is_null_given is' n' r') = refl
  Variable-one (is_null_given is n r) (is_default is' d') = absurd (two_ways is is')
  Variable-one (is_null_given is n r) (is_left_out is' d' r') = absurd (two_ways is is')
  Variable-one (is_null_given is n r) (is_missing is' d' r') = absurd (two_ways is is')
  Variable-one (is_default is d) (is_value is' c') = absurd (two_ways is' is)
  Variable-one (is_default is d) (is_wrong is' n' c') = absurd (two_ways is' is)
  Variable-one (is_default is d) (is_null_given is' n' r') = absurd (two_ways is' is)
  Variable-one (is_default is d) (is_default is' d') = ap (λ (c : Value). known (Some (constant c))) (some_same (sym d ∙ d'))
  Variable-one (is_default is d) (is_left_out is' d' r') = absurd (two_ways d d')
  Variable-one (is_default is d) (is_missing is' d' r') = absurd (two_ways d d')
  Variable-one (is_left_out is d r) (is_value is' c') = absurd (two_ways is' is)
  Variable-one (is_left_out is d r) (is_wrong is' n' c') = absurd (two_ways is' is)
  Variable-one (is_left_out is d r) (is_null_given is' n' r') = absurd (two_ways is' is)
  Variable-one (is_left_out is d r) (is_default is' d') = absurd (two_ways d' d)
  Variable-one (is_left_out is d r) (is_left_out is' d' r') = refl
  Variable-one (is_left_out is d r) (is_missing is' d' r') = absurd (both_values r' r)
  Variable-one (is_missing is d r) (is_value is' c') = absurd (two_ways is' is)
  Variable-one (is_missing is d r) (is_wrong is' n' c') = absurd (two_ways is' is)
  Variable-one (is_missing is d r) (is_null_given is' n' r') = absurd (two_ways is' is)
  Variable-one (is_missing is d r) (is_default is' d') = absurd (two_ways d' d)
  Variable-one (is_missing is d r) (is_left_out is' d' r') = absurd (both_values r r')
  Variable-one (is_missing is d r) (is_missing is' d' r') = refl

  pub Variables-one : {before ds : List VarDef} {o o' : Coercion (List (List ℕ × Json))} → CoercesVariables schema given before ds o → CoercesVariables schema given before ds o' → o ≡ o'
  Variables-one no_more no_more = refl
  Variables-one (passed_over e r) (passed_over e' r') = Variables-one r r'
  Variables-one (passed_over e r) (stops e' v') = absurd (both_values e e')
  Variables-one (passed_over e r) (another e' v' r') = absurd (both_values e e')
  Variables-one (stops e v) (passed_over e' r') = absurd (both_values e' e)
  Variables-one (stops e v) (stops e' v') = ap (λ (f : VarFault). faulty f) (faulty_same (Variable-one v v'))
  Variables-one (stops e v) (another e' v' r') = absurd (not_known (sym (Variable-one v v')))
  Variables-one (another e v r) (passed_over e' r') = absurd (both_values e' e)
  Variables-one (another e v r) (stops e' v') = absurd (not_known (Variable-one v v'))
  Variables-one (another {d = d} {o = o} e v r) (another {w = w'} e' v' r') =
      ap (λ (w : Option Json). after_known d.name w o) (known_same (Variable-one v v')) ∙ ap (after_known d.name w') (Variables-one r r')

pub coercion_one : (schema : List TypeDef) (given : List (List ℕ × Json)) (ds : List VarDef) (a b : Coercion (List (List ℕ × Json))) → CoercesVariables schema given [] ds a → CoercesVariables schema given [] ds b → a ≡ b
coercion_one schema given ds a b x y = Variables-one schema given x y
