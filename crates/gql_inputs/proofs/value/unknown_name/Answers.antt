use Rattle.std.proofs.Common.{◌≡◌, ◌∙◌, ℕ, List, sym, ap, true, false, Some}
use Rattle.json_value.specs.declared.tree.Json.{Json}
use Rattle.gql_types.specs.Schemas.{has_input}
use Rattle.gql_inputs.specs.Coercing.{has_field}
use Rattle.gql_inputs.proofs.Members.{input-has, known-next, unknown-here}
use Rattle.gql_inputs.proofs.value.unknown_name.Goals as goal

pub loop-i-preserved : goal.loop-i-preserved
loop-i-preserved c = λ fields are.
    let asked = ap (λ (m : List ℕ × Json). has_input c.args.schema.now c.args.input.now m.0) c.index-members-i.is in
    let known : has_field fields c.index-members-i.result.0 ≡ true = sym (input-has c.args.schema.now c.args.input.now fields c.index-members-i.result.0 are) ∙ asked ∙ sym c.has_input.ensures ∙ c.if-not-has_input.false in
    known-next fields c.args.members.now c.loop-i.i c.index-members-i.result c.loop-i-test.true c.index-members-i.is known ∙ c.loop-i.invariant fields are

pub returns-then-not-has_input : goal.returns-then-not-has_input
returns-then-not-has_input c = λ fields are.
    let asked = ap (λ (m : List ℕ × Json). has_input c.args.schema.now c.args.input.now m.0) c.index-members-i.is in
    let unknown : has_field fields c.index-members-i.result.0 ≡ false = sym (input-has c.args.schema.now c.args.input.now fields c.index-members-i.result.0 are) ∙ asked ∙ sym c.has_input.ensures ∙ c.if-not-has_input.true in
    ap (λ (m : List ℕ × Json). Some m.0) (sym c.index-members-i.is) ∙ sym (unknown-here fields c.args.members.now c.loop-i.i c.index-members-i.result c.loop-i-test.true c.index-members-i.is unknown) ∙ c.loop-i.invariant fields are
