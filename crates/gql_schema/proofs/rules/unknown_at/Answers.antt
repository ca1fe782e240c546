use Rattle.std.proofs.Common.{ap, sym, ◌∙◌, map}
use Rattle.gql_schema.specs.Rules.{input_type, innermost}
use Rattle.gql_schema.proofs.Naming.{front_some, front_none, single_known, single_unknown}
use Rattle.gql_schema.proofs.rules.unknown_at.Goals as goal

pub returns-in-Some : goal.returns-in-Some
returns-in-Some c = front_some c.args.known.now.keys (map input_type c.args.field.now.arguments) (map input_type c.as_slice.result.now) _ c.in-Some.name.now c.in-Some.ensures (ap (map input_type) c.as_slice.ensures)

pub returns-then-is_known : goal.returns-then-is_known
returns-then-is_known c = front_none c.args.known.now.keys (map input_type c.args.field.now.arguments) (map input_type c.as_slice.result.now) _ _ c.in_default.ensures (ap (map input_type) c.as_slice.ensures)
    (single_known c.args.known.now.keys (innermost c.args.field.now.of) c.innermost-name.result.now c.innermost-name.ensures (sym c.is_known.ensures ∙ c.if-is_known.true))

pub returns : goal.returns
returns c = front_none c.args.known.now.keys (map input_type c.args.field.now.arguments) (map input_type c.as_slice.result.now) _ _ c.in_default.ensures (ap (map input_type) c.as_slice.ensures)
    (single_unknown c.args.known.now.keys (innermost c.args.field.now.of) c.innermost-name.result.now c.innermost-name.ensures (sym c.is_known.ensures ∙ c.if-is_known.false))
