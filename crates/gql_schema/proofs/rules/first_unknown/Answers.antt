use Rattle.std.proofs.Common.{Some, ap, sym, ◌∙◌, refl}
use Rattle.std.specs.Prelude.{flat_map}
use Rattle.gql_schema.specs.Rules.{Name, query, definition_types, definitions}
use Rattle.gql_schema.proofs.Naming.{front_some, front_none, single_known, single_unknown}
use Rattle.gql_schema.proofs.rules.first_unknown.Goals as goal

pub returns-in-Some : goal.returns-in-Some
returns-in-Some c = ap (λ (q : Name). Some q) c.in_ok-copy.ensures
    ∙ front_some c.args.known.now.keys (flat_map definition_types (definitions c.args.parts.now)) (flat_map definition_types (definitions c.args.parts.now)) _ c.in-Some.name.now c.in-Some.ensures refl

pub returns-then-is_known : goal.returns-then-is_known
returns-then-is_known c = front_none c.args.known.now.keys (flat_map definition_types (definitions c.args.parts.now)) (flat_map definition_types (definitions c.args.parts.now)) _ _ c.in_default.ensures refl
    (single_known c.args.known.now.keys query c.in_ok-query.query c.in_ok-query.ensures (sym c.is_known.ensures ∙ c.if-is_known.true))

pub returns : goal.returns
returns c = front_none c.args.known.now.keys (flat_map definition_types (definitions c.args.parts.now)) (flat_map definition_types (definitions c.args.parts.now)) _ _ c.in_default.ensures refl
    (single_unknown c.args.known.now.keys query c.in_ok-query.query c.in_ok-query.ensures (sym c.is_known.ensures ∙ c.if-is_known.false))
