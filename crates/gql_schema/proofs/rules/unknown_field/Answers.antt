use Rattle.std.proofs.Common.{sym, drop, ◌+◌}
use Rattle.std.specs.Prelude.{flat_map}
use Rattle.gql_schema.specs.Rules.{field_types}
use Rattle.gql_schema.proofs.Naming.{parts_here, parts_goes, field_turn}
use Rattle.gql_schema.proofs.rules.unknown_field.Goals as goal

pub returns-in-Some : goal.returns-in-Some
returns-in-Some c = sym (parts_here c.args.known.now.keys _ (field_types c.index-fields-i.result) (flat_map field_types (drop (c.loop-i.i + 1) c.args.fields.now)) c.in-Some.name.now _
    (field_turn c.args.fields.now c.loop-i.i c.index-fields-i.result c.loop-i-test.true c.index-fields-i.is) (sym c.in-Some.ensures) c.loop-i.invariant)

pub loop-i-preserved : goal.loop-i-preserved
loop-i-preserved c = parts_goes c.args.known.now.keys _ (field_types c.index-fields-i.result) (flat_map field_types (drop (c.loop-i.i + 1) c.args.fields.now)) _
    (field_turn c.args.fields.now c.loop-i.i c.index-fields-i.result c.loop-i-test.true c.index-fields-i.is) (sym c.in_default.ensures) c.loop-i.invariant
