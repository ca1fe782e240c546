use Rattle.std.proofs.Common.{sym, drop, ◌+◌}
use Rattle.std.specs.Prelude.{flat_map}
use Rattle.gql_schema.specs.Rules.{definition_types, own_definition}
use Rattle.gql_schema.proofs.Naming.{parts_here, parts_goes, own_turn}
use Rattle.gql_schema.proofs.rules.unknown_in.Goals as goal

pub returns-in-Some : goal.returns-in-Some
returns-in-Some c = sym (parts_here c.args.known.now.keys _ (flat_map definition_types (own_definition c.index-parts-i.result)) (flat_map definition_types (flat_map own_definition (drop (c.loop-i.i + 1) c.args.parts.now))) c.in-Some.name.now _
    (own_turn c.args.parts.now c.loop-i.i c.index-parts-i.result c.loop-i-test.true c.index-parts-i.is) (sym c.in-Some.ensures) c.loop-i.invariant)

pub loop-i-preserved : goal.loop-i-preserved
loop-i-preserved c = parts_goes c.args.known.now.keys _ (flat_map definition_types (own_definition c.index-parts-i.result)) (flat_map definition_types (flat_map own_definition (drop (c.loop-i.i + 1) c.args.parts.now))) _
    (own_turn c.args.parts.now c.loop-i.i c.index-parts-i.result c.loop-i-test.true c.index-parts-i.is) (sym c.in_default.ensures) c.loop-i.invariant
