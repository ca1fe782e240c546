use Rattle.std.proofs.Common.{ℕ, List, sym, ap, ◌∙◌}
use Rattle.std.specs.List.{find, flat_map}
use Rattle.gql_terms.specs.declared.documents.Operation.{Operation}
use Rattle.gql_terms.specs.declared.documents.Selection.{Selection}
use Rattle.gql_spreads.specs.Spreads.{spreads_in, operation_spreads}
use Rattle.gql_spreads.specs.Numbers.{is_bad}
use Rattle.gql_spreads.proofs.Finds.{found, not_found}
use Rattle.gql_spreads.proofs.first.first_in_operations.Goals as goal

pub returns-in-Some : goal.returns-in-Some
returns-in-Some c = found (is_bad c.args.numbers.now c.args.cyclic.now) operation_spreads c.args.operations.now c.loop-i.i c.index-operations-i.result (find (is_bad c.args.numbers.now c.args.cyclic.now) (flat_map operation_spreads c.args.operations.now))
    c.in-Some.name.now c.loop-i-test.true c.index-operations-i.is c.loop-i.invariant (ap (λ (x : Operation). find (is_bad c.args.numbers.now c.args.cyclic.now) (operation_spreads x)) c.index-operations-i.is ∙ ap (λ (q : List Selection). find (is_bad c.args.numbers.now c.args.cyclic.now) (spreads_in q)) (sym c.as_slice.ensures) ∙ sym c.in-Some.ensures)

pub loop-i-preserved : goal.loop-i-preserved
loop-i-preserved c = not_found (is_bad c.args.numbers.now c.args.cyclic.now) operation_spreads c.args.operations.now c.loop-i.i c.index-operations-i.result (find (is_bad c.args.numbers.now c.args.cyclic.now) (flat_map operation_spreads c.args.operations.now))
    c.loop-i-test.true c.index-operations-i.is c.loop-i.invariant (ap (λ (x : Operation). find (is_bad c.args.numbers.now c.args.cyclic.now) (operation_spreads x)) c.index-operations-i.is ∙ ap (λ (q : List Selection). find (is_bad c.args.numbers.now c.args.cyclic.now) (spreads_in q)) (sym c.as_slice.ensures) ∙ sym c.in-None.ensures)
