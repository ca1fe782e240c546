use Rattle.std.proofs.Common.{ℕ, List, sym, ap, ◌∙◌}
use Rattle.std.specs.List.{find, flat_map}
use Rattle.gql_terms.specs.declared.documents.Operation.{Operation}
use Rattle.gql_terms.specs.declared.documents.Fragment.{Fragment}
use Rattle.gql_spreads.specs.Spreads.{operation_spreads, fragment_spreads}
use Rattle.gql_spreads.specs.Numbers.{is_bad}
use Rattle.gql_spreads.proofs.Finds.{find_append, find_first}
use Rattle.gql_spreads.proofs.first.first_bad.Goals as goal

pub returns-in-Some : goal.returns-in-Some
returns-in-Some c = sym (find_first (is_bad c.args.numbers.now c.args.cyclic.now) (flat_map operation_spreads c.args.document.now.operations) (flat_map fragment_spreads c.args.document.now.fragments) c.in-Some.name.now
    (ap (λ (q : List Operation). find (is_bad c.args.numbers.now c.args.cyclic.now) (flat_map operation_spreads q)) (sym c.as_slice.ensures) ∙ sym c.in-Some.ensures))

pub returns-in-None : goal.returns-in-None
returns-in-None c = c.first_in_fragments.ensures
    ∙ ap (λ (q : List Fragment). find (is_bad c.args.numbers.now c.args.cyclic.now) (flat_map fragment_spreads q)) c.as_slice-in-None.ensures
    ∙ sym (find_append (is_bad c.args.numbers.now c.args.cyclic.now) (flat_map operation_spreads c.args.document.now.operations) (flat_map fragment_spreads c.args.document.now.fragments)
    (ap (λ (q : List Operation). find (is_bad c.args.numbers.now c.args.cyclic.now) (flat_map operation_spreads q)) (sym c.as_slice.ensures) ∙ sym c.in-None.ensures))
