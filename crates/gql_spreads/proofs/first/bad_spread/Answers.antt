use Rattle.std.proofs.Common.{◌≡◌, ℕ, Bool, List, Option, sym, subst, ◌∙◌}
use Rattle.std.specs.Option.{option_copied}
use Rattle.gql_spreads.specs.Graph.{IsGraph, AreCycles}
use Rattle.gql_spreads.specs.Spreads.{IsFirstBad}
use Rattle.gql_spreads.specs.Numbers.{HaveMarks}
use Rattle.gql_spreads.proofs.Paths.{is_graph, have_marks, answer, weaker}
use Rattle.gql_spreads.proofs.first.bad_spread.Goals as goal

pub nodes_on_cycles-requires : goal.nodes_on_cycles-requires
nodes_on_cycles-requires c = subst (λ (q : List (List ℕ)). IsGraph q) (sym (c.as_slice.ensures.value ∙ c.in_ok-graph.ensures)) (is_graph c.as_slice-fragments.result.now c.in_ok-numbers.numbers c.in_ok-numbers.ensures)

pub first_bad-requires : goal.first_bad-requires
first_bad-requires c = subst (λ (q : List Bool). HaveMarks c.in_ok-numbers.numbers q) (sym c.as_slice-2.ensures.value)
    (have_marks c.as_slice-fragments.result.now c.in_ok-numbers.numbers c.in_ok-numbers.ensures c.in_ok-cyclic.cyclic.items
    (subst (λ (q : List (List ℕ)). AreCycles q c.in_ok-cyclic.cyclic.items) (c.as_slice.ensures.value ∙ c.in_ok-graph.ensures) c.in_ok-cyclic.ensures))

pub returns : goal.returns
returns c = weaker (λ (q : Option (List ℕ)). q ≡ option_copied c.first_bad.result) (λ (q : Option (List ℕ)). IsFirstBad c.args.document.now q)
    (λ q e. subst (λ (o : Option (List ℕ)). IsFirstBad c.args.document.now o) (sym e)
    (answer c.args.document.now c.as_slice-fragments.result.now c.in_ok-numbers.numbers c.as_slice.result.now c.in_ok-cyclic.cyclic.items c.as_slice-2.result.now (option_copied c.first_bad.result) c.in_ok-numbers.ensures
    c.as_slice-fragments.ensures (c.as_slice.ensures.value ∙ c.in_ok-graph.ensures) c.in_ok-cyclic.ensures c.as_slice-2.ensures.value c.first_bad.ensures))
    c.copied.result c.copied.ensures
