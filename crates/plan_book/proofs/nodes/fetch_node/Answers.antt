use Rattle.std.proofs.Common.{◌≡◌, ◌≢◌, Err, Some, length, arith}
use Rattle.plan_tree.specs.Lawful.{depth}
use Rattle.plan_tree.specs.declared.plan.Node.TheVariants as node
use Rattle.plan_book.specs.declared.fault.PlanFault.TheVariants as faults
use Rattle.plan_book.specs.declared.kinds.Kind.TheVariants as kinds
use Rattle.plan_book.specs.Nodes.{IsOfKind}
use Rattle.plan_book.specs.Drafts.{so_far}
use Rattle.plan_book.proofs.Noding.{fetch_made, fetch_fault, handed}
use Rattle.plan_book.proofs.Depths.{depth-fetch, deepens_as, deepens_still}
use Rattle.plan_book.proofs.nodes.fetch_node.Goals as goal

pub returns-in_err-fetch-clause-fault : goal.returns-in_err-fetch-clause-fault
returns-in_err-fetch-clause-fault c =
    let here : c.len.result ≡ length c.args.draft.now.levels.items = omega (arith, c.args.draft.now.levels.ok.0) in
    handed (λ f. f ≢ faults.Memory → IsOfKind c.args.standing (Some kinds.Fetch) (so_far c.args.draft.now) c.args.value.now (Err f)) c.from_residual.result c.in_err-fetch.field-0.0 c.from_residual.ensures.1
    (λ ne. fetch_fault c.args.standing (so_far c.args.draft.now) c.args.value.now c.len.result c.in_err-fetch.field-0.0 here (c.in_err-fetch.ensures ne))

pub returns-clause-node : goal.returns-clause-node
returns-clause-node c =
    let here : c.len.result ≡ length c.args.draft.now.levels.items = omega (arith, c.args.draft.now.levels.ok.0) in
    fetch_made c.args.standing (so_far c.args.draft.now) c.args.value.now c.len.result c.in_ok-fetch.fetch (so_far c.enter.new.draft) (so_far c.add_fetch.new.draft) c.in_ok-number.number here c.in_ok-fetch.ensures c.in_ok-enter.ensures.nodes
    c.in_ok-number.ensures.number c.in_ok-number.ensures.fetches

pub returns-clause-levels : goal.returns-clause-levels
returns-clause-levels c =
    deepens_as c.args.draft.now c.add_fetch.new.draft c.args.around 1 (depth (node.Fetch c.in_ok-number.number)) (depth-fetch c.in_ok-number.number)
    (deepens_still c.args.draft.now c.enter.new.draft c.add_fetch.new.draft c.args.around 1 c.in_ok-number.ensures.levels c.in_ok-enter.ensures.levels)
