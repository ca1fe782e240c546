use Rattle.std.proofs.Common.{◌≡◌, ◌≢◌, ◌∙◌, sym, Err, Some, length, ◌+◌, arith}
use Rattle.plan_tree.specs.Lawful.{depth}
use Rattle.plan_tree.specs.declared.plan.Node.TheVariants as node
use Rattle.plan_book.specs.declared.fault.PlanFault.TheVariants as faults
use Rattle.plan_book.specs.declared.kinds.Kind.TheVariants as kinds
use Rattle.plan_book.specs.Nodes.{IsOfKind}
use Rattle.plan_book.specs.Drafts.{so_far}
use Rattle.plan_book.proofs.Noding.{no_path, no_inner, flatten_made, flatten_fault, handed}
use Rattle.plan_book.proofs.Depths.{depth-flatten, deepens_as, deepens_still, deepens_twice}
use Rattle.plan_book.proofs.nodes.flatten_node.Goals as goal

pub returns-in_default-clause-fault : goal.returns-in_default-clause-fault
returns-in_default-clause-fault c = λ ne.
    let e = c.bad_member.ensures ne in
    rw e (no_path c.args.standing (so_far c.args.draft.now) c.args.value.now (sym c.in_ok-path.ensures ∙ c.in_default.is))

pub returns-in_default-object_member-clause-fault : goal.returns-in_default-object_member-clause-fault
returns-in_default-object_member-clause-fault c = λ ne.
    let e = c.bad_member-in_default-object_member.ensures ne in
    rw e (no_inner c.args.standing (so_far c.args.draft.now) c.args.value.now c.in-Some.path (sym c.in_ok-path.ensures ∙ c.in-Some.is) (sym c.in_default-object_member.ensures))

pub returns-in_err-fetch-clause-fault : goal.returns-in_err-fetch-clause-fault
returns-in_err-fetch-clause-fault c =
    let here : c.len.result ≡ length c.enter.new.draft.levels.items = omega (arith, c.enter.new.draft.levels.ok.0) in
    handed (λ f. f ≢ faults.Memory → IsOfKind c.args.standing (Some kinds.Flatten) (so_far c.args.draft.now) c.args.value.now (Err f)) c.from_residual-in_err-fetch.result c.in_err-fetch.field-0.0 c.from_residual-in_err-fetch.ensures.1
    (λ ne. flatten_fault c.args.standing (so_far c.args.draft.now) c.args.value.now c.in-Some.path (sym c.in_ok-path.ensures ∙ c.in-Some.is) c.in-Some-object_member.inner.now (sym c.in-Some-object_member.ensures)
    c.len.result c.in_err-fetch.field-0.0 (so_far c.enter.new.draft) here c.in_ok-enter.ensures.nodes (c.in_err-fetch.ensures ne))

pub returns-clause-node : goal.returns-clause-node
returns-clause-node c =
    let here : c.len.result ≡ length c.enter.new.draft.levels.items = omega (arith, c.enter.new.draft.levels.ok.0) in
    flatten_made c.args.standing (so_far c.args.draft.now) c.args.value.now c.in-Some.path (sym c.in_ok-path.ensures ∙ c.in-Some.is) c.in-Some-object_member.inner.now (sym c.in-Some-object_member.ensures)
    c.len.result c.in_ok-fetch.fetch (so_far c.enter.new.draft) (so_far c.enter-2.new.draft) (so_far c.add_fetch.new.draft) c.in_ok-number.number here c.in_ok-fetch.ensures c.in_ok-enter.ensures.nodes c.in_ok-enter-2.ensures.nodes
    c.in_ok-number.ensures.number c.in_ok-number.ensures.fetches

pub returns-clause-levels : goal.returns-clause-levels
returns-clause-levels c =
    deepens_as c.args.draft.now c.add_fetch.new.draft c.args.around 2 (depth (node.Flatten c.in-Some.path c.in_ok-number.number)) (depth-flatten c.in-Some.path c.in_ok-number.number)
    (deepens_still c.args.draft.now c.enter-2.new.draft c.add_fetch.new.draft c.args.around 2 c.in_ok-number.ensures.levels
    (deepens_twice c.args.draft.now c.enter.new.draft c.enter-2.new.draft c.args.around 1 (c.args.around + 1) 1 2 c.in_ok-enter.ensures.levels c.in_ok-enter-2.ensures.levels (omega arith)))
