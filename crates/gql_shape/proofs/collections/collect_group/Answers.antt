use Rattle.std.proofs.Common.{◌≡◌, ap, ◌∙◌, ◌<◌, length, get_or}
use Rattle.gql_shape.specs.Terms.{Field}
use Rattle.gql_shape.proofs.Members.{group-more, Collects-append}
use Rattle.gql_shape.proofs.collections.collect_group.Goals as goal

pub loop-i-preserved : goal.loop-i-preserved
loop-i-preserved c =
    let within : c.loop-i.i < length c.args.group.now.more = rw c.more-more.ensures at c.loop-i-test.true in
    let is : c.index-more-i.result ≡ get_or c.args.group.now.more c.loop-i.i c.index-more-i.result = rw c.more-more.ensures at c.index-more-i.is in
    let sel : c.selections.result.now ≡ (get_or c.args.group.now.more c.loop-i.i c.index-more-i.result).selections = c.selections.ensures ∙ ap (λ (f : Field). f.selections) is in
    rw (← group-more c.args.group.now.first.selections c.selections.result.now c.args.group.now.more c.loop-i.i c.index-more-i.result within sel)
    (Collects-append c.args.scope.now c.args.object.now c.loop-i.invariant c.in_ok-collect-2.ensures)
