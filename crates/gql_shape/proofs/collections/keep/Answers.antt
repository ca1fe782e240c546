use Rattle.gql_shape.proofs.Indexed.{known-pushed}
use Rattle.gql_shape.proofs.collections.keep.Goals as goal

pub loop-preserved : goal.loop-preserved
loop-preserved c =
    known-pushed c.args.known.now.items c.loop.known.items c.push.new.self.items c.new.result c.loop.invariant c.new.ensures.empty c.in_ok-push.ensures.items
