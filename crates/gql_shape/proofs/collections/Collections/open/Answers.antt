use Rattle.std.proofs.Common.{[], refl}
use Rattle.std.specs.Prelude.{map}
use Rattle.gql_shape.specs.Indexed.{group_in, rule_in}
use Rattle.gql_shape.proofs.Indexed.{known-pushed, nothing-known, groups-ruled, rules-ruled}
use Rattle.gql_shape.proofs.collections.Collections.open.Goals as goal

pub loop-preserved : goal.loop-preserved
loop-preserved c = known-pushed [] c.loop.known.items c.push.new.self.items c.new.result c.loop.invariant c.new.ensures.empty c.in_ok-push.ensures.items

pub invariant_of-result : goal.invariant_of-result
invariant_of-result c = nothing-known c.args.scope (map group_in c.in_ok-ruled.ruled) (map rule_in c.in_ok-ruled.ruled) c.loop.known.items c.loop.invariant

pub returns : goal.returns
returns c = rw (c.in_ok-ruled.ensures, groups-ruled c.args.scope.schema c.args.object.now c.args.groups, rules-ruled c.args.scope.schema c.args.object.now c.args.groups) refl
