use Rattle.std.proofs.Common.{rules, arith}
use Rattle.std.proofs.lemmas.Grind.{common_steps}
use Rattle.json_paths.specs.Places.{spots_in}
use Rattle.json_paths.proofs.Walking.{walked_member, walked_element, walked_all}
use Rattle.json_paths.proofs.walk.+walk.Goals as goal

pub walk_each-loop-i-preserved : goal.walk_each-loop-i-preserved
walk_each-loop-i-preserved t c = (grind (arith, common_steps), walked_element _ _ _ _ _ (λ inner. spots_in inner c.args.steps.now) _ _ _ c.loop-i-test.true c.index-items-i.is (search rules) c.in_ok-walk.ensures.places c.loop-i.invariant.1)

pub walk_each-returns-clause-places : goal.walk_each-returns-clause-places
walk_each-returns-clause-places t c = walked_all _ _ _ (λ inner. spots_in inner c.args.steps.now) c.elements_of-items.result.now _ c.args.value.now (search rules) c.loop-i-test.false c.loop-i.invariant.1

pub walk_member-returns-in_ok-walk-clause-places :
    goal.walk_member-returns-in_ok-walk-clause-places
walk_member-returns-in_ok-walk-clause-places t c = walked_member _ _ _ _ _ (λ inner. spots_in inner c.args.steps.now) _ _ (search rules) (search rules) c.in_ok-walk.ensures.places
