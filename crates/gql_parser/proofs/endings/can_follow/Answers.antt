use Rattle.std.proofs.Common.{refl, ◌∙◌}
use Rattle.gql_terms.specs.Grammar.{strict}
use Rattle.gql_tokens.specs.declared.kinds.Kind.TheVariants as k
use Rattle.gql_parser.specs.Reading.{all}
use Rattle.gql_parser.proofs.Following.{turn_none, turn_here, follows_over}
use Rattle.gql_parser.proofs.endings.can_follow.Goals as goal

pub loop-i-preserved : goal.loop-i-preserved
loop-i-preserved c = (
  c.in_ok-consumes_with.ensures.same ∙ c.loop-i.invariant.0,
  turn_none (all strict) c.args.tokens.now.items c.args.kinds.now c.loop-i.i k.Bang c.loop-i.tokens.items _ c.loop-i-test.true c.loop-i.invariant.0 c.loop-i.invariant.1 c.in_ok-consumes_with.ensures.tells c.if-branch.false,
)

pub returns-then-branch-clause-tells : goal.returns-then-branch-clause-tells
returns-then-branch-clause-tells c =
    turn_here (all strict) c.args.tokens.now.items c.args.kinds.now c.loop-i.i k.Bang c.loop-i.tokens.items _ c.loop-i-test.true c.loop-i.invariant.0 c.in_ok-consumes_with.ensures.tells c.if-branch.true

pub returns-clause-tells : goal.returns-clause-tells
returns-clause-tells c = follows_over (all strict) _ _ c.loop-i.i c.loop-i-test.false c.loop-i.invariant.1

pub loop-i-init : goal.loop-i-init
loop-i-init c = (refl, λ f. f.1)
