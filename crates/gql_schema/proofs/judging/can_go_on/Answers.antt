use Rattle.std.proofs.Common.{List, [], ◌∷◌, ◌++◌, map, refl, subst, ◌∙◌}
use Rattle.token_read.specs.Texts.{Consumed}
use Rattle.gql_tokens.specs.Lexical.{Token}
use Rattle.gql_parser.specs.Judging.{TellsWhether}
use Rattle.gql_schema.specs.Words.{marked}
use Rattle.gql_schema.specs.Reading.{all}
use Rattle.gql_schema.proofs.Trying.{any_none, any_here, any_over}
use Rattle.gql_schema.proofs.judging.can_go_on.Goals as goal

abbrev Goes : List Token → Token → Type 0
Goes ts t = Consumed (all (map marked (ts ++ (t ∷ []))))

pub loop-i-init : goal.loop-i-init
loop-i-init c = (refl, λ f. f.1)

pub loop-i-preserved : goal.loop-i-preserved
loop-i-preserved c = (
  c.in_ok-consumes_with.ensures.same ∙ c.loop-i.invariant.0,
  any_none (Goes c.args.tokens.now.items) c.args.next.now c.loop-i.i c.index-next-i.result c.in_ok-consumes_with.field-0 c.loop-i-test.true c.index-next-i.is c.loop-i.invariant.1
      (subst (λ (q : List Token). TellsWhether c.in_ok-consumes_with.field-0 (Goes q c.index-next-i.result)) c.loop-i.invariant.0 c.in_ok-consumes_with.ensures.tells) c.if-branch.false,
)

pub returns-then-branch : goal.returns-then-branch
returns-then-branch c = any_here (Goes c.args.tokens.now.items) c.args.next.now c.loop-i.i c.index-next-i.result c.in_ok-consumes_with.field-0 c.loop-i-test.true c.index-next-i.is
    (subst (λ (q : List Token). TellsWhether c.in_ok-consumes_with.field-0 (Goes q c.index-next-i.result)) c.loop-i.invariant.0 c.in_ok-consumes_with.ensures.tells) c.if-branch.true

pub returns : goal.returns
returns c = any_over (Goes c.args.tokens.now.items) c.args.next.now c.loop-i.i c.loop-i-test.false c.loop-i.invariant.1
