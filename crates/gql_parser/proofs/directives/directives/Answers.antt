use Rattle.std.proofs.Common.{sym, ◌∙◌, refl}
use Rattle.std.proofs.lemmas.Result.{err_from_is_err_and}
use Rattle.gql_tokens.specs.declared.kinds.Kind.TheVariants as k
use Rattle.gql_terms.specs.Grammar.{strict, is}
use Rattle.gql_parser.specs.Reading.{directive, directives}
use Rattle.gql_parser.proofs.Loops.{exits, item_read, items_end, no_turns_left, prefixed_none}
use Rattle.gql_parser.proofs.directives.directives.Goals as goal

pub returns-in_err-directive : goal.returns-in_err-directive
unfolding directives
returns-in_err-directive c =
    let p = err_from_is_err_and c.from_residual.result c.from_residual.ensures.1 in
    rw (p.1, p.2) (exits (is k.At) (directive strict) _ _ _ _ _ _ _ c.loop-test.true (sym c.sees.ensures ∙ c.if-not-sees.false) c.in_err-directive.ensures c.loop.invariant)

pub loop-preserved : goal.loop-preserved
loop-preserved c = rw c.in_ok-push.ensures.ok
    (item_read (is k.At) (directive strict) _ _ _ _ _ _ _ c.loop-test.true (sym c.sees.ensures ∙ c.if-not-sees.false) c.in_ok-directive.ensures c.loop.invariant)

pub returns-then-not-sees : goal.returns-then-not-sees
unfolding directives
returns-then-not-sees c = rw c.fitted.ensures
    (items_end (is k.At) (directive strict) c.loop.found c.len-end.result c.loop.counter c.loop.tokens _ (sym c.sees.ensures ∙ c.if-not-sees.true) c.loop.invariant)

pub returns : goal.returns
unfolding directives
returns c = no_turns_left (is k.At) (directive strict) c.loop.found c.len-end.result c.loop.counter c.loop.tokens _ c.loop-test.false c.loop.invariant
