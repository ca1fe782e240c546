use Rattle.std.proofs.Common.{sym, ◌∙◌, refl}
use Rattle.std.proofs.lemmas.Result.{err_from_is_err_and}
use Rattle.gql_tokens.specs.declared.kinds.Kind.TheVariants as k
use Rattle.gql_terms.specs.Grammar.{strict, is}
use Rattle.gql_parser.specs.Reading.{variable_definition}
use Rattle.gql_parser.proofs.Loops.{exits, item_read, items_end, no_turns_left}
use Rattle.gql_parser.proofs.variables.more_variables.Goals as goal

pub returns-in_err-variable_definition : goal.returns-in_err-variable_definition
returns-in_err-variable_definition c =
    let p = err_from_is_err_and c.from_residual.result c.from_residual.ensures.1 in
    rw (p.1, p.2) (exits (is k.Dollar) (variable_definition strict) _ _ _ _ _ _ _ c.loop-test.true (sym c.sees.ensures ∙ c.if-not-sees.false) c.in_err-variable_definition.ensures c.loop.invariant)

pub loop-preserved : goal.loop-preserved
loop-preserved c = rw c.in_ok-push.ensures.ok
    (item_read (is k.Dollar) (variable_definition strict) _ _ _ _ _ _ _ c.loop-test.true (sym c.sees.ensures ∙ c.if-not-sees.false) c.in_ok-variable_definition.ensures c.loop.invariant)

pub returns-then-not-sees : goal.returns-then-not-sees
returns-then-not-sees c =
    items_end (is k.Dollar) (variable_definition strict) c.loop.found c.len-end.result c.loop.counter c.loop.tokens _ (sym c.sees.ensures ∙ c.if-not-sees.true) c.loop.invariant

pub returns : goal.returns
returns c = no_turns_left (is k.Dollar) (variable_definition strict) c.loop.found c.len-end.result c.loop.counter c.loop.tokens _ c.loop-test.false c.loop.invariant
