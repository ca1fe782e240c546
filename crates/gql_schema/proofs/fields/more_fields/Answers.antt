use Rattle.std.proofs.Common.{sym, ◌∙◌}
use Rattle.std.proofs.lemmas.Result.{err_from_is_err_and}
use Rattle.gql_schema.specs.Reading.{begins_item, field}
use Rattle.gql_schema.proofs.Loops.{exits, item_read, items_end, no_turns_left}
use Rattle.gql_schema.proofs.fields.more_fields.Goals as goal

pub returns-in_err-field : goal.returns-in_err-field
returns-in_err-field c =
    let p = err_from_is_err_and c.from_residual.result c.from_residual.ensures.1 in
    rw (p.1, p.2) (exits begins_item field _ _ _ _ _ _ _ c.loop-test.true (sym c.sees.ensures ∙ c.if-not-sees.false) c.in_err-field.ensures c.loop.invariant)

pub loop-preserved : goal.loop-preserved
loop-preserved c = rw c.in_ok-push.ensures.ok
    (item_read begins_item field _ _ _ _ _ _ _ c.loop-test.true (sym c.sees.ensures ∙ c.if-not-sees.false) c.in_ok-field.ensures c.loop.invariant)

pub returns-then-not-sees : goal.returns-then-not-sees
returns-then-not-sees c = items_end begins_item field c.loop.found c.len-end.result c.loop.counter c.loop.left _ (sym c.sees.ensures ∙ c.if-not-sees.true) c.loop.invariant

pub returns : goal.returns
returns c = no_turns_left begins_item field c.loop.found c.len-end.result c.loop.counter c.loop.left _ c.loop-test.false c.loop.invariant
