use Rattle.std.proofs.Common.{sym, ◌∙◌, refl}
use Rattle.std.proofs.lemmas.Result.{err_from_is_err_and}
use Rattle.gql_tokens.specs.KindTests.{is_name}
use Rattle.gql_parser.specs.Reading.{value, begins_value, pair}
use Rattle.gql_parser.proofs.Loops.{exits, item_read, items_end, no_turns_left, prefixed_none}
use Rattle.gql_parser.proofs.Rooms.{value_deep_list, value_deep_object, value_list, value_object, value_simple}
use Rattle.gql_parser.proofs.values.+value.Goals as goal

pub values-returns-in_err-value : goal.values-returns-in_err-value
values-returns-in_err-value t c =
    let p = err_from_is_err_and c.from_residual.result c.from_residual.ensures.1 in
    rw (p.1, p.2) (exits (begins_value c.args.constant) (value c.args.constant c.args.room) _ _ _ _ _ _ _ c.loop-test.true (sym c.sees.ensures ∙ c.if-not-sees.false) c.in_err-value.ensures c.loop.invariant)

pub values-loop-preserved : goal.values-loop-preserved
values-loop-preserved t c = rw c.in_ok-push.ensures.ok
    (item_read (begins_value c.args.constant) (value c.args.constant c.args.room) _ _ _ _ _ _ _ c.loop-test.true (sym c.sees.ensures ∙ c.if-not-sees.false) c.in_ok-value.ensures c.loop.invariant)

pub values-returns-then-not-sees : goal.values-returns-then-not-sees
values-returns-then-not-sees t c =
    items_end (begins_value c.args.constant) (value c.args.constant c.args.room) c.loop.found c.len-end.result c.loop.counter c.loop.tokens _ (sym c.sees.ensures ∙ c.if-not-sees.true) c.loop.invariant

pub values-returns : goal.values-returns
values-returns t c = no_turns_left (begins_value c.args.constant) (value c.args.constant c.args.room) c.loop.found c.len-end.result c.loop.counter c.loop.tokens _ c.loop-test.false c.loop.invariant

pub pairs-returns-in_err-pair : goal.pairs-returns-in_err-pair
pairs-returns-in_err-pair t c =
    let p = err_from_is_err_and c.from_residual.result c.from_residual.ensures.1 in
    rw (p.1, p.2) (exits is_name (pair (value c.args.constant c.args.room)) _ _ _ _ _ _ _ c.loop-test.true (sym c.sees.ensures ∙ c.if-not-sees.false) c.in_err-pair.ensures c.loop.invariant)

pub pairs-loop-preserved : goal.pairs-loop-preserved
pairs-loop-preserved t c = rw c.in_ok-push.ensures.ok
    (item_read is_name (pair (value c.args.constant c.args.room)) _ _ _ _ _ _ _ c.loop-test.true (sym c.sees.ensures ∙ c.if-not-sees.false) c.in_ok-pair.ensures c.loop.invariant)

pub pairs-returns-then-not-sees : goal.pairs-returns-then-not-sees
pairs-returns-then-not-sees t c =
    items_end is_name (pair (value c.args.constant c.args.room)) c.loop.found c.len-end.result c.loop.counter c.loop.tokens _ (sym c.sees.ensures ∙ c.if-not-sees.true) c.loop.invariant

pub pairs-returns : goal.pairs-returns
pairs-returns t c = no_turns_left is_name (pair (value c.args.constant c.args.room)) c.loop.found c.len-end.result c.loop.counter c.loop.tokens _ c.loop-test.false c.loop.invariant

pub value-returns-then-room-eq0 : goal.value-returns-then-room-eq0
value-returns-then-room-eq0 t c = value_deep_list _ _ _ c.if-room-eq0.true (sym c.sees.ensures ∙ c.if-sees.true)

pub value-returns-then-sees : goal.value-returns-then-sees
value-returns-then-sees t c = rw (value_list _ _ _ c.if-room-eq0.false (sym c.sees.ensures ∙ c.if-sees.true)) c.list_of.ensures

pub value-returns-then-room-eq0-2 : goal.value-returns-then-room-eq0-2
value-returns-then-room-eq0-2 t c = value_deep_object _ _ _ c.if-room-eq0-2.true (sym c.sees.ensures ∙ c.if-sees.false) (sym c.sees-2.ensures ∙ c.if-sees-2.true)

pub value-returns-then-sees-2 : goal.value-returns-then-sees-2
value-returns-then-sees-2 t c = rw (value_object _ _ _ c.if-room-eq0-2.false (sym c.sees.ensures ∙ c.if-sees.false) (sym c.sees-2.ensures ∙ c.if-sees-2.true)) c.object_of.ensures

pub value-returns : goal.value-returns
value-returns t c = rw (value_simple _ _ _ (sym c.sees.ensures ∙ c.if-sees.false) (sym c.sees-2.ensures ∙ c.if-sees-2.false)) c.simple.ensures
