use Rattle.std.proofs.Common.{sym, ◌∙◌, refl}
use Rattle.std.proofs.lemmas.Result.{err_from_is_err_and}
use Rattle.gql_terms.specs.Grammar.{strict}
use Rattle.gql_parser.specs.Reading.{begins_selection, selection, set}
use Rattle.gql_parser.proofs.Loops.{exits, item_read, items_end, no_turns_left}
use Rattle.gql_parser.proofs.Rooms.{set_deep, set_braced, set_gap}
use Rattle.gql_parser.proofs.selections.+set.Goals as goal

pub more_selections-returns-in_err-selection : goal.more_selections-returns-in_err-selection
more_selections-returns-in_err-selection t c =
    let p = err_from_is_err_and c.from_residual.result c.from_residual.ensures.1 in
    rw (p.1, p.2) (exits (begins_selection) (selection strict (set strict c.args.room)) _ _ _ _ _ _ _ c.loop-test.true (sym c.sees.ensures ∙ c.if-not-sees.false) c.in_err-selection.ensures c.loop.invariant)

pub more_selections-loop-preserved : goal.more_selections-loop-preserved
more_selections-loop-preserved t c = rw c.in_ok-push.ensures.ok
    (item_read (begins_selection) (selection strict (set strict c.args.room)) _ _ _ _ _ _ _ c.loop-test.true (sym c.sees.ensures ∙ c.if-not-sees.false) c.in_ok-selection.ensures c.loop.invariant)

pub more_selections-returns-then-not-sees : goal.more_selections-returns-then-not-sees
more_selections-returns-then-not-sees t c =
    items_end (begins_selection) (selection strict (set strict c.args.room)) c.loop.found c.len-end.result c.loop.counter c.loop.tokens _ (sym c.sees.ensures ∙ c.if-not-sees.true) c.loop.invariant

pub more_selections-returns : goal.more_selections-returns
more_selections-returns t c = no_turns_left (begins_selection) (selection strict (set strict c.args.room)) c.loop.found c.len-end.result c.loop.counter c.loop.tokens _ c.loop-test.false c.loop.invariant

pub set-returns-then-room-eq0 : goal.set-returns-then-room-eq0
set-returns-then-room-eq0 t c = set_deep _ _ _ c.if-room-eq0.true (sym c.sees.ensures ∙ c.if-sees.true)

pub set-returns-then-sees : goal.set-returns-then-sees
set-returns-then-sees t c = rw (set_braced _ _ _ c.if-room-eq0.false (sym c.sees.ensures ∙ c.if-sees.true)) c.braced.ensures

pub set-returns : goal.set-returns
set-returns t c = rw (set_gap _ _ _ (sym c.sees.ensures ∙ c.if-sees.false)) c.gap.ensures
