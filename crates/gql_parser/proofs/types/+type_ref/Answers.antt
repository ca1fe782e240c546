use Rattle.std.proofs.Common.{sym, ◌∙◌, refl}
use Rattle.gql_parser.proofs.Rooms.{type_deep, type_list, type_named}
use Rattle.gql_parser.proofs.types.+type_ref.Goals as goal

pub unmarked-returns-then-room-eq0 : goal.unmarked-returns-then-room-eq0
unmarked-returns-then-room-eq0 t c = type_deep _ _ c.if-room-eq0.true (sym c.sees.ensures ∙ c.if-sees.true)

pub unmarked-returns-then-sees : goal.unmarked-returns-then-sees
unmarked-returns-then-sees t c = rw (type_list _ _ c.if-room-eq0.false (sym c.sees.ensures ∙ c.if-sees.true)) c.list_type.ensures

pub unmarked-returns : goal.unmarked-returns
unmarked-returns t c = rw (type_named _ _ (sym c.sees.ensures ∙ c.if-sees.false)) c.named_type.ensures
