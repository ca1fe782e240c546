-- When a permit may be settled.
use Rattle.std.proofs.Common.{◌≡◌, ℕ, false, Some, subst, sym}
use Rattle.std.specs.Prelude.{is_some}
use Rattle.std.specs.List.{list_any}
use Rattle.cache_terms.specs.declared.events.Mark.{Mark}
use Rattle.cache_terms.specs.declared.events.Mark.TheVariants.{Ticket}
use Rattle.cache_model.specs.Journal.{Started, start_of, settles}
use Rattle.cache_model.specs.State.{State}
use Rattle.cache_book.specs.Permits.{Granted}
use Rattle.cache_book.specs.Settling.{MaySettle, MayBy}

-- its ticket is open, and the Start is its own
pub may_settle_by : (s : State) (p : Granted) (ticket : ℕ) (start : Started) → p.mark ≡ Ticket ticket → start_of s.journal ticket ≡ Some start → list_any (settles ticket) s.journal ≡ false → start.who ≡ p.who → start.key ≡ p.key → is_some start.id ≡ p.named → MaySettle s p
may_settle_by s p ticket start mark started unsettled who key named =
    subst (λ (m : Mark). MayBy m s p) (sym mark) (λ same. record { start = start; unsettled = record { started = started; unsettled = unsettled }; who = who; key = key; named = named })
