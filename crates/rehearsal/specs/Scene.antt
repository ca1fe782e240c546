-- What a script has reached between two lines.
use Rattle.std.specs.FinMap as map
use Rattle.std.specs.Ordering.{nat_cmp}
use Rattle.cache_terms.specs.declared.events.Limits.{Limits}
use Rattle.cache_terms.specs.declared.events.Mark.{Mark}
use Rattle.cache_terms.specs.declared.events.Mark.TheVariants as mark
use Rattle.cache_model.specs.State.{State, opened}
use Rattle.cache_book.specs.Permits.{Pinned, Granted}
use Rattle.cache_book.specs.declared.found.Found.{Found}
use Rattle.cache_book.specs.declared.found.Found.TheVariants as found
use Rattle.rehearsal.specs.Names.{name_cmp}

-- the permits in hand, each under its epoch and its ticket
abbrev pub Permits : Type 0
Permits = map.FinMap name_cmp Granted

-- the book, the pass of each caller since its last `begin`, and the permits in hand
pub record Scene : Type 0 where
  pub book : State
  pub passes : map.FinMap nat_cmp Pinned
  pub hand : Permits

-- at first the epoch is 0, the journal is empty, nobody has a pass, and no permit is in hand
abbrev pub opening : Limits → Scene
opening limits = record { book = opened limits 0; passes = map.empty; hand = map.empty }

-- a permit with a ticket is taken in hand; one without a ticket is spent at once, which changes nothing
abbrev pub with_permit : Permits → Granted → Mark → Permits
with_permit hand permit (mark.Ticket ticket) = map.insert hand (permit.epoch, ticket) permit
with_permit hand permit other = hand

-- the permits in hand after an answer to a look
abbrev pub handed : Permits → Found → Permits
handed hand (found.Hit lookup stored value left_ms private) = hand
handed hand (found.Miss lookup permit) = with_permit hand permit permit.mark
handed hand (found.Bypass permit) = with_permit hand permit permit.mark
