-- Serves private clauses and proofs alone: what one function of a fetch hands to the next.
use Rattle.std.specs.Prelude.{◌≡◌, ℕ, ◌+◌, ◌≤◌, Bool, List, [], ◌∷◌, ◌++◌, length, position, is_some, Option}
use Rattle.cache_book.specs.Permits.{Granted}
use Rattle.cache_book.specs.declared.permit.Report.{Report}
use Rattle.line_base.specs.Lines.{Line, Entry, Gains}
use Rattle.cache_seam.specs.Objects.{IsObjectText}
use Rattle.cache_seam.specs.Seen.{Seen}
use Rattle.cache_seam.specs.Turns.{Turn, TakesTurns}
use Rattle.reply_read.specs.declared.replies.ReplyFault.{ReplyFault}
use Rattle.reply_read.specs.declared.replies.ReplyFault.TheVariants as fault
use Rattle.fetch_asks.specs.declared.ask.Ask.{Ask}
use Rattle.piece_fetch.specs.declared.came.Brought.{Brought}
use Rattle.piece_fetch.specs.declared.came.Coming.{Coming}
use Rattle.piece_fetch.specs.declared.came.Coming.TheVariants.{Nothing, Lost, Came}
use Rattle.piece_fetch.specs.declared.fetched.Cause.{Cause}
use Rattle.piece_fetch.specs.declared.fetched.Cause.TheVariants as cause
use Rattle.piece_fetch.specs.declared.prepare.Work.{Work}
use Rattle.piece_fetch.specs.declared.slots.Slot.{Slot}
use Rattle.piece_fetch.specs.declared.slots.Slot.TheVariants as slot
use Rattle.piece_fetch.specs.Coming.{Sends, SettlesEach, reports_of, brought_by, causes_of}
use Rattle.piece_fetch.specs.Fetching.{MaySend, AreGathered, is_asked}

-- each text with a comma before it
abbrev pub after_commas : List (List ℕ) → List ℕ
after_commas [] = []
after_commas (text ∷ texts) = 44 ∷ (text ++ after_commas texts)

-- what a fault of the reader means
abbrev pub refusal : ReplyFault → Coming
refusal (fault.Status status) = Lost (cause.Status status)
refusal (fault.Json place) = Lost (cause.BadReply (fault.Json place))
refusal (fault.Shape member) = Lost (cause.BadReply (fault.Shape member))
refusal (fault.Count got sent) = Lost (cause.BadReply (fault.Count got sent))
refusal fault.Memory = Lost (cause.BadReply fault.Memory)

-- each piece that came has its tags, and the lifetime is in its range
abbrev pub AreAllThere : Coming → Type 0
AreAllThere Nothing = Unit {0}
AreAllThere (Lost why) = Unit {0}
AreAllThere (Came status verdict p) = (length p.tags.items ≡ length p.values.items) × (verdict.lifetime ≤ 2147483648)

-- how many are asked for
abbrev pub asked_count : List Slot → ℕ
asked_count [] = 0
asked_count (slot.Hit lookup stored value lasts ∷ slots) = asked_count slots
asked_count (slot.Asked ∷ slots) = asked_count slots + 1

-- what was found is the text of an object
abbrev pub IsReadable : Slot → Type 0
IsReadable (slot.Hit lookup stored value lasts) = IsObjectText value
IsReadable slot.Asked = Unit {0}

-- this came of what was sent over the line
pub record HasSent (ask : Ask) (id : Option (List ℕ)) (permits : List Granted) (l m : Line) (coming : Coming) : Type 0 where
  pub entries : List Entry
  pub sends : Sends ask id permits entries coming
  pub gains : Gains l entries m

-- nothing was sent over the line, or the call
pub record MayHaveSent (ask : Ask) (id : Option (List ℕ)) (permits : List Granted) (l m : Line) : Type 0 where
  pub entries : List Entry
  pub sends : MaySend ask id permits entries
  pub gains : Gains l entries m

-- what is done while the permits are in hand: what is missing is asked for, and all that needs memory is made
pub record Works (ask : Ask) (id : Option (List ℕ)) (number : ℕ) (slots : List Slot) (permits : List Granted) (l m : Line) (w : Work) : Type 0 where
  pub coming : Coming
  pub entries : List Entry
  pub sends : Sends ask id permits entries coming
  pub gains : Gains l entries m
  pub reports : w.reports.items ≡ reports_of ask (length permits) coming
  pub pieces : AreGathered number l.calls slots (brought_by ask (is_some id) (length permits) coming) w.fetched.pieces.items w.fetched.origins.items w.fetched.lasts.items
  pub causes : w.fetched.causes.items ≡ causes_of coming
  pub first_sent : w.fetched.first_sent ≡ position is_asked slots

-- turns settle each permit with its report, in order, and no others are taken
abbrev pub SettlesAll : Seen → List Granted → List Report → Seen → Type 0
SettlesAll c permits reports d = (turns : List Turn) × TakesTurns c turns d × SettlesEach permits reports turns

-- what comes gives these reports, pieces and causes
pub record Unpacks (ask : Ask) (named : Bool) (n : ℕ) (coming : Coming) (reports : List Report) (brought : List Brought) (causes : List Cause) : Type 0 where
  pub reports_are : reports ≡ reports_of ask n coming
  pub brought_are : brought ≡ brought_by ask named n coming
  pub causes_are : causes ≡ causes_of coming
