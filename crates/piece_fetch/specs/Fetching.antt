-- What one fetch does.
use Rattle.std.specs.Prelude.{◌≡◌, ℕ, Bool, true, false, List, [], ◌∷◌, ◌⊎◌, length, replicate, position, is_some, if◌then◌else◌, Option, Some}
use Rattle.json_value.specs.declared.tree.Json.{Json}
use Rattle.json_value.specs.Grammar.{IsText, strict}
use Rattle.cache_terms.specs.declared.keys.Key.{Key}
use Rattle.cache_book.specs.declared.found.Found.{Found}
use Rattle.cache_book.specs.declared.found.Found.TheVariants as found
use Rattle.cache_book.specs.declared.permit.Report.TheVariants as report
use Rattle.cache_book.specs.Permits.{Pinned, Granted}
use Rattle.cache_book.specs.Calls.{Look, Looked, OutOfMemory}
use Rattle.flow_base.specs.Logs.{Grows}
use Rattle.line_base.specs.Lines.{Line, Entry, Gains}
use Rattle.cache_seam.specs.Seen.{Seen, pass_of}
use Rattle.cache_seam.specs.Turns.{Turn, TakesTurns}
use Rattle.cache_seam.specs.Hand.{permits_of}
use Rattle.fetch_asks.specs.declared.ask.Ask.{Ask}
use Rattle.piece_fetch.specs.declared.came.Brought.{Brought}
use Rattle.piece_fetch.specs.declared.came.Coming.{Coming}
use Rattle.piece_fetch.specs.declared.fetched.Fetched.{Fetched}
use Rattle.piece_fetch.specs.declared.fetched.Lasts.{Lasts}
use Rattle.piece_fetch.specs.declared.fetched.Origin.{Origin}
use Rattle.piece_fetch.specs.declared.fetched.Origin.TheVariants as origin
use Rattle.piece_fetch.specs.declared.slots.Slot.{Slot}
use Rattle.piece_fetch.specs.declared.slots.Slot.TheVariants as slot
use Rattle.piece_fetch.specs.Offering.{is_null}
use Rattle.piece_fetch.specs.Coming.{Sends, IsSent, SettlesEach, reports_of, brought_by, causes_of}

-- what stands for each key: the piece that was found, or one that is asked for
abbrev pub slots_of : List Found → List Slot
slots_of [] = []
slots_of (found.Hit lookup stored value left_ms private ∷ answers) = slot.Hit lookup stored value (record { left_ms = left_ms; private = private }) ∷ slots_of answers
slots_of (found.Miss lookup permit ∷ answers) = slot.Asked ∷ slots_of answers
slots_of (found.Bypass permit ∷ answers) = slot.Asked ∷ slots_of answers

abbrev pub is_asked : Slot → Bool
is_asked (slot.Hit lookup stored value lasts) = false
is_asked slot.Asked = true

-- a piece of the call's own reply, or none
abbrev pub own_origin : (line call : ℕ) → Json → Origin
own_origin line call v = if is_null v then origin.Absent else origin.Own line call

-- for each key its piece, where that comes from, and how long it lasts: what was found reads as the piece, and what was
-- asked for comes in order
pub data AreGathered (line call : ℕ) : List Slot → List Brought → List Json → List Origin → List (Option Lasts) → Type 0 where
  no_more : AreGathered line call [] [] [] [] []
  hit : (lookup stored : ℕ) (value : List ℕ) (lasts : Lasts) (piece : Json) (slots : List Slot) (came : List Brought) (pieces : List Json) (origins : List Origin) (times : List (Option Lasts))
      → IsText strict piece value → AreGathered line call slots came pieces origins times
      → AreGathered line call (slot.Hit lookup stored value lasts ∷ slots) came (piece ∷ pieces) (origin.Hit lookup stored ∷ origins) (Some lasts ∷ times)
  own : (one : Brought) (slots : List Slot) (came : List Brought) (pieces : List Json) (origins : List Origin) (times : List (Option Lasts))
      → AreGathered line call slots came pieces origins times
      → AreGathered line call (slot.Asked ∷ slots) (one ∷ came) (one.value ∷ pieces) (own_origin line call one.value ∷ origins) (one.lasts ∷ times)

-- nothing was sent, or the call for these permits
abbrev pub MaySend : Ask → Option (List ℕ) → List Granted → List Entry → Type 0
MaySend ask id permits entries = (entries ≡ []) ⊎ ((e : Entry) × (entries ≡ e ∷ []) × IsSent ask id permits e)

-- ONE FETCH. It looks for its pieces at one moment, asks for those that are missing in one call, and settles the permit
-- of each of these in order.
pub record FetchesPieces (ask : Ask) (keys : List Key) (id : Option (List ℕ)) (line call : ℕ) (pass : Pinned) (now : ℕ) (turns : List Turn) (entries : List Entry) (f : Fetched) : Type 0 where
  pub answers : List Found
  pub look : Turn
  pub settles : List Turn
  pub turns_are : turns ≡ look ∷ settles
  pub looks : look.call ≡ Look pass id keys now
  pub looked : look.answer ≡ Looked answers
  pub coming : Coming
  pub sends : Sends ask id (permits_of answers) entries coming
  pub settled : SettlesEach (permits_of answers) (reports_of ask (length (permits_of answers)) coming) settles
  pub pieces : AreGathered line call (slots_of answers) (brought_by ask (is_some id) (length (permits_of answers)) coming) f.pieces.items f.origins.items f.lasts.items
  pub causes : f.causes.items ≡ causes_of coming
  pub first_sent : f.first_sent ≡ position is_asked (slots_of answers)

-- A FETCH THAT FINDS NO MEMORY: before its look, in it, or after it; then each permit in hand is settled as Failed.
pub data Drops (ask : Ask) (keys : List Key) (id : Option (List ℕ)) (pass : Pinned) : List ℕ → List Turn → List Entry → Type 0 where
  unbegun : Drops ask keys id pass [] [] []
  looking : (now : ℕ) (look : Turn) → look.call ≡ Look pass id keys now → look.answer ≡ OutOfMemory → Drops ask keys id pass (now ∷ []) (look ∷ []) []
  in_hand : (now : ℕ) (look : Turn) (answers : List Found) (settles : List Turn) (entries : List Entry)
      → look.call ≡ Look pass id keys now → look.answer ≡ Looked answers → MaySend ask id (permits_of answers) entries
      → SettlesEach (permits_of answers) (replicate (length (permits_of answers)) report.Failed) settles → Drops ask keys id pass (now ∷ []) (look ∷ settles) entries

-- WHAT IT DOES to the cache, the line and the clock

pub record DoesFetch (ask : Ask) (keys : List Key) (id : Option (List ℕ)) (number : ℕ) (c d : Seen) (l m : Line) (before after : Option (List ℕ)) (f : Fetched) : Type 0 where
  pub now : ℕ
  pub turns : List Turn
  pub entries : List Entry
  pub fetches : FetchesPieces ask keys id number l.calls (pass_of c) now turns entries f
  pub takes : TakesTurns c turns d
  pub gains : Gains l entries m
  pub ticks : Grows before after (now ∷ [])

pub record DropsFetch (ask : Ask) (keys : List Key) (id : Option (List ℕ)) (c d : Seen) (l m : Line) (before after : Option (List ℕ)) : Type 0 where
  pub moments : List ℕ
  pub turns : List Turn
  pub entries : List Entry
  pub drops : Drops ask keys id (pass_of c) moments turns entries
  pub takes : TakesTurns c turns d
  pub gains : Gains l entries m
  pub ticks : Grows before after moments

-- there is a piece, an origin and a time for each key
pub record HasEach (keys : List Key) (f : Fetched) : Type 0 where
  pub pieces : length f.pieces.items ≡ length keys
  pub origins : length f.origins.items ≡ length keys
  pub lasts : length f.lasts.items ≡ length keys
