-- What comes of a call, and what each permit is settled with.
use Rattle.std.specs.Prelude.{◌≡◌, ◌≢◌, ℕ, Bool, if◌then◌else◌, List, [], ◌∷◌, length, map, replicate, Option, None, Result, Ok, Err}
use Rattle.json_value.specs.declared.tree.Json.TheVariants as json
use Rattle.cache_terms.specs.declared.events.Reply.{Reply}
use Rattle.cache_control.specs.Rules.{IsVerdict}
use Rattle.cache_book.specs.Permits.{Granted}
use Rattle.cache_book.specs.declared.permit.Report.{Report}
use Rattle.cache_book.specs.declared.permit.Report.TheVariants as report
use Rattle.cache_book.specs.Calls.{Settle}
use Rattle.line_base.specs.Lines.{Entry, names_of}
use Rattle.line_base.specs.declared.line.LineFault.{LineFault}
use Rattle.line_base.specs.declared.line.LineFault.TheVariants as line_fault
use Rattle.cache_seam.specs.Turns.{Turn}
use Rattle.reply_read.specs.declared.replies.Sent.{Sent}
use Rattle.reply_read.specs.declared.replies.Sent.TheVariants as sent
use Rattle.reply_read.specs.declared.replies.ReplyFault.TheVariants as reply_fault
use Rattle.reply_read.specs.Replies.{ReadsReply}
use Rattle.fetch_asks.specs.declared.ask.Ask.{Ask}
use Rattle.fetch_asks.specs.Asking.{call_of}
use Rattle.piece_fetch.specs.declared.came.Coming.{Coming}
use Rattle.piece_fetch.specs.declared.came.Coming.TheVariants.{Nothing, Lost, Came}
use Rattle.piece_fetch.specs.declared.came.Brought.{Brought}
use Rattle.piece_fetch.specs.declared.fetched.Cause.{Cause}
use Rattle.piece_fetch.specs.declared.fetched.Cause.TheVariants as cause
use Rattle.piece_fetch.specs.Offering.{pieces_of, report_of, brought_of, is_some_error}

-- what was sent for so many pieces
abbrev pub sent_of : Ask → ℕ → Sent
sent_of ask n = if ask.entities then sent.Entities n else sent.Root

-- what comes of the answer to a call for these: the pieces of a readable reply with its verdict, or what went wrong
abbrev pub ComesOf : Sent → Result Reply LineFault → Coming → Type 0
ComesOf s answer Nothing = ⊥
ComesOf s (Ok reply) (Came status verdict pieces) = (reply.status ≡ 200) × (status ≡ reply.status) × IsVerdict reply.cache_control reply.age verdict × ReadsReply reply.body s (Ok pieces)
ComesOf s (Ok reply) (Lost (cause.Status status)) = (reply.status ≡ status) × (status ≢ 200)
ComesOf s (Ok reply) (Lost (cause.BadReply fault)) = (reply.status ≡ 200) × (fault ≢ reply_fault.Memory) × ReadsReply reply.body s (Err fault)
ComesOf s (Err line_fault.Failed) (Lost why) = why ≡ cause.Unreachable
ComesOf s (Err (line_fault.TooLong n)) (Lost why) = why ≡ cause.TooLong n
ComesOf s answer other = ⊥

-- the call that asks for the pieces of these permits was made under them
abbrev pub IsSent : Ask → Option (List ℕ) → List Granted → Entry → Type 0
IsSent ask id permits e = (e.permits ≡ names_of permits) × (e.call ≡ call_of ask id permits)

-- what was sent, and what came of it: nothing where nothing is missing, else one call
abbrev pub Sends : Ask → Option (List ℕ) → List Granted → List Entry → Coming → Type 0
Sends ask id [] entries coming = (entries ≡ []) × (coming ≡ Nothing)
Sends ask id (p ∷ ps) entries coming = (e : Entry) × (entries ≡ e ∷ []) × IsSent ask id (p ∷ ps) e × ComesOf (sent_of ask (length (p ∷ ps))) e.answer coming

-- what each permit is settled with: the offer of its piece where there is a readable reply, else Failed
abbrev pub reports_of : Ask → ℕ → Coming → List Report
reports_of ask n Nothing = []
reports_of ask n (Lost why) = replicate n report.Failed
reports_of ask n (Came status verdict p) = map (report_of ask status verdict (is_some_error p.errors.items)) (pieces_of p)

-- what came for each permit: its piece, or null where there is no readable reply
abbrev pub brought_by : Ask → (named : Bool) → ℕ → Coming → List Brought
brought_by ask named n Nothing = []
brought_by ask named n (Lost why) = replicate n (record { value = json.Null; lasts = None })
brought_by ask named n (Came status verdict p) = map (brought_of ask named status verdict (is_some_error p.errors.items)) (pieces_of p)

-- what went wrong: one cause where no readable reply came, else one for each error in it
abbrev pub causes_of : Coming → List Cause
causes_of Nothing = []
causes_of (Lost why) = why ∷ []
causes_of (Came status verdict p) = map (λ text. cause.Subgraph text) p.errors.items

-- each permit is settled with its report, in order
abbrev pub SettlesEach : List Granted → List Report → List Turn → Type 0
SettlesEach [] [] [] = Unit {0}
SettlesEach (p ∷ ps) (r ∷ rs) (t ∷ ts) = (t.call ≡ Settle p r) × SettlesEach ps rs ts
SettlesEach [] (r ∷ rs) ts = ⊥
SettlesEach [] [] (t ∷ ts) = ⊥
SettlesEach (p ∷ ps) [] ts = ⊥
SettlesEach (p ∷ ps) (r ∷ rs) [] = ⊥
