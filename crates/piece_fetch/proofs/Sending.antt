-- What is sent.
use Rattle.std.proofs.Common.{◌≡◌, ◌≢◌, ℕ, List, [], ◌∷◌, length, Option, refl, subst, inl, inr, arith}
use Rattle.std.specs.Prelude.{Result, Ok, Err, IfOk}
use Rattle.cache_terms.specs.declared.events.Reply.{Reply}
use Rattle.cache_book.specs.Permits.{Granted}
use Rattle.line_base.specs.declared.line.Call as calls
use Rattle.line_base.specs.declared.line.LineFault.{LineFault}
use Rattle.line_base.specs.declared.line.LineFault.TheVariants as fault
use Rattle.line_base.specs.Lines.{Line, Entry, Fetches, Gains, told_by, names_of}
use Rattle.line_base.proofs.Gaining.{gains_fetch, gains_none}
use Rattle.fetch_asks.specs.declared.ask.Ask.{Ask}
use Rattle.piece_fetch.specs.declared.came.Coming.{Coming}
use Rattle.piece_fetch.specs.declared.came.Coming.TheVariants.{Nothing, Lost, Came}
use Rattle.fetch_asks.specs.Asking.{call_of}
use Rattle.reply_read.specs.declared.replies.Sent.{Sent}
use Rattle.piece_fetch.specs.Coming.{Sends, IsSent, ComesOf, sent_of}
use Rattle.piece_fetch.specs.Fetching.{MaySend}
use Rattle.piece_fetch.specs.Between.{HasSent, MayHaveSent}

sends_one : (ask : Ask) (id : Option (List ℕ)) (permits : List Granted) (e : Entry) (coming : Coming) → permits ≢ [] → IsSent ask id permits e → ComesOf (sent_of ask (length permits)) e.answer coming → Sends ask id permits (e ∷ []) coming
sends_one ask id [] e coming some sent comes = absurd (some refl)
sends_one ask id (p ∷ ps) e coming some sent comes = (e, refl, sent, comes)

-- what comes of an answer is not want of memory, and so the fetch is told
came_told : (sent : Sent) (answer : Result Reply LineFault) (coming : Coming) (e : Entry) → ComesOf sent answer coming → told_by answer e ≡ e ∷ []
came_told sent (Ok reply) coming e h = refl
came_told sent (Err fault.Failed) coming e h = refl
came_told sent (Err (fault.TooLong n)) coming e h = refl
came_told sent (Err fault.Memory) Nothing e h = absurd h
came_told sent (Err fault.Memory) (Lost why) e h = absurd h
came_told sent (Err fault.Memory) (Came status verdict p) e h = absurd h

pub has_sent : (ask : Ask) (id : Option (List ℕ)) (permits : List Granted) (l m : Line) (call : calls.Call) (answer : Result Reply LineFault) (coming : Coming) → permits ≢ [] → call ≡ call_of ask id permits → Fetches l permits call answer m → ComesOf (sent_of ask (length permits)) answer coming
    → HasSent ask id permits l m coming
has_sent ask id permits l m call answer coming some is h comes =
    let e : Entry = record { permits = names_of permits; call = call; answer = answer } in
    record { entries = e ∷ []; sends = sends_one ask id permits e coming some (refl, is) comes; gains = subst (λ (es : List Entry). Gains l es m) (came_told (sent_of ask (length permits)) answer coming e comes) (gains_fetch l permits call answer m h) }

may_told : (ask : Ask) (id : Option (List ℕ)) (permits : List Granted) (answer : Result Reply LineFault) (e : Entry) → IsSent ask id permits e → MaySend ask id permits (told_by answer e)
may_told ask id permits (Ok reply) e sent = inr (e, refl, sent)
may_told ask id permits (Err fault.Failed) e sent = inr (e, refl, sent)
may_told ask id permits (Err (fault.TooLong n)) e sent = inr (e, refl, sent)
may_told ask id permits (Err fault.Memory) e sent = inl refl

pub may_have_sent : (ask : Ask) (id : Option (List ℕ)) (permits : List Granted) (l m : Line) (call : calls.Call) (answer : Result Reply LineFault) → call ≡ call_of ask id permits → Fetches l permits call answer m → MayHaveSent ask id permits l m
may_have_sent ask id permits l m call answer is h =
    let e : Entry = record { permits = names_of permits; call = call; answer = answer } in
    record { entries = told_by answer e; sends = may_told ask id permits answer e (refl, is); gains = gains_fetch l permits call answer m h }

pub none_sent : (ask : Ask) (id : Option (List ℕ)) (permits : List Granted) (l : Line) → MayHaveSent ask id permits l l
none_sent ask id permits l = record { entries = []; sends = inl refl; gains = gains_none l }

pub nothing_sent : (ask : Ask) (id : Option (List ℕ)) (permits : List Granted) (l : Line) → length permits ≡ 0 → HasSent ask id permits l l Nothing
nothing_sent ask id [] l none = record { entries = []; sends = (refl, refl); gains = gains_none l }
nothing_sent ask id (p ∷ ps) l none = absurd (omega (arith, none))

pub if_ok_then : {X Y : Type 0} (P Q : X → Type 0) (r : Result X Y) → IfOk r P → ((x : X) → P x → Q x) → IfOk r Q
if_ok_then P Q (Ok x) h f = f x h
if_ok_then P Q (Err e) h f = tt

sends_may : (ask : Ask) (id : Option (List ℕ)) (permits : List Granted) (entries : List Entry) (coming : Coming) → Sends ask id permits entries coming → MaySend ask id permits entries
sends_may ask id [] entries coming h = inl h.0
sends_may ask id (p ∷ ps) entries coming h = inr (h.0, h.1, h.2)

-- what was sent may have been sent
pub has_may_send : (ask : Ask) (id : Option (List ℕ)) (permits : List Granted) (l m : Line) (coming : Coming) → HasSent ask id permits l m coming → MayHaveSent ask id permits l m
has_may_send ask id permits l m coming h = record { entries = h.entries; sends = sends_may ask id permits h.entries coming h.sends; gains = h.gains }
