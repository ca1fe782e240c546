-- The errors of an answer have their causes.
use Rattle.std.proofs.Common.{◌≡◌, ℕ, ◌+◌, ◌-◌, ◌^◌, ◌<◌, ◌≤◌, ◌==◌, Bool, true, false, List, [], ◌∷◌, ◌++◌, length, map, Option, All, refl, ap, sym, ◌∙◌, subst, arith}
use Rattle.std.specs.Prelude.{if◌then◌else◌, min, Result, Ok, Err}
use Rattle.std.proofs.lemmas.List.Elements.{All-cons, All-nil, All-head, All-tail, All-append}
use Rattle.json_paths.specs.declared.path.Place.{Place}
use Rattle.cache_terms.specs.declared.events.Reply.{Reply}
use Rattle.cache_terms.specs.declared.keys.Key.{Key}
use Rattle.cache_book.specs.Permits.{Granted, Pinned}
use Rattle.cache_seam.specs.Seen.{Seen}
use Rattle.cache_seam.specs.Turns.{Turn}
use Rattle.cache_seam.specs.Hand.{permits_of}
use Rattle.line_base.specs.declared.line.Call as calls
use Rattle.line_base.specs.declared.line.LineFault.{LineFault}
use Rattle.line_base.specs.declared.line.LineFault.TheVariants as line_fault
use Rattle.line_base.specs.Lines.{Line, Entry, IsLong, Gains, failed_by, failures, calls_after}
use Rattle.reply_read.specs.declared.replies.Sent.{Sent}
use Rattle.fetch_asks.specs.declared.ask.Ask.{Ask}
use Rattle.piece_fetch.specs.declared.came.Coming.{Coming}
use Rattle.piece_fetch.specs.declared.came.Coming.TheVariants.{Nothing, Lost, Came}
use Rattle.piece_fetch.specs.declared.fetched.Cause.{Cause}
use Rattle.piece_fetch.specs.declared.fetched.Cause.TheVariants as cause
use Rattle.piece_fetch.specs.declared.fetched.Fetched.{Fetched}
use Rattle.piece_fetch.specs.Coming.{Sends, ComesOf, sent_of, causes_of}
use Rattle.piece_fetch.specs.Fetching.{FetchesPieces}
use Rattle.plan_run.specs.declared.outcome.PieceError.{PieceError}
use Rattle.plan_run.specs.Plans.{Wanted}
use Rattle.plan_run.specs.Outcomes.{Done, entries_of, errors_from, errors_by, errors_of, path_of}
use Rattle.plan_run.specs.Requests.{AreRun}
use Rattle.router_config.specs.declared.site.Site.{Site}
use Rattle.router_config.specs.declared.config.Request.{Request}
use Rattle.partial_fetch.specs.declared.answer.Answer.{Answer}
use Rattle.partial_fetch.specs.Answering.{Answers, refused, answered}
use Rattle.partial_fetch.specs.Causes.{no_reply, unreachable, IsTooLong, HasCauses}

abbrev errors_in : List (List ℕ) → List Cause
errors_in texts = map (λ text. cause.Subgraph text) texts

-- ONE CALL

module _ (sub fetch at : ℕ) (path : Option Place) where
  none_either : (b : Bool) → ◌≡◌ {A = ℕ} (if b then 0 else 0) 0
  none_either true = refl
  none_either false = refl

  none_in : (texts : List (List ℕ)) → unreachable sub (errors_from fetch at path (errors_in texts)) ≡ 0
  none_in [] = refl
  none_in (text ∷ texts) = omega (arith, none_either (at == sub), none_in texts)

  -- an error says that no reply came where the line failed, and only there
  pub call_counted : (s : Sent) (answer : Result Reply LineFault) (coming : Coming) → ComesOf s answer coming → unreachable sub (errors_from fetch at path (causes_of coming)) ≡ (if at == sub then failed_by answer else 0) + 0
  call_counted s (Ok reply) Nothing h = absurd h
  call_counted s (Ok reply) (Came status verdict p) h = omega (arith, none_either (at == sub), none_in p.errors.items)
  call_counted s (Ok reply) (Lost cause.Unreachable) h = absurd h
  call_counted s (Ok reply) (Lost (cause.TooLong n)) h = absurd h
  call_counted s (Ok reply) (Lost (cause.Status status)) h = refl
  call_counted s (Ok reply) (Lost (cause.BadReply fault)) h = refl
  call_counted s (Ok reply) (Lost (cause.Subgraph text)) h = absurd h
  call_counted s (Err line_fault.Failed) Nothing h = absurd h
  call_counted s (Err line_fault.Failed) (Came status verdict p) h = absurd h
  call_counted s (Err line_fault.Failed) (Lost why) h = ap (λ (c : Cause). (if at == sub then no_reply c else 0) + 0) h
  call_counted s (Err (line_fault.TooLong n)) Nothing h = absurd h
  call_counted s (Err (line_fault.TooLong n)) (Came status verdict p) h = absurd h
  call_counted s (Err (line_fault.TooLong n)) (Lost why) h = ap (λ (c : Cause). (if at == sub then no_reply c else 0) + 0) h
  call_counted s (Err line_fault.Memory) Nothing h = absurd h
  call_counted s (Err line_fault.Memory) (Came status verdict p) h = absurd h
  call_counted s (Err line_fault.Memory) (Lost why) h = absurd h

long_in : (texts : List (List ℕ)) → All IsTooLong (errors_in texts)
long_in [] = All-nil IsTooLong
long_in (text ∷ texts) = All-cons IsTooLong (cause.Subgraph text) (errors_in texts) tt (long_in texts)

long_one : (why : Cause) → IsTooLong why → All IsTooLong (why ∷ [])
long_one why h = All-cons IsTooLong why [] h (All-nil IsTooLong)

call_long : (s : Sent) (answer : Result Reply LineFault) (coming : Coming) → ComesOf s answer coming → IsLong answer → All IsTooLong (causes_of coming)
call_long s (Ok reply) Nothing h long = absurd h
call_long s (Ok reply) (Came status verdict p) h long = long_in p.errors.items
call_long s (Ok reply) (Lost cause.Unreachable) h long = absurd h
call_long s (Ok reply) (Lost (cause.TooLong n)) h long = absurd h
call_long s (Ok reply) (Lost (cause.Status status)) h long = long_one (cause.Status status) tt
call_long s (Ok reply) (Lost (cause.BadReply fault)) h long = long_one (cause.BadReply fault) tt
call_long s (Ok reply) (Lost (cause.Subgraph text)) h long = absurd h
call_long s (Err line_fault.Failed) Nothing h long = absurd h
call_long s (Err line_fault.Failed) (Came status verdict p) h long = absurd h
call_long s (Err line_fault.Failed) (Lost why) h long = long_one why (subst IsTooLong (sym h) tt)
call_long s (Err (line_fault.TooLong n)) Nothing h long = absurd h
call_long s (Err (line_fault.TooLong n)) (Came status verdict p) h long = absurd h
call_long s (Err (line_fault.TooLong n)) (Lost why) h long = long_one why (subst IsTooLong (sym h) long)
call_long s (Err line_fault.Memory) Nothing h long = absurd h
call_long s (Err line_fault.Memory) (Came status verdict p) h long = absurd h
call_long s (Err line_fault.Memory) (Lost why) h long = absurd h

-- ONE FETCH

sent_counted : (sub fetch : ℕ) (path : Option Place) (ask : Ask) (id : Option (List ℕ)) (permits : List Granted) (entries : List Entry) (coming : Coming) → Sends ask id permits entries coming
    → unreachable sub (errors_from fetch ask.sub path (causes_of coming)) ≡ failures sub entries
sent_counted sub fetch path ask id [] entries coming h =
    ap (λ (c : Coming). unreachable sub (errors_from fetch ask.sub path (causes_of c))) h.1 ∙ sym (ap (failures sub) h.0)
sent_counted sub fetch path ask id (p ∷ ps) entries coming h =
    let e : Entry = h.0 in
    let from : ask.sub ≡ e.call.sub = sym (ap (λ (c : calls.Call). c.sub) h.2.1) in
    call_counted sub fetch ask.sub path (sent_of ask (length (p ∷ ps))) e.answer coming h.3
    ∙ ap (λ (at : ℕ). (if at == sub then failed_by e.answer else 0) + 0) from ∙ sym (ap (failures sub) h.1)

sent_long : (ask : Ask) (id : Option (List ℕ)) (permits : List Granted) (entries : List Entry) (coming : Coming) → Sends ask id permits entries coming → All (λ (e : Entry). IsLong e.answer) entries → All IsTooLong (causes_of coming)
sent_long ask id [] entries coming h long = subst (λ (c : Coming). All IsTooLong (causes_of c)) (sym h.1) (All-nil IsTooLong)
sent_long ask id (p ∷ ps) entries coming h long =
    let one : All (λ (e : Entry). IsLong e.answer) (h.0 ∷ []) = subst (All (λ (e : Entry). IsLong e.answer)) h.1 long in
    call_long (sent_of ask (length (p ∷ ps))) h.0.answer coming h.3 (All-head (λ (e : Entry). IsLong e.answer) h.0 [] one)

fetch_counted : (sub fetch : ℕ) (path : Option Place) (ask : Ask) (keys : List Key) (id : Option (List ℕ)) (line call : ℕ) (pass : Pinned) (now : ℕ) (turns : List Turn) (entries : List Entry) (f : Fetched) → FetchesPieces ask keys id line call pass now turns entries f
    → unreachable sub (errors_from fetch ask.sub path f.causes.items) ≡ failures sub entries
fetch_counted sub fetch path ask keys id line call pass now turns entries f h =
    ap (λ (cs : List Cause). unreachable sub (errors_from fetch ask.sub path cs)) h.causes ∙ sent_counted sub fetch path ask id (permits_of h.answers) entries h.coming h.sends

told_long : (fetch sub : ℕ) (path : Option Place) (causes : List Cause) → All IsTooLong causes → All (λ (e : PieceError). IsTooLong e.cause) (errors_from fetch sub path causes)
told_long fetch sub path [] all = All-nil (λ (e : PieceError). IsTooLong e.cause)
told_long fetch sub path (c ∷ cs) all =
    All-cons (λ (e : PieceError). IsTooLong e.cause) (record { fetch = fetch; sub = sub; cause = c; path = path }) (errors_from fetch sub path cs)
    (All-head IsTooLong c cs all) (told_long fetch sub path cs (All-tail IsTooLong c cs all))

-- ALL FETCHES

unreachable_append : (sub : ℕ) (es fs : List PieceError) → unreachable sub (es ++ fs) ≡ unreachable sub es + unreachable sub fs
unreachable_append sub [] fs = omega arith
unreachable_append sub (e ∷ es) fs = omega (arith, unreachable_append sub es fs)

failures_append : (sub : ℕ) (es fs : List Entry) → failures sub (es ++ fs) ≡ failures sub es + failures sub fs
failures_append sub [] fs = omega arith
failures_append sub (e ∷ es) fs = omega (arith, failures_append sub es fs)

all_counted : (sub : ℕ) (id : Option (List ℕ)) (line : ℕ) (pass : Pinned) (calls : ℕ) (tasks : List Wanted) (done : List Done) → AreRun id line pass calls tasks done → unreachable sub (errors_of tasks done) ≡ failures sub (entries_of done)
all_counted sub id line pass calls [] [] h = refl
all_counted sub id line pass calls (w ∷ ws) (d ∷ ds) h =
    let one : unreachable sub (errors_by w d.fetched) ≡ failures sub d.entries =
    fetch_counted sub w.fetch (path_of w.places d.fetched.first_sent) w.ask w.keys id line calls pass d.now d.turns d.entries d.fetched h.0 in
    let rest : unreachable sub (errors_of ws ds) ≡ failures sub (entries_of ds) = all_counted sub id line pass (calls_after calls d.entries) ws ds h.1 in
    let errors : unreachable sub (errors_by w d.fetched ++ errors_of ws ds) ≡ unreachable sub (errors_by w d.fetched) + unreachable sub (errors_of ws ds) = unreachable_append sub (errors_by w d.fetched) (errors_of ws ds) in
    let entries : failures sub (d.entries ++ entries_of ds) ≡ failures sub d.entries + failures sub (entries_of ds) = failures_append sub d.entries (entries_of ds) in
    omega (arith, one, rest, errors, entries)
all_counted sub id line pass calls [] (d ∷ ds) h = absurd h
all_counted sub id line pass calls (w ∷ ws) [] h = absurd h

long_first : (es fs : List Entry) → All (λ (e : Entry). IsLong e.answer) (es ++ fs) → All (λ (e : Entry). IsLong e.answer) es
long_first [] fs all = All-nil (λ (e : Entry). IsLong e.answer)
long_first (e ∷ es) fs all =
    All-cons (λ (x : Entry). IsLong x.answer) e es (All-head (λ (x : Entry). IsLong x.answer) e (es ++ fs) all) (long_first es fs (All-tail (λ (x : Entry). IsLong x.answer) e (es ++ fs) all))

long_last : (es fs : List Entry) → All (λ (e : Entry). IsLong e.answer) (es ++ fs) → All (λ (e : Entry). IsLong e.answer) fs
long_last [] fs all = all
long_last (e ∷ es) fs all = long_last es fs (All-tail (λ (x : Entry). IsLong x.answer) e (es ++ fs) all)

all_long : (id : Option (List ℕ)) (line : ℕ) (pass : Pinned) (calls : ℕ) (tasks : List Wanted) (done : List Done) → AreRun id line pass calls tasks done → All (λ (e : Entry). IsLong e.answer) (entries_of done)
    → All (λ (e : PieceError). IsTooLong e.cause) (errors_of tasks done)
all_long id line pass calls [] [] h long = All-nil (λ (e : PieceError). IsTooLong e.cause)
all_long id line pass calls (w ∷ ws) (d ∷ ds) h long =
    let causes : All IsTooLong d.fetched.causes.items =
    subst (All IsTooLong) (sym h.0.causes) (sent_long w.ask id (permits_of h.0.answers) d.entries h.0.coming h.0.sends (long_first d.entries (entries_of ds) long)) in
    All-append (λ (e : PieceError). IsTooLong e.cause) (errors_by w d.fetched) (errors_of ws ds) (told_long w.fetch w.ask.sub (path_of w.places d.fetched.first_sent) d.fetched.causes.items causes)
    (all_long id line pass (calls_after calls d.entries) ws ds h.1 (long_last d.entries (entries_of ds) long))
all_long id line pass calls [] (d ∷ ds) h long = absurd h
all_long id line pass calls (w ∷ ws) [] h long = absurd h

pub answer_caused : (site : Site) (request : Request) (c d : Seen) (l m : Line) (before after : Option (List ℕ)) (a : Answer) → Answers site request c d l m before after a → HasCauses l m a
answer_caused site request c d l m before after a (refused r why is untouched) = record {
  failed = λ sub. subst (λ (es : List PieceError). min (l.faults sub + unreachable sub es) (2 ^ 64 - 1) ≤ m.faults sub) (sym is.errors) (unmoved sub);
  long = subst (All (λ (e : PieceError). IsTooLong e.cause)) (sym is.errors) (All-nil (λ (e : PieceError). IsTooLong e.cause));
}
  where
    unmoved : (sub : ℕ) → min (l.faults sub + 0) (2 ^ 64 - 1) ≤ m.faults sub
    unmoved sub = let same : m.faults sub ≡ l.faults sub = ap (λ (x : Line). x.faults sub) untouched.line in omega (arith, same)
answer_caused site request c d l m before after a (answered entry variables value o accepted runs is) =
    let does = runs.does in
    let errors : a.errors.items ≡ errors_of does.tasks does.done = is.errors ∙ does.errors in
    record {
      failed = λ sub. subst (λ (es : List PieceError). min (l.faults sub + unreachable sub es) (2 ^ 64 - 1) ≤ m.faults sub) (sym errors)
          (subst (λ (n : ℕ). min (l.faults sub + n) (2 ^ 64 - 1) ≤ m.faults sub) (sym (all_counted sub request.id 0 does.pass l.calls does.tasks does.done does.runs)) (does.gains.faults sub).1);
      long = subst (All (λ (e : PieceError). IsTooLong e.cause)) (sym errors) (all_long request.id 0 does.pass l.calls does.tasks does.done does.runs does.gains.long);
    }
