-- What the looks of a request missed is what its calls were made under.
use Rattle.std.proofs.Common.{◌≡◌, ℕ, ◌+◌, ◌<◌, ◌≤◌, List, [], ◌∷◌, ◌++◌, Option, Some, None, refl, ap, sym, ◌∙◌, subst, arith, length, get_or, drop}
use Rattle.std.proofs.lemmas.List.{drop_more, drop_all}
use Rattle.std.specs.Prelude.{Bool, true, false, if◌then◌else◌, not, nat_lt, min, ◌==◌, ◌-◌, ◌^◌, ◌*◌, count_by}
use Rattle.std.proofs.lemmas.List.Sums.{sum_by-cons}
use Rattle.std.proofs.lemmas.Option.{same_Some}
use Rattle.cache_terms.specs.declared.keys.Key.{Key}
use Rattle.cache_terms.specs.declared.events.Event.{Event}
use Rattle.cache_terms.specs.declared.events.Mark.{Mark}
use Rattle.cache_terms.specs.declared.events.Mark.TheVariants as mark
use Rattle.cache_model.specs.Journal.{reserved}
use Rattle.cache_model.specs.State.{State}
use Rattle.cache_book.specs.declared.found.Found.{Found}
use Rattle.cache_book.specs.declared.found.Found.TheVariants as found
use Rattle.cache_book.specs.Permits.{Pinned, Granted}
use Rattle.cache_book.specs.Looking.{Looks, LooksBy, AskedAll, bypass_mark, bypassed}
use Rattle.cache_book.specs.Calls.{Call, Answer, Step, Look, Looked}
use Rattle.cache_seam.specs.Seen.{Seen}
use Rattle.cache_seam.specs.Turns.{Turn, AreTurns, seen_after}
use Rattle.cache_seam.specs.Hand.{permits_of}
use Rattle.line_base.specs.Lines.{Entry, names_of, calls_after}
use Rattle.line_base.specs.declared.script.Told.{Told}
use Rattle.line_base.specs.Told.{names_told, entries_told}
use Rattle.fetch_asks.specs.declared.ask.Ask.{Ask}
use Rattle.piece_fetch.specs.declared.came.Coming.{Coming}
use Rattle.piece_fetch.specs.declared.fetched.Fetched.{Fetched}
use Rattle.piece_fetch.specs.Coming.{Sends}
use Rattle.piece_fetch.specs.Fetching.{FetchesPieces}
use Rattle.plan_run.specs.Plans.{Wanted}
use Rattle.plan_run.specs.Outcomes.{Done, turns_of, entries_of}
use Rattle.plan_run.specs.Requests.{AreRun}
use Rattle.workload.specs.Tallying.{raised, misses_among, looked_by}
use Rattle.workload.specs.Between.{is_ticket, is_ticketed, tickets_named, tickets_sent}
use Rattle.workload.proofs.Looking.{looked_append, fetch_looked}

-- ---- each turn is a step

abbrev pub EachSteps : List Turn → Type 0
EachSteps [] = Unit {0}
EachSteps (t ∷ ts) = Step t.found t.call t.answer t.left × EachSteps ts

pub each_steps : (c : Seen) (ts : List Turn) → AreTurns c ts → EachSteps ts
each_steps c [] are = tt
each_steps c (t ∷ ts) are = (are.0.step, each_steps (seen_after c t) ts are.1)

first_steps : (xs ys : List Turn) → EachSteps (xs ++ ys) → EachSteps xs
first_steps [] ys h = tt
first_steps (x ∷ xs) ys h = (h.0, first_steps xs ys h.1)

last_steps : (xs ys : List Turn) → EachSteps (xs ++ ys) → EachSteps ys
last_steps [] ys h = h
last_steps (x ∷ xs) ys h = last_steps xs ys h.1

-- ---- which permits have a ticket

-- that of a miss has one, and that of a bypass none
abbrev AreMarked : List Found → Type 0
AreMarked [] = Unit {0}
AreMarked (found.Hit lookup stored value left_ms private ∷ answers) = AreMarked answers
AreMarked (found.Miss lookup permit ∷ answers) = (is_ticket permit.mark ≡ true) × AreMarked answers
AreMarked (found.Bypass permit ∷ answers) = (is_ticket permit.mark ≡ false) × AreMarked answers

asked_marked : (pass : Pinned) (id : Option (List ℕ)) (now : ℕ) (keys : List Key) (J : List Event) (answers : List Found) (K : List Event) → AskedAll pass id now keys J answers K → AreMarked answers
asked_marked pass id now [] J [] K h = tt
asked_marked pass id now (key ∷ keys) J (found.Hit lookup stored value left_ms private ∷ answers) K (M, one, rest) = asked_marked pass id now keys M answers K rest
asked_marked pass id now (key ∷ keys) J (found.Miss lookup permit ∷ answers) K (M, one, rest) = (ap (λ (p : Granted). is_ticket p.mark) one.permit_is, asked_marked pass id now keys M answers K rest)
asked_marked pass id now (key ∷ keys) J (found.Bypass permit ∷ answers) K (M, one, rest) = (ap (λ (p : Granted). is_ticket p.mark) one.permit_is, asked_marked pass id now keys M answers K rest)
asked_marked pass id now [] J (answer ∷ answers) K h = absurd h
asked_marked pass id now (key ∷ keys) J [] K h = absurd h

bypassed_marked : (pass : Pinned) (id : Option (List ℕ)) (m : Mark) (keys : List Key) → is_ticket m ≡ false → AreMarked (bypassed pass id m keys)
bypassed_marked pass id m [] none = tt
bypassed_marked pass id m (key ∷ keys) none = (none, bypassed_marked pass id m keys none)

marked_by : (m k : Mark) → Some k ≡ Some m → is_ticket k ≡ false → is_ticket m ≡ false
marked_by m k e none = subst (λ (x : Mark). is_ticket x ≡ false) (same_Some k m e) none

bypass_unticketed : (s : State) (pass : Pinned) (n : ℕ) (m : Mark) → bypass_mark s pass n ≡ Some m → is_ticket m ≡ false
bypass_unticketed s pass n m = by_tests (s.epoch == 2 ^ 64 - 1) (not (pass.epoch == s.epoch)) (nat_lt s.limits.events (length s.journal + reserved s.journal + 3 * n))
  where
    by_tests : (a b c : Bool) → (if a then Some mark.Retired else (if b then Some (mark.Over pass.epoch s.epoch) else (if c then Some (mark.Full (length s.journal) (reserved s.journal) (min (3 * n) (2 ^ 64 - 1)) s.limits.events) else None))) ≡ Some m → is_ticket m ≡ false
    by_tests true b c e = marked_by m mark.Retired e refl
    by_tests false true c e = marked_by m (mark.Over pass.epoch s.epoch) e refl
    by_tests false false true e = marked_by m (mark.Full (length s.journal) (reserved s.journal) (min (3 * n) (2 ^ 64 - 1)) s.limits.events) e refl
    by_tests false false false e = absurd (cc e)

looks_marked : (s : State) (pass : Pinned) (id : Option (List ℕ)) (asks : List Key) (now : ℕ) (answers : List Found) (new : State) → Looks s pass id asks now answers new → AreMarked answers
looks_marked s pass id asks now answers new = by_mark (bypass_mark s pass (length asks)) refl
  where
    by_mark : (m : Option Mark) → bypass_mark s pass (length asks) ≡ m → LooksBy m s pass id asks now answers new → AreMarked answers
    by_mark None e h = asked_marked pass id now asks s.journal answers new.journal h.0
    by_mark (Some m) e h = subst AreMarked (sym h.0) (bypassed_marked pass id m asks (bypass_unticketed s pass (length asks) m e))

abbrev one_if : Bool → ℕ
one_if b = if b then 1 else 0

marked_tickets : (answers : List Found) → AreMarked answers → misses_among answers ≡ tickets_named (names_of (permits_of answers))
marked_tickets [] h = refl
marked_tickets (found.Hit lookup stored value left_ms private ∷ answers) h = marked_tickets answers h
marked_tickets (found.Miss lookup permit ∷ answers) h =
    let one : one_if (is_ticket permit.mark) ≡ 1 = ap one_if h.0 in
    omega (arith, one, marked_tickets answers h.1)
marked_tickets (found.Bypass permit ∷ answers) h =
    let none : one_if (is_ticket permit.mark) ≡ 0 = ap one_if h.0 in
    omega (arith, none, marked_tickets answers h.1)

-- ---- the tickets of a run

sent_tickets : (ask : Ask) (id : Option (List ℕ)) (permits : List Granted) (entries : List Entry) (coming : Coming) → Sends ask id permits entries coming → tickets_sent entries ≡ tickets_named (names_of permits)
sent_tickets ask id [] entries coming h = ap tickets_sent h.0
sent_tickets ask id (p ∷ ps) entries coming (e, is, sent, comes) =
    let one : tickets_sent entries ≡ tickets_named e.permits + 0 = ap tickets_sent is in
    let same : tickets_named e.permits ≡ tickets_named (names_of (p ∷ ps)) = ap tickets_named sent.0 in
    omega (arith, one, same)

tickets_append : (xs ys : List Entry) → tickets_sent (xs ++ ys) ≡ tickets_sent xs + tickets_sent ys
tickets_append [] ys = omega arith
tickets_append (e ∷ es) ys = omega (arith, tickets_append es ys)

fetch_misses : (ask : Ask) (keys : List Key) (id : Option (List ℕ)) (line call : ℕ) (pass : Pinned) (now : ℕ) (turns : List Turn) (entries : List Entry) (f : Fetched)
    → FetchesPieces ask keys id line call pass now turns entries f → EachSteps turns → looked_by misses_among turns ≡ tickets_sent entries
fetch_misses ask keys id line call pass now turns entries f h steps =
    let look : Step h.look.found h.look.call h.look.answer h.look.left = (subst EachSteps h.turns_are steps).0 in
    let looked : Step h.look.found (Look pass id keys now) (Looked h.answers) h.look.left =
    subst (λ (a : Answer). Step h.look.found (Look pass id keys now) a h.look.left) h.looked (subst (λ (c : Call). Step h.look.found c h.look.answer h.look.left) h.looks look) in
    fetch_looked misses_among ask keys id line call pass now turns entries f h
    ∙ marked_tickets h.answers (looks_marked h.look.found pass id keys now h.answers h.look.left looked)
    ∙ sym (sent_tickets ask id (permits_of h.answers) entries h.coming h.sends)

-- the misses of a run's looks are the tickets under which its calls were made
pub misses_told : (id : Option (List ℕ)) (line : ℕ) (pass : Pinned) (calls : ℕ) (ws : List Wanted) (ds : List Done) → AreRun id line pass calls ws ds → EachSteps (turns_of ds)
    → looked_by misses_among (turns_of ds) ≡ tickets_sent (entries_of ds)
misses_told id line pass calls [] [] runs steps = refl
misses_told id line pass calls (w ∷ ws) (d ∷ ds) runs steps =
    let one = fetch_misses w.ask w.keys id line calls pass d.now d.turns d.entries d.fetched runs.0 (first_steps d.turns (turns_of ds) steps) in
    let rest = misses_told id line pass (calls_after calls d.entries) ws ds runs.1 (last_steps d.turns (turns_of ds) steps) in
    omega (arith, looked_append misses_among d.turns (turns_of ds), tickets_append d.entries (entries_of ds), one, rest)
misses_told id line pass calls [] (d ∷ ds) runs steps = absurd runs
misses_told id line pass calls (w ∷ ws) [] runs steps = absurd runs

-- ---- the tickets of a call as the code counts them

pub counted_tickets : (ps : List (ℕ × Mark × Key)) → count_by is_ticketed ps ≡ tickets_named (names_told ps)
counted_tickets [] = refl
counted_tickets (p ∷ ps) = sum_by-cons (λ (x : ℕ × Mark × Key). if is_ticketed x then 1 else 0) p ps ∙ ap (λ (n : ℕ). one_if (is_ticket p.1) + n) (counted_tickets ps)

-- one call more
pub tickets_step : (ts : List Told) (i : ℕ) (t : Told) (sum n new w : ℕ) → i < length ts → t ≡ get_or ts i t → n ≡ count_by is_ticketed t.permits.items → new ≡ min (sum + n) (2 ^ 64 - 1)
    → raised sum (tickets_sent (entries_told (drop i ts))) ≡ w → raised new (tickets_sent (entries_told (drop (i + 1) ts))) ≡ w
tickets_step ts i t sum n new w lt is counted more whole =
    let split : drop i ts ≡ t ∷ drop (i + 1) ts = drop_more ts i t lt ∙ ap (λ (x : Told). x ∷ drop (i + 1) ts) (sym is) in
    let all : tickets_sent (entries_told (drop i ts)) ≡ tickets_named (names_told t.permits.items) + tickets_sent (entries_told (drop (i + 1) ts)) = ap (λ (l : List Told). tickets_sent (entries_told l)) split in
    let one : n ≡ tickets_named (names_told t.permits.items) = counted ∙ counted_tickets t.permits.items in
    omega (arith, all, one, more, whole)

-- no call is left
pub tickets_end : (ts : List Told) (i sum w : ℕ) → length ts ≤ i → sum ≤ 2 ^ 64 - 1 → raised sum (tickets_sent (entries_told (drop i ts))) ≡ w → sum ≡ w
tickets_end ts i sum w past fits whole =
    let none : tickets_sent (entries_told (drop i ts)) ≡ 0 = ap (λ (l : List Told). tickets_sent (entries_told l)) (drop_all i ts past) in
    omega (arith, none, fits, whole)
