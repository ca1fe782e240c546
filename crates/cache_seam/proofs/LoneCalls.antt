-- A step on a book of one's own is a call.
use Rattle.std.proofs.Common.{◌≡◌, ℕ, ◌==◌, Bool, true, false, List, [], length, Option, Some, None, refl, ap, sym, subst, ◌∙◌, arith, eq-eqb}
use Rattle.std.specs.Prelude.{MatchBool, if◌then◌else◌, Result, Ok, Err, IfOk, OnErr}
use Rattle.cache_terms.specs.declared.keys.Key.{Key}
use Rattle.cache_terms.specs.declared.events.Event.{Event}
use Rattle.cache_terms.specs.declared.events.Mark.{Mark}
use Rattle.cache_terms.specs.declared.events.Mark.TheVariants as mark
use Rattle.cache_terms.specs.declared.events.Outcome.TheVariants as outcome
use Rattle.cache_book.specs.declared.answers.Settled.{Settled}
use Rattle.cache_book.specs.declared.found.Found.{Found}
use Rattle.cache_book.specs.declared.permit.Report.{Report}
use Rattle.cache_model.specs.State.{State}
use Rattle.cache_model.proofs.StoryLaws.{without_refl}
use Rattle.cache_book.specs.Permits.{Pinned, Granted}
use Rattle.cache_book.specs.Looking.{LooksBy, bypass_mark}
use Rattle.cache_book.specs.Settling.{SettlesBy, Appends, Leaves}
use Rattle.cache_book.specs.Calls.{Call, Answer, Step, MayCall, Begin, Look, Settle, Invalidate, Tally, Begun, Looked, Closed, Voided, Tallied, OutOfMemory}
use Rattle.cache_book.proofs.Stepping.{step_legal}
use Rattle.cache_seam.specs.Objects.{CallOffersObject, KeepsObjects}
use Rattle.cache_seam.specs.Seen.{IsCoherent, pass_of}
use Rattle.cache_seam.specs.Turns.{Turn, Calls, IsOwnCall, pinned_after, begun_after, seen_after}
use Rattle.cache_seam.specs.Lonely.{seen_alone}
use Rattle.cache_seam.proofs.KeptObjects.{step_objects}

looks_epoch : (how : Option Mark) (old : State) (pass : Pinned) (id : Option (List ℕ)) (asks : List Key) (now : ℕ) (answers : List Found) (new : State) → LooksBy how old pass id asks now answers new → old.epoch ≡ new.epoch
looks_epoch (Some m) old pass id asks now answers new h = ap (λ (s : State). s.epoch) (sym h.1)
looks_epoch None old pass id asks now answers new h = ap (λ (s : State). s.epoch) (sym h.1)

settles_epoch : (m : Mark) (old : State) (p : Granted) (r : Report) (c : Settled) (new : State) → SettlesBy m old p r c new → old.epoch ≡ new.epoch
settles_epoch (mark.Ticket t) old p r c new h = by_epoch (p.epoch == old.epoch) h
  where
    by_epoch : (b : Bool) → MatchBool b (Appends old t p r c new) (Leaves old (outcome.Over p.epoch old.epoch) c new) → old.epoch ≡ new.epoch
    by_epoch true h' = ap (λ (s : State). s.epoch) (sym h'.after)
    by_epoch false h' = ap (λ (s : State). s.epoch) (sym h'.same)
settles_epoch (mark.Over u v) old p r c new h = ap (λ (s : State). s.epoch) (sym h.same)
settles_epoch (mark.Full u v w z) old p r c new h = ap (λ (s : State). s.epoch) (sym h.same)
settles_epoch (mark.Wide u v) old p r c new h = ap (λ (s : State). s.epoch) (sym h.same)
settles_epoch mark.Retired old p r c new h = ap (λ (s : State). s.epoch) (sym h.same)

-- a step that pins to nothing leaves the epoch as it is
pub pinned_to_left : (old : State) (call : Call) (answer : Answer) (new : State) → Step old call answer new → pinned_after call old.epoch new.epoch ≡ new.epoch
pinned_to_left old (Begin who) answer new h = refl
pinned_to_left old (Invalidate who target) answer new h = refl
pinned_to_left old (Look pass id asks now) (Looked fs) new h = looks_epoch (bypass_mark old pass (length asks)) old pass id asks now fs new h
pinned_to_left old (Look pass id asks now) OutOfMemory new h = ap (λ (s : State). s.epoch) (sym h)
pinned_to_left old (Settle p r) (Closed c) new h = settles_epoch p.mark old p r c new h
pinned_to_left old Tally (Tallied t) new h = ap (λ (s : State). s.epoch) (sym h.1)
pinned_to_left old (Look pass id asks now) (Begun q) new h = absurd h
pinned_to_left old (Look pass id asks now) (Closed c) new h = absurd h
pinned_to_left old (Look pass id asks now) (Voided v) new h = absurd h
pinned_to_left old (Look pass id asks now) (Tallied t) new h = absurd h
pinned_to_left old (Settle p r) (Begun q) new h = absurd h
pinned_to_left old (Settle p r) (Looked fs) new h = absurd h
pinned_to_left old (Settle p r) (Voided v) new h = absurd h
pinned_to_left old (Settle p r) (Tallied t) new h = absurd h
pinned_to_left old (Settle p r) OutOfMemory new h = absurd h
pinned_to_left old Tally (Begun q) new h = absurd h
pinned_to_left old Tally (Looked fs) new h = absurd h
pinned_to_left old Tally (Closed c) new h = absurd h
pinned_to_left old Tally (Voided v) new h = absurd h
pinned_to_left old Tally OutOfMemory new h = absurd h

alone_coherent : (s : State) (b : Bool) → KeepsObjects s → IsCoherent (seen_alone s b)
alone_coherent s b lawful = record { reached = omega arith; current = λ _. refl; over = λ later. absurd (omega arith); lawful = lawful }

seen_here : (new : State) (b : Bool) (J : List Event) (pinned : ℕ) → pinned ≡ new.epoch → seen_alone new b ≡ record { number = 0; pinned = pinned; begun = b; journal = if new.epoch == pinned then new.journal else J; left = new; home = []; lone = true; trace = None }
seen_here new b J pinned is =
    let test : (new.epoch == pinned) ≡ true = eq-eqb new.epoch pinned (sym is) in
    let same : (if new.epoch == pinned then new.journal else J) ≡ new.journal = ap (λ (t : Bool). if t then new.journal else J) test in
    cc

-- a step on the book is a call under number 0
pub lone_calls : (old : State) (b : Bool) (call : Call) (answer : Answer) (new : State) → KeepsObjects old → IsOwnCall (seen_alone old b) call → MayCall old call → CallOffersObject call → Step old call answer new
    → Calls (seen_alone old b) call answer (seen_alone new (begun_after call b))
lone_calls old b call answer new lawful own may offers h =
    let t : Turn = record { found = old; call = call; answer = answer; left = new } in
    let left : KeepsObjects new = record { legal = step_legal old call answer new lawful.legal may h; objects = step_objects old call answer new h offers lawful.objects } in
    let after : seen_alone new (begun_after call b) ≡ seen_after (seen_alone old b) t = seen_here new (begun_after call b) old.journal (pinned_after call old.epoch new.epoch) (pinned_to_left old call answer new h) in
    record {
      turn = t;
      call_is = refl;
      answer_is = refl;
      is_turn = record { before = alone_coherent old b lawful; own = own; goes_on = without_refl 0 old; alone = λ _. refl; found_lawful = lawful; may = may; offers = offers; step = h; after = subst IsCoherent after (alone_coherent new (begun_after call b) left) };
      after = after;
    }

pub lawful_after : (old : State) (call : Call) (answer : Answer) (new : State) → KeepsObjects old → MayCall old call → CallOffersObject call → Step old call answer new → KeepsObjects new
lawful_after old call answer new lawful may offers h = record { legal = step_legal old call answer new lawful.legal may h; objects = step_objects old call answer new h offers lawful.objects }

-- a look that may want memory leaves a lawful state
pub looked_lawful : {X Y : Type 0} (r : Result X Y) (told : X → List Found) (old new : State) (pass : Pinned) (id : Option (List ℕ)) (asks : List Key) (now : ℕ) → KeepsObjects old
    → IfOk r (λ a. Step old (Look pass id asks now) (Looked (told a)) new) → OnErr r (Step old (Look pass id asks now) OutOfMemory new) → KeepsObjects new
looked_lawful (Ok a) told old new pass id asks now lawful ok err = lawful_after old (Look pass id asks now) (Looked (told a)) new lawful tt tt ok
looked_lawful (Err e) told old new pass id asks now lawful ok err = lawful_after old (Look pass id asks now) OutOfMemory new lawful tt tt err

-- so is its epoch
pub looked_epoch : {X Y : Type 0} (r : Result X Y) (told : X → List Found) (old new : State) (pass : Pinned) (id : Option (List ℕ)) (asks : List Key) (now : ℕ)
    → IfOk r (λ a. Step old (Look pass id asks now) (Looked (told a)) new) → OnErr r (Step old (Look pass id asks now) OutOfMemory new) → old.epoch ≡ new.epoch
looked_epoch (Ok a) told old new pass id asks now ok err = pinned_to_left old (Look pass id asks now) (Looked (told a)) new ok
looked_epoch (Err e) told old new pass id asks now ok err = pinned_to_left old (Look pass id asks now) OutOfMemory new err

pass_is : (old : State) (b : Bool) (pass : Pinned) → pass.who ≡ 0 → pass.epoch ≡ old.epoch → pass ≡ pass_of (seen_alone old b)
pass_is old b pass who epoch = ap (λ (w : ℕ). record { who = w; epoch = pass.epoch }) who ∙ ap (λ (e : ℕ). record { who = 0; epoch = e }) epoch

pub lone_looks : {X Y : Type 0} (r : Result X Y) (told : X → List Found) (old new : State) (b : Bool) (pass : Pinned) (id : Option (List ℕ)) (asks : List Key) (now : ℕ) → KeepsObjects old → pass.who ≡ 0 → pass.epoch ≡ old.epoch → b ≡ true
    → IfOk r (λ a. Step old (Look pass id asks now) (Looked (told a)) new) → IfOk r (λ a. Calls (seen_alone old b) (Look (pass_of (seen_alone old b)) id asks now) (Looked (told a)) (seen_alone new b))
lone_looks (Ok a) told old new b pass id asks now lawful who epoch begun ok =
    let is = pass_is old b pass who epoch in
    subst (λ (p : Pinned). Calls (seen_alone old b) (Look p id asks now) (Looked (told a)) (seen_alone new b)) is (lone_calls old b (Look pass id asks now) (Looked (told a)) new lawful (is, begun) tt tt ok)
lone_looks (Err e) told old new b pass id asks now lawful who epoch begun ok = tt

pub lone_looks_not : {X Y : Type 0} (r : Result X Y) (old new : State) (b : Bool) (pass : Pinned) (id : Option (List ℕ)) (asks : List Key) (now : ℕ) → KeepsObjects old → pass.who ≡ 0 → pass.epoch ≡ old.epoch → b ≡ true
    → OnErr r (Step old (Look pass id asks now) OutOfMemory new) → OnErr r (Calls (seen_alone old b) (Look (pass_of (seen_alone old b)) id asks now) OutOfMemory (seen_alone new b))
lone_looks_not (Ok a) old new b pass id asks now lawful who epoch begun err = tt
lone_looks_not (Err e) old new b pass id asks now lawful who epoch begun err =
    let is = pass_is old b pass who epoch in
    subst (λ (p : Pinned). Calls (seen_alone old b) (Look p id asks now) OutOfMemory (seen_alone new b)) is (lone_calls old b (Look pass id asks now) OutOfMemory new lawful (is, begun) tt tt err)
