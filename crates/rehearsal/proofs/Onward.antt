-- From each of its fronts a script goes on, to its end or to a line that is refused.
use Rattle.std.proofs.Common.{◌≡◌, inl, inr, ℕ, ◌+◌, Bool, List, [], ◌∷◌, ◌++◌, Option, Some, None, refl, ap, sym, ◌∙◌, subst, append_assoc}
use Rattle.std.proofs.lemmas.List.{append-nil}
use Rattle.std.specs.FinMap as map
use Rattle.cache_terms.specs.declared.keys.Key.{Key}
use Rattle.cache_terms.specs.declared.keys.Target.{Target}
use Rattle.cache_terms.specs.declared.tags.Tags.{Tags}
use Rattle.cache_terms.specs.declared.events.Limits.{Limits}
use Rattle.cache_terms.specs.declared.events.Mark.{Mark}
use Rattle.cache_terms.specs.declared.events.Mark.TheVariants as mark
use Rattle.cache_model.specs.State.{State, IsWithinRanges, IsLegalState}
use Rattle.cache_book.specs.Permits.{Pinned, Granted}
use Rattle.cache_book.specs.Settling.{MaySettle, IsInRange}
use Rattle.cache_book.specs.Owed.{KeepsOthers, KeepsPermits, KeepsEarlier}
use Rattle.cache_book.specs.Calls as call
use Rattle.cache_book.specs.Calls.{Answer, Step}
use Rattle.cache_book.specs.declared.found.Found.{Found}
use Rattle.cache_book.specs.declared.found.Found.TheVariants as found
use Rattle.cache_book.specs.declared.permit.Report.{Report}
use Rattle.cache_book.specs.declared.permit.Report.TheVariants as report
use Rattle.cache_book.proofs.Stepping.{step_legal, opened_legal}
use Rattle.cache_book.proofs.Outliving.{step_outlived, look_outlived, settle_outlived, look_owed}
use Rattle.cache_book.proofs.Answered.{not_stuck}
use Rattle.cache_control.specs.Rules.{IsVerdict}
use Rattle.cache_control.specs.Reading.{verdict_of}
use Rattle.cache_control.proofs.Laws.{verdict_stands}
use Rattle.cache_terms.specs.declared.offers.Verdict.{Verdict}
use Rattle.cache_control.proofs.Digits.{verdict_in_range}
use Rattle.script_lines.specs.Script.{words}
use Rattle.script_lines.specs.Commands.{Says}
use Rattle.script_lines.specs.declared.commands.Command.{Command}
use Rattle.script_lines.specs.declared.commands.Command.TheVariants as command
use Rattle.script_lines.specs.Replies.{reply_text}
use Rattle.script_lines.specs.declared.replies.Reply.{Reply}
use Rattle.script_lines.specs.declared.replies.Cause.{Cause}
use Rattle.script_lines.specs.declared.replies.Cause.TheVariants as cause
use Rattle.rehearsal.specs.Scene.{Scene, Permits, opening, handed, with_permit}
use Rattle.rehearsal.specs.Replied.{refusal}
use Rattle.rehearsal.specs.Acts.{DoesBegin, DoesLook, DoesSettle, DoesVoid, DoesTally, Does, Lacks, Plays, RefusesLine, offered, stated}
use Rattle.rehearsal.specs.InHand.{IsReady, IsNew, IsTakeable}
use Rattle.rehearsal.specs.Runs.{Extent, Whole, Refused, Front, Runs, IsComplete, IsDeadEnd}
use Rattle.rehearsal.proofs.Holding.{settle_ready, empty_ready, insert_ready, looks_one, looks_ready, begun_ready, voids_ready}

-- what holds of a scene between two lines: its book is legal, and each permit in hand may be settled
pub record IsSound (s : Scene) : Type 0 where
  pub legal : IsLegalState s.book
  pub ready : IsReady s.book s.hand

opening_sound : (limits : Limits) → IsWithinRanges limits → IsSound (opening limits)
opening_sound limits ranges = record { legal = opened_legal limits 0 ranges; ready = empty_ready (opening limits).book (opening limits).hand refl }

-- WHAT A COMMAND LEAVES IS SOUND

-- the offers of a script are in range
said_in_range : (line : List (List ℕ)) (epoch ticket lifetime age : ℕ) (private : Bool) (tags : Tags) (value : List ℕ) → Says line (command.Settle epoch ticket lifetime age private tags value)
    → IsInRange (report.Got (offered 200 (stated lifetime age private) tags value))
said_in_range line epoch ticket lifetime age private tags value says = (says.lifetime_is.within, says.age_is.within)

replied_in_range : (status : ℕ) (age cache_control : Option (List ℕ)) (tags : Tags) (value : List ℕ) (verdict : Verdict) → IsVerdict cache_control age verdict → IsInRange (report.Got (offered status verdict tags value))
replied_in_range status age cache_control tags value verdict is = verdict_in_range cache_control age verdict is

begin_sound : (old : Scene) (who : ℕ) (reply : Reply) (new : Scene) → IsSound old → DoesBegin old who reply new → IsSound new
begin_sound old who reply new sound h =
    let keeps : KeepsEarlier old.book new.book = λ p began may. step_outlived old.book (call.Begin who) (call.Begun h.pass) new.book p h.step began tt may in
    record {
      legal = step_legal old.book (call.Begin who) (call.Begun h.pass) new.book sound.legal tt h.step;
      ready = subst (IsReady new.book) (sym h.hand) (begun_ready old.book new.book old.hand h.step.0 keeps sound.ready);
    }

with_permit_ready : (book : State) (hand : Permits) (p : Granted) (m : Mark) → IsNew book hand p m → IsReady book hand → IsReady book (with_permit hand p m)
with_permit_ready book hand p (mark.Ticket t) new ready = insert_ready book hand t p new.0 ready
with_permit_ready book hand p (mark.Over a b) new ready = ready
with_permit_ready book hand p (mark.Full a b c d) new ready = ready
with_permit_ready book hand p (mark.Wide a b) new ready = ready
with_permit_ready book hand p mark.Retired new ready = ready

handed_ready : (book : State) (hand : Permits) (a : Found) → IsTakeable book hand a → IsReady book hand → IsReady book (handed hand a)
handed_ready book hand (found.Hit l q v m b) new ready = ready
handed_ready book hand (found.Miss l p) new ready = with_permit_ready book hand p p.mark new ready
handed_ready book hand (found.Bypass p) new ready = with_permit_ready book hand p p.mark new ready

look_sound : (old : Scene) (who : ℕ) (id : Option (List ℕ)) (now : ℕ) (key : Key) (reply : Reply) (new : Scene) → IsSound old → DoesLook old who id now key reply new → IsSound new
look_sound old who id now key reply new sound h =
    let keeps : KeepsPermits old.book new.book = look_outlived old.book h.pass id (key ∷ []) now (h.answer ∷ []) new.book h.step in
    let owed = look_owed old.book h.pass id (key ∷ []) now (h.answer ∷ []) new.book sound.legal h.step in
    let kept = looks_ready h.pass id now key old.book old.hand h.answer new.book h.step keeps owed.0 sound.ready in
    record {
      legal = step_legal old.book (call.Look h.pass id (key ∷ []) now) (call.Looked (h.answer ∷ [])) new.book sound.legal tt h.step;
      ready = subst (IsReady new.book) (sym h.hand) (handed_ready new.book old.hand h.answer kept.takeable kept.ready);
    }

settle_sound : (old : Scene) (epoch ticket : ℕ) (by : Report) (reply : Reply) (new : Scene) → IsInRange by → IsSound old → DoesSettle old epoch ticket by reply new → IsSound new
settle_sound old epoch ticket by reply new range sound h =
    let may : MaySettle old.book h.permit = (sound.ready (epoch, ticket) h.permit h.held).may in
    let keeps : KeepsOthers old.book h.permit new.book = settle_outlived old.book h.permit by h.settled new.book h.step in
    record {
      legal = step_legal old.book (call.Settle h.permit by) (call.Closed h.settled) new.book sound.legal (may, range) h.step;
      ready = subst (IsReady new.book) (sym h.hand) (settle_ready old.book old.hand (epoch, ticket) h.permit by h.settled new.book h.held h.step keeps sound.ready);
    }

void_sound : (old : Scene) (who : ℕ) (target : Target) (reply : Reply) (new : Scene) → IsSound old → DoesVoid old who target reply new → IsSound new
void_sound old who target reply new sound h =
    let keeps : KeepsEarlier old.book new.book = λ p began may. step_outlived old.book (call.Invalidate who target) (call.Voided h.answer) new.book p h.step began tt may in
    record {
      legal = step_legal old.book (call.Invalidate who target) (call.Voided h.answer) new.book sound.legal tt h.step;
      ready = subst (IsReady new.book) (sym h.hand) (voids_ready old.book who target h.answer new.book old.hand h.step keeps sound.ready);
    }

tally_sound : (old : Scene) (reply : Reply) (new : Scene) → IsSound old → DoesTally old reply new → IsSound new
tally_sound old reply new sound h = record {
  legal = subst IsLegalState (sym h.step.1) sound.legal;
  ready = subst (IsReady new.book) (sym h.hand) (subst (λ (b : State). IsReady b old.hand) (sym h.step.1) sound.ready);
}

does_sound : (line : List (List ℕ)) (c : Command) (old : Scene) (reply : Reply) (new : Scene) → Says line c → IsSound old → Does old c reply new → IsSound new
does_sound line (command.Begin who) old reply new says sound h = begin_sound old who reply new sound h
does_sound line (command.Look who id now key) old reply new says sound h = look_sound old who id now key reply new sound h
does_sound line (command.Settle epoch ticket lifetime age private tags value) old reply new says sound h =
    settle_sound old epoch ticket (report.Got (offered 200 (stated lifetime age private) tags value)) reply new (said_in_range line epoch ticket lifetime age private tags value says) sound h
does_sound line (command.Reply epoch ticket status age tags value cache_control) old reply new says sound h =
    settle_sound old epoch ticket (report.Got (offered status (h.0) tags value)) reply new (replied_in_range status age cache_control tags value (h.0) h.1) sound h.2
does_sound line (command.Fail epoch ticket) old reply new says sound h = settle_sound old epoch ticket report.Failed reply new tt sound h
does_sound line (command.Void who target) old reply new says sound h = void_sound old who target reply new sound h
does_sound line command.Tally old reply new says sound h = tally_sound old reply new sound h

plays_sound : (old : Scene) (line text : List ℕ) (new : Scene) → IsSound old → Plays old line text new → IsSound new
plays_sound old line text new sound (inl quiet) = subst IsSound (sym quiet.2) sound
plays_sound old line text new sound (inr h) = does_sound (words line) (h.0) old (h.1) new h.2 sound h.3

-- NO COMMAND IS STUCK

-- no scene follows by the command
abbrev IsIdle : Scene → Command → Type 0
IsIdle old c = (reply : Reply) (new : Scene) → Does old c reply new → ⊥

begin_goes : (old : Scene) (who : ℕ) → IsSound old → IsIdle old (command.Begin who) → ⊥
begin_goes old who sound idle = not_stuck old.book (call.Begin who) sound.legal tt by_answer
  where
    by_answer : (answer : Answer) (new : State) → (call.IsWantOfMemory answer → ⊥) → Step old.book (call.Begin who) answer new → ⊥
    by_answer (call.Begun pass) new given step = idle _ (record { book = new; passes = map.insert old.passes who pass; hand = old.hand }) (record { pass = pass; step = step; passes = refl; hand = refl; says = refl })
    by_answer (call.Looked fs) new given step = step
    by_answer (call.Closed c) new given step = step
    by_answer (call.Voided v) new given step = step
    by_answer (call.Tallied t) new given step = step
    by_answer call.OutOfMemory new given step = step

look_goes : (old : Scene) (who : ℕ) (id : Option (List ℕ)) (now : ℕ) (key : Key) → IsSound old → IsIdle old (command.Look who id now key) → (map.get old.passes who ≡ None → ⊥) → ⊥
look_goes old who id now key sound idle who_lacks = by_pass (map.get old.passes who) refl
  where
    by_pass : (o : Option Pinned) → map.get old.passes who ≡ o → ⊥
    by_pass None is = who_lacks is
    by_pass (Some pass) is = not_stuck old.book (call.Look pass id (key ∷ []) now) sound.legal tt by_answer
      where
        looked : (fs : List Found) (new : State) → Step old.book (call.Look pass id (key ∷ []) now) (call.Looked fs) new → ⊥
        looked fs new step =
            let one = looks_one pass id now key old.book fs new step in
            idle _ (record { book = new; passes = old.passes; hand = handed old.hand (one.0) }) (record {
              pass = pass;
              pass_is = is;
              answer = one.0;
              step = subst (λ (gs : List Found). Step old.book (call.Look pass id (key ∷ []) now) (call.Looked gs) new) one.1 step;
              passes = refl;
              hand = refl;
              says = refl;
            })

        by_answer : (answer : Answer) (new : State) → (call.IsWantOfMemory answer → ⊥) → Step old.book (call.Look pass id (key ∷ []) now) answer new → ⊥
        by_answer (call.Looked fs) new given step = looked fs new step
        by_answer (call.Begun p) new given step = step
        by_answer (call.Closed c) new given step = step
        by_answer (call.Voided v) new given step = step
        by_answer (call.Tallied t) new given step = step
        by_answer call.OutOfMemory new given step = given tt

settle_goes : (old : Scene) (epoch ticket : ℕ) (by : Report) → IsSound old → IsInRange by → ((reply : Reply) (new : Scene) → DoesSettle old epoch ticket by reply new → ⊥) → (map.get old.hand (epoch, ticket) ≡ None → ⊥) → ⊥
settle_goes old epoch ticket by sound range idle ticket_lacks = by_permit (map.get old.hand (epoch, ticket)) refl
  where
    by_permit : (o : Option Granted) → map.get old.hand (epoch, ticket) ≡ o → ⊥
    by_permit None is = ticket_lacks is
    by_permit (Some permit) is = not_stuck old.book (call.Settle permit by) sound.legal ((sound.ready (epoch, ticket) permit is).may, range) by_answer
      where
        by_answer : (answer : Answer) (new : State) → (call.IsWantOfMemory answer → ⊥) → Step old.book (call.Settle permit by) answer new → ⊥
        by_answer (call.Closed settled) new given step = idle _ (record { book = new; passes = old.passes; hand = map.remove old.hand (epoch, ticket) }) (record { permit = permit; held = is; settled = settled; step = step; passes = refl; hand = refl; says = refl })
        by_answer (call.Begun p) new given step = step
        by_answer (call.Looked fs) new given step = step
        by_answer (call.Voided v) new given step = step
        by_answer (call.Tallied t) new given step = step
        by_answer call.OutOfMemory new given step = step

void_goes : (old : Scene) (who : ℕ) (target : Target) → IsSound old → IsIdle old (command.Void who target) → ⊥
void_goes old who target sound idle = not_stuck old.book (call.Invalidate who target) sound.legal tt by_answer
  where
    by_answer : (answer : Answer) (new : State) → (call.IsWantOfMemory answer → ⊥) → Step old.book (call.Invalidate who target) answer new → ⊥
    by_answer (call.Voided v) new given step = idle _ (record { book = new; passes = old.passes; hand = old.hand }) (record { answer = v; step = step; passes = refl; hand = refl; says = refl })
    by_answer (call.Begun p) new given step = step
    by_answer (call.Looked fs) new given step = step
    by_answer (call.Closed c) new given step = step
    by_answer (call.Tallied t) new given step = step
    by_answer call.OutOfMemory new given step = step

tally_goes : (old : Scene) → IsSound old → IsIdle old command.Tally → ⊥
tally_goes old sound idle = not_stuck old.book call.Tally sound.legal tt by_answer
  where
    by_answer : (answer : Answer) (new : State) → (call.IsWantOfMemory answer → ⊥) → Step old.book call.Tally answer new → ⊥
    by_answer (call.Tallied t) new given step = idle _ (record { book = new; passes = old.passes; hand = old.hand }) (record { answer = t; step = step; passes = refl; hand = refl; says = refl })
    by_answer (call.Begun p) new given step = step
    by_answer (call.Looked fs) new given step = step
    by_answer (call.Closed c) new given step = step
    by_answer (call.Voided v) new given step = step
    by_answer call.OutOfMemory new given step = step

-- a command is carried out, or lacks a pass or a permit
command_goes : (line : List (List ℕ)) (c : Command) (old : Scene) → Says line c → IsSound old → IsIdle old c → (Lacks old c cause.Who → ⊥) → (Lacks old c cause.Ticket → ⊥) → ⊥
command_goes line (command.Begin who) old says sound idle no_who no_ticket = begin_goes old who sound idle
command_goes line (command.Look who id now key) old says sound idle no_who no_ticket = look_goes old who id now key sound idle no_who
command_goes line (command.Settle epoch ticket lifetime age private tags value) old says sound idle no_who no_ticket =
    settle_goes old epoch ticket (report.Got (offered 200 (stated lifetime age private) tags value)) sound (said_in_range line epoch ticket lifetime age private tags value says) idle no_ticket
command_goes line (command.Reply epoch ticket status age tags value cache_control) old says sound idle no_who no_ticket =
    settle_goes old epoch ticket (report.Got (offered status (verdict_of cache_control age) tags value)) sound (replied_in_range status age cache_control tags value (verdict_of cache_control age) (verdict_stands cache_control age))
    (λ reply new does. idle reply new (verdict_of cache_control age, verdict_stands cache_control age, does)) no_ticket
command_goes line (command.Fail epoch ticket) old says sound idle no_who no_ticket = settle_goes old epoch ticket report.Failed sound tt idle no_ticket
command_goes line (command.Void who target) old says sound idle no_who no_ticket = void_goes old who target sound idle
command_goes line command.Tally old says sound idle no_who no_ticket = tally_goes old sound idle

-- NO SCRIPT IS STUCK

line_goes : (old : Scene) (line : List ℕ) → IsSound old → ((text : List ℕ) (new : Scene) → Plays old line text new → ⊥) → ((c : Cause) → RefusesLine old line c → ⊥) → ⊥
line_goes old line sound idle refused = refused cause.Word (
  λ quiet. idle [] old (inl (quiet, refl, refl)),
  λ c says. command_goes (words line) c old says sound (λ reply new does. idle (reply_text reply) new (inr (c, reply, says, does, refl))) (λ lacks. refused cause.Who (c, says, lacks)) (λ lacks. refused cause.Ticket (c, says, lacks)),
)

lines_go : (number : ℕ) (s : Scene) (lines : List (List ℕ)) → IsSound s → ((out : List ℕ) (extent : Extent) → IsComplete extent → Runs number s lines out extent → ⊥) → ⊥
lines_go number s [] sound none = none [] Whole tt refl
lines_go number s (line ∷ lines) sound none = line_goes s line sound
    (λ reply next plays. lines_go (number + 1) next lines (plays_sound s line reply next sound plays) (λ out extent complete runs. none (reply ++ out) extent complete (inr (reply, out, next, plays, runs, refl))))
    (λ c refused. none (refusal number c) Refused tt (inl (c, refused, refl)))

-- from each front a whole or a refused run goes on
front_goes_on : (number : ℕ) (s : Scene) (lines : List (List ℕ)) (out : List ℕ) → IsSound s → Runs number s lines out Front → IsDeadEnd number s lines out → ⊥
front_goes_on number s [] out sound front dead = dead [] Whole tt (append-nil out ∙ front)
front_goes_on number s (line ∷ lines) out sound (inl none) dead = lines_go number s (line ∷ lines) sound (λ other extent complete runs.
    dead other extent complete (subst (λ (l : List ℕ). Runs number s (line ∷ lines) l extent) (sym (ap (λ (l : List ℕ). l ++ other) none)) runs))
front_goes_on number s (line ∷ lines) out sound (inr run) dead = front_goes_on (number + 1) (run.2) lines (run.1) (plays_sound s line (run.0) (run.2) sound run.3) run.4 (λ more extent complete runs.
    dead more extent complete (inr (run.0, run.1 ++ more, run.2, run.3, runs, ap (λ (l : List ℕ). l ++ more) run.5 ∙ append_assoc (run.0) (run.1) more)))

pub front_goes : (limits : Limits) (lines : List (List ℕ)) (out : List ℕ) → IsWithinRanges limits → Runs 1 (opening limits) lines out Front → IsDeadEnd 1 (opening limits) lines out → ⊥
front_goes limits lines out ranges front dead = front_goes_on 1 (opening limits) lines out (opening_sound limits ranges) front dead
