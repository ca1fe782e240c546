-- What is written for a script is determined, but for want of memory.
use Rattle.std.proofs.Common.{◌≡◌, inl, inr, ℕ, ◌+◌, ◌<◌, ◌≤◌, List, [], ◌∷◌, ◌++◌, get_or, Option, refl, ap, sym, ◌∙◌, subst, append_assoc, arith}
use Rattle.std.specs.List.{onto_first}
use Rattle.std.specs.FinMap as map
use Rattle.std.proofs.lemmas.Option.{same_Some}
use Rattle.cache_terms.specs.declared.keys.Key.{Key}
use Rattle.cache_terms.specs.declared.keys.Target.{Target}
use Rattle.cache_terms.specs.declared.events.Outcome.{Outcome}
use Rattle.cache_book.specs.Permits.{Pinned, Granted}
use Rattle.cache_book.specs.Calls as call
use Rattle.cache_book.specs.Calls.{Step}
use Rattle.cache_book.specs.declared.answers.Settled.{Settled}
use Rattle.cache_book.specs.declared.answers.Tally.{Tally}
use Rattle.cache_book.specs.declared.answers.Voided.{Voided}
use Rattle.cache_book.specs.declared.permit.Report.{Report}
use Rattle.cache_book.specs.declared.permit.Report.TheVariants as report
use Rattle.cache_book.specs.declared.found.Found.{Found}
use Rattle.cache_book.proofs.Determined.{step_unique}
use Rattle.cache_control.proofs.Laws.{verdict_unique}
use Rattle.cache_terms.specs.declared.offers.Verdict.{Verdict}
use Rattle.script_lines.specs.Script.{words, IsQuiet}
use Rattle.script_lines.specs.Commands.{Says}
use Rattle.script_lines.specs.Replies.{reply_text}
use Rattle.script_lines.specs.declared.replies.Reply.{Reply}
use Rattle.script_lines.specs.declared.replies.Reply.TheVariants as replies
use Rattle.script_lines.specs.declared.commands.Command.{Command}
use Rattle.script_lines.specs.declared.commands.Command.TheVariants as command
use Rattle.script_lines.specs.declared.replies.Cause.{Cause}
use Rattle.script_lines.specs.declared.replies.Cause.TheVariants as cause
use Rattle.script_lines.proofs.Forms.{first, letter, first_letter}
use Rattle.script_lines.proofs.Reading.{readings_agree}
use Rattle.rehearsal.specs.Scene.{Scene, handed}
use Rattle.rehearsal.specs.Replied.{found_reply, settled_reply, void_reply, tally_reply, refusal}
use Rattle.rehearsal.specs.Acts.{DoesBegin, DoesLook, DoesSettle, DoesVoid, DoesTally, Does, Lacks, Plays, RefusesLine, offered, stated}
use Rattle.rehearsal.specs.Runs.{Extent, Whole, Refused, Front, Ends, Runs, IsComplete, SaysMemory, FindsMemory}

-- COMMANDS

same_scene : (a b : Scene) → a.book ≡ b.book → a.passes ≡ b.passes → a.hand ≡ b.hand → a ≡ b
same_scene a b p q r = λ i. record { book = p i; passes = q i; hand = r i }

begun_found : (p : Pinned) → call.IsWantOfMemory (call.Begun p) → ⊥
begun_found p e = e

looked_found : (fs : List Found) → call.IsWantOfMemory (call.Looked fs) → ⊥
looked_found fs e = e

voided_found : (v : Voided) → call.IsWantOfMemory (call.Voided v) → ⊥
voided_found v e = e

tallied_found : (t : Tally) → call.IsWantOfMemory (call.Tallied t) → ⊥
tallied_found t e = e

-- the reply does not say that memory was wanting
abbrev IsFound : Reply → Type 0
IsFound x = SaysMemory (reply_text x) → ⊥

-- a settle whose reply does not say so found memory
closed_found : (x : Reply) (s : Settled) → IsFound x → x ≡ settled_reply s → call.IsWantOfMemory (call.Closed s) → ⊥
closed_found x s found says want = found (s.position, ap reply_text says ∙ ap (λ (o : Outcome). reply_text (replies.Settled s.position o)) want)

begins_same : (old : Scene) (who : ℕ) (x y : Reply) (n m : Scene) → DoesBegin old who x n → DoesBegin old who y m → (x ≡ y) × (n ≡ m)
begins_same old who x y n m h k =
    let one = step_unique old.book (call.Begin who) (call.Begun h.pass) (call.Begun k.pass) n.book m.book (begun_found h.pass) (begun_found k.pass) h.step k.step in
    let pass : h.pass ≡ k.pass = cc (one.0) in (
      h.says ∙ ap (λ (p : Pinned). replies.Epoch p.epoch) pass ∙ sym k.says,
      same_scene n m one.1 (h.passes ∙ ap (λ (p : Pinned). map.insert old.passes who p) pass ∙ sym k.passes) (h.hand ∙ sym k.hand),
    )

abbrev first_or : Found → List Found → Found
first_or d [] = d
first_or d (f ∷ fs) = f

looks_same : (old : Scene) (who : ℕ) (id : Option (List ℕ)) (now : ℕ) (key : Key) (x y : Reply) (n m : Scene) → DoesLook old who id now key x n → DoesLook old who id now key y m → (x ≡ y) × (n ≡ m)
looks_same old who id now key x y n m h k =
    let pass : h.pass ≡ k.pass = same_Some h.pass k.pass (sym h.pass_is ∙ k.pass_is) in
    let step = subst (λ (p : Pinned). Step old.book (call.Look p id (key ∷ []) now) (call.Looked (h.answer ∷ [])) n.book) pass h.step in
    let one = step_unique old.book (call.Look k.pass id (key ∷ []) now) (call.Looked (h.answer ∷ [])) (call.Looked (k.answer ∷ [])) n.book m.book (looked_found (h.answer ∷ [])) (looked_found (k.answer ∷ [])) step k.step in
    let answers : h.answer ∷ [] ≡ k.answer ∷ [] = cc (one.0) in
    let answer : h.answer ≡ k.answer = ap (first_or h.answer) answers in
    (h.says ∙ ap found_reply answer ∙ sym k.says, same_scene n m one.1 (h.passes ∙ sym k.passes) (h.hand ∙ ap (handed old.hand) answer ∙ sym k.hand))

settles_same : (old : Scene) (epoch ticket : ℕ) (by : Report) (x y : Reply) (n m : Scene) → IsFound x → IsFound y → DoesSettle old epoch ticket by x n → DoesSettle old epoch ticket by y m → (x ≡ y) × (n ≡ m)
settles_same old epoch ticket by x y n m found also h k =
    let permit : h.permit ≡ k.permit = same_Some h.permit k.permit (sym h.held ∙ k.held) in
    let step = subst (λ (p : Granted). Step old.book (call.Settle p by) (call.Closed h.settled) n.book) permit h.step in
    let one = step_unique old.book (call.Settle k.permit by) (call.Closed h.settled) (call.Closed k.settled) n.book m.book (closed_found x h.settled found h.says) (closed_found y k.settled also k.says) step k.step in
    let settled : h.settled ≡ k.settled = cc (one.0) in
    (h.says ∙ ap settled_reply settled ∙ sym k.says, same_scene n m one.1 (h.passes ∙ sym k.passes) (h.hand ∙ sym k.hand))

voids_same : (old : Scene) (who : ℕ) (t : Target) (x y : Reply) (n m : Scene) → DoesVoid old who t x n → DoesVoid old who t y m → (x ≡ y) × (n ≡ m)
voids_same old who t x y n m h k =
    let one = step_unique old.book (call.Invalidate who t) (call.Voided h.answer) (call.Voided k.answer) n.book m.book (voided_found h.answer) (voided_found k.answer) h.step k.step in
    let answer : h.answer ≡ k.answer = cc (one.0) in
    (h.says ∙ ap void_reply answer ∙ sym k.says, same_scene n m one.1 (h.passes ∙ sym k.passes) (h.hand ∙ sym k.hand))

tallies_same : (old : Scene) (x y : Reply) (n m : Scene) → DoesTally old x n → DoesTally old y m → (x ≡ y) × (n ≡ m)
tallies_same old x y n m h k =
    let one = step_unique old.book call.Tally (call.Tallied h.answer) (call.Tallied k.answer) n.book m.book (tallied_found h.answer) (tallied_found k.answer) h.step k.step in
    let answer : h.answer ≡ k.answer = cc (one.0) in
    (h.says ∙ ap tally_reply answer ∙ sym k.says, same_scene n m one.1 (h.passes ∙ sym k.passes) (h.hand ∙ sym k.hand))

does_same : (old : Scene) (c : Command) (x y : Reply) (n m : Scene) → IsFound x → IsFound y → Does old c x n → Does old c y m → (x ≡ y) × (n ≡ m)
does_same old (command.Begin who) x y n m found also h k = begins_same old who x y n m h k
does_same old (command.Look who id now key) x y n m found also h k = looks_same old who id now key x y n m h k
does_same old (command.Settle epoch ticket lifetime age private tags value) x y n m found also h k = settles_same old epoch ticket (report.Got (offered 200 (stated lifetime age private) tags value)) x y n m found also h k
does_same old (command.Reply epoch ticket status age tags value cache_control) x y n m found also h k =
    let same : h.0 ≡ k.0 = verdict_unique cache_control age (h.0) (k.0) h.1 k.1 in
    settles_same old epoch ticket (report.Got (offered status (k.0) tags value)) x y n m found also
    (subst (λ (v : Verdict). DoesSettle old epoch ticket (report.Got (offered status v tags value)) x n) same h.2) k.2
does_same old (command.Fail epoch ticket) x y n m found also h k = settles_same old epoch ticket report.Failed x y n m found also h k
does_same old (command.Void who t) x y n m found also h k = voids_same old who t x y n m h k
does_same old command.Tally x y n m found also h k = tallies_same old x y n m h k

-- a command that is carried out lacks nothing
lacks_not_does : (old : Scene) (c : Command) (why : Cause) (x : Reply) (n : Scene) → Lacks old c why → Does old c x n → ⊥
lacks_not_does old (command.Look who id now key) cause.Who x n l d = absurd cc (sym l ∙ d.pass_is)
lacks_not_does old (command.Settle epoch ticket lifetime age private tags value) cause.Ticket x n l d = absurd cc (sym l ∙ d.held)
lacks_not_does old (command.Reply epoch ticket status age tags value cache_control) cause.Ticket x n l d = absurd cc (sym l ∙ d.2.held)
lacks_not_does old (command.Fail epoch ticket) cause.Ticket x n l d = absurd cc (sym l ∙ d.held)
lacks_not_does old other why x n l d = absurd l

cause_of : Command → Cause
cause_of (command.Look who id now key) = cause.Who
cause_of (command.Settle epoch ticket lifetime age private tags value) = cause.Ticket
cause_of (command.Reply epoch ticket status age tags value cache_control) = cause.Ticket
cause_of (command.Fail epoch ticket) = cause.Ticket
cause_of other = cause.Word

lacks_cause : (old : Scene) (c : Command) (why : Cause) → Lacks old c why → why ≡ cause_of c
unfolding cause_of
lacks_cause old (command.Look who id now key) cause.Who l = refl
lacks_cause old (command.Settle epoch ticket lifetime age private tags value) cause.Ticket l = refl
lacks_cause old (command.Reply epoch ticket status age tags value cache_control) cause.Ticket l = refl
lacks_cause old (command.Fail epoch ticket) cause.Ticket l = refl
lacks_cause old other why l = absurd l

-- LINES

-- a line with no word, or whose first word begins with #, begins with no letter
first_onto : (ls : List (List ℕ)) → get_or (get_or (onto_first 35 ls) 0 []) 0 0 ≤ 35
first_onto [] = omega arith
first_onto (l ∷ ls) = omega arith

first_quiet : (line : List ℕ) → IsQuiet line → first (words line) ≤ 35
first_quiet [] q = omega arith
first_quiet (b ∷ rest) q = subst (λ (x : ℕ). first (words (x ∷ rest)) ≤ 35) (sym q) (first_onto (words rest))

letter_above : (c : Command) → 35 < letter c
letter_above (command.Begin who) = omega arith
letter_above (command.Look who id now key) = omega arith
letter_above (command.Settle epoch ticket lifetime age private tags value) = omega arith
letter_above (command.Reply epoch ticket status age tags value cache_control) = omega arith
letter_above (command.Fail epoch ticket) = omega arith
letter_above (command.Void who t) = omega arith
letter_above command.Tally = omega arith

-- a quiet line is no command
quiet_no_command : (line : List ℕ) (c : Command) → IsQuiet line → Says (words line) c → ⊥
quiet_no_command line c q h =
    let low : first (words line) ≤ 35 = first_quiet line q in
    let same : first (words line) ≡ letter c = first_letter (words line) c h in
    let high : 35 < letter c = letter_above c in
    omega (arith, low, same, high)

pub plays_same : (old : Scene) (line x y : List ℕ) (n m : Scene) → (SaysMemory x → ⊥) → (SaysMemory y → ⊥) → Plays old line x n → Plays old line y m → (x ≡ y) × (n ≡ m)
plays_same old line x y n m found also (inl h) (inl k) = (h.1 ∙ sym k.1, h.2 ∙ sym k.2)
plays_same old line x y n m found also (inl h) (inr k) = absurd (quiet_no_command line (k.0) h.0 k.2)
plays_same old line x y n m found also (inr h) (inl k) = absurd (quiet_no_command line (h.0) k.0 h.2)
plays_same old line x y n m found also (inr h) (inr k) =
    let one = readings_agree (words line) (h.0) (k.0) h.2 k.2 in
    let first : IsFound (h.1) = subst (λ (t : List ℕ). SaysMemory t → ⊥) h.4 found in
    let second : IsFound (k.1) = subst (λ (t : List ℕ). SaysMemory t → ⊥) k.4 also in
    let same = does_same old (k.0) (h.1) (k.1) n m first second (subst (λ (c : Command). Does old c (h.1) n) one h.3) k.3 in
    (h.4 ∙ ap reply_text same.0 ∙ sym k.4, same.1)

-- a line that is carried out is not refused
lacked : (old : Scene) (line x : List ℕ) (n : Scene) (why : Cause) → Plays old line x n → (c : Command) × Says (words line) c × Lacks old c why → ⊥
lacked old line x n why (inl h) r = quiet_no_command line (r.0) h.0 r.1
lacked old line x n why (inr h) r =
    let one = readings_agree (words line) (r.0) (h.0) r.1 h.2 in
    lacks_not_does old (h.0) why (h.1) n (subst (λ (c : Command). Lacks old c why) one r.2) h.3

plays_not_refused : (old : Scene) (line x : List ℕ) (n : Scene) (why : Cause) → Plays old line x n → RefusesLine old line why → ⊥
plays_not_refused old line x n cause.Word (inl h) r = r.0 h.0
plays_not_refused old line x n cause.Word (inr h) r = r.1 (h.0) h.2
plays_not_refused old line x n cause.Who h r = lacked old line x n cause.Who h r
plays_not_refused old line x n cause.Ticket h r = lacked old line x n cause.Ticket h r

-- a line is refused for one cause
lack_same : (old : Scene) (line : List ℕ) (a b : Cause) → (c : Command) × Says (words line) c × Lacks old c a → (c : Command) × Says (words line) c × Lacks old c b → a ≡ b
lack_same old line a b r s =
    let one = readings_agree (words line) (r.0) (s.0) r.1 s.1 in
    lacks_cause old (r.0) a r.2 ∙ ap cause_of one ∙ sym (lacks_cause old (s.0) b s.2)

refused_same : (old : Scene) (line : List ℕ) (a b : Cause) → RefusesLine old line a → RefusesLine old line b → a ≡ b
refused_same old line cause.Word cause.Word r s = refl
refused_same old line cause.Word cause.Who r s = absurd (r.1 (s.0) s.1)
refused_same old line cause.Word cause.Ticket r s = absurd (r.1 (s.0) s.1)
refused_same old line cause.Who cause.Word r s = absurd (s.1 (r.0) r.1)
refused_same old line cause.Who cause.Who r s = refl
refused_same old line cause.Who cause.Ticket r s = lack_same old line cause.Who cause.Ticket r s
refused_same old line cause.Ticket cause.Word r s = absurd (s.1 (r.0) r.1)
refused_same old line cause.Ticket cause.Who r s = lack_same old line cause.Ticket cause.Who r s
refused_same old line cause.Ticket cause.Ticket r s = refl

-- SCRIPTS

ends_same : (n : ℕ) (s : Scene) (line : List ℕ) (lines : List (List ℕ)) (out other : List ℕ) (e f : Extent) → IsComplete e → IsComplete f → Ends n s (line ∷ lines) out e → Ends n s (line ∷ lines) other f → (out ≡ other) × (e ≡ f)
ends_same n s line lines out other Front f ce cf h k = absurd ce
ends_same n s line lines out other Whole f ce cf h k = absurd h
ends_same n s line lines out other Refused Front ce cf h k = absurd cf
ends_same n s line lines out other Refused Whole ce cf h k = absurd k
ends_same n s line lines out other Refused Refused ce cf h k = (h.2 ∙ ap (refusal n) (refused_same s line (h.0) (k.0) h.1 k.1) ∙ sym k.2, refl)

ends_not_plays : (n : ℕ) (s : Scene) (line : List ℕ) (lines : List (List ℕ)) (out : List ℕ) (e : Extent) (x : List ℕ) (next : Scene) → IsComplete e → Ends n s (line ∷ lines) out e → Plays s line x next → ⊥
ends_not_plays n s line lines out Front x next ce h p = absurd ce
ends_not_plays n s line lines out Whole x next ce h p = absurd h
ends_not_plays n s line lines out Refused x next ce h p = plays_not_refused s line x next (h.0) p h.1

-- a run from one scene is one from another that is the same
onward : (n : ℕ) (s t : Scene) (lines : List (List ℕ)) (out : List ℕ) (e : Extent) → s ≡ t → (run : Runs (n + 1) s lines out e) → FindsMemory (n + 1) s lines out e run
    → (again : Runs (n + 1) t lines out e) × FindsMemory (n + 1) t lines out e again
onward n s t lines out e same run found = subst (λ (x : Scene). (again : Runs (n + 1) x lines out e) × FindsMemory (n + 1) x lines out e again) same (run, found)

pub runs_same : (n : ℕ) (s : Scene) (lines : List (List ℕ)) (out other : List ℕ) (e f : Extent) → IsComplete e → IsComplete f
    → (run : Runs n s lines out e) → (again : Runs n s lines other f) → FindsMemory n s lines out e run → FindsMemory n s lines other f again → (out ≡ other) × (e ≡ f)
runs_same n s [] out other Front f ce cf h k found also = absurd ce
runs_same n s [] out other Refused f ce cf h k found also = absurd h
runs_same n s [] out other Whole Front ce cf h k found also = absurd cf
runs_same n s [] out other Whole Refused ce cf h k found also = absurd k
runs_same n s [] out other Whole Whole ce cf h k found also = (h ∙ sym k, refl)
runs_same n s (line ∷ lines) out other e f ce cf (inl h) (inl k) found also = ends_same n s line lines out other e f ce cf h k
runs_same n s (line ∷ lines) out other e f ce cf (inl h) (inr k) found also = absurd (ends_not_plays n s line lines out e (k.0) (k.2) ce h k.3)
runs_same n s (line ∷ lines) out other e f ce cf (inr h) (inl k) found also = absurd (ends_not_plays n s line lines other f (h.0) (h.2) cf k h.3)
runs_same n s (line ∷ lines) out other e f ce cf (inr h) (inr k) found also =
    let one = plays_same s line (h.0) (k.0) (h.2) (k.2) found.0 also.0 h.3 k.3 in
    let on = onward n (h.2) (k.2) lines (h.1) e one.1 h.4 found.1 in
    let more = runs_same (n + 1) (k.2) lines (h.1) (k.1) e f ce cf (on.0) k.4 on.1 also.1 in
    (h.5 ∙ ap (λ (x : List ℕ). x ++ h.1) one.0 ∙ ap (λ (r : List ℕ). k.0 ++ r) more.0 ∙ sym k.5, more.1)

pub front_within : (n : ℕ) (s : Scene) (lines : List (List ℕ)) (out other : List ℕ) (f : Extent) → IsComplete f
    → (front : Runs n s lines out Front) → (run : Runs n s lines other f) → FindsMemory n s lines out Front front → FindsMemory n s lines other f run → (more : List ℕ) × (other ≡ out ++ more)
front_within n s [] out other f cf h k found also = (other, sym (ap (λ (x : List ℕ). x ++ other) h))
front_within n s (line ∷ lines) out other f cf (inl h) k found also = (other, sym (ap (λ (x : List ℕ). x ++ other) h))
front_within n s (line ∷ lines) out other f cf (inr h) (inl k) found also = absurd (ends_not_plays n s line lines other f (h.0) (h.2) cf k h.3)
front_within n s (line ∷ lines) out other f cf (inr h) (inr k) found also =
    let one = plays_same s line (h.0) (k.0) (h.2) (k.2) found.0 also.0 h.3 k.3 in
    let on = onward n (h.2) (k.2) lines (h.1) Front one.1 h.4 found.1 in
    let more = front_within (n + 1) (k.2) lines (h.1) (k.1) f cf (on.0) k.4 on.1 also.1 in
    (more.0, k.5 ∙ ap (λ (x : List ℕ). x ++ k.1) (sym one.0) ∙ ap (λ (r : List ℕ). h.0 ++ r) more.1 ∙ sym (append_assoc (h.0) (h.1) (more.0)) ∙ ap (λ (x : List ℕ). x ++ more.0) (sym h.5))
