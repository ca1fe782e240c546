-- A script goes on line by line.
use Rattle.std.proofs.Common.{inl, inr, ℕ, ◌+◌, ◌≤◌, List, [], ◌∷◌, ◌++◌, length, take, refl, sym, subst, arith, append_assoc, append-nil, Option}
use Rattle.std.specs.Io.KnownBytes.{Appends}
use Rattle.std.proofs.KnownBytes.{Appends-trans, Appends-kept}
use Rattle.std.proofs.Math.Seq.{take-append-add}
use Rattle.flow_base.specs.Causes.{Rose, AppendsFront}
use Rattle.rehearsal.specs.declared.stage.Ending.{Ending}
use Rattle.rehearsal.specs.declared.stage.Ending.TheVariants as ending
use Rattle.rehearsal.specs.Scene.{Scene}
use Rattle.rehearsal.specs.Replied.{refusal}
use Rattle.script_lines.specs.declared.replies.Cause.{Cause}
use Rattle.rehearsal.specs.Outside.{Output}
use Rattle.rehearsal.specs.Acts.{Plays, RefusesLine, offered}
use Rattle.rehearsal.specs.Runs.{Extent, Whole, Refused, Front, Runs}
use Rattle.rehearsal.specs.Answering.{PutsText, PlaysLine, Carries, CarriesSettle}
use Rattle.rehearsal.specs.declared.stage.Played.{Played}
use Rattle.rehearsal.specs.declared.stage.Played.TheVariants as played
use Rattle.script_lines.specs.declared.commands.Command.TheVariants as command
use Rattle.script_lines.specs.declared.replies.Cause.TheVariants as cause
use Rattle.cache_book.specs.declared.permit.Report.TheVariants as report
use Rattle.cache_terms.specs.declared.tags.Tags.{Tags}
use Rattle.cache_terms.specs.declared.offers.Verdict.{Verdict}
use Rattle.cache_control.specs.Rules.{IsVerdict}
use Rattle.rehearsal.specs.Rehearsing.{EndsWith}
use Rattle.std.specs.Prelude.{Some, None}

-- what may be written for the rest may be written after what is done
abbrev pub Continues : ℕ → Scene → List (List ℕ) → List ℕ → ℕ → Scene → List (List ℕ) → Type 0
Continues n s lines done m t rest = (out : List ℕ) (extent : Extent) → Runs m t rest out extent → Runs n s lines (done ++ out) extent

pub continues_start : (n : ℕ) (s : Scene) (lines : List (List ℕ)) → Continues n s lines [] n s lines
continues_start n s lines out extent runs = runs

pub continues_more : (n : ℕ) (s : Scene) (lines : List (List ℕ)) (done : List ℕ) (m : ℕ) (t : Scene) (line : List ℕ) (rest : List (List ℕ)) (text : List ℕ) (next : Scene)
    → Continues n s lines done m t (line ∷ rest) → Plays t line text next → Continues n s lines (done ++ text) (m + 1) next rest
continues_more n s lines done m t line rest text next h plays out extent runs =
    subst (λ (l : List ℕ). Runs n s lines l extent) (sym (append_assoc done text out)) (h (text ++ out) extent (inr (text, out, next, plays, runs, refl)))

pub front_of : (n : ℕ) (s : Scene) (lines : List (List ℕ)) → Runs n s lines [] Front
front_of n s [] = refl
front_of n s (line ∷ lines) = inl refl

continues_front : (n : ℕ) (s : Scene) (lines : List (List ℕ)) (done : List ℕ) (m : ℕ) (t : Scene) (rest : List (List ℕ))
    → Continues n s lines done m t rest → Runs n s lines done Front
continues_front n s lines done m t rest h = subst (λ (l : List ℕ). Runs n s lines l Front) (append-nil done) (h [] Front (front_of m t rest))

pub continues_whole : (n : ℕ) (s : Scene) (lines : List (List ℕ)) (done : List ℕ) (m : ℕ) (t : Scene)
    → Continues n s lines done m t [] → Runs n s lines done Whole
continues_whole n s lines done m t h = subst (λ (l : List ℕ). Runs n s lines l Whole) (append-nil done) (h [] Whole refl)

rose_later : (a b c : ℕ) → a ≤ b → Rose b c → Rose a c
rose_later a b c h k = omega (arith, h, k)

front_later : (a b c : Option (List ℕ)) (done bs : List ℕ) → Appends a b done → AppendsFront b c bs → AppendsFront a c (done ++ bs)
front_later a b c done bs h k = (length done + k.0, subst (λ (l : List ℕ). Appends a c l) (sym (take-append-add done bs k.0)) (Appends-trans a b c done (take k.0 bs) h k.1))

-- where a line ends the script, what was written is that of a run
pub line_ended : (s : Scene) (lines : List (List ℕ)) (done : List ℕ) (m : ℕ) (t : Scene) (line : List ℕ) (rest : List (List ℕ)) (next : Scene) (a b c : Output) (e : Ending)
    → Continues 1 s lines done m t (line ∷ rest) → Appends a.written b.written done → a.faults ≤ b.faults → PlaysLine t line m next b c (Some e) → EndsWith (Runs 1 s lines) a c e
line_ended s lines done m t line rest next a b c ending.Finished goes put later plays = absurd plays
line_ended s lines done m t line rest next a b c ending.SourceFailed goes put later plays = absurd plays
line_ended s lines done m t line rest next a b c ending.Refused goes put later plays =
    (done ++ refusal m plays.0, goes (refusal m plays.0) Refused (inl (plays.0, plays.1, refl)), Appends-trans a.written b.written c.written done (refusal m plays.0) put plays.2)
line_ended s lines done m t line rest next a b c ending.NoMemory goes put later plays =
    (done, continues_front 1 s lines done m t (line ∷ rest) goes, Appends-kept a.written b.written c.written done put plays)
line_ended s lines done m t line rest next a b c ending.SinkFailed goes put later (rose, inl cut) =
    (rose_later a.faults b.faults c.faults later rose, (done ++ cut.0, Front, continues_front 1 s lines (done ++ cut.0) (m + 1) cut.1 rest (continues_more 1 s lines done m t line rest cut.0 cut.1 goes cut.2), front_later a.written b.written c.written done cut.0 put cut.3))
line_ended s lines done m t line rest next a b c ending.SinkFailed goes put later (rose, inr cut) =
    (rose_later a.faults b.faults c.faults later rose, (done ++ refusal m cut.0, Refused, goes (refusal m cut.0) Refused (inl (cut.0, cut.1, refl)), front_later a.written b.written c.written done (refusal m cut.0) put cut.2))

-- a line that is carried out, and whose reply was put
pub replied : (t : Scene) (line text : List ℕ) (m : ℕ) (next : Scene) (a b : Output) (o : Option Ending) → Plays t line text next → PutsText text a b o → PlaysLine t line m next a b o
replied t line text m next a b None plays puts = (text, plays, puts)
replied t line text m next a b (Some ending.SinkFailed) plays puts = (puts.0, inl (text, next, plays, puts.1))
replied t line text m next a b (Some ending.NoMemory) plays puts = puts
replied t line text m next a b (Some ending.Finished) plays puts = absurd puts
replied t line text m next a b (Some ending.Refused) plays puts = absurd puts
replied t line text m next a b (Some ending.SourceFailed) plays puts = absurd puts

-- a line that is refused, whose refusal could not be put
pub refused_short : (t : Scene) (line : List ℕ) (m : ℕ) (next : Scene) (a b : Output) (c : Cause) (e : Ending) → RefusesLine t line c → PutsText (refusal m c) a b (Some e) → PlaysLine t line m next a b (Some e)
refused_short t line m next a b c ending.SinkFailed refuses puts = (puts.0, inr (c, refuses, puts.1))
refused_short t line m next a b c ending.NoMemory refuses puts = puts
refused_short t line m next a b c ending.Finished refuses puts = absurd puts
refused_short t line m next a b c ending.Refused refuses puts = absurd puts
refused_short t line m next a b c ending.SourceFailed refuses puts = absurd puts

-- a reply that was settled by its verdict is carried out, or its permit is not there
pub carries_reply : (old : Scene) (epoch ticket status : ℕ) (age : Option (List ℕ)) (tags : Tags) (value : List ℕ) (cache_control : Option (List ℕ)) (verdict : Verdict) (a : Played) (new : Scene)
    → IsVerdict cache_control age verdict → CarriesSettle old epoch ticket (report.Got (offered status verdict tags value)) a new → Carries old (command.Reply epoch ticket status age tags value cache_control) a new
carries_reply old epoch ticket status age tags value cache_control verdict played.Quiet new is h = absurd h
carries_reply old epoch ticket status age tags value cache_control verdict (played.Replied reply) new is h = (verdict, is, h)
carries_reply old epoch ticket status age tags value cache_control verdict (played.Refused cause.Ticket) new is h = h
carries_reply old epoch ticket status age tags value cache_control verdict (played.Refused cause.Word) new is h = absurd h
carries_reply old epoch ticket status age tags value cache_control verdict (played.Refused cause.Who) new is h = absurd h
