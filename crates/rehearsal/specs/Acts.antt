-- What a line of a script is answered and leaves.
use Rattle.std.specs.Prelude.{◌≡◌, ◌⊎◌, ℕ, Bool, false, List, [], ◌∷◌, Option, Some, None}
use Rattle.std.specs.FinMap as map
use Rattle.cache_terms.specs.declared.keys.Key.{Key}
use Rattle.cache_terms.specs.declared.keys.Target.{Target}
use Rattle.cache_terms.specs.declared.tags.Tags.{Tags}
use Rattle.cache_terms.specs.declared.offers.Verdict.{Verdict}
use Rattle.cache_terms.specs.declared.offers.Offer.{Offer}
use Rattle.cache_book.specs.Permits.{Pinned, Granted}
use Rattle.cache_book.specs.Calls as call
use Rattle.cache_book.specs.Calls.{Step}
use Rattle.cache_book.specs.declared.answers.Settled.{Settled}
use Rattle.cache_book.specs.declared.answers.Tally.{Tally}
use Rattle.cache_book.specs.declared.answers.Voided.{Voided}
use Rattle.cache_book.specs.declared.permit.Report.{Report}
use Rattle.cache_book.specs.declared.permit.Report.TheVariants as report
use Rattle.cache_book.specs.declared.found.Found.{Found}
use Rattle.cache_control.specs.Rules.{IsVerdict}
use Rattle.script_lines.specs.Script.{words, IsQuiet}
use Rattle.script_lines.specs.Commands.{Says}
use Rattle.script_lines.specs.Replies.{reply_text}
use Rattle.script_lines.specs.declared.replies.Reply.{Reply}
use Rattle.script_lines.specs.declared.replies.Reply.TheVariants as replies
use Rattle.script_lines.specs.declared.commands.Command.{Command}
use Rattle.script_lines.specs.declared.commands.Command.TheVariants as command
use Rattle.script_lines.specs.declared.replies.Cause.{Cause}
use Rattle.script_lines.specs.declared.replies.Cause.TheVariants as cause
use Rattle.rehearsal.specs.Scene.{Scene, handed}
use Rattle.rehearsal.specs.Replied.{found_reply, settled_reply, void_reply, tally_reply}

-- begin W: the book begins a request of the caller, whose pass it is from now on
pub record DoesBegin (old : Scene) (who : ℕ) (reply : Reply) (new : Scene) : Type 0 where
  pub pass : Pinned
  pub step : Step old.book (call.Begin who) (call.Begun pass) new.book
  pub passes : new.passes ≡ map.insert old.passes who pass
  pub hand : new.hand ≡ old.hand
  pub says : reply ≡ replies.Epoch pass.epoch

-- look W ID NOW SUB TYPE REP SEL: the caller asks for one key under its pass
pub record DoesLook (old : Scene) (who : ℕ) (id : Option (List ℕ)) (now : ℕ) (key : Key) (reply : Reply) (new : Scene) : Type 0 where
  pub pass : Pinned
  pub pass_is : map.get old.passes who ≡ Some pass
  pub answer : Found
  pub step : Step old.book (call.Look pass id (key ∷ []) now) (call.Looked (answer ∷ [])) new.book
  pub passes : new.passes ≡ old.passes
  pub hand : new.hand ≡ handed old.hand answer
  pub says : reply ≡ found_reply answer

-- a settling line: the permit E.T is taken out of the hand and settled by this report
pub record DoesSettle (old : Scene) (epoch ticket : ℕ) (by : Report) (reply : Reply) (new : Scene) : Type 0 where
  pub permit : Granted
  pub held : map.get old.hand (epoch, ticket) ≡ Some permit
  pub settled : Settled
  pub step : Step old.book (call.Settle permit by) (call.Closed settled) new.book
  pub passes : new.passes ≡ old.passes
  pub hand : new.hand ≡ map.remove old.hand (epoch, ticket)
  pub says : reply ≡ settled_reply settled

-- a reply as it came: of all marks only its status is known
abbrev pub offered : ℕ → Verdict → Tags → List ℕ → Offer
offered status verdict tags value = record {
  value = value;
  tags = tags;
  verdict = verdict;
  marks = record { status = status; errors = false; absent = false; mutation = false; uncached = false };
}

-- what `settle` states in place of headers
abbrev pub stated : ℕ → ℕ → Bool → Verdict
stated lifetime age private = record { lifetime = lifetime; age = age; private = private; no_store = false }

-- void W sub S, void W type S T, void W tag S G: the caller invalidates what the target covers
pub record DoesVoid (old : Scene) (who : ℕ) (target : Target) (reply : Reply) (new : Scene) : Type 0 where
  pub answer : Voided
  pub step : Step old.book (call.Invalidate who target) (call.Voided answer) new.book
  pub passes : new.passes ≡ old.passes
  pub hand : new.hand ≡ old.hand
  pub says : reply ≡ void_reply answer

-- tally: how much of the journal is used
pub record DoesTally (old : Scene) (reply : Reply) (new : Scene) : Type 0 where
  pub answer : Tally
  pub step : Step old.book call.Tally (call.Tallied answer) new.book
  pub passes : new.passes ≡ old.passes
  pub hand : new.hand ≡ old.hand
  pub says : reply ≡ tally_reply answer

-- a command is carried out
abbrev pub Does : Scene → Command → Reply → Scene → Type 0
Does old (command.Begin who) reply new = DoesBegin old who reply new
Does old (command.Look who id now key) reply new = DoesLook old who id now key reply new
Does old (command.Settle epoch ticket lifetime age private tags value) reply new = DoesSettle old epoch ticket (report.Got (offered 200 (stated lifetime age private) tags value)) reply new
Does old (command.Reply epoch ticket status age tags value cache_control) reply new =
    (verdict : Verdict) × IsVerdict cache_control age verdict × DoesSettle old epoch ticket (report.Got (offered status verdict tags value)) reply new
Does old (command.Fail epoch ticket) reply new = DoesSettle old epoch ticket report.Failed reply new
Does old (command.Void who target) reply new = DoesVoid old who target reply new
Does old command.Tally reply new = DoesTally old reply new

-- what a command needs is not there: a pass of its caller, or the permit that it names
abbrev pub Lacks : Scene → Command → Cause → Type 0
Lacks old (command.Look who id now key) cause.Who = map.get old.passes who ≡ None
Lacks old (command.Settle epoch ticket lifetime age private tags value) cause.Ticket = map.get old.hand (epoch, ticket) ≡ None
Lacks old (command.Reply epoch ticket status age tags value cache_control) cause.Ticket = map.get old.hand (epoch, ticket) ≡ None
Lacks old (command.Fail epoch ticket) cause.Ticket = map.get old.hand (epoch, ticket) ≡ None
Lacks old other c = ⊥

-- the line is quiet and gives no text, or is a command that is carried out, and its reply is the text
abbrev pub Plays : Scene → List ℕ → List ℕ → Scene → Type 0
Plays old line text new =
    (IsQuiet line × (text ≡ []) × (new ≡ old))
    ⊎ ((c : Command) × (reply : Reply) × Says (words line) c × Does old c reply new × (text ≡ reply_text reply))

-- the line is refused: it is neither quiet nor a command, or what its command needs is not there
abbrev pub RefusesLine : Scene → List ℕ → Cause → Type 0
RefusesLine old line cause.Word = (IsQuiet line → ⊥) × ((c : Command) → Says (words line) c → ⊥)
RefusesLine old line other = (c : Command) × Says (words line) c × Lacks old c other
