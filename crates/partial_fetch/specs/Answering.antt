-- What a request is answered with, and what is done for it.
use Rattle.std.specs.Prelude.{◌≡◌, ℕ, not, List, [], ◌∷◌, map, slice_get, Option, Some, None}
use Rattle.json_value.specs.declared.tree.Json.{Json}
use Rattle.json_print.specs.Print.{print}
use Rattle.gql_shape.specs.declared.shaped.Shaped.{Shaped}
use Rattle.gql_shape.specs.Shaping.{IsShaping}
use Rattle.line_base.specs.Lines.{Line}
use Rattle.cache_seam.specs.Seen.{Seen}
use Rattle.reply_read.specs.declared.replies.ReplyFault.{ReplyFault}
use Rattle.reply_read.specs.declared.replies.ReplyFault.TheVariants as reply
use Rattle.plan_book.specs.declared.book.Entry.{Entry}
use Rattle.router_config.specs.declared.config.SubRule.{SubRule}
use Rattle.router_config.specs.declared.config.Request.{Request}
use Rattle.router_config.specs.declared.site.Site.{Site}
use Rattle.piece_fetch.specs.declared.fetched.Cause.{Cause}
use Rattle.piece_fetch.specs.declared.fetched.Cause.TheVariants as cause
use Rattle.piece_fetch.specs.declared.fetched.Lasts as fetched
use Rattle.plan_run.specs.declared.outcome.Outcome.{Outcome}
use Rattle.plan_run.specs.declared.subgraphs.Subgraph.{Subgraph}
use Rattle.plan_run.specs.declared.outcome.PieceError.{PieceError}
use Rattle.plan_run.specs.Executions.{RunsPlan, DropsPlan, Untouched}
use Rattle.answer_text.specs.declared.refusal.Refusal.{Refusal}
use Rattle.answer_text.specs.declared.lasting.Lasts.{Lasts}
use Rattle.answer_text.specs.declared.fetch_error.FetchCause.{FetchCause}
use Rattle.answer_text.specs.declared.fetch_error.FetchCause.TheVariants as told
use Rattle.answer_text.specs.declared.fetch_error.FetchError.{FetchError}
use Rattle.answer_text.specs.Bodies.{answer_value}
use Rattle.answer_text.specs.Lasting.{cache_control_of}
use Rattle.answer_text.specs.Refusals.{refusal_value, status_of}
use Rattle.partial_fetch.specs.declared.answer.Answer.{Answer}
use Rattle.partial_fetch.specs.Accepting.{IsRefused, IsAccepted}

-- THE ERRORS of fetches, as an answer tells them

-- a reply that was read has neither of the last two
abbrev pub told_fault : ReplyFault → FetchCause
told_fault (reply.Json at) = told.NotJson at
told_fault (reply.Shape member) = told.Misshapen member
told_fault (reply.Count got sent) = told.Miscounted got sent
told_fault (reply.Status status) = told.Status status
told_fault reply.Memory = told.Unreachable

abbrev pub told_cause : Cause → FetchCause
told_cause cause.Unreachable = told.Unreachable
told_cause (cause.TooLong bytes) = told.TooLong bytes
told_cause (cause.Status status) = told.Status status
told_cause (cause.BadReply fault) = told_fault fault
told_cause (cause.Subgraph text) = told.Subgraph text

abbrev pub name_in : Option SubRule → List ℕ
name_in None = []
name_in (Some rule) = rule.name

-- the name of the subgraph with this number in the site
abbrev pub name_of : List SubRule → ℕ → List ℕ
name_of rules number = name_in (slice_get rules number)

abbrev pub told_error : List SubRule → PieceError → FetchError
told_error rules e = record { subgraph = name_of rules e.sub; place = e.path; cause = told_cause e.cause }

-- the subgraphs of the site, as its plans are run with them
abbrev pub subgraph_of : SubRule → Subgraph
subgraph_of rule = record { name = rule.name; uncached = not rule.cached }

abbrev pub subgraphs_of : List SubRule → List Subgraph
subgraphs_of rules = map subgraph_of rules

abbrev pub lasting : fetched.Lasts → Lasts
lasting lasts = record { left_ms = lasts.left_ms; private = lasts.private }

abbrev pub lasting_if : Option fetched.Lasts → Option Lasts
lasting_if None = None
lasting_if (Some lasts) = Some (lasting lasts)

-- THE ANSWER to a request that was refused
pub record IsRefusal (r : Refusal) (a : Answer) : Type 0 where
  pub status : a.status ≡ status_of r
  pub body : a.body ≡ print (refusal_value r)
  pub cache_control : a.cache_control ≡ None
  pub receipts : a.receipts.items ≡ []
  pub errors : a.errors.items ≡ []

-- The answer of an operation over the value of its plan: its data is the shaping of the value, its errors are those of the
-- fetches and then those of shaping, and it may be kept as long as each piece.
pub record IsAnswer (site : Site) (entry : Entry) (variables value : Json) (o : Outcome) (a : Answer) : Type 0 where
  pub shaped : Shaped
  pub is_shaping : IsShaping site.schema entry.document variables value shaped
  pub status : a.status ≡ 200
  pub body : a.body ≡ print (answer_value (map (told_error site.config.subs) o.errors.items) shaped)
  pub cache_control : a.cache_control ≡ Some (cache_control_of (map lasting_if o.lasts.items))
  pub receipts : a.receipts.items ≡ o.receipts.items
  pub errors : a.errors.items ≡ o.errors.items

-- ONE REQUEST over a cache, line 0 and a clock: it is refused, and nothing is asked; or it is accepted, its plan is run, and
-- the answer is that of its operation over the plan's value.
pub data Answers (site : Site) (request : Request) (c d : Seen) (l m : Line) (before after : Option (List ℕ)) (a : Answer) : Type 0 where
  refused : (r : Refusal) → IsRefused site request r → IsRefusal r a → Untouched c d l m before after
      → Answers site request c d l m before after a
  answered : (entry : Entry) (variables value : Json) (o : Outcome) → IsAccepted site request entry variables
      → RunsPlan entry.plan (subgraphs_of site.config.subs) variables request.id 0 c d l m before after value o
      → IsAnswer site entry variables value o a → Answers site request c d l m before after a

-- A REQUEST THAT FINDS NO MEMORY: nothing was asked; or some first fetches were done and the next one was dropped; or all were
-- done, and none was found for the answer.
pub data RunsOut (site : Site) (request : Request) (c d : Seen) (l m : Line) (before after : Option (List ℕ)) : Type 0 where
  unasked : Untouched c d l m before after → RunsOut site request c d l m before after
  dropped : (entry : Entry) (variables : Json) → IsAccepted site request entry variables
      → DropsPlan entry.plan (subgraphs_of site.config.subs) variables request.id 0 c d l m before after
      → RunsOut site request c d l m before after
  unanswered : (entry : Entry) (variables value : Json) (o : Outcome) → IsAccepted site request entry variables
      → RunsPlan entry.plan (subgraphs_of site.config.subs) variables request.id 0 c d l m before after value o
      → RunsOut site request c d l m before after
