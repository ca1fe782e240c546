-- THE PROMISE of the router, for one request: an answer is the sequential execution of its plan over pieces, each fetched by this
-- request or recorded from an earlier fetch as cacheable, fresh at its lookup, public or of the same caller, and with no
-- invalidation of its subgraph, type or tags in the history between that fetch's start and the lookup.
use Rattle.std.specs.Prelude.{◌≡◌, List, [], ◌∷◌, map, Contains, Some, None, Ok}
use Rattle.json_value.specs.declared.tree.Json.{Json}
use Rattle.json_value.specs.declared.tree.Json.TheVariants as json
use Rattle.json_print.specs.Print.{print}
use Rattle.cache_terms.specs.declared.events.Reply.{Reply}
use Rattle.cache_book.specs.Permits.{Pinned}
use Rattle.line_base.specs.Lines.{Line, Entry, Gains}
use Rattle.cache_seam.specs.Seen.{Seen}
use Rattle.reply_read.specs.declared.replies.Sent.{Sent}
use Rattle.reply_read.specs.declared.replies.Pieces.{Pieces}
use Rattle.reply_read.specs.Replies.{ReadsReply}
use Rattle.gql_shape.specs.declared.shaped.Shaped.{Shaped}
use Rattle.gql_shape.specs.Shaping.{IsShaping}
use Rattle.plan_exec.specs.Exec.{exec}
use Rattle.plan_exec.specs.Tasks.{empty}
use Rattle.plan_book.specs.declared.book.Entry as book
use Rattle.router_config.specs.declared.site.Site.{Site}
use Rattle.router_config.specs.declared.config.Request.{Request}
use Rattle.piece_fetch.specs.declared.fetched.Origin.{Origin}
use Rattle.piece_fetch.specs.declared.fetched.Origin.TheVariants as origin
use Rattle.plan_run.specs.Plans.{Wanted}
use Rattle.plan_run.specs.Outcomes.{Done, entries_of, pieces_of, receipts_of}
use Rattle.plan_run.specs.Requests.{IsOrder}
use Rattle.plan_run.specs.Fetches.{next_of}
use Rattle.plan_run.specs.Executions.{results_of}
use Rattle.plan_run.specs.Justified.{AllFound}
use Rattle.answer_text.specs.Bodies.{answer_value}
use Rattle.partial_fetch.specs.declared.answer.Answer.{Answer}
use Rattle.partial_fetch.specs.Accepting.{IsAccepted}
use Rattle.partial_fetch.specs.Answering.{subgraphs_of, told_error}

-- the piece is one of those in the readable reply to the one call that the fetch made
pub record WasFetched (entries : List Entry) (piece : Json) : Type 0 where
  pub call : Entry
  pub only : entries ≡ call ∷ []
  pub reply : Reply
  pub answered : call.answer ≡ Ok reply
  pub status : reply.status ≡ 200
  pub sent : Sent
  pub pieces : Pieces
  pub reads : ReadsReply reply.body sent (Ok pieces)
  pub among : Contains pieces.values.items piece

-- what is said to be fetched was fetched, and what is said to be absent is null, which changes no value
abbrev pub AreFromFetches : List Entry → List Json → List Origin → Type 0
AreFromFetches entries [] [] = Unit {0}
AreFromFetches entries (piece ∷ pieces) (origin.Hit lookup stored ∷ origins) = AreFromFetches entries pieces origins
AreFromFetches entries (piece ∷ pieces) (origin.Own line call ∷ origins) = WasFetched entries piece × AreFromFetches entries pieces origins
AreFromFetches entries (piece ∷ pieces) (origin.Absent ∷ origins) = (piece ≡ json.Null) × AreFromFetches entries pieces origins
AreFromFetches entries [] (o ∷ origins) = ⊥
AreFromFetches entries (piece ∷ pieces) [] = ⊥

abbrev pub AllFetched : List Done → Type 0
AllFetched [] = Unit {0}
AllFetched (d ∷ ds) = AreFromFetches d.entries d.fetched.pieces.items d.fetched.origins.items × AllFetched ds

pub record IsPromised (site : Site) (request : Request) (after : Seen) (l m : Line) (a : Answer) : Type 0 where
  -- the request was accepted for this plan, and these fetches were done for it: always the first that was ready, until none was
  pub entry : book.Entry
  pub variables : Json
  pub accepted : IsAccepted site request entry variables
  pub pass : Pinned
  pub tasks : List Wanted
  pub done : List Done
  pub order : IsOrder (next_of entry.plan (subgraphs_of site.config.subs) variables) [] tasks done
  pub ended : next_of entry.plan (subgraphs_of site.config.subs) variables (pieces_of done) ≡ None
  -- they made these calls over the line, and no others
  pub calls : Gains l (entries_of done) m
  -- each piece was recorded, in the journal that is seen when the request is done; or was fetched by this request; or is absent
  pub recorded : AllFound after.journal pass request.id tasks done
  pub fetched : AllFetched done
  -- and for each the answer tells which
  pub receipts : a.receipts.items ≡ receipts_of tasks done
  -- the answer is the shaped sequential execution of the plan over these pieces, with these errors
  pub shaped : Shaped
  pub is_shaping : IsShaping site.schema entry.document variables (exec entry.plan.fetches (results_of tasks done) entry.plan.root empty) shaped
  pub body : a.body ≡ print (answer_value (map (told_error site.config.subs) a.errors.items) shaped)

-- an answer that is no refusal is as promised
abbrev pub KeepsPromise : Site → Request → Seen → Line → Line → Answer → Type 0
KeepsPromise site request after l m a = a.status ≡ 200 → IsPromised site request after l m a

-- of these lines the first alone was used, in this way; the others stand as before
abbrev pub OverFirst : {L : Type 0} → List L → List L → (L → L → Type 0) → Type 0
OverFirst (l ∷ ls) (m ∷ ms) P = P l m × (ms ≡ ls)
OverFirst lines others P = ⊥
