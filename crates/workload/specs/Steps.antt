-- The steps of the workload.
use Rattle.std.specs.Prelude.{◌≡◌, ℕ, ◌%◌, ◌==◌, true, List, [], ◌∷◌, All, MatchBool, Option, Some}
use Rattle.std.proofs.Common.{zero, suc}
use Rattle.cache_terms.specs.declared.events.Limits.{Limits}
use Rattle.cache_model.specs.State.{opened}
use Rattle.cache_book.specs.declared.answers.Voided as voided
use Rattle.cache_book.specs.Calls.{Invalidate, Voided}
use Rattle.cache_seam.specs.Seen.{Seen}
use Rattle.cache_seam.specs.Turns.{Calls}
use Rattle.cache_seam.specs.Lonely.{seen_alone}
use Rattle.line_base.specs.Lines.{Entry}
use Rattle.router_config.specs.declared.site.Site.{Site}
use Rattle.partial_fetch.specs.declared.answer.Answer as answers
use Rattle.partial_fetch.specs.Answering.{Answers}
use Rattle.partial_fetch.specs.Causes.{HasCauses}
use Rattle.partial_fetch.specs.Headline.{KeepsPromise}
use Rattle.still_clock.specs.Clocks.{IsStill}
use Rattle.workload.specs.declared.counts.Counts.{Counts}
use Rattle.workload.specs.Draws.{drawn_at, moment_of}
use Rattle.workload.specs.Site.{request_drawn, target_drawn}
use Rattle.workload.specs.Answered.{IsAsReplied, shop_line}
use Rattle.workload.specs.Tallying.{turns_for, with_request, with_void}

-- what stands between two steps: what is seen of the cache, the calls over the line, and the counts
pub record Midway : Type 0 where
  pub cache : Seen
  pub log : List Entry
  pub counts : Counts

-- at first the cache is empty, in epoch 0, and nothing was done
abbrev pub outset : Limits → Midway
outset limits = record { cache = seen_alone (opened limits 0) true; log = []; counts = record { requests = 0; voids = 0; hits = 0; misses = 0 } }

-- one invalidation of the tag that is drawn
pub record InvalidatesOne (drawn : ℕ) (old new : Midway) : Type 0 where
  pub answer : voided.Voided
  pub calls : Calls old.cache (Invalidate old.cache.number (target_drawn drawn)) (Voided answer) new.cache
  pub log : new.log ≡ old.log
  pub counts : new.counts ≡ with_void old.counts

-- one request for what is drawn, at this moment: it is answered over the cache and the line as promised, each error has its
-- cause, and each call was answered as the shop replies
pub record RequestsOne (site : Site) (drawn moment : ℕ) (old new : Midway) : Type 0 where
  pub answer : answers.Answer
  pub after : Option (List ℕ)
  pub answers : Answers site (request_drawn drawn) old.cache new.cache (shop_line old.log) (shop_line new.log) (Some (moment ∷ [])) after answer
  pub still : IsStill moment after
  pub promise : KeepsPromise site (request_drawn drawn) new.cache (shop_line old.log) (shop_line new.log) answer
  pub causes : HasCauses (shop_line old.log) (shop_line new.log) answer
  pub replied : All IsAsReplied new.log
  pub counts : new.counts ≡ with_request (turns_for site (request_drawn drawn) old.cache new.cache (shop_line old.log) (shop_line new.log) (Some (moment ∷ [])) after answer answers) old.counts

-- an invalidation at one number of ten, and else a request
abbrev pub DoesOne : Site → (drawn moment : ℕ) → Midway → Midway → Type 0
DoesOne site drawn moment old new = MatchBool (drawn % 10 == 0) (InvalidatesOne drawn old new) (RequestsOne site drawn moment old new)

module _ (site : Site) where
  -- this may stand after so many steps
  abbrev pub StandsAfter : ℕ → Midway → Type 0
  StandsAfter zero s = s ≡ outset site.config.limits
  StandsAfter (suc k) s = (old : Midway) × StandsAfter k old × DoesOne site (drawn_at (suc k)) (moment_of (suc k)) old s
