-- What a request adds to the counts.
use Rattle.std.specs.Prelude.{ℕ, ◌+◌, ◌-◌, ◌^◌, min, List, [], ◌∷◌, Option}
use Rattle.cache_book.specs.declared.found.Found.{Found}
use Rattle.cache_book.specs.declared.found.Found.TheVariants as found
use Rattle.cache_book.specs.Calls.{Call, Answer, Look, Looked}
use Rattle.cache_seam.specs.Seen.{Seen}
use Rattle.cache_seam.specs.Turns.{Turn}
use Rattle.line_base.specs.Lines.{Line}
use Rattle.router_config.specs.declared.site.Site.{Site}
use Rattle.router_config.specs.declared.config.Request.{Request}
use Rattle.plan_run.specs.Outcomes.{turns_of}
use Rattle.partial_fetch.specs.declared.answer.Answer as answers
use Rattle.partial_fetch.specs.Answering.{Answers, refused, answered}
use Rattle.workload.specs.declared.counts.Counts.{Counts}

-- up to the greatest number of 64 bits
abbrev pub raised : ℕ → ℕ → ℕ
raised count n = min (count + n) (2 ^ 64 - 1)

-- of the pieces that were looked for, how many were found; and how many were missed, those that went past the cache left out
abbrev pub hits_among : List Found → ℕ
hits_among [] = 0
hits_among (found.Hit lookup stored value left_ms private ∷ answers) = 1 + hits_among answers
hits_among (found.Miss lookup permit ∷ answers) = hits_among answers
hits_among (found.Bypass permit ∷ answers) = hits_among answers

abbrev pub misses_among : List Found → ℕ
misses_among [] = 0
misses_among (found.Hit lookup stored value left_ms private ∷ answers) = misses_among answers
misses_among (found.Miss lookup permit ∷ answers) = 1 + misses_among answers
misses_among (found.Bypass permit ∷ answers) = misses_among answers

-- what this counts of the answer to a look
abbrev pub looked_in : (List Found → ℕ) → Call → Answer → ℕ
looked_in count (Look pass id asks now) (Looked answers) = count answers
looked_in count call answer = 0

-- what it counts of the answers to all looks
abbrev pub looked_by : (List Found → ℕ) → List Turn → ℕ
looked_by count [] = 0
looked_by count (t ∷ ts) = looked_in count t.call t.answer + looked_by count ts

-- the turns of the fetches of a request; one that is refused has none
abbrev pub turns_for : (site : Site) (request : Request) (c d : Seen) (l m : Line) (before after : Option (List ℕ)) (a : answers.Answer)
    → Answers site request c d l m before after a → List Turn
turns_for site request c d l m before after a (refused r is_refused is_refusal untouched) = []
turns_for site request c d l m before after a (answered entry variables value o accepted runs is) = turns_of runs.does.done

abbrev pub with_request : List Turn → Counts → Counts
with_request turns c = record { requests = raised c.requests 1; voids = c.voids; hits = raised c.hits (looked_by hits_among turns); misses = raised c.misses (looked_by misses_among turns) }

abbrev pub with_void : Counts → Counts
with_void c = record { requests = c.requests; voids = raised c.voids 1; hits = c.hits; misses = c.misses }
