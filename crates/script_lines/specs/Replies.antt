-- The texts of answers.
use Rattle.std.specs.Prelude.{ℕ, List, [], ◌∷◌, ◌++◌, codes, Option, Some, None}
use Rattle.std.specs.Fmt.{decimal}
use Rattle.cache_terms.specs.declared.events.Mark.{Mark}
use Rattle.cache_terms.specs.declared.events.Mark.TheVariants as mark
use Rattle.cache_terms.specs.declared.events.Outcome.{Outcome}
use Rattle.cache_terms.specs.declared.events.Outcome.TheVariants as outcome
use Rattle.cache_terms.specs.declared.reasons.Why.{Why}
use Rattle.cache_terms.specs.declared.reasons.Why.TheVariants as why
use Rattle.script_lines.specs.declared.replies.Cause.{Cause}
use Rattle.script_lines.specs.declared.replies.Cause.TheVariants as cause
use Rattle.script_lines.specs.declared.replies.Reply.{Reply}
use Rattle.script_lines.specs.declared.replies.Reply.TheVariants as reply

-- the texts joined by spaces, and a line feed
abbrev pub line_of : List (List ℕ) → List ℕ
line_of [] = codes "\n"
line_of (word ∷ []) = word ++ codes "\n"
line_of (word ∷ next ∷ rest) = word ++ (codes " " ++ line_of (next ∷ rest))

-- E.T
abbrev pub ticket_text : ℕ → Mark → List ℕ
ticket_text epoch (mark.Ticket ticket) = decimal epoch ++ (codes "." ++ decimal ticket)
ticket_text epoch other = decimal epoch ++ codes "."

-- P hit Q VALUE
abbrev pub hit_text : ℕ → ℕ → List ℕ → List ℕ
hit_text lookup stored value = line_of (decimal lookup ∷ codes "hit" ∷ decimal stored ∷ value ∷ [])

-- P miss E.T
abbrev pub miss_text : ℕ → ℕ → Mark → List ℕ
miss_text lookup epoch m = line_of (decimal lookup ∷ codes "miss" ∷ ticket_text epoch m ∷ [])

-- why a look went past the cache
abbrev pub bypass_text : Mark → List ℕ
bypass_text (mark.Over pinned current) = line_of (codes "bypass" ∷ codes "over" ∷ decimal pinned ∷ decimal current ∷ [])
bypass_text (mark.Full length reserved needed limit) = line_of (codes "bypass" ∷ codes "full" ∷ decimal length ∷ decimal reserved ∷ decimal needed ∷ decimal limit ∷ [])
bypass_text (mark.Wide bytes limit) = line_of (codes "bypass" ∷ codes "wide" ∷ decimal bytes ∷ decimal limit ∷ [])
bypass_text other = line_of (codes "bypass" ∷ codes "retired" ∷ [])

abbrev pub why_words : Why → List (List ℕ)
why_words (why.Status status) = codes "status" ∷ decimal status ∷ []
why_words why.Mutation = codes "mutation" ∷ []
why_words why.Uncached = codes "uncached" ∷ []
why_words why.Errors = codes "errors" ∷ []
why_words why.Absent = codes "absent" ∷ []
why_words why.NoStore = codes "nostore" ∷ []
why_words (why.Stale lifetime age) = codes "stale" ∷ decimal lifetime ∷ decimal age ∷ []
why_words why.Anonymous = codes "anonymous" ∷ []
why_words (why.TagCount count) = codes "tagcount" ∷ decimal count ∷ []
why_words why.TagForm = codes "tagform" ∷ []

abbrev pub outcome_words : Outcome → List (List ℕ)
outcome_words outcome.Stored = codes "stored" ∷ []
outcome_words (outcome.Void position) = codes "void" ∷ decimal position ∷ []
outcome_words (outcome.NoRoom bytes adds limit) = codes "noroom" ∷ decimal bytes ∷ decimal adds ∷ decimal limit ∷ []
outcome_words (outcome.Unstorable reason) = codes "unstorable" ∷ why_words reason
outcome_words outcome.Failed = codes "failed" ∷ []
outcome_words (outcome.Over pinned current) = codes "over" ∷ decimal pinned ∷ decimal current ∷ []
outcome_words outcome.Bypassed = codes "bypassed" ∷ []
outcome_words outcome.Memory = codes "memory" ∷ []

-- a position and a space, where there is one
abbrev pub at_text : Option ℕ → List ℕ
at_text None = []
at_text (Some position) = decimal position ++ codes " "

-- what became of a permit, after the position of its Settle where one was appended
abbrev pub settled_text : Option ℕ → Outcome → List ℕ
settled_text position result = at_text position ++ line_of (outcome_words result)

-- P voided COUNT, after the epoch that began where one did
abbrev pub voided_text : Option ℕ → ℕ → ℕ → List ℕ
voided_text None position count = line_of (decimal position ∷ codes "voided" ∷ decimal count ∷ [])
voided_text (Some epoch) position count = line_of (codes "turned" ∷ decimal epoch ∷ decimal position ∷ codes "voided" ∷ decimal count ∷ [])

-- epoch E events L bytes B open R
abbrev pub tally_text : (epoch events bytes pending : ℕ) → List ℕ
tally_text epoch events bytes pending =
    line_of (codes "epoch" ∷ decimal epoch ∷ codes "events" ∷ decimal events ∷ codes "bytes" ∷ decimal bytes ∷ codes "open" ∷ decimal pending ∷ [])

-- why a line is refused
abbrev pub cause_word : Cause → List ℕ
cause_word cause.Word = codes "word"
cause_word cause.Who = codes "who"
cause_word cause.Ticket = codes "ticket"

-- line N refused CAUSE
abbrev pub refused_text : ℕ → Cause → List ℕ
refused_text number why = line_of (codes "line" ∷ decimal number ∷ codes "refused" ∷ cause_word why ∷ [])

-- the answer to a line of a script, one line with its line feed
abbrev pub reply_text : Reply → List ℕ
reply_text (reply.Epoch epoch) = line_of (codes "epoch" ∷ decimal epoch ∷ [])
reply_text (reply.Hit lookup stored value) = hit_text lookup stored value
reply_text (reply.Miss lookup epoch mark) = miss_text lookup epoch mark
reply_text (reply.Bypass mark) = bypass_text mark
reply_text (reply.Settled position outcome) = settled_text position outcome
reply_text (reply.Voided began position count) = voided_text began position count
reply_text (reply.Tally epoch events bytes pending) = tally_text epoch events bytes pending
reply_text (reply.Refused number cause) = refused_text number cause
