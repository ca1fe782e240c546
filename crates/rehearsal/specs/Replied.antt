-- The reply for each answer of the book.
use Rattle.std.specs.Prelude.{ℕ, List, Option, Some, None}
use Rattle.cache_book.specs.declared.answers.Settled.{Settled}
use Rattle.cache_book.specs.declared.answers.Tally.{Tally}
use Rattle.cache_book.specs.declared.answers.Turned.{Turned}
use Rattle.cache_book.specs.declared.answers.Turned.TheVariants as turn
use Rattle.cache_book.specs.declared.answers.Voided.{Voided}
use Rattle.cache_book.specs.declared.found.Found.{Found}
use Rattle.cache_book.specs.declared.found.Found.TheVariants as found
use Rattle.script_lines.specs.declared.replies.Cause.{Cause}
use Rattle.script_lines.specs.declared.replies.Reply.{Reply}
use Rattle.script_lines.specs.declared.replies.Reply.TheVariants as replies
use Rattle.script_lines.specs.Replies.{reply_text}

-- P hit Q VALUE, P miss E.T, or why the look went past the cache
abbrev pub found_reply : Found → Reply
found_reply (found.Hit lookup stored value left_ms private) = replies.Hit lookup stored value
found_reply (found.Miss lookup permit) = replies.Miss lookup permit.epoch permit.mark
found_reply (found.Bypass permit) = replies.Bypass permit.mark

-- what became of a permit
abbrev pub settled_reply : Settled → Reply
settled_reply s = replies.Settled s.position s.outcome

-- the epoch that an invalidation began, if it did
abbrev pub begun_by : Turned → ℕ → Option ℕ
begun_by (turn.Full length reserved limit) epoch = Some epoch
begun_by turn.No epoch = None
begun_by turn.Retired epoch = None

-- P voided COUNT, after a turn of the epoch turned E P voided COUNT
abbrev pub void_reply : Voided → Reply
void_reply answer = replies.Voided (begun_by answer.turned answer.epoch) answer.position answer.count

-- epoch E events L bytes B open R
abbrev pub tally_reply : Tally → Reply
tally_reply t = replies.Tally t.epoch t.events t.bytes t.pending

-- line N refused CAUSE
abbrev pub refusal : ℕ → Cause → List ℕ
refusal number cause = reply_text (replies.Refused number cause)
