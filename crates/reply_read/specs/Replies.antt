-- What a reply holds, or its first fault.
use Rattle.std.specs.Prelude.{◌≡◌, ◌≢◌, ℕ, Bool, true, false, if◌then◌else◌, List, [], ◌∷◌, length, codes, Option, Some, None, Result, Ok, Err}
use Rattle.cache_terms.specs.declared.tags.Tags.{Tags}
use Rattle.cache_terms.specs.declared.events.Reply.{Reply}
use Rattle.json_value.specs.declared.tree.Json.{Json}
use Rattle.json_value.specs.declared.fault.JsonFault.{JsonFault}
use Rattle.json_value.specs.declared.fault.JsonFault.TheVariants as unread
use Rattle.json_value.specs.Grammar.{IsText, strict}
use Rattle.json_value.specs.Members.{member}
use Rattle.json_read.specs.Faults.{Explains}
use Rattle.reply_read.specs.declared.replies.Sent.{Sent}
use Rattle.reply_read.specs.declared.replies.Pieces.{Pieces}
use Rattle.reply_read.specs.declared.replies.ReplyFault.{ReplyFault}
use Rattle.reply_read.specs.declared.replies.ReplyFault.TheVariants as fault
use Rattle.reply_read.specs.Kinds.{is_object}
use Rattle.reply_read.specs.Errors.{error_texts}
use Rattle.reply_read.specs.Values.{data_of, values_of}
use Rattle.reply_read.specs.TagTexts.{reply_tags}

-- the pieces, one for each that was asked for, the tags of each, and the texts of the errors
pub record GatheredPieces : Type 0 where
  pub values : List Json
  pub tags : List Tags
  pub errors : List (List ℕ)

abbrev pub held : Pieces → GatheredPieces
held p = record { values = p.values.items; tags = p.tags.items; errors = p.errors.items }

abbrev pub is_some_list : List (List ℕ) → Bool
is_some_list [] = false
is_some_list (x ∷ xs) = true

abbrev pub with_values : List Tags → List (List ℕ) → Result (List Json) ReplyFault → Result GatheredPieces ReplyFault
with_values tags errors (Err f) = Err f
with_values tags errors (Ok values) = Ok (record { values = values; tags = tags; errors = errors })

abbrev pub with_data : Sent → List Tags → List (List ℕ) → Option (Option Json) → Result GatheredPieces ReplyFault
with_data sent tags errors None = Err (fault.Shape (codes "data"))
with_data sent tags errors (Some found) = with_values tags errors (values_of sent found)

abbrev pub with_errors : Json → Sent → Option (List (List ℕ)) → Result GatheredPieces ReplyFault
with_errors v sent None = Err (fault.Shape (codes "errors"))
with_errors v sent (Some errors) = with_data sent (reply_tags sent (member v (codes "extensions"))) errors (data_of (is_some_list errors) (member v (codes "data")))

-- the value is an object; then `errors`, then `data`, then the pieces are looked at
abbrev pub read_of : Json → Sent → Result GatheredPieces ReplyFault
read_of v sent = if is_object v then with_errors v sent (error_texts (member v (codes "errors"))) else Err (fault.Shape [])

-- the call gives what is held, or the fault; or it found no memory
abbrev pub Gives : Result GatheredPieces ReplyFault → Result Pieces ReplyFault → Type 0
Gives expected (Ok p) = expected ≡ Ok (held p)
Gives expected (Err fault.Memory) = Unit {0}
Gives expected (Err (fault.Status s)) = expected ≡ Err (fault.Status s)
Gives expected (Err (fault.Json p)) = expected ≡ Err (fault.Json p)
Gives expected (Err (fault.Shape m)) = expected ≡ Err (fault.Shape m)
Gives expected (Err (fault.Count got sent)) = expected ≡ Err (fault.Count got sent)

-- the place of a fault of the text; it ends too soon at its length
abbrev pub place_in : List ℕ → JsonFault → ReplyFault
place_in body (unread.Syntax p) = fault.Json p
place_in body unread.Ended = fault.Json (length body)
place_in body (unread.Deep p) = fault.Json p
place_in body (unread.Twice p) = fault.Json p
place_in body (unread.Surrogate p) = fault.Json p
place_in body unread.Memory = fault.Memory

-- the body is the text of a value, of which the answer is this; or it is none, and the answer is its fault
abbrev pub ReadsReply : List ℕ → Sent → Result Pieces ReplyFault → Type 0
ReadsReply body sent (Err fault.Memory) = Unit {0}
ReadsReply body sent (Err (fault.Status s)) = ⊥
ReadsReply body sent (Err (fault.Json p)) = (x : JsonFault) × Explains body x × (place_in body x ≡ fault.Json p)
ReadsReply body sent (Ok p) = (v : Json) × IsText strict v body × (read_of v sent ≡ Ok (held p))
ReadsReply body sent (Err (fault.Shape m)) = (v : Json) × IsText strict v body × (read_of v sent ≡ Err (fault.Shape m))
ReadsReply body sent (Err (fault.Count got n)) = (v : Json) × IsText strict v body × (read_of v sent ≡ Err (fault.Count got n))
