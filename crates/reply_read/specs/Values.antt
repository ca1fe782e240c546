-- The pieces of a reply.
use Rattle.std.specs.Prelude.{◌≡◌, ◌⊎◌, ℕ, ◌==◌, Bool, true, false, if◌then◌else◌, List, [], ◌∷◌, length, replicate, codes, Vec, Option, Some, None, Result, Ok, Err}
use Rattle.std.specs.Global.{Global}
use Rattle.std.specs.List.{list_all}
use Rattle.json_value.specs.declared.tree.Json.{Json, out-Json}
use Rattle.json_value.specs.declared.tree.Json.TheVariants as json
use Rattle.json_value.specs.declared.tree.Json.TheOpen.{Json-F}
use Rattle.json_value.specs.Members.{member}
use Rattle.reply_read.specs.declared.replies.Sent.{Sent}
use Rattle.reply_read.specs.declared.replies.Sent.TheVariants as sent
use Rattle.reply_read.specs.declared.replies.ReplyFault.{ReplyFault}
use Rattle.reply_read.specs.declared.replies.ReplyFault.TheVariants as fault
use Rattle.reply_read.specs.Kinds.{is_piece}

-- how many pieces were asked for
abbrev pub count_of : Sent → ℕ
count_of sent.Root = 1
count_of (sent.Entities n) = n

abbrev pub data_in : Bool → Json → Json-F Json → Option (Option Json)
data_in failed v Json-F.Null = if failed then Some None else None
data_in failed v (Json-F.Object ms) = Some (Some v)
data_in failed v (Json-F.Bool b) = None
data_in failed v (Json-F.Number n) = None
data_in failed v (Json-F.Str t) = None
data_in failed v (Json-F.List xs) = None

-- an object; beside errors it may be null or missing, which is Some None; None is another form
abbrev pub data_of : Bool → Option Json → Option (Option Json)
data_of failed None = if failed then Some None else None
data_of failed (Some v) = data_in failed v (out-Json v)

abbrev pub entities_in : ℕ → Json-F Json → Result (List Json) ReplyFault
entities_in n (Json-F.List xs) = if length xs == n then (if list_all is_piece xs then Ok xs else Err (fault.Shape (codes "entity"))) else Err (fault.Count (length xs) n)
entities_in n Json-F.Null = Err (fault.Shape (codes "_entities"))
entities_in n (Json-F.Bool b) = Err (fault.Shape (codes "_entities"))
entities_in n (Json-F.Number a) = Err (fault.Shape (codes "_entities"))
entities_in n (Json-F.Str t) = Err (fault.Shape (codes "_entities"))
entities_in n (Json-F.Object ms) = Err (fault.Shape (codes "_entities"))

-- as many entities as were sent, each an object or null
abbrev pub entities_of : ℕ → Option Json → Result (List Json) ReplyFault
entities_of n None = Err (fault.Shape (codes "_entities"))
entities_of n (Some v) = entities_in n (out-Json v)

-- without data every piece is null; a root's piece is the data
abbrev pub values_of : Sent → Option Json → Result (List Json) ReplyFault
values_of sent.Root None = Ok (json.Null ∷ [])
values_of sent.Root (Some v) = Ok (v ∷ [])
values_of (sent.Entities n) None = Ok (replicate n json.Null)
values_of (sent.Entities n) (Some v) = entities_of n (member v (codes "_entities"))

-- the list, where there is one
abbrev pub listed : Result (Vec Json Global) ReplyFault → Result (List Json) ReplyFault
listed (Ok v) = Ok v.items
listed (Err f) = Err f

-- what is expected, or for want of memory nothing
abbrev pub GivesValues : Result (List Json) ReplyFault → Result (List Json) ReplyFault → Type 0
GivesValues expected result = (result ≡ expected) ⊎ (result ≡ Err fault.Memory)
