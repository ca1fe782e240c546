-- The errors of calls to subgraphs: the message, the code and the members of each.
use Rattle.std.specs.Prelude.{ℕ, List, [], ◌∷◌, codes}
use Rattle.json_value.specs.declared.tree.Json.{Json}
use Rattle.answer_text.specs.declared.fetch_error.FetchCause.{FetchCause}
use Rattle.answer_text.specs.declared.fetch_error.FetchCause.TheVariants as cause
use Rattle.answer_text.specs.declared.fetch_error.FetchError.{FetchError}
use Rattle.answer_text.specs.ErrorValues.{NamedValues, string, number, error_value}

abbrev pub code_of : FetchCause → List ℕ
code_of cause.Unreachable = codes "UNREACHABLE"
code_of (cause.TooLong bytes) = codes "REPLY_TOO_LONG"
code_of (cause.Status status) = codes "SUBGRAPH_STATUS"
code_of (cause.NotJson at) = codes "BAD_REPLY"
code_of (cause.Misshapen member) = codes "BAD_REPLY"
code_of (cause.Miscounted got sent) = codes "BAD_REPLY"
code_of (cause.Subgraph text) = codes "SUBGRAPH_ERROR"

abbrev pub message_of : FetchCause → List ℕ
message_of cause.Unreachable = codes "subgraph unreachable"
message_of (cause.TooLong bytes) = codes "subgraph reply too long"
message_of (cause.Status status) = codes "subgraph status"
message_of (cause.NotJson at) = codes "subgraph reply not readable"
message_of (cause.Misshapen member) = codes "subgraph reply not readable"
message_of (cause.Miscounted got sent) = codes "subgraph reply not readable"
message_of (cause.Subgraph text) = text

-- what is said after the subgraph's name
abbrev pub more_of : FetchCause → NamedValues
more_of cause.Unreachable = []
more_of (cause.TooLong bytes) = (codes "bytes", number bytes) ∷ []
more_of (cause.Status status) = (codes "status", number status) ∷ []
more_of (cause.NotJson at) = (codes "at", number at) ∷ []
more_of (cause.Misshapen member) = (codes "member", string member) ∷ []
more_of (cause.Miscounted got sent) = (codes "got", number got) ∷ ((codes "sent", number sent) ∷ [])
more_of (cause.Subgraph text) = []

abbrev pub members_of : List ℕ → FetchCause → NamedValues
members_of subgraph cause = (codes "subgraph", string subgraph) ∷ more_of cause

abbrev pub fetch_error : FetchError → Json
fetch_error e = error_value (message_of e.cause) e.place (code_of e.cause) (members_of e.subgraph e.cause)
