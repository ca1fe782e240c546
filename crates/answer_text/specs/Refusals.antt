-- The bodies of refusals: the status, the message, the code and the members of each.
use Rattle.std.specs.Prelude.{ℕ, List, [], ◌∷◌, None, codes}
use Rattle.json_value.specs.declared.tree.Json.{Json}
use Rattle.answer_text.specs.declared.refusal.Refusal.{Refusal}
use Rattle.answer_text.specs.declared.refusal.Refusal.TheVariants as refusal
use Rattle.answer_text.specs.declared.refusal.VariableCause.{VariableCause}
use Rattle.answer_text.specs.declared.refusal.VariableCause.TheVariants as cause
use Rattle.answer_text.specs.ErrorValues.{NamedValues, string, number, list, object, error_value}

abbrev pub status_of : Refusal → ℕ
status_of refusal.BadMessage = 400
status_of refusal.TooLong = 413
status_of refusal.NotFound = 404
status_of refusal.Method = 405
status_of refusal.Unauthorized = 401
status_of (refusal.BadJson at) = 400
status_of refusal.BadRequest = 400
status_of refusal.BadTargets = 400
status_of (refusal.BadDocument at) = 400
status_of refusal.OperationUnknown = 400
status_of (refusal.BadVariables variable why) = 400

abbrev pub code_of : Refusal → List ℕ
code_of refusal.BadMessage = codes "BAD_MESSAGE"
code_of refusal.TooLong = codes "TOO_LONG"
code_of refusal.NotFound = codes "NOT_FOUND"
code_of refusal.Method = codes "METHOD"
code_of refusal.Unauthorized = codes "UNAUTHORIZED"
code_of (refusal.BadJson at) = codes "BAD_JSON"
code_of refusal.BadRequest = codes "BAD_REQUEST"
code_of refusal.BadTargets = codes "BAD_TARGETS"
code_of (refusal.BadDocument at) = codes "BAD_DOCUMENT"
code_of refusal.OperationUnknown = codes "OPERATION_UNKNOWN"
code_of (refusal.BadVariables variable why) = codes "BAD_VARIABLES"

abbrev pub message_of : Refusal → List ℕ
message_of refusal.BadMessage = codes "message not readable"
message_of refusal.TooLong = codes "message too long"
message_of refusal.NotFound = codes "no such path"
message_of refusal.Method = codes "method not allowed"
message_of refusal.Unauthorized = codes "invalidation key refused"
message_of (refusal.BadJson at) = codes "body is not JSON"
message_of refusal.BadRequest = codes "request is not a GraphQL request"
message_of refusal.BadTargets = codes "invalidation list refused"
message_of (refusal.BadDocument at) = codes "document not readable"
message_of refusal.OperationUnknown = codes "operation has no plan"
message_of (refusal.BadVariables variable why) = codes "variable refused"

abbrev pub cause_word : VariableCause → List ℕ
cause_word cause.Missing = codes "missing"
cause_word cause.Null = codes "null"
cause_word cause.Kind = codes "kind"

abbrev pub more_of : Refusal → NamedValues
more_of (refusal.BadJson at) = (codes "at", number at) ∷ []
more_of (refusal.BadDocument at) = (codes "at", number at) ∷ []
more_of (refusal.BadVariables variable why) = (codes "variable", string variable) ∷ ((codes "cause", string (cause_word why)) ∷ [])
more_of _ = []

abbrev pub refusal_error : Refusal → Json
refusal_error r = error_value (message_of r) None (code_of r) (more_of r)

-- the one error, without data
abbrev pub refusal_value : Refusal → Json
refusal_value r = object ((codes "errors", list (refusal_error r ∷ [])) ∷ [])
