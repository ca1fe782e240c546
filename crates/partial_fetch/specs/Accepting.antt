-- Which requests are refused before anything is asked (GraphQL October 2021, sections 5.2.1 and 6.1), and what the others
-- ask for.
use Rattle.std.specs.Prelude.{◌≡◌, ◌≢◌, ℕ, Bool, true, false, List, [], ◌∷◌, length, Option, Some, None}
use Rattle.std.specs.Str.{bytes_eq}
use Rattle.json_value.specs.declared.tree.Json.{Json}
use Rattle.gql_terms.specs.declared.documents.Document.{Document}
use Rattle.gql_terms.specs.declared.documents.Operation.{Operation}
use Rattle.gql_terms.specs.declared.faults.GqlFault.{GqlFault}
use Rattle.gql_terms.specs.declared.faults.GqlFault.TheVariants as unread
use Rattle.gql_parser.specs.Faults.{IsText, Explains}
use Rattle.gql_print.specs.Canonical.{canonical_text}
use Rattle.gql_inputs.specs.declared.fault.VarFault.{VarFault}
use Rattle.gql_inputs.specs.declared.fault.VarFault.TheVariants as wrong
use Rattle.gql_inputs.specs.Variables.{CoercesVariables, IsCoerced, members_of, faulty}
use Rattle.plan_book.specs.declared.book.Entry.{Entry}
use Rattle.plan_book.specs.Book.{entry_with}
use Rattle.router_config.specs.declared.site.Site.{Site}
use Rattle.router_config.specs.declared.config.Request.{Request}
use Rattle.answer_text.specs.declared.refusal.Refusal.{Refusal}
use Rattle.answer_text.specs.declared.refusal.Refusal.TheVariants as refusal
use Rattle.answer_text.specs.declared.refusal.VariableCause.{VariableCause}
use Rattle.answer_text.specs.declared.refusal.VariableCause.TheVariants as cause

-- where a text is at fault; it ends too soon at its length
abbrev pub place_in : List ℕ → GqlFault → ℕ
place_in text (unread.Unexpected place) = place
place_in text (unread.Deep place) = place
place_in text unread.Ended = length text
place_in text unread.Memory = 0

abbrev pub variable_of : VarFault → List ℕ
variable_of (wrong.Missing name) = name
variable_of (wrong.Null name) = name
variable_of (wrong.WrongKind name place) = name
variable_of wrong.Memory = []

abbrev pub cause_of : VarFault → VariableCause
cause_of (wrong.Missing name) = cause.Missing
cause_of (wrong.Null name) = cause.Null
cause_of (wrong.WrongKind name place) = cause.Kind
cause_of wrong.Memory = cause.Kind

-- an operation of the second name serves whoever asks for the first; without a name any serves
abbrev pub is_named : Option (List ℕ) → Option (List ℕ) → Bool
is_named None name = true
is_named (Some asked) None = false
is_named (Some asked) (Some name) = bytes_eq asked name

-- the request's text is a document, and the entry is the one with its canonical text
pub record HasPlan (site : Site) (request : Request) (entry : Entry) : Type 0 where
  pub document : Document
  pub is_document : IsText document request.query
  pub found : entry_with (canonical_text document) site.plans.entries.items ≡ Some entry

-- and its one operation has the name that was asked for
pub record HasOperation (site : Site) (request : Request) (entry : Entry) (operation : Operation) : Type 0 where
  pub plan : HasPlan site request entry
  pub only : entry.document.operations ≡ operation ∷ []
  pub named : is_named request.operation_name operation.name ≡ true

-- WHAT IS REFUSED, for the first reason that applies
pub data IsRefused (site : Site) (request : Request) : Refusal → Type 0 where
  -- the text is no document
  bad_document : (fault : GqlFault) → fault ≢ unread.Memory
      → ((d : Document) → IsText d request.query → ⊥) → Explains request.query fault
      → IsRefused site request (refusal.BadDocument (place_in request.query fault))
  -- no entry has its canonical text
  unknown : (d : Document) → IsText d request.query
      → entry_with (canonical_text d) site.plans.entries.items ≡ None
      → IsRefused site request refusal.OperationUnknown
  -- its operation has another name
  misnamed : (entry : Entry) (operation : Operation) → HasPlan site request entry
      → entry.document.operations ≡ operation ∷ [] → is_named request.operation_name operation.name ≡ false
      → IsRefused site request refusal.OperationUnknown
  -- its variables can't be coerced
  bad_variables : (entry : Entry) (operation : Operation) → HasOperation site request entry operation
      → (fault : VarFault) → fault ≢ wrong.Memory
      → CoercesVariables site.schema (members_of request.variables) [] operation.variables (faulty fault)
      → IsRefused site request (refusal.BadVariables (variable_of fault) (cause_of fault))

-- WHAT IS ACCEPTED: the entry that answers it, and the coerced variables
pub record IsAccepted (site : Site) (request : Request) (entry : Entry) (variables : Json) : Type 0 where
  pub operation : Operation
  pub has : HasOperation site request entry operation
  pub coerced : IsCoerced site.schema operation.variables request.variables variables
