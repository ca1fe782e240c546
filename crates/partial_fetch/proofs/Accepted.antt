-- Which requests are accepted, and which are refused.
use Rattle.std.proofs.Common.{◌≡◌, ◌≢◌, ℕ, Bool, true, false, List, [], ◌∷◌, Option, None, refl, ap, sym, ◌∙◌, subst}
use Rattle.json_value.specs.declared.tree.Json.{Json}
use Rattle.gql_terms.specs.declared.documents.Document.{Document}
use Rattle.gql_terms.specs.declared.documents.Operation.{Operation}
use Rattle.gql_terms.specs.declared.faults.GqlFault.{GqlFault}
use Rattle.gql_terms.specs.declared.faults.GqlFault.TheVariants as unread
use Rattle.gql_parser.specs.Faults.{IsText, Explains}
use Rattle.gql_syntax.specs.Readings.{HasFault}
use Rattle.gql_print.specs.Canonical.{canonical_text}
use Rattle.gql_inputs.specs.declared.fault.VarFault.{VarFault}
use Rattle.gql_inputs.specs.declared.fault.VarFault.TheVariants as wrong
use Rattle.gql_inputs.specs.Variables as inputs
use Rattle.gql_inputs.specs.Variables.{CoercesVariables, IsCoerced, members_of, faulty}
use Rattle.plan_book.specs.declared.book.Entry.{Entry}
use Rattle.plan_book.specs.Book.{entry_with}
use Rattle.router_config.specs.declared.site.Site.{Site}
use Rattle.router_config.specs.declared.config.Request.{Request}
use Rattle.answer_text.specs.declared.refusal.Refusal.{Refusal}
use Rattle.answer_text.specs.declared.refusal.Refusal.TheVariants as refusal
use Rattle.partial_fetch.specs.Accepting.{HasPlan, HasOperation, IsRefused, IsAccepted, is_named, place_in, variable_of, cause_of, bad_document, unknown, misnamed, bad_variables}

module _ (site : Site) (request : Request) where
  pub unread_document : (fault : GqlFault) (r : Refusal) → fault ≢ unread.Memory → HasFault request.query fault → Explains request.query fault → r ≡ refusal.BadDocument (place_in request.query fault) → IsRefused site request r
  unread_document fault r not_memory refuses why is = subst (IsRefused site request) (sym is) (bad_document fault not_memory (never fault not_memory refuses) why)
    where
      never : (f : GqlFault) → f ≢ unread.Memory → HasFault request.query f → (d : Document) → IsText d request.query → ⊥
      never unread.Memory other h = absurd (other refl)
      never (unread.Unexpected place) other h = h
      never unread.Ended other h = h
      never (unread.Deep place) other h = h

  pub no_plan : (d : Document) (text : List ℕ) → IsText d request.query → text ≡ canonical_text d → entry_with text site.plans.entries.items ≡ None → IsRefused site request refusal.OperationUnknown
  no_plan d text is same none = unknown d is (ap (λ (t : List ℕ). entry_with t site.plans.entries.items) (sym same) ∙ none)

  module _ (entry : Entry) (operation : Operation) where
    pub has_operation : (b : Bool) → HasPlan site request entry → entry.document.operations ≡ operation ∷ [] → b ≡ is_named request.operation_name operation.name → b ≡ true → HasOperation site request entry operation
    has_operation b plan only is test = record { plan = plan; only = only; named = sym is ∙ test }

    pub other_name : (b : Bool) → HasPlan site request entry → entry.document.operations ≡ operation ∷ [] → b ≡ is_named request.operation_name operation.name → b ≡ false → IsRefused site request refusal.OperationUnknown
    other_name b plan only is test = misnamed entry operation plan only (sym is ∙ test)

    pub coerced_variables : (variables : Json) → HasOperation site request entry operation → IsCoerced site.schema operation.variables request.variables variables → IsAccepted site request entry variables
    coerced_variables variables has coerced = record { operation = operation; has = has; coerced = coerced }

    pub bad_variable : (fault : VarFault) (r : Refusal) → HasOperation site request entry operation → fault ≢ wrong.Memory → inputs.IsFirstFaultOf site.schema operation.variables request.variables fault
        → r ≡ refusal.BadVariables (variable_of fault) (cause_of fault) → IsRefused site request r
    bad_variable fault r has not_memory why is = subst (IsRefused site request) (sym is) (bad_variables entry operation has fault not_memory (known fault not_memory why))
      where
        known : (f : VarFault) → f ≢ wrong.Memory → inputs.IsFirstFaultOf site.schema operation.variables request.variables f → CoercesVariables site.schema (members_of request.variables) [] operation.variables (faulty f)
        known wrong.Memory other h = absurd (other refl)
        known (wrong.Missing name) other h = h
        known (wrong.Null name) other h = h
        known (wrong.WrongKind name place) other h = h
