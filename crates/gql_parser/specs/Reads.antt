-- What the functions of the reader ensure.
use Rattle.std.specs.Prelude.{◌≡◌, ℕ, Bool, List, [], ◌∷◌, ◌++◌, Result, Ok, Err}
use Rattle.token_read.specs.Lexeme.{Lexeme}
use Rattle.token_read.specs.Parse.{Answer, and_then, pure, many}
use Rattle.gql_tokens.specs.declared.kinds.Kind.{Kind}
use Rattle.gql_tokens.specs.KindTests.{is_name, is_fragment_name}
use Rattle.gql_terms.specs.declared.faults.Refusal.{Refusal}
use Rattle.gql_terms.specs.Grammar.{is, is_operation}
use Rattle.gql_parser.specs.declared.tokens.Test.{Test}
use Rattle.gql_parser.specs.declared.tokens.Test.TheVariants as test
use Rattle.gql_parser.specs.declared.tokens.Stop.{Stop}
use Rattle.gql_parser.specs.declared.tokens.Stop.TheVariants as stop
use Rattle.gql_terms.specs.declared.documents.Document.{Document}
use Rattle.gql_terms.specs.Grammar.{Definition, operation, fragment}
use Rattle.gql_parser.specs.Reading.{is_leaf, begins_value, begins_selection, begins_set, begins_definition}

abbrev pub passes : Test → Kind → Bool
passes (test.Is kind) = is kind
passes test.Name = is_name
passes test.FragmentName = is_fragment_name
passes (test.Leaf const) = is_leaf const
passes (test.BeginsValue const) = begins_value const
passes test.BeginsSelection = begins_selection
passes test.BeginsSet = begins_set
passes test.Operation = is_operation
passes test.BeginsDefinition = begins_definition

-- the answer, unless memory fails
abbrev pub Reads : {A : Type 0} → Answer Kind Refusal A → Result A Stop → List (Lexeme Kind) → Type 0
Reads answer (Ok a) new = answer ≡ Ok (a, new)
Reads answer (Err stop.Memory) new = Unit {0}
Reads answer (Err (stop.Refused r)) new = answer ≡ Err (r, new)

-- these, and then as many as there are
abbrev pub prefixed : {A : Type 0} → List A → Answer Kind Refusal (List A) → Answer Kind Refusal (List A)
prefixed found answer = and_then answer (λ xs. pure (found ++ xs))

-- a document with_definition one definition more
abbrev pub with_definition : Document → Definition → Document
with_definition d (operation x) = record { operations = d.operations ++ (x ∷ []); fragments = d.fragments }
with_definition d (fragment x) = record { operations = d.operations; fragments = d.fragments ++ (x ∷ []) }

-- the definition that is read is added, unless memory fails
abbrev pub AddsDefinition : Answer Kind Refusal Definition → Result (Unit {0}) Stop → Document → Document → List (Lexeme Kind) → Type 0
AddsDefinition answer (Ok _) old new rest = (x : Definition) × (answer ≡ Ok (x, rest)) × (new ≡ with_definition old x)
AddsDefinition answer (Err stop.Memory) old new rest = Unit {0}
AddsDefinition answer (Err (stop.Refused r)) old new rest = answer ≡ Err (r, rest)

abbrev pub withs : Document → List Definition → Document
withs d [] = d
withs d (x ∷ xs) = withs (with_definition d x) xs

abbrev pub AddsAll : Answer Kind Refusal (List Definition) → Result (Unit {0}) Stop → Document → Document → List (Lexeme Kind) → Type 0
AddsAll answer (Ok _) old new rest = (xs : List Definition) × (answer ≡ Ok (xs, rest)) × (new ≡ withs old xs)
AddsAll answer (Err stop.Memory) old new rest = Unit {0}
AddsAll answer (Err (stop.Refused r)) old new rest = answer ≡ Err (r, rest)
