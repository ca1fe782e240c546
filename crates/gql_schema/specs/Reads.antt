-- What the functions of the reader ensure.
use Rattle.std.specs.Prelude.{◌≡◌, Bool, List, ◌++◌, Result, Ok, Err}
use Rattle.token_read.specs.Lexeme.{Lexeme}
use Rattle.token_read.specs.Parse.{Answer, and_then, pure}
use Rattle.gql_tokens.specs.Lexical.{Token}
use Rattle.gql_terms.specs.declared.faults.Refusal.{Refusal}
use Rattle.gql_parser.specs.declared.tokens.Stop.{Stop}
use Rattle.gql_parser.specs.declared.tokens.Stop.TheVariants as stop
use Rattle.gql_schema.specs.declared.tokens.Test.{Test}
use Rattle.gql_schema.specs.declared.tokens.Test.TheVariants as test
use Rattle.gql_schema.specs.declared.words.Mark.{Mark}
use Rattle.gql_schema.specs.Words.{marked}
use Rattle.gql_schema.specs.Grammar.{is, is_word, named, is_value, is_description}
use Rattle.gql_schema.specs.Reading.{begins_item, begins_value, begins_definition}

abbrev pub passes : Test → Mark → Bool
passes (test.Is kind) = is kind
passes (test.Word word) = is_word word
passes test.Name = named
passes test.Value = is_value
passes test.Description = is_description
passes test.BeginsItem = begins_item
passes test.BeginsValue = begins_value
passes test.BeginsDefinition = begins_definition

-- the answer, unless memory fails
abbrev pub Reads : {A : Type 0} → Answer Mark Refusal A → Result A Stop → List (Lexeme Mark) → Type 0
Reads answer (Ok a) new = answer ≡ Ok (a, new)
Reads answer (Err stop.Memory) new = Unit {0}
Reads answer (Err (stop.Refused r)) new = answer ≡ Err (r, new)

-- a token that was read, as the grammar sees it
abbrev pub with_mark : Result Token Stop → Result (Lexeme Mark) Stop
with_mark (Ok t) = Ok (marked t)
with_mark (Err e) = Err e

-- these, and then as many as there are
abbrev pub prefixed : {A : Type 0} → List A → Answer Mark Refusal (List A) → Answer Mark Refusal (List A)
prefixed found answer = and_then answer (λ xs. pure (found ++ xs))
