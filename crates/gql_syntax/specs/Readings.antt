-- What reading the tokens of a text gave, and how the text ends.
use Rattle.std.specs.Prelude.{◌≡◌, ℕ, ◌+◌, List, length, slice_index, Ok, Err}
use Rattle.token_read.specs.Parse.{Answer}
use Rattle.gql_tokens.specs.declared.kinds.Kind.{Kind}
use Rattle.gql_tokens.specs.Lexical.{Token}
use Rattle.gql_tokens.specs.Lexing.{Placed, EndsWhole, EndsCut}
use Rattle.gql_terms.specs.declared.documents.Document.{Document}
use Rattle.gql_terms.specs.declared.faults.Refusal.{Refusal}
use Rattle.gql_terms.specs.declared.faults.GqlFault.{GqlFault}
use Rattle.gql_terms.specs.declared.faults.GqlFault.TheVariants as faults
use Rattle.gql_parser.specs.Faults.{IsText}
use Rattle.gql_syntax.specs.declared.judging.Reading.{Reading}
use Rattle.gql_syntax.specs.declared.judging.Reading.TheVariants as reading

-- the parser's answer
abbrev pub IsReading : Answer Kind Refusal Document → Reading → Type 0
IsReading answer (reading.Read d) = (rest : List Token) × (answer ≡ Ok (d, rest))
IsReading answer (reading.Refused why left) = (rest : List Token) × (answer ≡ Err (why, rest)) × (left ≡ length rest)
IsReading answer reading.Memory = Unit {0}

-- the last token may grow
pub record IsWhole (text : List ℕ) (tokens : List Token) (places : List ℕ) (kinds : List Kind) : Type 0 where
  pub placed : Placed text tokens places
  pub counted : length places ≡ length tokens
  pub ends : EndsWhole text tokens kinds

-- something begins that is no token yet, or never
pub record IsCut (text : List ℕ) (tokens : List Token) (places : List ℕ) (kinds : List Kind) : Type 0 where
  pub placed : Placed text tokens places
  pub counted : length places ≡ length tokens + 1
  pub ends : EndsCut text tokens (slice_index places (length tokens)) kinds

-- a text with a fault is no document
abbrev pub HasFault : List ℕ → GqlFault → Type 0
HasFault text faults.Memory = Unit {0}
HasFault text fault = (d : Document) → IsText d text → ⊥
