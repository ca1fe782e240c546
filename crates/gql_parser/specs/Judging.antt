-- What is answered for a text.
use Rattle.std.specs.Prelude.{◌≡◌, ◌+◌, Bool, true, false, List, [], ◌∷◌, ℕ, length, slice_index, Result, Ok, Err}
use Rattle.gql_tokens.specs.Lexical.{Token}
use Rattle.gql_tokens.specs.Lexing.{Placed}
use Rattle.gql_terms.specs.declared.faults.Refusal.{Refusal}
use Rattle.gql_terms.specs.Grammar.{strict}
use Rattle.gql_parser.specs.Reading.{all}
use Rattle.gql_terms.specs.declared.documents.Document.{Document}
use Rattle.gql_terms.specs.declared.faults.GqlFault.{GqlFault}
use Rattle.gql_parser.specs.Faults.{IsText, Explains}

-- whether it holds
abbrev pub TellsWhether : Bool → Type 0 → Type 0
TellsWhether true P = P
TellsWhether false P = P → ⊥

-- the document that the text is, or its fault
abbrev pub Judged : List ℕ → Result Document GqlFault → Type 0
Judged text (Ok d) = IsText d text
Judged text (Err fault) = Explains text fault

-- the last of the tokens is refused, and this is its place
pub record RefusedLast (text : List ℕ) (tokens : List Token) (place : ℕ) (why : Refusal) : Type 0 where
  pub places : List ℕ
  pub token : Token
  pub index : ℕ
  pub stand : Placed text tokens places
  pub count : index + 1 ≡ length tokens
  pub place_is : place ≡ slice_index places index
  pub refused : all strict tokens ≡ Err (why, token ∷ [])
