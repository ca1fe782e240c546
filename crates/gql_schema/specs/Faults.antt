-- What each answer of the reader says of the syntax of the text.
use Rattle.std.specs.Prelude.{◌≡◌, ℕ, List, [], ◌∷◌, ◌++◌, map, length, ◌⊎◌}
use Rattle.token_read.specs.Lexeme.{Lexeme}
use Rattle.token_read.specs.Exact.{Viable}
use Rattle.token_read.specs.Texts as texts
use Rattle.gql_tokens.specs.Lexical.{Token, Lexes}
use Rattle.gql_tokens.specs.Lexing.{At, TokenAt}
use Rattle.gql_schema.specs.declared.terms.Part.{Part}
use Rattle.gql_schema.specs.declared.words.Mark.{Mark}
use Rattle.gql_schema.specs.Words.{marked, IsMarked}
use Rattle.gql_schema.specs.Grammar.{IsSchema}

-- the bytes are these tokens, as the grammar of schemas sees them
abbrev pub LexesMarked : List (Lexeme Mark) → List ℕ → Type 0
LexesMarked ms text = (ts : List Token) × Lexes ts text × (ms ≡ map marked ts)

-- the text is a schema of these definitions
abbrev pub IsText : List Part → List ℕ → Type 0
IsText ps text = texts.IsText LexesMarked IsSchema ps text

-- some continuation of the text is a schema, by bytes: so the last token may still grow
abbrev pub IsViable : List ℕ → Type 0
IsViable text = texts.IsViable LexesMarked IsSchema text

-- some schema begins with these tokens
abbrev pub MayBegin : List Token → Type 0
MayBegin ts = Viable IsMarked IsSchema (map marked ts)

-- tokens that a schema begins with, and what is left from the place on
pub record Before (text : List ℕ) (place : ℕ) : Type 0 where
  pub tokens : List Token
  pub rest : List ℕ
  pub at : At text place tokens rest
  pub may : MayBegin tokens

-- the text ends, and it may go on
abbrev pub EndsTooSoon : List ℕ → Type 0
EndsTooSoon text = IsViable text × ((ps : List Part) → IsText ps text → ⊥)

-- no token that begins at the place goes on
abbrev pub StopsAt : List ℕ → ℕ → Type 0
StopsAt text place = (IsViable text → ⊥) × (b : Before text place) × ((t : Token) → TokenAt b.rest t → MayBegin (b.tokens ++ (t ∷ [])) → ⊥)

-- the first token that no schema continues, or bytes that begin no token; where the text ends too soon, its end
abbrev pub IsMisplaced : List ℕ → ℕ → Type 0
IsMisplaced text place = (EndsTooSoon text × (place ≡ length text)) ⊎ StopsAt text place
