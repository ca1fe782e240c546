-- What a lexer tells of a text.
use Rattle.std.specs.Prelude.{◌≡◌, ℕ, ◌+◌, ◌<◌, List, [], ◌∷◌, ◌++◌, length, slice_index}
use Rattle.token_read.specs.Texts.{Among, Settled, Growing}
use Rattle.gql_tokens.specs.declared.kinds.Kind.{Kind}
use Rattle.gql_tokens.specs.declared.scanner.Class.{Class}
use Rattle.gql_tokens.specs.declared.lexer.Last.{Last}
use Rattle.gql_tokens.specs.declared.lexer.Last.TheVariants as last
use Rattle.gql_tokens.specs.Lexical.{Token, IsLexeme, MayFollow, IsIgnored, Leads, Lexes, IsReal, token_of}

-- this token begins the bytes
abbrev pub TokenAt : List ℕ → Token → Type 0
TokenAt rest t = (class : Class) × (a : List ℕ) × (w : List ℕ) × (rest ≡ a ++ w) × IsLexeme class a × MayFollow class w × (t ≡ token_of class a)

-- nothing that is ignored begins these bytes
abbrev pub NoneIgnored : List ℕ → Type 0
NoneIgnored rest = (a w : List ℕ) → IsIgnored a w → rest ≡ a ++ w → ⊥

-- after these tokens, and what is ignored, this is left at the place, and it is not ignored
pub record At (bytes : List ℕ) (place : ℕ) (ts : List Token) (rest : List ℕ) : Type 0 where
  pub leads : Leads ts bytes rest
  pub place_is : place + length rest ≡ length bytes
  pub some : 0 < length rest
  pub begins : NoneIgnored rest

-- each token stands at its place
abbrev pub Placed : List ℕ → List Token → List ℕ → Type 0
Placed bytes tokens places = (front : List Token) (t : Token) (more : List Token) → tokens ≡ front ++ (t ∷ more)
    → (rest : List ℕ) × At bytes (slice_index places (length front)) front rest × TokenAt rest t

-- The last token may grow.
pub record EndsWhole (bytes : List ℕ) (tokens : List Token) (kinds : List Kind) : Type 0 where
  pub init : List Token
  pub last : Token
  pub parts : tokens ≡ init ++ (last ∷ [])
  pub lexes : Lexes tokens bytes
  pub grows : Growing IsReal Lexes bytes init kinds
  pub among : Among last.kind kinds

-- Something begins at the place that is no token yet, or never.
pub record EndsCut (bytes : List ℕ) (tokens : List Token) (place : ℕ) (kinds : List Kind) : Type 0 where
  pub rest : List ℕ
  pub at : At bytes place tokens rest
  pub none : (t : Token) → TokenAt rest t → ⊥
  pub lexes : (ts : List Token) → Lexes ts bytes → ⊥
  pub grows : Growing IsReal Lexes bytes tokens kinds

abbrev pub EndsTokens : List ℕ → List Token → List ℕ → Last → Type 0
EndsTokens bytes tokens places last.Settled = Lexes tokens bytes × Settled IsReal Lexes bytes tokens
EndsTokens bytes tokens places (last.Whole kinds) = EndsWhole bytes tokens kinds.items
EndsTokens bytes tokens places (last.Cut kinds) = EndsCut bytes tokens (slice_index places (length tokens)) kinds.items

-- where each token begins, and what is cut
abbrev pub Counted : List Token → List ℕ → Last → Type 0
Counted tokens places last.Settled = length places ≡ length tokens
Counted tokens places (last.Whole kinds) = length places ≡ length tokens
Counted tokens places (last.Cut kinds) = length places ≡ length tokens + 1

-- The tokens of a text, with their places and how the text ends.
pub record IsLexed (bytes : List ℕ) (tokens : List Token) (places : List ℕ) (last : Last) : Type 0 where
  pub placed : Placed bytes tokens places
  pub counted : Counted tokens places last
  pub ends : EndsTokens bytes tokens places last
