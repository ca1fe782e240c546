-- Serves private clauses and proofs alone.
-- What is told of a text that ends within a token.
use Rattle.std.specs.Prelude.{◌≡◌, ℕ, ◌-◌, ◌*◌, ◌≤◌, List, [], ◌∷◌, ◌++◌, if◌then◌else◌, Option, Some, None, length}
use Rattle.std.specs.Str.{IsCharBoundary}
use Rattle.gql_tokens.specs.declared.kinds.Kind.{Kind}
use Rattle.gql_tokens.specs.declared.kinds.Kind.TheVariants as k
use Rattle.gql_tokens.specs.declared.scanner.Class.{Class}
use Rattle.gql_tokens.specs.declared.scanner.Class.TheVariants as c
use Rattle.gql_tokens.specs.declared.scanner.State.{State}
use Rattle.gql_tokens.specs.declared.scanner.State.TheVariants as st
use Rattle.gql_tokens.specs.declared.lexer.Last.{Last}
use Rattle.gql_tokens.specs.declared.lexer.Last.TheVariants as last
use Rattle.gql_tokens.specs.Lexical.{Token, token_of, begins}
use Rattle.gql_tokens.specs.Scanning.{may_end}
use Rattle.gql_tokens.specs.Ends.{growths}

-- text of at least so many bytes at either end that can be taken off
pub record IsQuoted (n : ℕ) (a : List ℕ) : Type 0 where
  pub room : 2 * n ≤ length a
  pub front : IsCharBoundary a n
  pub back : IsCharBoundary a (length a - n)

-- what was read is a token as it stands
abbrev pub finish : State → Option Class
finish st.Name = Some c.Name
finish (st.Number part) = if may_end part then Some c.Number else None
finish st.Quotes = Some c.Empty
finish _ = None

-- a string and a block string
abbrev pub strings : List Kind
strings = k.Str ∷ (k.Block ∷ [])

-- the kind of the word, where it begins so
abbrev pub word_kinds : List ℕ → List ℕ → Kind → List Kind
word_kinds text word kind = if begins text word then kind ∷ [] else []

-- The last token is whole, or there is none; and the kinds are those that it may grow to.
abbrev pub EndsWithin : List Token → List ℕ → State → List ℕ → List Token → List ℕ → Last → Type 0
EndsWithin tokens places state rest all at last.Settled = ⊥
EndsWithin tokens places state rest all at (last.Whole kinds) = (class : Class) × (finish state ≡ Some class) × (all ≡ tokens ++ (token_of class rest ∷ [])) × (at ≡ places) × (kinds.items ≡ growths state rest)
EndsWithin tokens places state rest all at (last.Cut kinds) = (finish state ≡ None) × (all ≡ tokens) × (at ≡ places) × (kinds.items ≡ growths state rest)
