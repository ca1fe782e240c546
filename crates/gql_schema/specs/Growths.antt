-- What a token at the end of a text may grow to, as the grammar of schemas sees it: a token for each mark.
use Rattle.std.specs.Prelude.{ℕ, List, [], ◌∷◌, ◌++◌, map, if◌then◌else◌, codes}
use Rattle.gql_tokens.specs.declared.kinds.Kind.{Kind}
use Rattle.gql_tokens.specs.declared.kinds.Kind.TheVariants as k
use Rattle.gql_tokens.specs.declared.scanner.State.{State}
use Rattle.gql_tokens.specs.declared.scanner.State.TheVariants as st
use Rattle.gql_tokens.specs.Lexical.{Token, begins, grammar_words}
use Rattle.gql_tokens.specs.Ends as ends
use Rattle.gql_schema.specs.Words.{Table, keywords, locations}

abbrev pub spelled : Kind → List ℕ → Token
spelled kind a = record { kind = kind; text = a }

-- a token of which only the kind counts
abbrev pub blank : Kind → Token
blank kind = spelled kind []

-- the token of the word, where it begins so
abbrev pub word_if : List ℕ → List ℕ → Kind → List Token
word_if text word kind = if begins text word then spelled kind word ∷ [] else []

abbrev pub Spellings : Type 0
Spellings = List (List ℕ × Kind)

-- the grammar_words that begin so
unfoldable pub spelled_from : List ℕ → Spellings → List Token
spelled_from text [] = []
spelled_from text (x ∷ xs) = if begins text x.0 then spelled x.1 x.0 ∷ spelled_from text xs else spelled_from text xs

abbrev pub as_names : Table → Spellings
as_names [] = []
as_names (x ∷ xs) = (x.0, k.Name) ∷ as_names xs

-- the grammar_words that have kinds of their own, and those that have none
abbrev pub kinds_from : List ℕ → List Token
kinds_from text = spelled_from text grammar_words

abbrev pub keywords_from : List ℕ → List Token
keywords_from text = spelled_from text (as_names keywords)

abbrev pub locations_from : List ℕ → List Token
locations_from text = spelled_from text (as_names locations)

-- a name that is no word, and each word that begins so
abbrev pub names_from : List ℕ → List Token
names_from text = spelled k.Name (codes "_") ∷ (kinds_from text ++ (keywords_from text ++ locations_from text))

abbrev pub growths : State → List ℕ → List Token
growths st.Name text = names_from text
growths state text = map blank (ends.growths state text)
