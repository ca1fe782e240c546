-- The words of schemas, and what a token is to their grammar (GraphQL, October 2021, section 3).
use Rattle.std.specs.Prelude.{◌≡◌, ℕ, Bool, ◌==◌, List, [], ◌∷◌, if◌then◌else◌, codes}
use Rattle.std.specs.Str.{bytes_eq}
use Rattle.token_read.specs.Lexeme.{Lexeme}
use Rattle.gql_tokens.specs.declared.kinds.Kind.{Kind}
use Rattle.gql_tokens.specs.declared.kinds.Kind.TheVariants as k
use Rattle.gql_tokens.specs.Lexical.{Token, IsReal}
use Rattle.gql_schema.specs.declared.words.Word.{Word}
use Rattle.gql_schema.specs.declared.words.Word.TheVariants as w
use Rattle.gql_schema.specs.declared.words.Mark.{Mark}

abbrev pub code : Word → ℕ
code w.Schema = 0
code w.Scalar = 1
code w.Type = 2
code w.Interface = 3
code w.Union = 4
code w.Enum = 5
code w.Input = 6
code w.Directive = 7
code w.Implements = 8
code w.Repeatable = 9
code w.QueryRoot = 10
code w.MutationRoot = 11
code w.Location = 12
code w.Other = 13

abbrev pub same_word : Word → Word → Bool
same_word a b = code a == code b

abbrev pub Table : Type 0
Table = List (List ℕ × Word)

abbrev pub keywords : Table
keywords = (codes "schema", w.Schema) ∷ ((codes "scalar", w.Scalar) ∷ ((codes "type", w.Type) ∷ ((codes "interface", w.Interface) ∷ ((codes "union", w.Union)
    ∷ ((codes "enum", w.Enum) ∷ ((codes "input", w.Input) ∷ ((codes "directive", w.Directive) ∷ ((codes "implements", w.Implements) ∷ ((codes "repeatable", w.Repeatable)
    ∷ ((codes "Query", w.QueryRoot) ∷ ((codes "Mutation", w.MutationRoot) ∷ [])))))))))))

-- DirectiveLocation (3.13)
abbrev pub locations : Table
locations = (codes "QUERY", w.Location) ∷ ((codes "MUTATION", w.Location) ∷ ((codes "SUBSCRIPTION", w.Location) ∷ ((codes "FIELD", w.Location) ∷ ((codes "FRAGMENT_DEFINITION", w.Location)
    ∷ ((codes "FRAGMENT_SPREAD", w.Location) ∷ ((codes "INLINE_FRAGMENT", w.Location) ∷ ((codes "VARIABLE_DEFINITION", w.Location) ∷ ((codes "SCHEMA", w.Location) ∷ ((codes "SCALAR", w.Location)
    ∷ ((codes "OBJECT", w.Location) ∷ ((codes "FIELD_DEFINITION", w.Location) ∷ ((codes "ARGUMENT_DEFINITION", w.Location) ∷ ((codes "INTERFACE", w.Location) ∷ ((codes "UNION", w.Location)
    ∷ ((codes "ENUM", w.Location) ∷ ((codes "ENUM_VALUE", w.Location) ∷ ((codes "INPUT_OBJECT", w.Location) ∷ ((codes "INPUT_FIELD_DEFINITION", w.Location) ∷ []))))))))))))))))))

abbrev pub word_among : Table → List ℕ → Word
word_among [] a = w.Other
word_among (x ∷ xs) a = if bytes_eq a x.0 then x.1 else word_among xs a

-- the word that this is, or another
abbrev pub or_else : Word → Word → Word
or_else w.Other b = b
or_else a b = a

-- the word that a name is
unfoldable pub word_of : List ℕ → Word
word_of a = or_else (word_among keywords a) (word_among locations a)

-- tokens other than names are no word
abbrev pub word_by : Kind → List ℕ → Word
word_by k.Name a = word_of a
word_by _ a = w.Other

abbrev pub mark_of : Token → Mark
mark_of t = record { kind = t.kind; word = word_by t.kind t.text }

-- a token as it stands in a schema, and in a document
abbrev pub marked : Token → Lexeme Mark
marked t = record { kind = mark_of t; text = t.text }

abbrev pub plain : Lexeme Mark → Token
plain t = record { kind = t.kind.kind; text = t.text }

-- what a token of some text is in a schema
abbrev pub IsMarked : Lexeme Mark → Type 0
IsMarked m = (t : Token) × IsReal t × (m ≡ marked t)
