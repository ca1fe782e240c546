-- The canonical text of a document: its tokens with one space between each two, except that `$` and `@` stand directly
-- before their names.
use Rattle.std.specs.Prelude.{◌≡◌, ℕ, ◌<◌, List, [], ◌∷◌, ◌++◌, All, codes}
use Rattle.std.specs.List.{flat_map}
use Rattle.token_read.specs.Texts as texts
use Rattle.gql_tokens.specs.declared.kinds.Kind.{Kind}
use Rattle.gql_tokens.specs.declared.kinds.Kind.TheVariants as k
use Rattle.gql_tokens.specs.Lexical.{Token, Lexes}
use Rattle.gql_terms.specs.declared.documents.Document.{Document}
use Rattle.gql_terms.specs.Grammar.{strict, IsDocument}
use Rattle.gql_print.specs.Words.{document_words}

-- a token's bytes: a string is kept without its quotes
abbrev pub source_of : Kind → List ℕ → List ℕ
source_of k.Str a = codes "\"" ++ (a ++ codes "\"")
source_of k.Block a = codes "\"\"\"" ++ (a ++ codes "\"\"\"")
source_of _ a = a

abbrev pub source : Token → List ℕ
source t = source_of t.kind t.text

-- what stands between a token and the next
abbrev pub separator : Kind → List ℕ
separator k.Dollar = []
separator k.At = []
separator _ = codes " "

abbrev pub text_of : List Token → List ℕ
text_of [] = []
text_of (t ∷ []) = source t
text_of (t ∷ (u ∷ us)) = source t ++ (separator t.kind ++ text_of (u ∷ us))

abbrev pub canonical_text : Document → List ℕ
canonical_text d = text_of (document_words d)

-- the text is this document
abbrev pub IsText : Document → List ℕ → Type 0
IsText d text = texts.IsText Lexes (IsDocument strict) d text

abbrev pub AreBytes : List ℕ → Type 0
AreBytes text = All (λ b. b < 256) text

-- each token with what separates it from a next one
abbrev pub spaced_token : Token → List ℕ
spaced_token t = source t ++ separator t.kind

abbrev pub spaced : List Token → List ℕ
spaced ts = flat_map spaced_token ts
