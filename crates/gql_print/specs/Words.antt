-- The tokens of the canonical text of a document: all its operations in their order, then all its fragments in theirs.
-- Each operation has its keyword.
use Rattle.std.specs.Prelude.{ℕ, Bool, true, false, List, [], ◌∷◌, ◌++◌, Option, Some, None, map, codes}
use Rattle.gql_tokens.specs.declared.kinds.Kind.{Kind}
use Rattle.gql_tokens.specs.declared.kinds.Kind.TheVariants as k
use Rattle.gql_tokens.specs.Lexical.{Token, name_kind}
use Rattle.gql_terms.specs.declared.documents.Value.{Value}
use Rattle.gql_terms.specs.declared.documents.Value.TheOpen.{Value-F}
use Rattle.gql_terms.specs.declared.documents.Value.TheFolds.{fold-Value}
use Rattle.gql_terms.specs.declared.documents.TypeRef.{TypeRef}
use Rattle.gql_terms.specs.declared.documents.TypeRef.TheOpen.{TypeRef-F}
use Rattle.gql_terms.specs.declared.documents.TypeRef.TheFolds.{fold-TypeRef}
use Rattle.gql_terms.specs.declared.documents.Directive.{Directive}
use Rattle.gql_terms.specs.declared.documents.Selection.{Selection}
use Rattle.gql_terms.specs.declared.documents.Selection.TheOpen.{Selection-F}
use Rattle.gql_terms.specs.declared.documents.Selection.TheFolds.{fold-Selection}
use Rattle.gql_terms.specs.declared.documents.VarDef.{VarDef}
use Rattle.gql_terms.specs.declared.documents.OpKind.{OpKind}
use Rattle.gql_terms.specs.declared.documents.OpKind.TheVariants as op
use Rattle.gql_terms.specs.declared.documents.Operation.{Operation}
use Rattle.gql_terms.specs.declared.documents.Fragment.{Fragment}
use Rattle.gql_terms.specs.declared.documents.Document.{Document}

abbrev pub token : Kind → List ℕ → Token
token kind text = record { kind = kind; text = text }

-- a name; some are words of the grammar too
abbrev pub name : List ℕ → Token
name a = token (name_kind a) a

abbrev pub bang : Token
bang = token k.Bang (codes "!")

abbrev pub dollar : Token
dollar = token k.Dollar (codes "$")

abbrev pub open_paren : Token
open_paren = token k.OpenParen (codes "(")

abbrev pub close_paren : Token
close_paren = token k.CloseParen (codes ")")

abbrev pub dots : Token
dots = token k.Dots (codes "...")

abbrev pub colon : Token
colon = token k.Colon (codes ":")

abbrev pub equals : Token
equals = token k.Equals (codes "=")

abbrev pub at_sign : Token
at_sign = token k.At (codes "@")

abbrev pub open_bracket : Token
open_bracket = token k.OpenBracket (codes "[")

abbrev pub close_bracket : Token
close_bracket = token k.CloseBracket (codes "]")

abbrev pub open_brace : Token
open_brace = token k.OpenBrace (codes "{")

abbrev pub close_brace : Token
close_brace = token k.CloseBrace (codes "}")

-- one after another
abbrev pub joined : List (List Token) → List Token
joined [] = []
joined (ts ∷ tss) = ts ++ joined tss

-- nothing, or one after another in brackets
abbrev pub enclosed : Token → List (List Token) → Token → List Token
enclosed left [] right = []
enclosed left (ts ∷ tss) right = left ∷ (joined (ts ∷ tss) ++ (right ∷ []))

-- ---- values (section 2.9)

abbrev pub member_words : List ℕ × List Token → List Token
member_words m = name m.0 ∷ (colon ∷ m.1)

abbrev pub bool_word : Bool → Token
bool_word true = token k.True (codes "true")
bool_word false = token k.False (codes "false")

-- one level, where the words of the values inside stand in their places
abbrev pub value_step : Value-F (List Token) → List Token
value_step (Value-F.Variable a) = dollar ∷ (name a ∷ [])
value_step (Value-F.Number a) = token k.Number a ∷ []
value_step (Value-F.Str a) = token k.Str a ∷ []
value_step (Value-F.Block a) = token k.Block a ∷ []
value_step (Value-F.Bool b) = bool_word b ∷ []
value_step Value-F.Null = token k.Null (codes "null") ∷ []
value_step (Value-F.EnumName a) = name a ∷ []
value_step (Value-F.List items) = open_bracket ∷ (joined items ++ (close_bracket ∷ []))
value_step (Value-F.Object members) = open_brace ∷ (joined (map member_words members) ++ (close_brace ∷ []))

abbrev pub value_words : Value → List Token
value_words = fold-Value (List Token) value_step

abbrev pub pair_words : List ℕ × Value → List Token
pair_words p = name p.0 ∷ (colon ∷ value_words p.1)

-- ---- arguments and directives (sections 2.6 and 2.12)

abbrev pub arguments_words : List (List ℕ × Value) → List Token
arguments_words arguments = enclosed open_paren (map pair_words arguments) close_paren

abbrev pub directive_words : Directive → List Token
directive_words d = at_sign ∷ (name d.name ∷ arguments_words d.arguments)

abbrev pub directives_words : List Directive → List Token
directives_words directives = joined (map directive_words directives)

-- ---- types (section 2.11)

abbrev pub type_step : TypeRef-F (List Token) → List Token
type_step (TypeRef-F.Named a) = name a ∷ []
type_step (TypeRef-F.ListOf ts) = open_bracket ∷ (ts ++ (close_bracket ∷ []))
type_step (TypeRef-F.NonNull ts) = ts ++ (bang ∷ [])

abbrev pub type_words : TypeRef → List Token
type_words = fold-TypeRef (List Token) type_step

-- ---- variables (section 2.10)

abbrev pub default_words : Option Value → List Token
default_words None = []
default_words (Some x) = equals ∷ value_words x

abbrev pub variable_words : VarDef → List Token
variable_words v = dollar ∷ (name v.name ∷ (colon ∷ (type_words v.of ++ (default_words v.default ++ directives_words v.directives))))

abbrev pub variables_words : List VarDef → List Token
variables_words variables = enclosed open_paren (map variable_words variables) close_paren

-- ---- selections (sections 2.4 to 2.8)

-- with an alias its name stands before the field's
abbrev pub alias_words : Option (List ℕ) → List ℕ → List Token
alias_words None a = name a ∷ []
alias_words (Some alias) a = name alias ∷ (colon ∷ (name a ∷ []))

abbrev pub condition_words : Option (List ℕ) → List Token
condition_words None = []
condition_words (Some a) = token k.On (codes "on") ∷ (name a ∷ [])

-- one level, where the words of the selections inside stand in their places; a set that is empty is left out
abbrev pub selection_step : Selection-F (List Token) → List Token
selection_step (Selection-F.Field alias a arguments directives selections) =
    alias_words alias a ++ (arguments_words arguments ++ (directives_words directives ++ enclosed open_brace selections close_brace))
selection_step (Selection-F.Spread a directives) = dots ∷ (name a ∷ directives_words directives)
selection_step (Selection-F.Inline on directives selections) =
    dots ∷ (condition_words on ++ (directives_words directives ++ enclosed open_brace selections close_brace))

abbrev pub selection_words : Selection → List Token
selection_words = fold-Selection (List Token) selection_step

abbrev pub set_words : List Selection → List Token
set_words selections = enclosed open_brace (map selection_words selections) close_brace

-- ---- definitions (sections 2.2, 2.3 and 2.8)

abbrev pub keyword : OpKind → Token
keyword op.Query = token k.Query (codes "query")
keyword op.Mutation = token k.Mutation (codes "mutation")
keyword op.Subscription = token k.Subscription (codes "subscription")

abbrev pub name_words : Option (List ℕ) → List Token
name_words None = []
name_words (Some a) = name a ∷ []

abbrev pub operation_words : Operation → List Token
operation_words o =
    keyword o.kind ∷ (name_words o.name ++ (variables_words o.variables ++ (directives_words o.directives ++ set_words o.selections)))

abbrev pub fragment_words : Fragment → List Token
fragment_words f =
    token k.Fragment (codes "fragment") ∷ (name f.name ∷ (token k.On (codes "on") ∷ (name f.on ∷ (directives_words f.directives ++ set_words f.selections))))

abbrev pub document_words : Document → List Token
document_words d = joined (map operation_words d.operations) ++ joined (map fragment_words d.fragments)
