-- Which tokens are which document (GraphQL, October 2021, section 2), production by production.
use Rattle.std.specs.Prelude.{◌≡◌, ℕ, zero, suc, Bool, true, false, ◌||◌, List, [], ◌∷◌, ◌++◌, Option, Some, None, if◌then◌else◌, ◌⊎◌}
use Rattle.token_read.specs.Lexeme.{Lexeme}
use Rattle.token_read.specs.Exact.{Token, Each, Either}
use Rattle.token_read.specs.Productions.{Grammar, Text, After, Enclosed, Both, Made, Optional, Several}
use Rattle.gql_tokens.specs.declared.kinds.Kind.{Kind}
use Rattle.gql_tokens.specs.declared.kinds.Kind.TheVariants as k
use Rattle.gql_tokens.specs.KindTests.{same_kind, is_name, is_fragment_name}
use Rattle.gql_terms.specs.declared.documents.Value.{Value}
use Rattle.gql_terms.specs.declared.documents.Value.TheVariants as v
use Rattle.gql_terms.specs.declared.documents.TypeRef.{TypeRef}
use Rattle.gql_terms.specs.declared.documents.TypeRef.TheVariants as of
use Rattle.gql_terms.specs.declared.documents.Directive.{Directive}
use Rattle.gql_terms.specs.declared.documents.Selection.{Selection}
use Rattle.gql_terms.specs.declared.documents.Selection.TheVariants as s
use Rattle.gql_terms.specs.declared.documents.VarDef.{VarDef}
use Rattle.gql_terms.specs.declared.documents.OpKind.{OpKind}
use Rattle.gql_terms.specs.declared.documents.OpKind.TheVariants as op
use Rattle.gql_terms.specs.declared.documents.Operation.{Operation}
use Rattle.gql_terms.specs.declared.documents.Fragment.{Fragment}
use Rattle.gql_terms.specs.declared.documents.Document.{Document}

-- how deep selection sets, list and object values, and list types nest, which the standard does not limit
pub record Rules : Type 0 where
  pub sets : ℕ
  pub values : ℕ
  pub types : ℕ

abbrev pub strict : Rules
strict = record { sets = 64; values = 64; types = 64 }

-- with one level more of each
abbrev pub deeper : Rules → Rules
deeper r = record { sets = suc r.sets; values = suc r.values; types = suc r.types }

abbrev pub Rule : Type 0 → Type 1
Rule A = Grammar Kind A

-- a token of this kind
abbrev pub is : Kind → Kind → Bool
is kind = same_kind kind

-- ---- values (2.9)

-- EnumValue: Name but not `true`, `false` or `null` (2.9.6)
abbrev pub is_enum_name : Kind → Bool
is_enum_name k.True = false
is_enum_name k.False = false
is_enum_name k.Null = false
is_enum_name kind = is_name kind

-- IntValue, FloatValue, StringValue, BooleanValue, NullValue and EnumValue, by the kind of the token and its text. A
-- constant has no block string, other than in the standard.
pub data IsLeaf (const : Bool) : Value → Kind → List ℕ → Type 0 where
  number : {a : List ℕ} → IsLeaf const (v.Number a) k.Number a
  string : {a : List ℕ} → IsLeaf const (v.Str a) k.Str a
  block : {a : List ℕ} → const ≡ false → IsLeaf const (v.Block a) k.Block a
  yes : {a : List ℕ} → IsLeaf const (v.Bool true) k.True a
  no : {a : List ℕ} → IsLeaf const (v.Bool false) k.False a
  null : {a : List ℕ} → IsLeaf const v.Null k.Null a
  enum : {a : List ℕ} (kind : Kind) → is_enum_name kind ≡ true → IsLeaf const (v.EnumName a) kind a

abbrev pub Leaf : Bool → Rule Value
Leaf const x ts = (t : Lexeme Kind) × IsLeaf const x t.kind t.text × (ts ≡ t ∷ [])

-- Variable : `$` Name (2.10)
abbrev pub Variable : Rule Value
Variable = Made v.Variable (After (is k.Dollar) (Text is_name))

-- a value that opens no level; a constant is no variable
abbrev pub Simple : Bool → Rule Value
Simple true = Leaf true
Simple false = Either Variable (Leaf false)

-- Argument : Name `:` Value (2.6), and ObjectField (2.9.8)
abbrev pub Pair : Rule Value → Rule (List ℕ × Value)
Pair G = Both (Text is_name) (After (is k.Colon) G)

-- ListValue : `[` Value* `]` (2.9.7)
abbrev pub ListOf : Rule Value → Rule Value
ListOf G = Made v.List (Enclosed (is k.OpenBracket) (Each G) (is k.CloseBracket))

-- ObjectValue : `{` ObjectField* `}` (2.9.8)
abbrev pub ObjectOf : Rule Value → Rule Value
ObjectOf G = Made v.Object (Enclosed (is k.OpenBrace) (Each (Pair G)) (is k.CloseBrace))

-- Value, with room for so many levels
unfoldable pub IsValue : Bool → ℕ → Rule Value
IsValue const zero = Simple const
IsValue const (suc room) = Either (ListOf (IsValue const room)) (Either (ObjectOf (IsValue const room)) (Simple const))

-- ---- arguments and directives

-- Arguments : `(` Argument+ `)`, or nothing (2.6)
abbrev pub Arguments : Rules → Rule (List (List ℕ × Value))
Arguments r = Optional (Enclosed (is k.OpenParen) (Several (Pair (IsValue false r.values))) (is k.CloseParen)) []

abbrev pub directive_of : List ℕ × List (List ℕ × Value) → Directive
directive_of p = record { name = p.0; arguments = p.1 }

-- Directive : `@` Name Arguments? (2.12)
abbrev pub IsDirective : Rules → Rule Directive
IsDirective r = Made directive_of (After (is k.At) (Both (Text is_name) (Arguments r)))

abbrev pub Directives : Rules → Rule (List Directive)
Directives r = Each (IsDirective r)

-- ---- types (2.11)

abbrev pub marked : TypeRef × Bool → TypeRef
marked p = if p.1 then of.NonNull p.0 else p.0

-- a type, and `!` or nothing
abbrev pub Marked : Rule TypeRef → Rule TypeRef
Marked G = Made marked (Both G (Optional (Made (λ (t : Lexeme Kind). true) (Token (is k.Bang))) false))

-- NamedType : Name
abbrev pub Named : Rule TypeRef
Named = Made of.Named (Text is_name)

-- ListType : `[` Type `]`
abbrev pub ListType : Rule TypeRef → Rule TypeRef
ListType G = Made of.ListOf (Enclosed (is k.OpenBracket) G (is k.CloseBracket))

-- Type, with room for so many list types
unfoldable pub IsType : ℕ → Rule TypeRef
IsType zero = Marked Named
IsType (suc room) = Marked (Either (ListType (IsType room)) Named)

-- ---- variable definitions (2.10)

-- DefaultValue : `=` Value, which is constant
abbrev pub Default : Rules → Rule (Option Value)
Default r = Optional (Made (λ (x : Value). Some x) (After (is k.Equals) (IsValue true r.values))) None

abbrev pub variable_of : List ℕ × (TypeRef × (Option Value × List Directive)) → VarDef
variable_of p = record { name = p.0; of = p.1.0; default = p.1.1.0; directives = p.1.1.1 }

-- VariableDefinition : Variable `:` Type DefaultValue? Directives?; other than in the standard the directives are not constant
abbrev pub IsVariable : Rules → Rule VarDef
IsVariable r = Made variable_of (After (is k.Dollar) (Both (Text is_name) (After (is k.Colon) (Both (IsType r.types) (Both (Default r) (Directives r))))))

-- `(` VariableDefinition+ `)`, or nothing
abbrev pub Variables : Rules → Rule (List VarDef)
Variables r = Optional (Enclosed (is k.OpenParen) (Several (IsVariable r)) (is k.CloseParen)) []

-- ---- selections (2.4 to 2.8)

-- with an alias the second name is the field's
abbrev pub named : List ℕ × Option (List ℕ) → Option (List ℕ) × List ℕ
named (a, Some n) = (Some a, n)
named (a, None) = (None, a)

-- Alias? Name, where Alias : Name `:` (2.7)
abbrev pub AliasAndName : Rule (Option (List ℕ) × List ℕ)
AliasAndName = Made named (Both (Text is_name) (Optional (Made (λ (n : List ℕ). Some n) (After (is k.Colon) (Text is_name))) None))

abbrev pub field_of : (Option (List ℕ) × List ℕ) × (List (List ℕ × Value) × (List Directive × List Selection)) → Selection
field_of p = s.Field p.0.0 p.0.1 p.1.0 p.1.1.0 p.1.1.1

-- Field : Alias? Name Arguments? Directives? SelectionSet? (2.5)
abbrev pub IsField : Rules → Rule (List Selection) → Rule Selection
IsField r Set = Made field_of (Both AliasAndName (Both (Arguments r) (Both (Directives r) Set)))

abbrev pub spread_of : List ℕ × List Directive → Selection
spread_of p = s.Spread p.0 p.1

-- FragmentSpread : `...` FragmentName Directives?, after the dots (2.8)
abbrev pub IsSpread : Rules → Rule Selection
IsSpread r = Made spread_of (Both (Text is_fragment_name) (Directives r))

-- TypeCondition : `on` NamedType (2.8.1)
abbrev pub Condition : Rule (List ℕ)
Condition = After (is k.On) (Text is_name)

abbrev pub inline_of : Option (List ℕ) × (List Directive × List Selection) → Selection
inline_of p = s.Inline p.0 p.1.0 p.1.1

-- InlineFragment : `...` TypeCondition? Directives? SelectionSet, after the dots (2.8.2)
abbrev pub IsInline : Rules → Rule (List Selection) → Rule Selection
IsInline r Set = Made inline_of (Both (Optional (Made (λ (n : List ℕ). Some n) Condition) None) (Both (Directives r) Set))

-- Selection (2.4)
abbrev pub IsSelection : Rules → Rule (List Selection) → Rule Selection
IsSelection r Set = Either (IsField r (Optional Set [])) (After (is k.Dots) (Either (IsSpread r) (IsInline r Set)))

-- While faults are looked for, a gap stands for a set that may not be opened any more. No text has a gap: it is
-- written by 256, which is no byte.
abbrev pub Gap : Rule (List Selection)
Gap = Made (λ (t : Lexeme Kind). []) (Token (is k.Gap))

-- SelectionSet : `{` Selection+ `}` (2.4), with room for so many levels
unfoldable pub IsSet : Rules → ℕ → Rule (List Selection)
IsSet r zero = Gap
IsSet r (suc room) = Either (Enclosed (is k.OpenBrace) (Several (IsSelection r (IsSet r room))) (is k.CloseBrace)) Gap

-- ---- definitions (2.2, 2.3, 2.8)

abbrev pub is_operation : Kind → Bool
is_operation k.Query = true
is_operation k.Mutation = true
is_operation k.Subscription = true
is_operation _ = false

-- OperationType (2.3)
abbrev pub operation_kind : Kind → OpKind
operation_kind k.Mutation = op.Mutation
operation_kind k.Subscription = op.Subscription
operation_kind _ = op.Query

abbrev pub OperationType : Rule OpKind
OperationType = Made (λ (t : Lexeme Kind). operation_kind t.kind) (Token is_operation)

abbrev pub shorthand_of : List Selection → Operation
shorthand_of xs = record { kind = op.Query; name = None; variables = []; directives = []; selections = xs }

abbrev pub operation_of : OpKind × (Option (List ℕ) × (List VarDef × (List Directive × List Selection))) → Operation
operation_of p = record { kind = p.0; name = p.1.0; variables = p.1.1.0; directives = p.1.1.1.0; selections = p.1.1.1.1 }

-- OperationDefinition : OperationType Name? VariableDefinitions? Directives? SelectionSet, or a SelectionSet alone
abbrev pub IsOperation : Rules → Rule Operation
IsOperation r = Either (Made shorthand_of (IsSet r r.sets))
    (Made operation_of (Both OperationType (Both (Optional (Made (λ (n : List ℕ). Some n) (Text is_name)) None) (Both (Variables r) (Both (Directives r) (IsSet r r.sets))))))

abbrev pub fragment_of : List ℕ × (List ℕ × (List Directive × List Selection)) → Fragment
fragment_of p = record { name = p.0; on = p.1.0; directives = p.1.1.0; selections = p.1.1.1 }

-- FragmentDefinition : `fragment` FragmentName TypeCondition Directives? SelectionSet (2.8)
abbrev pub IsFragment : Rules → Rule Fragment
IsFragment r = Made fragment_of (After (is k.Fragment) (Both (Text is_fragment_name) (Both Condition (Both (Directives r) (IsSet r r.sets)))))

pub data Definition : Type 0 where
  operation : Operation → Definition
  fragment : Fragment → Definition

abbrev pub IsDefinition : Rules → Rule Definition
IsDefinition r = Either (Made operation (IsOperation r)) (Made fragment (IsFragment r))

abbrev pub operations : List Definition → List Operation
operations [] = []
operations (operation x ∷ ds) = x ∷ operations ds
operations (fragment x ∷ ds) = operations ds

abbrev pub fragments : List Definition → List Fragment
fragments [] = []
fragments (operation x ∷ ds) = fragments ds
fragments (fragment x ∷ ds) = x ∷ fragments ds

-- the operations in their order, and the fragments in theirs
abbrev pub document_of : List Definition → Document
document_of ds = record { operations = operations ds; fragments = fragments ds }

-- ExecutableDocument : Definition+ (2.2)
abbrev pub IsDocument : Rules → Rule Document
IsDocument r = Made document_of (Several (IsDefinition r))
