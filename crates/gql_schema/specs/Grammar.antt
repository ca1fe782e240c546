-- Which tokens are which schema (GraphQL, October 2021, section 3), production by production. A description and
-- directives may stand where the standard has them, and say nothing here.
use Rattle.std.specs.Prelude.{◌≡◌, ℕ, Bool, true, false, ◌||◌, ◌&&◌, List, [], ◌∷◌, map, Option, Some, None}
use Rattle.token_read.specs.Lexeme.{Lexeme}
use Rattle.token_read.specs.Exact.{Token, Each, Either}
use Rattle.token_read.specs.Productions.{Grammar, Text, After, Enclosed, Both, Made, Optional, Several}
use Rattle.gql_tokens.specs.declared.kinds.Kind.{Kind}
use Rattle.gql_tokens.specs.declared.kinds.Kind.TheVariants as k
use Rattle.gql_tokens.specs.KindTests.{same_kind, is_name}
use Rattle.gql_terms.specs.declared.documents.Value.{Value}
use Rattle.gql_terms.specs.declared.documents.TypeRef.{TypeRef}
use Rattle.gql_terms.specs.declared.documents.Directive.{Directive}
use Rattle.gql_terms.specs.Grammar as document
use Rattle.gql_terms.specs.Grammar.{strict}
use Rattle.gql_types.specs.declared.definition.InputField.{InputField}
use Rattle.gql_schema.specs.declared.terms.Field.{Field}
use Rattle.gql_schema.specs.declared.terms.Body.TheVariants as body
use Rattle.gql_schema.specs.declared.terms.Part.{Part}
use Rattle.gql_schema.specs.declared.terms.Part.TheVariants as part
use Rattle.gql_schema.specs.declared.words.Word.{Word}
use Rattle.gql_schema.specs.declared.words.Word.TheVariants as w
use Rattle.gql_schema.specs.declared.words.Mark.{Mark}
use Rattle.gql_schema.specs.Words.{same_word, plain}
use Rattle.gql_schema.specs.Chains.{Chain}

abbrev pub Rule : Type 0 → Type 1
Rule A = Grammar Mark A

-- a token of this kind
abbrev pub is : Kind → Mark → Bool
is kind m = same_kind kind m.kind

-- this word
abbrev pub is_word : Word → Mark → Bool
is_word word m = same_kind k.Name m.kind && same_word word m.word

-- Name (2.1.9)
abbrev pub named : Mark → Bool
named m = is_name m.kind

-- a production of documents
abbrev pub Over : {A : Type 0} → document.Rule A → Rule A
Over G a ts = G a (map plain ts)

-- ---- what stands in many places

-- StringValue (2.9.4)
abbrev pub is_description : Mark → Bool
is_description m = is k.Str m || is k.Block m

-- Description? (3.3)
abbrev pub Description : Rule (Unit {0})
Description = Optional (Made (λ (t : Lexeme Mark). tt) (Token is_description)) tt

abbrev pub Described : {A : Type 0} → Rule A → Rule A
Described {A} G = Made (λ (p : Unit {0} × A). p.1) (Both Description G)

-- Directives? (2.12)
abbrev pub Directives : Rule (List Directive)
Directives = Over (document.Directives strict)

-- Type (2.11)
abbrev pub IsType : Rule TypeRef
IsType = Over (document.IsType strict.types)

-- DefaultValue? (2.10)
abbrev pub Default : Rule (Option Value)
Default = Optional (Made (λ (x : Value). Some x) (After (is k.Equals) (Over (document.IsValue true strict.values)))) None

-- names with this mark between them, and maybe before the first
abbrev pub Joined : Kind → (Mark → Bool) → Rule (List (List ℕ))
Joined kind test = Made (λ (p : Unit {0} × (List ℕ × List (List ℕ))). p.1.0 ∷ p.1.1)
    (Both (Optional (Made (λ (t : Lexeme Mark). tt) (Token (is kind))) tt) (Both (Text test) (Each (After (is kind) (Text test)))))

-- ---- fields, arguments and values

abbrev pub input_of : List ℕ × (TypeRef × (Option Value × List Directive)) → InputField
input_of p = record { name = p.0; of = p.1.0; default = p.1.1.0 }

-- InputValueDefinition : Description? Name `:` Type DefaultValue? Directives? (3.6.1)
abbrev pub IsInput : Rule InputField
IsInput = Described (Made input_of (Both (Text named) (After (is k.Colon) (Both IsType (Both Default Directives)))))

-- ArgumentsDefinition? : `(` InputValueDefinition+ `)` (3.6.1)
abbrev pub Arguments : Rule (List InputField)
Arguments = Optional (Enclosed (is k.OpenParen) (Several IsInput) (is k.CloseParen)) []

abbrev pub field_of : List ℕ × (List InputField × (TypeRef × List Directive)) → Field
field_of p = record { name = p.0; arguments = p.1.0; of = p.1.1.0 }

-- FieldDefinition : Description? Name ArgumentsDefinition? `:` Type Directives? (3.6)
abbrev pub IsField : Rule Field
IsField = Described (Made field_of (Both (Text named) (Both Arguments (After (is k.Colon) (Both IsType Directives)))))

-- FieldsDefinition : `{` FieldDefinition+ `}` (3.6)
abbrev pub Fields : Rule (List Field)
Fields = Enclosed (is k.OpenBrace) (Several IsField) (is k.CloseBrace)

-- InputFieldsDefinition : `{` InputValueDefinition+ `}` (3.10)
abbrev pub InputFields : Rule (List InputField)
InputFields = Enclosed (is k.OpenBrace) (Several IsInput) (is k.CloseBrace)

-- EnumValue : Name but not `true`, `false` or `null` (2.9.6)
abbrev pub is_value : Mark → Bool
is_value m = document.is_enum_name m.kind

-- EnumValueDefinition : Description? EnumValue Directives? (3.9)
abbrev pub IsValue : Rule (List ℕ)
IsValue = Described (Made (λ (p : List ℕ × List Directive). p.0) (Both (Text is_value) Directives))

-- EnumValuesDefinition : `{` EnumValueDefinition+ `}` (3.9)
abbrev pub Values : Rule (List (List ℕ))
Values = Enclosed (is k.OpenBrace) (Several IsValue) (is k.CloseBrace)

-- ImplementsInterfaces? : `implements`, and names joined by `&` (3.6)
abbrev pub Implements : Rule (List (List ℕ))
Implements = Optional (After (is_word w.Implements) (Joined k.Amp named)) []

-- UnionMemberTypes : `=`, and names joined by `|` (3.8)
abbrev pub Members : Rule (List (List ℕ))
Members = After (is k.Equals) (Joined k.Bar named)

-- ---- definitions of types (3.4), without their descriptions

abbrev pub scalar_of : List ℕ × List Directive → Part
scalar_of p = part.Type (record { name = p.0; body = body.Scalar })

-- ScalarTypeDefinition (3.5)
abbrev pub IsScalar : Rule Part
IsScalar = Made scalar_of (After (is_word w.Scalar) (Both (Text named) Directives))

abbrev pub object_of : List ℕ × (List (List ℕ) × (List Directive × List Field)) → Part
object_of p = part.Type (record { name = p.0; body = body.Object p.1.0 p.1.1.1 })

-- ObjectTypeDefinition, with its fields (3.6)
abbrev pub IsObject : Rule Part
IsObject = Made object_of (After (is_word w.Type) (Both (Text named) (Both Implements (Both Directives Fields))))

abbrev pub interface_of : List ℕ × (List (List ℕ) × (List Directive × List Field)) → Part
interface_of p = part.Type (record { name = p.0; body = body.Interface p.1.0 p.1.1.1 })

-- InterfaceTypeDefinition, with its fields (3.7)
abbrev pub IsInterface : Rule Part
IsInterface = Made interface_of (After (is_word w.Interface) (Both (Text named) (Both Implements (Both Directives Fields))))

abbrev pub union_of : List ℕ × (List Directive × List (List ℕ)) → Part
union_of p = part.Type (record { name = p.0; body = body.Union p.1.1 })

-- UnionTypeDefinition, with its members (3.8)
abbrev pub IsUnion : Rule Part
IsUnion = Made union_of (After (is_word w.Union) (Both (Text named) (Both Directives Members)))

abbrev pub enum_of : List ℕ × (List Directive × List (List ℕ)) → Part
enum_of p = part.Type (record { name = p.0; body = body.Enum p.1.1 })

-- EnumTypeDefinition, with its values (3.9)
abbrev pub IsEnum : Rule Part
IsEnum = Made enum_of (After (is_word w.Enum) (Both (Text named) (Both Directives Values)))

abbrev pub input_type_of : List ℕ × (List Directive × List InputField) → Part
input_type_of p = part.Type (record { name = p.0; body = body.Input p.1.1 })

-- InputObjectTypeDefinition, with its fields (3.10)
abbrev pub IsInputType : Rule Part
IsInputType = Made input_type_of (After (is_word w.Input) (Both (Text named) (Both Directives InputFields)))

-- ---- definitions that say nothing of types

abbrev pub directive_of : List ℕ × (List InputField × (Unit {0} × List (List ℕ))) → Part
directive_of p = part.Directive

-- DirectiveDefinition : `directive` `@` Name ArgumentsDefinition? `repeatable`? `on` DirectiveLocations (3.13)
abbrev pub IsDirectiveDefinition : Rule Part
IsDirectiveDefinition = Made directive_of (After (is_word w.Directive) (After (is k.At)
    (Both (Text named) (Both Arguments (Both (Optional (Made (λ (t : Lexeme Mark). tt) (Token (is_word w.Repeatable))) tt)
    (After (is k.On) (Joined k.Bar (is_word w.Location))))))))

-- RootOperationTypeDefinition : OperationType `:` NamedType (3.3). The types of the roots have these names here.
abbrev pub RootBy : Kind → Word → Rule (Unit {0})
RootBy kind word = Made (λ (t : Lexeme Mark). tt) (After (is kind) (After (is k.Colon) (Token (is_word word))))

abbrev pub QueryRoot : Rule (Unit {0})
QueryRoot = RootBy k.Query w.QueryRoot

abbrev pub MutationRoot : Rule (Unit {0})
MutationRoot = RootBy k.Mutation w.MutationRoot

-- one or both, in either order
abbrev pub Roots : Rule Part
Roots = Made (λ (p : Unit {0} × Unit {0}). part.Root) (Either (Both QueryRoot (Optional MutationRoot tt)) (Both MutationRoot (Optional QueryRoot tt)))

-- SchemaDefinition : `schema` Directives? `{` RootOperationTypeDefinition+ `}` (3.3)
abbrev pub IsRoot : Rule Part
IsRoot = Made (λ (p : List Directive × Part). p.1) (After (is_word w.Schema) (Both Directives (Enclosed (is k.OpenBrace) Roots (is k.CloseBrace))))

-- ---- schemas

-- a definition other than that of the roots
abbrev pub IsOther : Rule Part
IsOther = Either IsDirectiveDefinition (Either IsScalar (Either IsObject (Either IsInterface (Either IsUnion (Either IsEnum IsInputType)))))

-- with its description; the roots are defined once at most
abbrev pub IsDefinition : Bool → Rule Part
IsDefinition false = Described (Either IsRoot IsOther)
IsDefinition true = Described IsOther

abbrev pub is_root : Part → Bool
is_root part.Root = true
is_root _ = false

-- whether the roots are defined
abbrev pub rooted_by : Bool → Part → Bool
rooted_by rooted p = rooted || is_root p

-- definitions one after another, behind a definition of the roots or not
abbrev pub Definitions : Bool → Rule (List Part)
Definitions = Chain rooted_by IsDefinition

-- TypeSystemDocument : TypeSystemDefinition+ (3)
abbrev pub IsSchema : Rule (List Part)
IsSchema ps ts = (first : Part) × (others : List Part) × (ps ≡ first ∷ others) × Definitions false (first ∷ others) ts

-- what would lengthen a whole text: any token
abbrev pub any : Mark → Bool
any m = true
