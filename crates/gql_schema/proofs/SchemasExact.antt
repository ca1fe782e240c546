-- Definitions and schemas are read exactly.
use Rattle.std.proofs.Common.{◌≡◌, ℕ, Bool, true, false, List, [], ◌∷◌, ◌++◌, refl, sym, ap, subst, ◌∙◌, inl, inr}
use Rattle.std.specs.Prelude.{◌||◌}
use Rattle.token_read.specs.Lexeme.{Lexeme}
use Rattle.token_read.specs.Parse.{refuse, one, sees, choose}
use Rattle.token_read.specs.Exact.{Stops, Token, Then, Either, IsExact}
use Rattle.token_read.specs.Productions.{Text, After, Before, Enclosed, Both, Made, Optional, both, made}
use Rattle.token_read.proofs.Exact.{choose_is_exact, barred_is_exact, bind_is_exact, retyped}
use Rattle.token_read.proofs.Ended.{whole_is_exact}
use Rattle.token_read.proofs.Productions.{BeginsWith, Clear, Apart, Within, never, clear_begins, clear_optional, clear_both, begins_after, begins_both, begins_made, lengthened, made_exact, both_exact, optional_exact}
use Rattle.gql_tokens.specs.declared.kinds.Kind.{Kind}
use Rattle.gql_tokens.specs.declared.kinds.Kind.TheVariants as k
use Rattle.gql_terms.specs.declared.documents.Directive.{Directive}
use Rattle.gql_terms.specs.declared.faults.Refusal.TheVariants.{Unexpected}
use Rattle.gql_types.specs.declared.definition.InputField.{InputField}
use Rattle.gql_schema.specs.declared.terms.Field.{Field}
use Rattle.gql_schema.specs.declared.terms.Part.{Part}
use Rattle.gql_schema.specs.declared.terms.Part.TheVariants as part
use Rattle.gql_schema.specs.declared.words.Word.{Word}
use Rattle.gql_schema.specs.declared.words.Word.TheVariants as w
use Rattle.gql_schema.specs.declared.words.Mark.{Mark}
use Rattle.gql_schema.specs.Words.{IsMarked}
use Rattle.gql_schema.specs.Grammar.{Rule, is, is_word, named, is_description, Directives, Joined, Arguments, Fields, InputFields, Values, Implements, Members, scalar_of, IsScalar, object_of, IsObject, interface_of, IsInterface, union_of, IsUnion, enum_of, IsEnum, input_type_of, IsInputType, directive_of, IsDirectiveDefinition, RootBy, QueryRoot, MutationRoot, Roots, IsRoot, IsOther, IsDefinition, is_root, rooted_by, Definitions, IsSchema, any}
use Rattle.gql_schema.specs.Reading.{Reader, past, until, name, directives, joined, arguments, fields, input_fields, values, implements, members, scalar, object, interface, union, enumeration, input_type, repeatable, directive_definition, root_by, may_root, roots, root, other, body, definition, begins_definition, definitions, schema, all}
use Rattle.gql_schema.proofs.Chained.{chain_is_exact}
use Rattle.gql_schema.proofs.Marking.{has, has_word, mark, apart_is, apart_word, apart_or, apart_description, itself, never_within, within_is, within_left, within_right, sees_more, to_left, to_right}
use Rattle.gql_schema.proofs.FieldsExact.{Exact, past_exact, until_exact, token_exact, token_begins, any_clear, named_exact, long, Long, LongDirectives, directives_exact, long_directives_exact, directives_clear, described_exact, described_begins, arguments_exact, input_fields_exact, fields_exact, values_exact_, joined_exact, interface_goes, implements_exact, members_exact}

-- ---- definitions of types

-- directives, and what begins with another mark
tail_exact : {A : Type 0} (kind : Kind) (p : Reader A) (G : Rule A) → BeginsWith (is kind) G → ((word : Word) → LongDirectives (mark kind word) ≡ false) → (goes : Mark → Bool) → Exact goes p G → Exact goes (both directives p) (Both Directives G)
tail_exact kind p G begins apart goes exact = both_exact IsMarked Unexpected LongDirectives goes directives Directives p G (clear_begins LongDirectives goes (is kind) G begins (apart_is kind LongDirectives apart)) directives_exact exact

fields_begin : BeginsWith (is k.OpenBrace) Fields
fields_begin xs ts g = ap (sees (is k.OpenBrace)) g.4 ∙ g.2

bar_long : Within (is k.Bar) Long
bar_long = within_is k.Bar long refl

scalar_exact : Exact Long scalar IsScalar
unfolding scalar
scalar_exact = made_exact IsMarked Unexpected Long scalar_of (past (is_word w.Scalar) (both name directives)) (After (is_word w.Scalar) (Both (Text named) Directives))
    (past_exact Long (is_word w.Scalar) (both name directives) (Both (Text named) Directives) (has_word w.Scalar) (named_exact Long directives Directives long_directives_exact))

scalar_begins : BeginsWith (is_word w.Scalar) IsScalar
scalar_begins = begins_made (is_word w.Scalar) scalar_of (After (is_word w.Scalar) (Both (Text named) Directives)) (begins_after (is_word w.Scalar) (Both (Text named) Directives))

-- with interfaces and fields
abbrev Fielded : Rule (List (List ℕ) × (List Directive × List Field))
Fielded = Both Implements (Both Directives Fields)

fielded_exact : Exact never (both implements (both directives fields)) Fielded
fielded_exact = both_exact IsMarked Unexpected interface_goes never implements Implements (both directives fields) (Both Directives Fields)
    (clear_both interface_goes interface_goes never Directives Fields (directives_clear interface_goes interface_goes (λ word. refl) (itself interface_goes)) (clear_begins interface_goes never (is k.OpenBrace) Fields fields_begin (apart_is k.OpenBrace interface_goes (λ word. refl))))
    implements_exact (tail_exact k.OpenBrace fields Fields fields_begin (λ word. refl) never fields_exact)

-- a definition that nothing lengthens
named_shut : {A : Type 0} (word : Word) (p : Reader A) (G : Rule A) → Exact never p G → Exact Long (past (is_word word) (both name p)) (After (is_word word) (Both (Text named) G))
named_shut word p G exact = past_exact Long (is_word word) (both name p) (Both (Text named) G) (has_word word) (named_exact Long p G (lengthened IsMarked Unexpected never Long p G (never_within Long) exact))

object_exact : Exact Long object IsObject
unfolding object
object_exact = made_exact IsMarked Unexpected Long object_of (past (is_word w.Type) (both name (both implements (both directives fields)))) (After (is_word w.Type) (Both (Text named) Fielded))
    (named_shut w.Type (both implements (both directives fields)) Fielded fielded_exact)

object_begins : BeginsWith (is_word w.Type) IsObject
object_begins = begins_made (is_word w.Type) object_of (After (is_word w.Type) (Both (Text named) Fielded)) (begins_after (is_word w.Type) (Both (Text named) Fielded))

interface_exact : Exact Long interface IsInterface
unfolding interface
interface_exact = made_exact IsMarked Unexpected Long interface_of (past (is_word w.Interface) (both name (both implements (both directives fields)))) (After (is_word w.Interface) (Both (Text named) Fielded))
    (named_shut w.Interface (both implements (both directives fields)) Fielded fielded_exact)

interface_begins : BeginsWith (is_word w.Interface) IsInterface
interface_begins = begins_made (is_word w.Interface) interface_of (After (is_word w.Interface) (Both (Text named) Fielded)) (begins_after (is_word w.Interface) (Both (Text named) Fielded))

members_begin : BeginsWith (is k.Equals) Members
members_begin = begins_after (is k.Equals) (Joined k.Bar named)

union_exact : Exact Long union IsUnion
unfolding union
union_exact = made_exact IsMarked Unexpected Long union_of (past (is_word w.Union) (both name (both directives members))) (After (is_word w.Union) (Both (Text named) (Both Directives Members)))
    (past_exact Long (is_word w.Union) (both name (both directives members)) (Both (Text named) (Both Directives Members)) (has_word w.Union)
    (named_exact Long (both directives members) (Both Directives Members)
    (tail_exact k.Equals members Members members_begin (λ word. refl) Long (lengthened IsMarked Unexpected (is k.Bar) Long members Members bar_long members_exact))))

union_begins : BeginsWith (is_word w.Union) IsUnion
union_begins = begins_made (is_word w.Union) union_of (After (is_word w.Union) (Both (Text named) (Both Directives Members))) (begins_after (is_word w.Union) (Both (Text named) (Both Directives Members)))

values_begin : BeginsWith (is k.OpenBrace) Values
values_begin xs ts g = ap (sees (is k.OpenBrace)) g.4 ∙ g.2

enum_exact : Exact Long enumeration IsEnum
unfolding enumeration
enum_exact = made_exact IsMarked Unexpected Long enum_of (past (is_word w.Enum) (both name (both directives values))) (After (is_word w.Enum) (Both (Text named) (Both Directives Values)))
    (named_shut w.Enum (both directives values) (Both Directives Values) (tail_exact k.OpenBrace values Values values_begin (λ word. refl) never values_exact_))

enum_begins : BeginsWith (is_word w.Enum) IsEnum
enum_begins = begins_made (is_word w.Enum) enum_of (After (is_word w.Enum) (Both (Text named) (Both Directives Values))) (begins_after (is_word w.Enum) (Both (Text named) (Both Directives Values)))

input_fields_begin : BeginsWith (is k.OpenBrace) InputFields
input_fields_begin xs ts g = ap (sees (is k.OpenBrace)) g.4 ∙ g.2

input_type_exact : Exact Long input_type IsInputType
unfolding input_type
input_type_exact = made_exact IsMarked Unexpected Long input_type_of (past (is_word w.Input) (both name (both directives input_fields))) (After (is_word w.Input) (Both (Text named) (Both Directives InputFields)))
    (named_shut w.Input (both directives input_fields) (Both Directives InputFields) (tail_exact k.OpenBrace input_fields InputFields input_fields_begin (λ word. refl) never input_fields_exact))

input_type_begins : BeginsWith (is_word w.Input) IsInputType
input_type_begins = begins_made (is_word w.Input) input_type_of (After (is_word w.Input) (Both (Text named) (Both Directives InputFields))) (begins_after (is_word w.Input) (Both (Text named) (Both Directives InputFields)))

-- ---- definitions of directives

abbrev Repeatable : Rule (Unit {0})
Repeatable = Made (λ (t : Lexeme Mark). tt) (Token (is_word w.Repeatable))

repeatable_begins : BeginsWith (is_word w.Repeatable) Repeatable
repeatable_begins = begins_made (is_word w.Repeatable) (λ (t : Lexeme Mark). tt) (Token (is_word w.Repeatable)) (token_begins (is_word w.Repeatable))

repeatable_exact : Exact (is_word w.Repeatable) repeatable (Optional Repeatable tt)
unfolding repeatable
repeatable_exact = optional_exact IsMarked Unexpected (is_word w.Repeatable) (is_word w.Repeatable) (made (λ (t : Lexeme Mark). tt) (one Unexpected (is_word w.Repeatable))) Repeatable tt repeatable_begins (itself (is_word w.Repeatable))
    (made_exact IsMarked Unexpected (is_word w.Repeatable) (λ (t : Lexeme Mark). tt) (one Unexpected (is_word w.Repeatable)) (Token (is_word w.Repeatable)) (token_exact (is_word w.Repeatable) (is_word w.Repeatable) (has_word w.Repeatable)))

abbrev Placed : Rule (List (List ℕ))
Placed = After (is k.On) (Joined k.Bar (is_word w.Location))

placed_begins : BeginsWith (is k.On) Placed
placed_begins = begins_after (is k.On) (Joined k.Bar (is_word w.Location))

placed_exact : Exact Long (past (is k.On) (joined k.Bar (is_word w.Location))) Placed
placed_exact = past_exact Long (is k.On) (joined k.Bar (is_word w.Location)) (Joined k.Bar (is_word w.Location)) (has k.On)
    (lengthened IsMarked Unexpected (is k.Bar) Long (joined k.Bar (is_word w.Location)) (Joined k.Bar (is_word w.Location)) bar_long (joined_exact k.Bar (is_word w.Location) (has_word w.Location) (apart_word w.Location (is k.Bar) refl)))

abbrev AfterArguments : Rule (Unit {0} × List (List ℕ))
AfterArguments = Both (Optional Repeatable tt) Placed

after_arguments_exact : Exact Long (both repeatable (past (is k.On) (joined k.Bar (is_word w.Location)))) AfterArguments
after_arguments_exact = both_exact IsMarked Unexpected (is_word w.Repeatable) Long repeatable (Optional Repeatable tt) (past (is k.On) (joined k.Bar (is_word w.Location))) Placed
    (clear_begins (is_word w.Repeatable) Long (is k.On) Placed placed_begins (apart_is k.On (is_word w.Repeatable) (λ word. refl))) repeatable_exact placed_exact

after_arguments_clear : Clear (is k.OpenParen) Long AfterArguments
after_arguments_clear = clear_both (is k.OpenParen) (is k.OpenParen) Long (Optional Repeatable tt) Placed
    (clear_optional (is k.OpenParen) (is k.OpenParen) (is_word w.Repeatable) Repeatable tt repeatable_begins (apart_word w.Repeatable (is k.OpenParen) refl) (itself (is k.OpenParen)))
    (clear_begins (is k.OpenParen) Long (is k.On) Placed placed_begins (apart_is k.On (is k.OpenParen) (λ word. refl)))

abbrev DirectiveTail : Rule (List ℕ × (List InputField × (Unit {0} × List (List ℕ))))
DirectiveTail = Both (Text named) (Both Arguments AfterArguments)

directive_definition_exact : Exact Long directive_definition IsDirectiveDefinition
unfolding directive_definition
directive_definition_exact = made_exact IsMarked Unexpected Long directive_of (past (is_word w.Directive) (past (is k.At) (both name (both arguments (both repeatable (past (is k.On) (joined k.Bar (is_word w.Location))))))))
    (After (is_word w.Directive) (After (is k.At) DirectiveTail))
    (past_exact Long (is_word w.Directive) (past (is k.At) (both name (both arguments (both repeatable (past (is k.On) (joined k.Bar (is_word w.Location))))))) (After (is k.At) DirectiveTail) (has_word w.Directive)
    (past_exact Long (is k.At) (both name (both arguments (both repeatable (past (is k.On) (joined k.Bar (is_word w.Location)))))) DirectiveTail (has k.At)
    (named_exact Long (both arguments (both repeatable (past (is k.On) (joined k.Bar (is_word w.Location))))) (Both Arguments AfterArguments)
    (both_exact IsMarked Unexpected (is k.OpenParen) Long arguments Arguments (both repeatable (past (is k.On) (joined k.Bar (is_word w.Location)))) AfterArguments after_arguments_clear arguments_exact after_arguments_exact))))

directive_definition_begins : BeginsWith (is_word w.Directive) IsDirectiveDefinition
directive_definition_begins = begins_made (is_word w.Directive) directive_of (After (is_word w.Directive) (After (is k.At) DirectiveTail)) (begins_after (is_word w.Directive) (After (is k.At) DirectiveTail))

-- ---- the definition of the roots

root_by_exact : (goes : Mark → Bool) (kind : Kind) (word : Word) → Exact goes (root_by kind word) (RootBy kind word)
unfolding root_by
root_by_exact goes kind word = made_exact IsMarked Unexpected goes (λ (t : Lexeme Mark). tt) (past (is kind) (past (is k.Colon) (one Unexpected (is_word word)))) (After (is kind) (After (is k.Colon) (Token (is_word word))))
    (past_exact goes (is kind) (past (is k.Colon) (one Unexpected (is_word word))) (After (is k.Colon) (Token (is_word word))) (has kind)
    (past_exact goes (is k.Colon) (one Unexpected (is_word word)) (Token (is_word word)) (has k.Colon) (token_exact goes (is_word word) (has_word word))))

root_by_begins : (kind : Kind) (word : Word) → BeginsWith (is kind) (RootBy kind word)
root_by_begins kind word = begins_made (is kind) (λ (t : Lexeme Mark). tt) (After (is kind) (After (is k.Colon) (Token (is_word word)))) (begins_after (is kind) (After (is k.Colon) (Token (is_word word))))

-- a root more
root_kinds : Kind → Bool
root_kinds k.Query = true
root_kinds k.Mutation = true
root_kinds _ = false

abbrev RootGoes : Mark → Bool
RootGoes m = root_kinds m.kind

may_root_exact : (kind : Kind) (word : Word) → root_kinds kind ≡ true → Exact RootGoes (may_root kind word) (Optional (RootBy kind word) tt)
unfolding may_root
may_root_exact kind word e = optional_exact IsMarked Unexpected RootGoes (is kind) (root_by kind word) (RootBy kind word) tt (root_by_begins kind word) (within_is kind root_kinds e) (root_by_exact RootGoes kind word)

pair_exact : (one two : Kind) (first second : Word) → root_kinds two ≡ true → Exact RootGoes (both (root_by one first) (may_root two second)) (Both (RootBy one first) (Optional (RootBy two second) tt))
pair_exact one two first second e = both_exact IsMarked Unexpected never RootGoes (root_by one first) (RootBy one first) (may_root two second) (Optional (RootBy two second) tt) (any_clear RootGoes (Optional (RootBy two second) tt)) (root_by_exact never one first) (may_root_exact two second e)

abbrev QueryFirst : Rule (Unit {0} × Unit {0})
QueryFirst = Both QueryRoot (Optional MutationRoot tt)

abbrev MutationFirst : Rule (Unit {0} × Unit {0})
MutationFirst = Both MutationRoot (Optional QueryRoot tt)

roots_exact : Exact RootGoes roots Roots
unfolding roots root_kinds
roots_exact = made_exact IsMarked Unexpected RootGoes (λ (p : Unit {0} × Unit {0}). part.Root)
    (choose (is k.Query) (both (root_by k.Query w.QueryRoot) (may_root k.Mutation w.MutationRoot)) (both (root_by k.Mutation w.MutationRoot) (may_root k.Query w.QueryRoot))) (Either QueryFirst MutationFirst)
    (choose_is_exact IsMarked RootGoes (is k.Query) (both (root_by k.Query w.QueryRoot) (may_root k.Mutation w.MutationRoot)) (both (root_by k.Mutation w.MutationRoot) (may_root k.Query w.QueryRoot)) QueryFirst MutationFirst
    (pair_exact k.Query k.Mutation w.QueryRoot w.MutationRoot refl) (pair_exact k.Mutation k.Query w.MutationRoot w.QueryRoot refl)
    (begins_both (is k.Query) QueryRoot (Optional MutationRoot tt) (root_by_begins k.Query w.QueryRoot))
    (clear_begins (is k.Query) RootGoes (is k.Mutation) MutationFirst (begins_both (is k.Mutation) MutationRoot (Optional QueryRoot tt) (root_by_begins k.Mutation w.MutationRoot)) (apart_is k.Mutation (is k.Query) (λ word. refl))))

abbrev BracedRoots : Rule Part
BracedRoots = Enclosed (is k.OpenBrace) Roots (is k.CloseBrace)

braced_begins : BeginsWith (is k.OpenBrace) BracedRoots
braced_begins = begins_after (is k.OpenBrace) (Before Roots (is k.CloseBrace))

braced_exact : Exact Long (past (is k.OpenBrace) (until roots k.CloseBrace)) BracedRoots
unfolding root_kinds
braced_exact = past_exact Long (is k.OpenBrace) (until roots k.CloseBrace) (Before Roots (is k.CloseBrace)) (has k.OpenBrace) (until_exact RootGoes Long k.CloseBrace roots Roots (apart_is k.CloseBrace RootGoes (λ word. refl)) roots_exact)

root_exact : Exact Long root IsRoot
unfolding root
root_exact = made_exact IsMarked Unexpected Long (λ (p : List Directive × Part). p.1) (past (is_word w.Schema) (both directives (past (is k.OpenBrace) (until roots k.CloseBrace)))) (After (is_word w.Schema) (Both Directives BracedRoots))
    (past_exact Long (is_word w.Schema) (both directives (past (is k.OpenBrace) (until roots k.CloseBrace))) (Both Directives BracedRoots) (has_word w.Schema)
    (tail_exact k.OpenBrace (past (is k.OpenBrace) (until roots k.CloseBrace)) BracedRoots braced_begins (λ word. refl) Long braced_exact))

root_begins : BeginsWith (is_word w.Schema) IsRoot
root_begins = begins_made (is_word w.Schema) (λ (p : List Directive × Part). p.1) (After (is_word w.Schema) (Both Directives BracedRoots)) (begins_after (is_word w.Schema) (Both Directives BracedRoots))

-- ---- one definition

-- what the definitions begin with, from this one on
abbrev from_enum : Mark → Bool
from_enum m = is_word w.Enum m || is_word w.Input m

abbrev from_union : Mark → Bool
from_union m = is_word w.Union m || from_enum m

abbrev from_interface : Mark → Bool
from_interface m = is_word w.Interface m || from_union m

abbrev from_type : Mark → Bool
from_type m = is_word w.Type m || from_interface m

abbrev from_scalar : Mark → Bool
from_scalar m = is_word w.Scalar m || from_type m

abbrev from_directive : Mark → Bool
from_directive m = is_word w.Directive m || from_scalar m

abbrev from_schema : Mark → Bool
from_schema m = is_word w.Schema m || from_directive m

abbrev FromEnum : Rule Part
FromEnum = Either IsEnum IsInputType

abbrev FromUnion : Rule Part
FromUnion = Either IsUnion FromEnum

abbrev FromInterface : Rule Part
FromInterface = Either IsInterface FromUnion

abbrev FromType : Rule Part
FromType = Either IsObject FromInterface

abbrev FromScalar : Rule Part
FromScalar = Either IsScalar FromType

-- one definition, or those from the next on
either_begins : (word : Word) (more : Mark → Bool) (A B : Rule Part) → BeginsWith (is_word word) A → BeginsWith more B → BeginsWith (λ m. is_word word m || more m) (Either A B)
either_begins word more A B first others x ts (inl g) = sees_more (is_word word) (λ m. is_word word m || more m) (to_left (is_word word) more) ts (first x ts g)
either_begins word more A B first others x ts (inr g) = sees_more more (λ m. is_word word m || more m) (to_right (is_word word) more) ts (others x ts g)

either_exact : (word : Word) (more : Mark → Bool) (p q : Reader Part) (A B : Rule Part) → Exact Long p A → Exact Long q B → BeginsWith (is_word word) A → BeginsWith more B → Apart more (is_word word) → Exact Long (choose (is_word word) p q) (Either A B)
either_exact word more p q A B first others begins more_begins apart = choose_is_exact IsMarked Long (is_word word) p q A B first others begins (clear_begins (is_word word) Long more B more_begins apart)

begins_from_enum : BeginsWith from_enum FromEnum
begins_from_enum = either_begins w.Enum (is_word w.Input) IsEnum IsInputType enum_begins input_type_begins

begins_from_union : BeginsWith from_union FromUnion
begins_from_union = either_begins w.Union from_enum IsUnion FromEnum union_begins begins_from_enum

begins_from_interface : BeginsWith from_interface FromInterface
begins_from_interface = either_begins w.Interface from_union IsInterface FromUnion interface_begins begins_from_union

begins_from_type : BeginsWith from_type FromType
begins_from_type = either_begins w.Type from_interface IsObject FromInterface object_begins begins_from_interface

begins_from_scalar : BeginsWith from_scalar FromScalar
begins_from_scalar = either_begins w.Scalar from_type IsScalar FromType scalar_begins begins_from_type

other_begins : BeginsWith from_directive IsOther
other_begins = either_begins w.Directive from_scalar IsDirectiveDefinition FromScalar directive_definition_begins begins_from_scalar

-- none of the words from this one on passes
enum_apart : (goes : Mark → Bool) → goes (mark k.Name w.Enum) ≡ false → goes (mark k.Name w.Input) ≡ false → Apart from_enum goes
enum_apart goes a b = apart_or (is_word w.Enum) (is_word w.Input) goes (apart_word w.Enum goes a) (apart_word w.Input goes b)

union_apart : (goes : Mark → Bool) → goes (mark k.Name w.Union) ≡ false → Apart from_enum goes → Apart from_union goes
union_apart goes a others = apart_or (is_word w.Union) from_enum goes (apart_word w.Union goes a) others

interface_apart : (goes : Mark → Bool) → goes (mark k.Name w.Interface) ≡ false → Apart from_union goes → Apart from_interface goes
interface_apart goes a others = apart_or (is_word w.Interface) from_union goes (apart_word w.Interface goes a) others

type_apart : (goes : Mark → Bool) → goes (mark k.Name w.Type) ≡ false → Apart from_interface goes → Apart from_type goes
type_apart goes a others = apart_or (is_word w.Type) from_interface goes (apart_word w.Type goes a) others

scalar_apart : (goes : Mark → Bool) → goes (mark k.Name w.Scalar) ≡ false → Apart from_type goes → Apart from_scalar goes
scalar_apart goes a others = apart_or (is_word w.Scalar) from_type goes (apart_word w.Scalar goes a) others

directive_apart : (goes : Mark → Bool) → goes (mark k.Name w.Directive) ≡ false → Apart from_scalar goes → Apart from_directive goes
directive_apart goes a others = apart_or (is_word w.Directive) from_scalar goes (apart_word w.Directive goes a) others

schema_apart : (goes : Mark → Bool) → goes (mark k.Name w.Schema) ≡ false → Apart from_directive goes → Apart from_schema goes
schema_apart goes a others = apart_or (is_word w.Schema) from_directive goes (apart_word w.Schema goes a) others

other_exact : Exact Long other IsOther
unfolding other
other_exact =
    either_exact w.Directive from_scalar directive_definition (choose (is_word w.Scalar) scalar (choose (is_word w.Type) object (choose (is_word w.Interface) interface (choose (is_word w.Union) union (choose (is_word w.Enum) enumeration input_type)))))
    IsDirectiveDefinition FromScalar directive_definition_exact
    (either_exact w.Scalar from_type scalar (choose (is_word w.Type) object (choose (is_word w.Interface) interface (choose (is_word w.Union) union (choose (is_word w.Enum) enumeration input_type)))) IsScalar FromType scalar_exact
    (either_exact w.Type from_interface object (choose (is_word w.Interface) interface (choose (is_word w.Union) union (choose (is_word w.Enum) enumeration input_type))) IsObject FromInterface object_exact
    (either_exact w.Interface from_union interface (choose (is_word w.Union) union (choose (is_word w.Enum) enumeration input_type)) IsInterface FromUnion interface_exact
    (either_exact w.Union from_enum union (choose (is_word w.Enum) enumeration input_type) IsUnion FromEnum union_exact
    (either_exact w.Enum (is_word w.Input) enumeration input_type IsEnum IsInputType enum_exact input_type_exact enum_begins input_type_begins (apart_word w.Input (is_word w.Enum) refl))
    union_begins begins_from_enum (enum_apart (is_word w.Union) refl refl))
    interface_begins begins_from_union (union_apart (is_word w.Interface) refl (enum_apart (is_word w.Interface) refl refl)))
    object_begins begins_from_interface (interface_apart (is_word w.Type) refl (union_apart (is_word w.Type) refl (enum_apart (is_word w.Type) refl refl))))
    scalar_begins begins_from_type (type_apart (is_word w.Scalar) refl (interface_apart (is_word w.Scalar) refl (union_apart (is_word w.Scalar) refl (enum_apart (is_word w.Scalar) refl refl)))))
    directive_definition_begins begins_from_scalar (scalar_apart (is_word w.Directive) refl (type_apart (is_word w.Directive) refl (interface_apart (is_word w.Directive) refl (union_apart (is_word w.Directive) refl (enum_apart (is_word w.Directive) refl refl)))))

-- the words pass none of these tests
words_apart : (goes : Mark → Bool) → goes (mark k.Name w.Schema) ≡ false → goes (mark k.Name w.Directive) ≡ false → goes (mark k.Name w.Scalar) ≡ false → goes (mark k.Name w.Type) ≡ false → goes (mark k.Name w.Interface) ≡ false → goes (mark k.Name w.Union) ≡ false
    → goes (mark k.Name w.Enum) ≡ false → goes (mark k.Name w.Input) ≡ false → Apart from_schema goes
words_apart goes a b c d e f g h = schema_apart goes a (directive_apart goes b (scalar_apart goes c (type_apart goes d (interface_apart goes e (union_apart goes f (enum_apart goes g h))))))

others_apart : (goes : Mark → Bool) → goes (mark k.Name w.Directive) ≡ false → goes (mark k.Name w.Scalar) ≡ false → goes (mark k.Name w.Type) ≡ false → goes (mark k.Name w.Interface) ≡ false → goes (mark k.Name w.Union) ≡ false
    → goes (mark k.Name w.Enum) ≡ false → goes (mark k.Name w.Input) ≡ false → Apart from_directive goes
others_apart goes b c d e f g h = directive_apart goes b (scalar_apart goes c (type_apart goes d (interface_apart goes e (union_apart goes f (enum_apart goes g h)))))

any_begins : BeginsWith from_schema (Either IsRoot IsOther)
any_begins = either_begins w.Schema from_directive IsRoot IsOther root_begins other_begins

pub definition_exact : (rooted : Bool) → Exact Long (definition rooted) (IsDefinition rooted)
unfolding definition body
definition_exact false = described_exact Long (choose (is_word w.Schema) root other) (Either IsRoot IsOther)
    (clear_begins is_description Long from_schema (Either IsRoot IsOther) any_begins (words_apart is_description refl refl refl refl refl refl refl refl))
    (either_exact w.Schema from_directive root other IsRoot IsOther root_exact other_exact root_begins other_begins (others_apart (is_word w.Schema) refl refl refl refl refl refl refl))
definition_exact true = described_exact Long (choose (is_word w.Schema) (refuse Unexpected) other) IsOther
    (clear_begins is_description Long from_directive IsOther other_begins (others_apart is_description refl refl refl refl refl refl refl))
    (barred_is_exact IsMarked Long (is_word w.Schema) Unexpected other IsOther other_exact (clear_begins (is_word w.Schema) Long from_directive IsOther other_begins (others_apart (is_word w.Schema) refl refl refl refl refl refl refl)))

pub definition_begins : (rooted : Bool) → BeginsWith begins_definition (IsDefinition rooted)
definition_begins false = described_begins from_schema begins_definition (Either IsRoot IsOther) any_begins (to_right is_description from_schema) (to_left is_description from_schema)
definition_begins true = described_begins from_directive begins_definition IsOther other_begins (λ m h. to_right is_description from_schema m (to_right (is_word w.Schema) from_directive m h)) (to_left is_description from_schema)

-- ---- schemas

definition_apart : Apart begins_definition Long
definition_apart = apart_or is_description from_schema Long (apart_description Long (λ word. refl) (λ word. refl)) (words_apart Long refl refl refl refl refl refl refl refl)

-- one definition more, or what lengthens the last
abbrev pub schema_goes : Mark → Bool
schema_goes m = begins_definition m || Long m

definitions_exact : (rooted : Bool) → Exact schema_goes (definitions rooted) (Definitions rooted)
definitions_exact rooted = chain_is_exact IsMarked rooted_by Long begins_definition schema_goes definition IsDefinition definition_exact definition_begins definition_apart (within_right begins_definition Long) (within_left begins_definition Long) rooted

definitions_clear : (rooted : Bool) → Clear Long schema_goes (Definitions rooted)
definitions_clear rooted [] v rest g ends = subst (λ (q : List (Lexeme Mark)). Stops Long (q ++ rest)) (sym g) (over rest ends)
  where
    over : (rest : List (Lexeme Mark)) → Stops schema_goes rest → Stops Long rest
    over [] h = refl
    over (t ∷ rest) h = within_right begins_definition Long t.kind h
definitions_clear rooted (p ∷ ps) v rest (u, x, g, others, cut) ends = subst (λ (q : List (Lexeme Mark)). Stops Long (q ++ rest)) (sym cut) (front u (definition_begins rooted p u g))
  where
    front : (u : List (Lexeme Mark)) → sees begins_definition u ≡ true → Stops Long ((u ++ x) ++ rest)
    front [] h = absurd cc
    front (t ∷ u) h = definition_apart t.kind h

pub schema_exact : Exact schema_goes schema IsSchema
unfolding schema
schema_exact = retyped IsMarked schema_goes schema (Then (IsDefinition false) (λ p. Made (λ (ps : List Part). p ∷ ps) (Definitions (is_root p)))) IsSchema
    (λ ps ts g. (g.0, g.4.0, g.4.1, (g.1, g.2, g.3, g.4.2, g.5)))
    (λ ps ts g. (g.0, g.3.0, g.3.1, g.3.2, (g.1, g.2, g.3.3), g.3.4))
    (bind_is_exact IsMarked Long schema_goes (definition false) (IsDefinition false) (λ p. made (λ (ps : List Part). p ∷ ps) (definitions (is_root p))) (λ p. Made (λ (ps : List Part). p ∷ ps) (Definitions (is_root p)))
    (definition_exact false)
    (λ p. made_exact IsMarked Unexpected schema_goes (λ (ps : List Part). p ∷ ps) (definitions (is_root p)) (Definitions (is_root p)) (definitions_exact (is_root p)))
    (λ p ps v rest m ends. definitions_clear (is_root p) m.0 v rest m.2 ends))

pub all_exact : IsExact IsMarked any all IsSchema
all_exact = whole_is_exact IsMarked Unexpected schema_goes schema IsSchema schema_exact
