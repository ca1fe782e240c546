-- Reading a schema from the left: a parser for each production.
use Rattle.std.specs.Prelude.{ℕ, ◌-◌, Bool, true, false, ◌||◌, List, [], ◌∷◌, map, drop, length, Option, Some, None, Ok, Err}
use Rattle.token_read.specs.Lexeme.{Lexeme}
use Rattle.token_read.specs.Parse.{Answer, Parser, bind, pure, refuse, one, choose, many}
use Rattle.token_read.specs.Productions.{text, after, before, both, made, optional, several, whole}
use Rattle.gql_tokens.specs.declared.kinds.Kind.{Kind}
use Rattle.gql_tokens.specs.declared.kinds.Kind.TheVariants as k
use Rattle.gql_terms.specs.declared.documents.Value.{Value}
use Rattle.gql_terms.specs.declared.documents.TypeRef.{TypeRef}
use Rattle.gql_terms.specs.declared.documents.Directive.{Directive}
use Rattle.gql_terms.specs.declared.faults.Refusal.{Refusal}
use Rattle.gql_terms.specs.declared.faults.Refusal.TheVariants.{Unexpected}
use Rattle.gql_terms.specs.Grammar.{strict}
use Rattle.gql_parser.specs.Reading as document
use Rattle.gql_types.specs.declared.definition.InputField.{InputField}
use Rattle.gql_schema.specs.declared.terms.Field.{Field}
use Rattle.gql_schema.specs.declared.terms.Part.{Part}
use Rattle.gql_schema.specs.declared.terms.Part.TheVariants as part
use Rattle.gql_schema.specs.declared.words.Word.{Word}
use Rattle.gql_schema.specs.declared.words.Word.TheVariants as w
use Rattle.gql_schema.specs.declared.words.Mark.{Mark}
use Rattle.gql_schema.specs.Words.{plain}
use Rattle.gql_schema.specs.Chains.{chain}
use Rattle.gql_schema.specs.Grammar.{is, is_word, named, is_description, is_value, input_of, field_of, scalar_of, object_of, interface_of, union_of, enum_of, input_type_of, directive_of, is_root, rooted_by}

abbrev pub Reader : Type 0 → Type 0
Reader A = Parser Mark Refusal A

-- an answer to the tokens of a document, where these tokens stand
abbrev pub back : {A : Type 0} → List (Lexeme Mark) → Answer Kind Refusal A → Answer Mark Refusal A
back ts (Ok p) = Ok (p.0, drop (length ts - length p.1) ts)
back ts (Err p) = Err (p.0, drop (length ts - length p.1) ts)

-- what a production of documents reads
abbrev pub over : {A : Type 0} → document.Reader A → Reader A
over p = λ ts. back ts (p (map plain ts))

abbrev pub past : {A : Type 0} → (Mark → Bool) → Reader A → Reader A
past test p = after Unexpected test p

abbrev pub until : {A : Type 0} → Reader A → Kind → Reader A
until p kind = before p Unexpected (is kind)

abbrev pub name : Reader (List ℕ)
name = text Unexpected named

-- ---- what stands in many places

unfoldable pub description : Reader (Unit {0})
description = optional is_description (made (λ (t : Lexeme Mark). tt) (one Unexpected is_description)) tt

abbrev pub described : {A : Type 0} → Reader A → Reader A
described {A} p = made (λ (q : Unit {0} × A). q.1) (both description p)

unfoldable pub directives : Reader (List Directive)
directives = over (document.directives strict)

unfoldable pub type_ref : Reader TypeRef
type_ref = over (document.type_ref strict.types)

unfoldable pub default : Reader (Option Value)
default = optional (is k.Equals) (made (λ (x : Value). Some x) (past (is k.Equals) (over (document.value true strict.values)))) None

unfoldable pub leading : Kind → Reader (Unit {0})
leading kind = optional (is kind) (made (λ (t : Lexeme Mark). tt) (one Unexpected (is kind))) tt

abbrev pub next_name : Kind → (Mark → Bool) → Reader (List ℕ)
next_name kind test = past (is kind) (text Unexpected test)

unfoldable pub joined : Kind → (Mark → Bool) → Reader (List (List ℕ))
joined kind test = made (λ (p : Unit {0} × (List ℕ × List (List ℕ))). p.1.0 ∷ p.1.1) (both (leading kind) (both (text Unexpected test) (many (is kind) (next_name kind test))))

-- ---- fields, arguments and values

unfoldable pub input : Reader InputField
input = described (made input_of (both name (past (is k.Colon) (both type_ref (both default directives)))))

-- a name, or its description
abbrev pub begins_item : Mark → Bool
begins_item m = named m || is_description m

unfoldable pub arguments : Reader (List InputField)
arguments = optional (is k.OpenParen) (past (is k.OpenParen) (until (several begins_item input) k.CloseParen)) []

unfoldable pub field : Reader Field
field = described (made field_of (both name (both arguments (past (is k.Colon) (both type_ref directives)))))

unfoldable pub fields : Reader (List Field)
fields = past (is k.OpenBrace) (until (several begins_item field) k.CloseBrace)

unfoldable pub input_fields : Reader (List InputField)
input_fields = past (is k.OpenBrace) (until (several begins_item input) k.CloseBrace)

unfoldable pub value : Reader (List ℕ)
value = described (made (λ (p : List ℕ × List Directive). p.0) (both (text Unexpected is_value) directives))

abbrev pub begins_value : Mark → Bool
begins_value m = is_value m || is_description m

unfoldable pub values : Reader (List (List ℕ))
values = past (is k.OpenBrace) (until (several begins_value value) k.CloseBrace)

unfoldable pub implements : Reader (List (List ℕ))
implements = optional (is_word w.Implements) (past (is_word w.Implements) (joined k.Amp named)) []

unfoldable pub members : Reader (List (List ℕ))
members = past (is k.Equals) (joined k.Bar named)

-- ---- definitions without their descriptions

unfoldable pub scalar : Reader Part
scalar = made scalar_of (past (is_word w.Scalar) (both name directives))

unfoldable pub object : Reader Part
object = made object_of (past (is_word w.Type) (both name (both implements (both directives fields))))

unfoldable pub interface : Reader Part
interface = made interface_of (past (is_word w.Interface) (both name (both implements (both directives fields))))

unfoldable pub union : Reader Part
union = made union_of (past (is_word w.Union) (both name (both directives members)))

unfoldable pub enumeration : Reader Part
enumeration = made enum_of (past (is_word w.Enum) (both name (both directives values)))

unfoldable pub input_type : Reader Part
input_type = made input_type_of (past (is_word w.Input) (both name (both directives input_fields)))

unfoldable pub repeatable : Reader (Unit {0})
repeatable = optional (is_word w.Repeatable) (made (λ (t : Lexeme Mark). tt) (one Unexpected (is_word w.Repeatable))) tt

unfoldable pub directive_definition : Reader Part
directive_definition = made directive_of (past (is_word w.Directive) (past (is k.At) (both name (both arguments (both repeatable (past (is k.On) (joined k.Bar (is_word w.Location))))))))

unfoldable pub root_by : Kind → Word → Reader (Unit {0})
root_by kind word = made (λ (t : Lexeme Mark). tt) (past (is kind) (past (is k.Colon) (one Unexpected (is_word word))))

unfoldable pub may_root : Kind → Word → Reader (Unit {0})
may_root kind word = optional (is kind) (root_by kind word) tt

unfoldable pub roots : Reader Part
roots = made (λ (p : Unit {0} × Unit {0}). part.Root)
    (choose (is k.Query) (both (root_by k.Query w.QueryRoot) (may_root k.Mutation w.MutationRoot)) (both (root_by k.Mutation w.MutationRoot) (may_root k.Query w.QueryRoot)))

unfoldable pub root : Reader Part
root = made (λ (p : List Directive × Part). p.1) (past (is_word w.Schema) (both directives (past (is k.OpenBrace) (until roots k.CloseBrace))))

-- ---- schemas

unfoldable pub other : Reader Part
other = choose (is_word w.Directive) directive_definition (choose (is_word w.Scalar) scalar (choose (is_word w.Type) object (choose (is_word w.Interface) interface
    (choose (is_word w.Union) union (choose (is_word w.Enum) enumeration input_type)))))

unfoldable pub body : Bool → Reader Part
body false = choose (is_word w.Schema) root other
body true = choose (is_word w.Schema) (refuse Unexpected) other

unfoldable pub definition : Bool → Reader Part
definition rooted = described (body rooted)

abbrev pub begins_definition : Mark → Bool
begins_definition m = is_description m || (is_word w.Schema m || (is_word w.Directive m || (is_word w.Scalar m || (is_word w.Type m || (is_word w.Interface m || (is_word w.Union m || (is_word w.Enum m || is_word w.Input m)))))))

-- definitions behind a definition of the roots, or not
abbrev pub definitions : Bool → Reader (List Part)
definitions = chain rooted_by begins_definition definition

unfoldable pub schema : Reader (List Part)
schema = bind (definition false) (λ p. bind (definitions (is_root p)) (λ ps. pure (p ∷ ps)))

-- all tokens of a text
abbrev pub all : Reader (List Part)
all = whole Unexpected schema
