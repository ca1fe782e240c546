-- Fields, arguments and values of enums are read exactly.
use Rattle.std.proofs.Common.{◌≡◌, ℕ, Bool, true, false, List, [], ◌∷◌, ◌++◌, map, Option, Some, None, refl, ap, ◌∙◌, inl, inr}
use Rattle.std.specs.Prelude.{◌||◌}
use Rattle.token_read.specs.Lexeme.{Lexeme}
use Rattle.token_read.specs.Parse.{one, sees, many}
use Rattle.token_read.specs.Exact.{Token, Each, IsExact}
use Rattle.token_read.specs.Productions.{Text, After, Before, Enclosed, Both, Made, Optional, Several, text, both, made, several}
use Rattle.token_read.proofs.Exact.{one_is_exact}
use Rattle.token_read.proofs.Productions.{BeginsWith, Clear, Apart, Within, never, never_stops, stops_within, clear_begins, clear_optional, clear_both, begins_after, begins_both, begins_made, begins_text, lengthened, made_exact, text_exact, after_exact, before_exact, both_exact, optional_exact, each_exact, several_exact}
use Rattle.gql_tokens.specs.declared.kinds.Kind.{Kind}
use Rattle.gql_tokens.specs.declared.kinds.Kind.TheVariants as k
use Rattle.gql_tokens.specs.KindTests.{is_name}
use Rattle.gql_tokens.specs.Lexical.{IsReal}
use Rattle.gql_terms.specs.declared.documents.Value.{Value}
use Rattle.gql_terms.specs.declared.documents.TypeRef.{TypeRef}
use Rattle.gql_terms.specs.declared.documents.Directive.{Directive}
use Rattle.gql_terms.specs.declared.faults.Refusal.TheVariants.{Unexpected}
use Rattle.gql_terms.specs.Grammar as document
use Rattle.gql_terms.specs.Grammar.{Rules, strict}
use Rattle.gql_parser.specs.Reading as documents
use Rattle.gql_parser.proofs.ValuesExact as values_exact
use Rattle.gql_parser.proofs.DocumentsExact as documents_exact
use Rattle.gql_types.specs.declared.definition.InputField.{InputField}
use Rattle.gql_schema.specs.declared.terms.Field.{Field}
use Rattle.gql_schema.specs.declared.words.Word.{Word}
use Rattle.gql_schema.specs.declared.words.Word.TheVariants as w
use Rattle.gql_schema.specs.declared.words.Mark.{Mark}
use Rattle.gql_schema.specs.Words.{plain, IsMarked}
use Rattle.gql_schema.specs.Grammar.{Rule, is, is_word, named, Over, is_description, Description, Described, Directives, IsType, Default, Joined, input_of, IsInput, Arguments, field_of, IsField, Fields, InputFields, is_value, IsValue, Values, Implements, Members}
use Rattle.gql_schema.specs.Reading.{Reader, over, past, until, name, description, described, directives, type_ref, default, leading, next_name, joined, input, begins_item, arguments, field, fields, input_fields, value, begins_value, values, implements, members}
use Rattle.gql_schema.proofs.Over.{over_exact}
use Rattle.gql_schema.proofs.Marking.{HasMark, has, has_by, has_word, apart_is, apart_or, apart_names, apart_description, apart_never, itself, never_within, within_is, within_left, within_right, sees_more, to_left, to_right}

abbrev pub Exact : {A : Type 0} → (Mark → Bool) → Reader A → Rule A → Type 0
Exact goes p G = IsExact IsMarked goes p G

-- ---- productions

pub past_exact : {A : Type 0} (goes test : Mark → Bool) (p : Reader A) (G : Rule A) → HasMark test → Exact goes p G → Exact goes (past test p) (After test G)
past_exact goes test p G h exact = after_exact IsMarked Unexpected goes test p G h exact

pub until_exact : {A : Type 0} (goes go_on : Mark → Bool) (kind : Kind) (p : Reader A) (G : Rule A) → Apart (is kind) goes → Exact goes p G → Exact go_on (until p kind) (Before G (is kind))
until_exact goes go_on kind p G apart exact = before_exact IsMarked Unexpected goes go_on (is kind) p G (has kind) apart exact

pub token_exact : (goes test : Mark → Bool) → HasMark test → Exact goes (one Unexpected test) (Token test)
token_exact goes test h = one_is_exact IsMarked Unexpected goes test h.0 h.1 h.2

pub token_begins : (test : Mark → Bool) → BeginsWith test (Token test)
token_begins test t ts g = ap (sees test) g.1 ∙ g.0

pub has_name : HasMark named
has_name = has_by is_name k.Name refl

pub name_exact : (goes : Mark → Bool) → Exact goes name (Text named)
name_exact goes = text_exact IsMarked Unexpected goes named has_name

pub any_clear : {A : Type 0} (go_on : Mark → Bool) (G : Rule A) → Clear never go_on G
any_clear go_on G a v rest g ends = never_stops (v ++ rest)

-- a name, and what follows it
pub named_exact : {A : Type 0} (goes : Mark → Bool) (p : Reader A) (G : Rule A) → Exact goes p G → Exact goes (both name p) (Both (Text named) G)
named_exact goes p G exact = both_exact IsMarked Unexpected never goes name (Text named) p G (any_clear goes G) (name_exact never) exact

abbrev pub plain_names : (goes : Kind → Bool) → Type 0
plain_names goes = Apart is_name goes

-- ---- what lengthens a production

-- directives: one more, or the arguments of the last
abbrev pub long_directives : Kind → Bool
long_directives k.OpenParen = true
long_directives k.At = true
long_directives _ = false

-- everything that lengthens some production at its end
abbrev pub long : Kind → Bool
long k.Bang = true
long k.Equals = true
long k.OpenParen = true
long k.At = true
long k.Bar = true
long k.Amp = true
long _ = false

abbrev pub Long : Mark → Bool
Long m = long m.kind

abbrev pub LongDirectives : Mark → Bool
LongDirectives m = long_directives m.kind

directives_long : Within LongDirectives Long
directives_long m h = go m.kind h
  where
    go : (kind : Kind) → long kind ≡ false → long_directives kind ≡ false
    go k.OpenParen h = h
    go k.At h = h
    go _ h = refl

-- ---- directives, types and defaults

module _ (r : Rules) where
  abbrev Given : document.Rule (List (List ℕ × Value))
  Given = Enclosed (document.is k.OpenParen) (Several (document.Pair (document.IsValue false r.values))) (document.is k.CloseParen)

  given_begins : BeginsWith (document.is k.OpenParen) Given
  given_begins = begins_after (document.is k.OpenParen) (Before (Several (document.Pair (document.IsValue false r.values))) (document.is k.CloseParen))

  given_exact : values_exact.Exact (document.is k.OpenParen) (documents.arguments r) (document.Arguments r)
  unfolding documents.arguments
  given_exact = optional_exact IsReal Unexpected (document.is k.OpenParen) (document.is k.OpenParen) (documents.past k.OpenParen (documents.until (several is_name (documents.pair (documents.value false r.values))) k.CloseParen))
      Given [] given_begins (values_exact.itself (document.is k.OpenParen))
      (values_exact.past_exact (document.is k.OpenParen) k.OpenParen (documents.until (several is_name (documents.pair (documents.value false r.values))) k.CloseParen) (Before (Several (document.Pair (document.IsValue false r.values))) (document.is k.CloseParen))
      (values_exact.until_exact is_name (document.is k.OpenParen) k.CloseParen (several is_name (documents.pair (documents.value false r.values))) (Several (document.Pair (document.IsValue false r.values))) refl
      (several_exact IsReal Unexpected never is_name is_name (documents.pair (documents.value false r.values)) (document.Pair (document.IsValue false r.values)) (values_exact.pair_begins (document.IsValue false r.values))
      (values_exact.apart_never is_name) (values_exact.never_within is_name) (values_exact.itself is_name)
      (values_exact.pair_exact never (documents.value false r.values) (document.IsValue false r.values) (values_exact.value_exact false r.values)))))

  directive_exact : values_exact.Exact (document.is k.OpenParen) (documents.directive r) (document.IsDirective r)
  unfolding documents.directive
  directive_exact = made_exact IsReal Unexpected (document.is k.OpenParen) document.directive_of (documents.past k.At (both documents.name (documents.arguments r))) (After (document.is k.At) (Both (Text is_name) (document.Arguments r)))
      (values_exact.past_exact (document.is k.OpenParen) k.At (both documents.name (documents.arguments r)) (Both (Text is_name) (document.Arguments r))
      (both_exact IsReal Unexpected never (document.is k.OpenParen) documents.name (Text is_name) (documents.arguments r) (document.Arguments r) (λ a v rest g ends. never_stops (v ++ rest)) (values_exact.name_exact never) given_exact))

  directive_begins : BeginsWith (document.is k.At) (document.IsDirective r)
  directive_begins = begins_made (document.is k.At) document.directive_of (After (document.is k.At) (Both (Text is_name) (document.Arguments r))) (begins_after (document.is k.At) (Both (Text is_name) (document.Arguments r)))

  within_kind : (kind : Kind) → long_directives kind ≡ true → Within (document.is kind) long_directives
  within_kind kind e other h = (within_is kind long_directives e (record { kind = other; word = w.Other }) h)

  pub all_directives : values_exact.Exact long_directives (documents.directives r) (document.Directives r)
  unfolding documents.directives
  all_directives = each_exact IsReal Unexpected (document.is k.OpenParen) long_directives (document.is k.At) (documents.directive r) (document.IsDirective r) directive_begins (values_exact.apart_is k.At (document.is k.OpenParen) refl)
      (within_kind k.OpenParen refl) (within_kind k.At refl) directive_exact

pub directives_exact : Exact LongDirectives directives Directives
unfolding directives
directives_exact = over_exact long_directives (documents.directives strict) (document.Directives strict) (all_directives strict)

pub long_directives_exact : Exact Long directives Directives
long_directives_exact = lengthened IsMarked Unexpected LongDirectives Long directives Directives directives_long directives_exact

-- what directives stand before
pub directives_clear : (goes go_on : Mark → Bool) → ((word : Word) → goes (record { kind = k.At; word = word }) ≡ false) → Within goes go_on → Clear goes go_on Directives
directives_clear goes go_on e within ds [] rest g ends = stops_within goes go_on within rest ends
directives_clear goes go_on e within [] (t ∷ v) rest g ends = absurd (none g)
  where
    none : map plain (t ∷ v) ≡ [] → ⊥
    none e = cc
directives_clear goes go_on e within (d ∷ ds) (t ∷ v) rest (x, y, g, each, cut) ends = apart_is k.At goes e t.kind (first (begins x (directive_begins strict d x g)))
  where
    begins : (x : List (Lexeme Kind)) → sees (document.is k.At) x ≡ true → sees (document.is k.At) (x ++ y) ≡ true
    begins [] h = absurd cc
    begins (u ∷ us) h = h

    first : sees (document.is k.At) (x ++ y) ≡ true → is k.At t.kind ≡ true
    first h = ap (sees (document.is k.At)) cut ∙ h

pub type_exact : Exact (is k.Bang) type_ref IsType
unfolding type_ref
type_exact = over_exact (document.is k.Bang) (documents.type_ref strict.types) (document.IsType strict.types) (documents_exact.type_exact strict.types)

abbrev DefaultValue : Rule (Option Value)
DefaultValue = Made (λ (x : Value). Some x) (After (is k.Equals) (Over (document.IsValue true strict.values)))

default_begins : BeginsWith (is k.Equals) DefaultValue
default_begins = begins_made (is k.Equals) (λ (x : Value). Some x) (After (is k.Equals) (Over (document.IsValue true strict.values))) (begins_after (is k.Equals) (Over (document.IsValue true strict.values)))

default_exact : Exact (is k.Equals) default Default
unfolding default
default_exact = optional_exact IsMarked Unexpected (is k.Equals) (is k.Equals) (made (λ (x : Value). Some x) (past (is k.Equals) (over (documents.value true strict.values)))) DefaultValue None default_begins (itself (is k.Equals))
    (made_exact IsMarked Unexpected (is k.Equals) (λ (x : Value). Some x) (past (is k.Equals) (over (documents.value true strict.values))) (After (is k.Equals) (Over (document.IsValue true strict.values)))
    (past_exact (is k.Equals) (is k.Equals) (over (documents.value true strict.values)) (Over (document.IsValue true strict.values)) (has k.Equals)
    (lengthened IsMarked Unexpected never (is k.Equals) (over (documents.value true strict.values)) (Over (document.IsValue true strict.values)) (never_within (is k.Equals))
    (over_exact never (documents.value true strict.values) (document.IsValue true strict.values) (values_exact.value_exact true strict.values)))))

default_clear : (goes go_on : Mark → Bool) → ((word : Word) → goes (record { kind = k.Equals; word = word }) ≡ false) → Within goes go_on → Clear goes go_on Default
default_clear goes go_on e within = clear_optional goes go_on (is k.Equals) DefaultValue None default_begins (apart_is k.Equals goes e) within

-- ---- descriptions

abbrev Described_ : Rule (Unit {0})
Described_ = Made (λ (t : Lexeme Mark). tt) (Token is_description)

description_begins : BeginsWith is_description Described_
description_begins = begins_made is_description (λ (t : Lexeme Mark). tt) (Token is_description) (token_begins is_description)

has_description : HasMark is_description
has_description = let s = has k.Str in (s.0, to_left (is k.Str) (is k.Block) s.0.kind s.1, s.2)

description_exact : Exact is_description description Description
unfolding description
description_exact = optional_exact IsMarked Unexpected is_description is_description (made (λ (t : Lexeme Mark). tt) (one Unexpected is_description)) Described_ tt description_begins (itself is_description)
    (made_exact IsMarked Unexpected is_description (λ (t : Lexeme Mark). tt) (one Unexpected is_description) (Token is_description) (token_exact is_description is_description has_description))

pub described_exact : {A : Type 0} (goes : Mark → Bool) (p : Reader A) (G : Rule A) → Clear is_description goes G → Exact goes p G → Exact goes (described p) (Described G)
described_exact {A} goes p G clear exact = made_exact IsMarked Unexpected goes (λ (q : Unit {0} × A). q.1) (both description p) (Both Description G)
    (both_exact IsMarked Unexpected is_description goes description Description p G clear description_exact exact)

pub described_begins : {A : Type 0} (test more : Mark → Bool) (G : Rule A) → BeginsWith test G → ((m : Mark) → test m ≡ true → more m ≡ true) → ((m : Mark) → is_description m ≡ true → more m ≡ true) → BeginsWith more (Described G)
described_begins test more G begins plainly described x ts (p, e, (u, v, inl d, g, cut)) = ap (sees more) cut ∙ front u (description_begins p.0 u d)
  where
    front : (u : List (Lexeme Mark)) → sees is_description u ≡ true → sees more (u ++ v) ≡ true
    front [] h = absurd cc
    front (t ∷ u) h = described t.kind h
described_begins test more G begins plainly described x ts (p, e, (u, v, inr d, g, cut)) = ap (sees more) (cut ∙ ap (λ (q : List (Lexeme Mark)). q ++ v) d.1) ∙ sees_more test more plainly v (begins p.1 v g)

names_no_description : Apart named is_description
names_no_description = apart_names (λ (kind : Kind). document.is k.Str kind || document.is k.Block kind)
    (values_exact.apart_name (λ (kind : Kind). document.is k.Str kind || document.is k.Block kind) refl refl refl refl refl refl refl refl refl)

-- what begins with a name is no description
pub name_clear : {A : Type 0} (go_on : Mark → Bool) (G : Rule A) → BeginsWith named G → Clear is_description go_on G
name_clear go_on G begins = clear_begins is_description go_on named G begins names_no_description

item_begins : {A : Type 0} (G : Rule A) → BeginsWith named G → BeginsWith begins_item (Described G)
item_begins G begins = described_begins named begins_item G begins (to_left named is_description) (to_right named is_description)

item_apart : Apart begins_item Long
item_apart = apart_or named is_description Long (apart_names long (values_exact.apart_name long refl refl refl refl refl refl refl refl refl)) (apart_description Long (λ word. refl) (λ word. refl))

-- ---- arguments and input fields

abbrev Typed : Rule (TypeRef × (Option Value × List Directive))
Typed = Both IsType (Both Default Directives)

typed_exact : Exact Long (both type_ref (both default directives)) Typed
typed_exact = both_exact IsMarked Unexpected (is k.Bang) Long type_ref IsType (both default directives) (Both Default Directives)
    (clear_both (is k.Bang) (is k.Bang) Long Default Directives (default_clear (is k.Bang) (is k.Bang) (λ word. refl) (itself (is k.Bang))) (directives_clear (is k.Bang) Long (λ word. refl) (within_is k.Bang long refl)))
    type_exact
    (both_exact IsMarked Unexpected (is k.Equals) Long default Default directives Directives (directives_clear (is k.Equals) Long (λ word. refl) (within_is k.Equals long refl)) default_exact long_directives_exact)

abbrev PlainInput : Rule InputField
PlainInput = Made input_of (Both (Text named) (After (is k.Colon) Typed))

plain_input_begins : BeginsWith named PlainInput
plain_input_begins = begins_made named input_of (Both (Text named) (After (is k.Colon) Typed)) (begins_both named (Text named) (After (is k.Colon) Typed) (begins_text named))

input_exact : Exact Long input IsInput
unfolding input
input_exact = described_exact Long (made input_of (both name (past (is k.Colon) (both type_ref (both default directives))))) PlainInput (name_clear Long PlainInput plain_input_begins)
    (made_exact IsMarked Unexpected Long input_of (both name (past (is k.Colon) (both type_ref (both default directives)))) (Both (Text named) (After (is k.Colon) Typed))
    (named_exact Long (past (is k.Colon) (both type_ref (both default directives))) (After (is k.Colon) Typed) (past_exact Long (is k.Colon) (both type_ref (both default directives)) Typed (has k.Colon) typed_exact)))

-- items in brackets: what goes on is one more, or what lengthens the last
abbrev More : (Mark → Bool) → Mark → Bool
More begins m = begins m || Long m

items_exact : {A : Type 0} (begins : Mark → Bool) (opens closes : Kind) (p : Reader A) (G : Rule A) → BeginsWith begins G → Apart begins Long → ((word : Word) → More begins (record { kind = closes; word = word }) ≡ false) → Exact Long p G
    → (goes : Mark → Bool) → Exact goes (past (is opens) (until (several begins p) closes)) (Enclosed (is opens) (Several G) (is closes))
items_exact begins opens closes p G begin apart shut exact goes = past_exact goes (is opens) (until (several begins p) closes) (Before (Several G) (is closes)) (has opens)
    (until_exact (More begins) goes closes (several begins p) (Several G) (apart_is closes (More begins) shut)
    (several_exact IsMarked Unexpected Long (More begins) begins p G begin apart (within_right begins Long) (within_left begins Long) exact))

input_begins : BeginsWith begins_item IsInput
input_begins = item_begins PlainInput plain_input_begins

inputs_exact : (opens closes : Kind) → ((word : Word) → More begins_item (record { kind = closes; word = word }) ≡ false) → (goes : Mark → Bool)
    → Exact goes (past (is opens) (until (several begins_item input) closes)) (Enclosed (is opens) (Several IsInput) (is closes))
inputs_exact opens closes shut goes = items_exact begins_item opens closes input IsInput input_begins item_apart shut input_exact goes

abbrev Given_ : Rule (List InputField)
Given_ = Enclosed (is k.OpenParen) (Several IsInput) (is k.CloseParen)

arguments_begin : BeginsWith (is k.OpenParen) Given_
arguments_begin = begins_after (is k.OpenParen) (Before (Several IsInput) (is k.CloseParen))

pub arguments_exact : Exact (is k.OpenParen) arguments Arguments
unfolding arguments
arguments_exact = optional_exact IsMarked Unexpected (is k.OpenParen) (is k.OpenParen) (past (is k.OpenParen) (until (several begins_item input) k.CloseParen)) Given_ [] arguments_begin (itself (is k.OpenParen))
    (inputs_exact k.OpenParen k.CloseParen (λ word. refl) (is k.OpenParen))

pub input_fields_exact : Exact never input_fields InputFields
unfolding input_fields
input_fields_exact = inputs_exact k.OpenBrace k.CloseBrace (λ word. refl) never

-- ---- fields

abbrev PlainField : Rule Field
PlainField = Made field_of (Both (Text named) (Both Arguments (After (is k.Colon) (Both IsType Directives))))

plain_field_begins : BeginsWith named PlainField
plain_field_begins = begins_made named field_of (Both (Text named) (Both Arguments (After (is k.Colon) (Both IsType Directives)))) (begins_both named (Text named) (Both Arguments (After (is k.Colon) (Both IsType Directives))) (begins_text named))

field_exact : Exact Long field IsField
unfolding field
field_exact = described_exact Long (made field_of (both name (both arguments (past (is k.Colon) (both type_ref directives))))) PlainField (name_clear Long PlainField plain_field_begins)
    (made_exact IsMarked Unexpected Long field_of (both name (both arguments (past (is k.Colon) (both type_ref directives)))) (Both (Text named) (Both Arguments (After (is k.Colon) (Both IsType Directives))))
    (named_exact Long (both arguments (past (is k.Colon) (both type_ref directives))) (Both Arguments (After (is k.Colon) (Both IsType Directives)))
    (both_exact IsMarked Unexpected (is k.OpenParen) Long arguments Arguments (past (is k.Colon) (both type_ref directives)) (After (is k.Colon) (Both IsType Directives))
    (clear_begins (is k.OpenParen) Long (is k.Colon) (After (is k.Colon) (Both IsType Directives)) (begins_after (is k.Colon) (Both IsType Directives)) (apart_is k.Colon (is k.OpenParen) (λ word. refl)))
    arguments_exact
    (past_exact Long (is k.Colon) (both type_ref directives) (Both IsType Directives) (has k.Colon)
    (both_exact IsMarked Unexpected (is k.Bang) Long type_ref IsType directives Directives (directives_clear (is k.Bang) Long (λ word. refl) (within_is k.Bang long refl)) type_exact long_directives_exact)))))

pub fields_exact : Exact never fields Fields
unfolding fields
fields_exact = items_exact begins_item k.OpenBrace k.CloseBrace field IsField (item_begins PlainField plain_field_begins) item_apart (λ word. refl) field_exact never

-- ---- values of enums

value_names : Kind → Bool
value_names kind = document.is_enum_name kind

apart_values : (goes : Kind → Bool) → Apart is_name goes → Apart is_value (λ m. goes m.kind)
apart_values goes names m h = names m.kind (go m.kind h)
  where
    go : (kind : Kind) → document.is_enum_name kind ≡ true → is_name kind ≡ true
    go k.True h = refl
    go k.False h = refl
    go k.Null h = refl
    go k.Query h = h
    go k.Mutation h = h
    go k.Subscription h = h
    go k.Fragment h = h
    go k.On h = h
    go k.Name h = h
    go _ h = h

abbrev PlainValue : Rule (List ℕ)
PlainValue = Made (λ (p : List ℕ × List Directive). p.0) (Both (Text is_value) Directives)

plain_value_begins : BeginsWith is_value PlainValue
plain_value_begins = begins_made is_value (λ (p : List ℕ × List Directive). p.0) (Both (Text is_value) Directives) (begins_both is_value (Text is_value) Directives (begins_text is_value))

value_exact : Exact Long value IsValue
unfolding value
value_exact = described_exact Long (made (λ (p : List ℕ × List Directive). p.0) (both (text Unexpected is_value) directives)) PlainValue
    (clear_begins is_description Long is_value PlainValue plain_value_begins
    (apart_values (λ (kind : Kind). document.is k.Str kind || document.is k.Block kind) (values_exact.apart_name (λ (kind : Kind). document.is k.Str kind || document.is k.Block kind) refl refl refl refl refl refl refl refl refl)))
    (made_exact IsMarked Unexpected Long (λ (p : List ℕ × List Directive). p.0) (both (text Unexpected is_value) directives) (Both (Text is_value) Directives)
    (both_exact IsMarked Unexpected never Long (text Unexpected is_value) (Text is_value) directives Directives (any_clear Long Directives)
    (text_exact IsMarked Unexpected never is_value (has_by document.is_enum_name k.Name refl)) long_directives_exact))

pub values_exact_ : Exact never values Values
unfolding values
values_exact_ = items_exact begins_value k.OpenBrace k.CloseBrace value IsValue
    (described_begins is_value begins_value PlainValue plain_value_begins (to_left is_value is_description) (to_right is_value is_description))
    (apart_or is_value is_description Long (apart_values long (values_exact.apart_name long refl refl refl refl refl refl refl refl refl)) (apart_description Long (λ word. refl) (λ word. refl)))
    (λ word. refl) value_exact never

-- ---- names with marks between them

abbrev Leading : Kind → Rule (Unit {0})
Leading kind = Made (λ (t : Lexeme Mark). tt) (Token (is kind))

leading_exact : (kind : Kind) → Exact (is kind) (leading kind) (Optional (Leading kind) tt)
unfolding leading
leading_exact kind = optional_exact IsMarked Unexpected (is kind) (is kind) (made (λ (t : Lexeme Mark). tt) (one Unexpected (is kind))) (Leading kind) tt (begins_made (is kind) (λ (t : Lexeme Mark). tt) (Token (is kind)) (token_begins (is kind)))
    (itself (is kind)) (made_exact IsMarked Unexpected (is kind) (λ (t : Lexeme Mark). tt) (one Unexpected (is kind)) (Token (is kind)) (token_exact (is kind) (is kind) (has kind)))

pub joined_exact : (kind : Kind) (test : Mark → Bool) → HasMark test → Apart test (is kind) → Exact (is kind) (joined kind test) (Joined kind test)
unfolding joined
joined_exact kind test h apart = made_exact IsMarked Unexpected (is kind) (λ (p : Unit {0} × (List ℕ × List (List ℕ))). p.1.0 ∷ p.1.1)
    (both (leading kind) (both (text Unexpected test) (many (is kind) (next_name kind test)))) (Both (Optional (Leading kind) tt) (Both (Text test) (Each (After (is kind) (Text test)))))
    (both_exact IsMarked Unexpected (is kind) (is kind) (leading kind) (Optional (Leading kind) tt) (both (text Unexpected test) (many (is kind) (next_name kind test))) (Both (Text test) (Each (After (is kind) (Text test))))
    (clear_begins (is kind) (is kind) test (Both (Text test) (Each (After (is kind) (Text test)))) (begins_both test (Text test) (Each (After (is kind) (Text test))) (begins_text test)) apart)
    (leading_exact kind)
    (both_exact IsMarked Unexpected never (is kind) (text Unexpected test) (Text test) (many (is kind) (next_name kind test)) (Each (After (is kind) (Text test))) (any_clear (is kind) (Each (After (is kind) (Text test))))
    (text_exact IsMarked Unexpected never test h)
    (each_exact IsMarked Unexpected never (is kind) (is kind) (next_name kind test) (After (is kind) (Text test)) (begins_after (is kind) (Text test)) (apart_never (is kind)) (never_within (is kind)) (itself (is kind))
    (past_exact never (is kind) (text Unexpected test) (Text test) (has kind) (text_exact IsMarked Unexpected never test h)))))

-- the interfaces of a type go on with one more, and where there is none with the word
abbrev pub interface_goes : Mark → Bool
interface_goes m = is_word w.Implements m || is k.Amp m

abbrev Interfaces : Rule (List (List ℕ))
Interfaces = After (is_word w.Implements) (Joined k.Amp named)

interfaces_begin : BeginsWith (is_word w.Implements) Interfaces
interfaces_begin = begins_after (is_word w.Implements) (Joined k.Amp named)

pub implements_exact : Exact interface_goes implements Implements
unfolding implements
implements_exact = optional_exact IsMarked Unexpected interface_goes (is_word w.Implements) (past (is_word w.Implements) (joined k.Amp named)) Interfaces [] interfaces_begin (within_left (is_word w.Implements) (is k.Amp))
    (past_exact interface_goes (is_word w.Implements) (joined k.Amp named) (Joined k.Amp named) (has_word w.Implements)
    (lengthened IsMarked Unexpected (is k.Amp) interface_goes (joined k.Amp named) (Joined k.Amp named) (within_right (is_word w.Implements) (is k.Amp))
    (joined_exact k.Amp named has_name (apart_names (document.is k.Amp) (values_exact.apart_name (document.is k.Amp) refl refl refl refl refl refl refl refl refl)))))

pub members_exact : Exact (is k.Bar) members Members
unfolding members
members_exact = past_exact (is k.Bar) (is k.Equals) (joined k.Bar named) (Joined k.Bar named) (has k.Equals)
    (joined_exact k.Bar named has_name (apart_names (document.is k.Bar) (values_exact.apart_name (document.is k.Bar) refl refl refl refl refl refl refl refl refl)))
