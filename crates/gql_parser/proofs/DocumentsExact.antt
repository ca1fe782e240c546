-- Documents are read exactly.
use Rattle.std.proofs.Common.{◌≡◌, ℕ, zero, suc, Bool, true, false, cond, List, [], ◌∷◌, ◌++◌, Option, Some, None, Ok, Err, refl, sym, ap, subst, ◌∙◌, append_assoc, ◌⊎◌, inl, inr}
use Rattle.std.specs.Prelude.{◌||◌, not}
use Rattle.std.proofs.lemmas.Bool.{or_parts, or_from}
use Rattle.token_read.specs.Lexeme.{Lexeme}
use Rattle.token_read.specs.Parse.{bind, pure, refuse, one, sees, choose, many}
use Rattle.token_read.specs.Exact.{Stops, Token, Nothing, Either, Each, IsExact}
use Rattle.token_read.specs.Productions.{Grammar, Text, After, Before, Enclosed, Both, Made, Optional, Several, text, after, before, both, made, optional, several}
use Rattle.token_read.proofs.Exact.{choose_is_exact, barred_is_exact, pure_is_exact, retyped, one_is_exact}
use Rattle.token_read.proofs.Productions.{BeginsWith, Clear, Apart, Within, never, never_stops, stops_within, clear_begins, clear_optional, clear_each, clear_both, clear_made, begins_after, begins_both, begins_made, begins_text, Has, lengthened, made_exact, text_exact, after_exact, before_exact, enclosed_exact, both_exact, optional_exact, each_exact, several_exact}
use Rattle.gql_tokens.specs.declared.kinds.Kind.{Kind}
use Rattle.gql_tokens.specs.declared.kinds.Kind.TheVariants as k
use Rattle.gql_tokens.specs.KindTests.{same_kind, is_name, is_fragment_name}
use Rattle.gql_tokens.specs.Lexical.{IsReal}
use Rattle.gql_tokens.proofs.Samples.{same_is}
use Rattle.gql_terms.specs.declared.documents.Value.{Value}
use Rattle.gql_terms.specs.declared.documents.TypeRef.{TypeRef}
use Rattle.gql_terms.specs.declared.documents.TypeRef.TheVariants as of
use Rattle.gql_terms.specs.declared.documents.Directive.{Directive}
use Rattle.gql_terms.specs.declared.documents.Selection.{Selection}
use Rattle.gql_terms.specs.declared.documents.VarDef.{VarDef}
use Rattle.gql_terms.specs.declared.documents.OpKind.{OpKind}
use Rattle.gql_terms.specs.declared.documents.Operation.{Operation}
use Rattle.gql_terms.specs.declared.documents.Fragment.{Fragment}
use Rattle.gql_terms.specs.declared.documents.Document.{Document}
use Rattle.gql_terms.specs.declared.faults.Refusal.{Refusal}
use Rattle.gql_terms.specs.declared.faults.Refusal.TheVariants.{Unexpected, Deep}
use Rattle.gql_terms.specs.Grammar.{Rules, Rule, is, IsValue, Pair, Arguments, directive_of, IsDirective, Directives, marked, Marked, Named, ListType, IsType, Default, variable_of, IsVariable, Variables, named, AliasAndName, field_of, IsField, spread_of, IsSpread, Condition, inline_of, IsInline, IsSelection, Gap, IsSet, is_operation, operation_kind, OperationType, shorthand_of, operation_of, IsOperation, fragment_of, IsFragment, Definition, operation, fragment, IsDefinition, document_of, IsDocument}
use Rattle.gql_parser.specs.Reading.{Reader, token, past, until, name, value, pair, arguments, directive, directives, mark, named_type, list_type, unmarked, type_ref, default, variable_definition, variables, alias_and_name, field, spread, condition, may_condition, inline, begins_selection, begins_set, selection, gap, braced, set, operation_type, may_name, operation_definition, fragment_definition, definition, begins_definition, document}
use Rattle.gql_parser.proofs.ValuesExact.{Exact, has, has_by, apart_is, apart_name, apart_never, never_within, itself, past_exact, until_exact, name_exact, pair_exact, pair_begins, value_exact}

-- ---- what lengthens which production

-- directives: one more, or the arguments of the last
lengthens_directives : Kind → Bool
lengthens_directives kind = is k.OpenParen kind || is k.At kind

paren_within : Within (is k.OpenParen) lengthens_directives
unfolding lengthens_directives
paren_within kind h = (or_parts (is k.OpenParen kind) (is k.At kind) h).0

at_within : Within (is k.At) lengthens_directives
unfolding lengthens_directives
at_within kind h = (or_parts (is k.OpenParen kind) (is k.At kind) h).1

-- everything that lengthens some production
abbrev lengthens : Kind → Bool
lengthens kind = is k.Bang kind || (is k.Equals kind || (is k.Colon kind || (begins_set kind || lengthens_directives kind)))

bang_in : Within (is k.Bang) lengthens
bang_in kind h = (or_parts (is k.Bang kind) (is k.Equals kind || (is k.Colon kind || (begins_set kind || lengthens_directives kind))) h).0

equals_in : Within (is k.Equals) lengthens
equals_in kind h = (or_parts (is k.Equals kind) (is k.Colon kind || (begins_set kind || lengthens_directives kind)) (or_parts (is k.Bang kind) (is k.Equals kind || (is k.Colon kind || (begins_set kind || lengthens_directives kind))) h).1).0

last_in : (kind : Kind) → lengthens kind ≡ false → (is k.Colon kind || (begins_set kind || lengthens_directives kind)) ≡ false
last_in kind h = (or_parts (is k.Equals kind) (is k.Colon kind || (begins_set kind || lengthens_directives kind)) (or_parts (is k.Bang kind) (is k.Equals kind || (is k.Colon kind || (begins_set kind || lengthens_directives kind))) h).1).1

colon_in : Within (is k.Colon) lengthens
colon_in kind h = (or_parts (is k.Colon kind) (begins_set kind || lengthens_directives kind) (last_in kind h)).0

brace_in : Within begins_set lengthens
brace_in kind h = (or_parts (begins_set kind) (lengthens_directives kind) (or_parts (is k.Colon kind) (begins_set kind || lengthens_directives kind) (last_in kind h)).1).0

directives_in : Within lengthens_directives lengthens
directives_in kind h = (or_parts (begins_set kind) (lengthens_directives kind) (or_parts (is k.Colon kind) (begins_set kind || lengthens_directives kind) (last_in kind h)).1).1

paren_in : Within (is k.OpenParen) lengthens
paren_in kind h = paren_within kind (directives_in kind h)

at_in : Within (is k.At) lengthens
at_in kind h = at_within kind (directives_in kind h)

-- ---- arguments and directives

arguments_begin : (r : Rules) → BeginsWith (is k.OpenParen) (Enclosed (is k.OpenParen) (Several (Pair (IsValue false r.values))) (is k.CloseParen))
arguments_begin r = begins_after (is k.OpenParen) (Before (Several (Pair (IsValue false r.values))) (is k.CloseParen))

arguments_exact : (r : Rules) → Exact (is k.OpenParen) (arguments r) (Arguments r)
unfolding arguments
arguments_exact r = optional_exact IsReal Unexpected (is k.OpenParen) (is k.OpenParen) (past k.OpenParen (until (several is_name (pair (value false r.values))) k.CloseParen))
    (Enclosed (is k.OpenParen) (Several (Pair (IsValue false r.values))) (is k.CloseParen)) [] (arguments_begin r) (itself (is k.OpenParen))
    (past_exact (is k.OpenParen) k.OpenParen (until (several is_name (pair (value false r.values))) k.CloseParen) (Before (Several (Pair (IsValue false r.values))) (is k.CloseParen))
    (until_exact is_name (is k.OpenParen) k.CloseParen (several is_name (pair (value false r.values))) (Several (Pair (IsValue false r.values))) refl
    (several_exact IsReal Unexpected never is_name is_name (pair (value false r.values)) (Pair (IsValue false r.values)) (pair_begins (IsValue false r.values)) (apart_never is_name) (never_within is_name) (itself is_name)
    (pair_exact never (value false r.values) (IsValue false r.values) (value_exact false r.values)))))

arguments_clear : (r : Rules) (goes go_on : Kind → Bool) → goes k.OpenParen ≡ false → Within goes go_on → Clear goes go_on (Arguments r)
arguments_clear r goes go_on e within = clear_optional goes go_on (is k.OpenParen) (Enclosed (is k.OpenParen) (Several (Pair (IsValue false r.values))) (is k.CloseParen)) [] (arguments_begin r) (apart_is k.OpenParen goes e) within

directive_exact : (r : Rules) → Exact (is k.OpenParen) (directive r) (IsDirective r)
unfolding directive
directive_exact r = made_exact IsReal Unexpected (is k.OpenParen) directive_of (past k.At (both name (arguments r))) (After (is k.At) (Both (Text is_name) (Arguments r)))
    (past_exact (is k.OpenParen) k.At (both name (arguments r)) (Both (Text is_name) (Arguments r))
    (both_exact IsReal Unexpected never (is k.OpenParen) name (Text is_name) (arguments r) (Arguments r) (λ a w rest g ends. never_stops (w ++ rest)) (name_exact never) (arguments_exact r)))

directive_begins : (r : Rules) → BeginsWith (is k.At) (IsDirective r)
directive_begins r = begins_made (is k.At) directive_of (After (is k.At) (Both (Text is_name) (Arguments r))) (begins_after (is k.At) (Both (Text is_name) (Arguments r)))

directives_exact : (r : Rules) → Exact lengthens_directives (directives r) (Directives r)
unfolding directives
directives_exact r = each_exact IsReal Unexpected (is k.OpenParen) lengthens_directives (is k.At) (directive r) (IsDirective r) (directive_begins r) (apart_is k.At (is k.OpenParen) refl) paren_within at_within (directive_exact r)

directives_clear : (r : Rules) (goes go_on : Kind → Bool) → goes k.At ≡ false → Within goes go_on → Clear goes go_on (Directives r)
directives_clear r goes go_on e within = clear_each goes go_on (is k.At) (IsDirective r) (directive_begins r) (apart_is k.At goes e) within

-- ---- types

token_exact : (goes test : Kind → Bool) → Has {R = Refusal} IsReal Unexpected test → Exact goes (one Unexpected test) (Token test)
token_exact goes test h = one_is_exact IsReal Unexpected goes test h.0 h.1 h.2

abbrev Bang_ : Rule Bool
Bang_ = Made (λ (t : Lexeme Kind). true) (Token (is k.Bang))

token_begins : (test : Kind → Bool) → BeginsWith test (Token test)
token_begins test t ts g = ap (sees test) g.1 ∙ g.0

mark_exact : (p : Reader TypeRef) (G : Rule TypeRef) → Exact never p G → Exact (is k.Bang) (mark p) (Marked G)
mark_exact p G exact = made_exact IsReal Unexpected (is k.Bang) marked (both p (optional (is k.Bang) (made (λ (t : Lexeme Kind). true) (token k.Bang)) false)) (Both G (Optional Bang_ false))
    (both_exact IsReal Unexpected never (is k.Bang) p G (optional (is k.Bang) (made (λ (t : Lexeme Kind). true) (token k.Bang)) false) (Optional Bang_ false) (λ a w rest g ends. never_stops (w ++ rest)) exact
    (optional_exact IsReal Unexpected (is k.Bang) (is k.Bang) (made (λ (t : Lexeme Kind). true) (token k.Bang)) Bang_ false (begins_made (is k.Bang) (λ (t : Lexeme Kind). true) (Token (is k.Bang)) (token_begins (is k.Bang))) (itself (is k.Bang))
    (made_exact IsReal Unexpected (is k.Bang) (λ (t : Lexeme Kind). true) (token k.Bang) (Token (is k.Bang)) (token_exact (is k.Bang) (is k.Bang) (has k.Bang)))))

named_exact : (goes : Kind → Bool) → Exact goes named_type Named
named_exact goes = made_exact IsReal Unexpected goes of.Named name (Text is_name) (name_exact goes)

named_clear : (go_on : Kind → Bool) → Clear (is k.OpenBracket) go_on Named
named_clear go_on = clear_begins (is k.OpenBracket) go_on is_name Named (begins_made is_name of.Named (Text is_name) (begins_text is_name)) (apart_name (is k.OpenBracket) refl refl refl refl refl refl refl refl refl)

pub list_type_begins : (room : ℕ) → BeginsWith (is k.OpenBracket) (ListType (IsType room))
list_type_begins room = begins_made (is k.OpenBracket) of.ListOf (Enclosed (is k.OpenBracket) (IsType room) (is k.CloseBracket)) (begins_after (is k.OpenBracket) (Before (IsType room) (is k.CloseBracket)))

list_type_by : (room : ℕ) → Exact (is k.Bang) (type_ref room) (IsType room) → Exact never (list_type (type_ref room)) (ListType (IsType room))
list_type_by room exact = made_exact IsReal Unexpected never of.ListOf (past k.OpenBracket (until (type_ref room) k.CloseBracket)) (Enclosed (is k.OpenBracket) (IsType room) (is k.CloseBracket))
    (past_exact never k.OpenBracket (until (type_ref room) k.CloseBracket) (Before (IsType room) (is k.CloseBracket)) (until_exact (is k.Bang) never k.CloseBracket (type_ref room) (IsType room) refl exact))

pub type_exact : (room : ℕ) → Exact (is k.Bang) (type_ref room) (IsType room)
unfolding unmarked IsType
type_exact zero = mark_exact (choose (is k.OpenBracket) (refuse Deep) named_type) Named (barred_is_exact IsReal never (is k.OpenBracket) Deep named_type Named (named_exact never) (named_clear never))
type_exact (suc room) = mark_exact (choose (is k.OpenBracket) (list_type (type_ref room)) named_type) (Either (ListType (IsType room)) Named)
    (choose_is_exact IsReal never (is k.OpenBracket) (list_type (type_ref room)) named_type (ListType (IsType room)) Named (list_type_by room (type_exact room)) (named_exact never) (list_type_begins room) (named_clear never))

pub list_type_exact : (room : ℕ) → Exact never (list_type (type_ref room)) (ListType (IsType room))
list_type_exact room = list_type_by room (type_exact room)

-- ---- variable definitions

abbrev Given : Rules → Rule (Option Value)
Given r = Made (λ (x : Value). Some x) (After (is k.Equals) (IsValue true r.values))

given_begins : (r : Rules) → BeginsWith (is k.Equals) (Given r)
given_begins r = begins_made (is k.Equals) (λ (x : Value). Some x) (After (is k.Equals) (IsValue true r.values)) (begins_after (is k.Equals) (IsValue true r.values))

default_exact : (r : Rules) → Exact (is k.Equals) (default r) (Default r)
unfolding default
default_exact r = optional_exact IsReal Unexpected (is k.Equals) (is k.Equals) (made (λ (x : Value). Some x) (past k.Equals (value true r.values))) (Given r) None (given_begins r) (itself (is k.Equals))
    (made_exact IsReal Unexpected (is k.Equals) (λ (x : Value). Some x) (past k.Equals (value true r.values)) (After (is k.Equals) (IsValue true r.values))
    (past_exact (is k.Equals) k.Equals (value true r.values) (IsValue true r.values) (lengthened IsReal Unexpected never (is k.Equals) (value true r.values) (IsValue true r.values) (never_within (is k.Equals)) (value_exact true r.values))))

default_clear : (r : Rules) (goes go_on : Kind → Bool) → goes k.Equals ≡ false → Within goes go_on → Clear goes go_on (Default r)
default_clear r goes go_on e within = clear_optional goes go_on (is k.Equals) (Given r) None (given_begins r) (apart_is k.Equals goes e) within

all_directives : (r : Rules) → Exact lengthens (directives r) (Directives r)
all_directives r = lengthened IsReal Unexpected lengthens_directives lengthens (directives r) (Directives r) directives_in (directives_exact r)

variable_exact : (r : Rules) → Exact lengthens (variable_definition r) (IsVariable r)
unfolding variable_definition
variable_exact r = made_exact IsReal Unexpected lengthens variable_of (past k.Dollar (both name (past k.Colon (both (type_ref r.types) (both (default r) (directives r))))))
    (After (is k.Dollar) (Both (Text is_name) (After (is k.Colon) (Both (IsType r.types) (Both (Default r) (Directives r))))))
    (past_exact lengthens k.Dollar (both name (past k.Colon (both (type_ref r.types) (both (default r) (directives r))))) (Both (Text is_name) (After (is k.Colon) (Both (IsType r.types) (Both (Default r) (Directives r)))))
    (both_exact IsReal Unexpected never lengthens name (Text is_name) (past k.Colon (both (type_ref r.types) (both (default r) (directives r)))) (After (is k.Colon) (Both (IsType r.types) (Both (Default r) (Directives r))))
    (λ a w rest g ends. never_stops (w ++ rest)) (name_exact never)
    (past_exact lengthens k.Colon (both (type_ref r.types) (both (default r) (directives r))) (Both (IsType r.types) (Both (Default r) (Directives r)))
    (both_exact IsReal Unexpected (is k.Bang) lengthens (type_ref r.types) (IsType r.types) (both (default r) (directives r)) (Both (Default r) (Directives r))
    (clear_both (is k.Bang) (is k.Bang) lengthens (Default r) (Directives r) (default_clear r (is k.Bang) (is k.Bang) refl (itself (is k.Bang))) (directives_clear r (is k.Bang) lengthens refl bang_in))
    (type_exact r.types)
    (both_exact IsReal Unexpected (is k.Equals) lengthens (default r) (Default r) (directives r) (Directives r) (directives_clear r (is k.Equals) lengthens refl equals_in) (default_exact r) (all_directives r))))))

variable_begins : (r : Rules) → BeginsWith (is k.Dollar) (IsVariable r)
variable_begins r = begins_made (is k.Dollar) variable_of (After (is k.Dollar) (Both (Text is_name) (After (is k.Colon) (Both (IsType r.types) (Both (Default r) (Directives r))))))
    (begins_after (is k.Dollar) (Both (Text is_name) (After (is k.Colon) (Both (IsType r.types) (Both (Default r) (Directives r))))))

-- what goes on with definitions of variables
more_variables : Kind → Bool
more_variables kind = is k.Dollar kind || lengthens kind

variables_begin : (r : Rules) → BeginsWith (is k.OpenParen) (Enclosed (is k.OpenParen) (Several (IsVariable r)) (is k.CloseParen))
variables_begin r = begins_after (is k.OpenParen) (Before (Several (IsVariable r)) (is k.CloseParen))

variables_exact : (r : Rules) → Exact (is k.OpenParen) (variables r) (Variables r)
unfolding variables more_variables lengthens_directives
variables_exact r = optional_exact IsReal Unexpected (is k.OpenParen) (is k.OpenParen) (past k.OpenParen (until (several (is k.Dollar) (variable_definition r)) k.CloseParen)) (Enclosed (is k.OpenParen) (Several (IsVariable r)) (is k.CloseParen)) []
    (variables_begin r) (itself (is k.OpenParen))
    (past_exact (is k.OpenParen) k.OpenParen (until (several (is k.Dollar) (variable_definition r)) k.CloseParen) (Before (Several (IsVariable r)) (is k.CloseParen))
    (until_exact more_variables (is k.OpenParen) k.CloseParen (several (is k.Dollar) (variable_definition r)) (Several (IsVariable r)) refl
    (several_exact IsReal Unexpected lengthens more_variables (is k.Dollar) (variable_definition r) (IsVariable r) (variable_begins r) (apart_is k.Dollar lengthens refl) (λ kind h. (or_parts (is k.Dollar kind) (lengthens kind) h).1) (λ kind h. (or_parts (is k.Dollar kind) (lengthens kind) h).0) (variable_exact r))))

variables_clear : (r : Rules) (goes go_on : Kind → Bool) → goes k.OpenParen ≡ false → Within goes go_on → Clear goes go_on (Variables r)
variables_clear r goes go_on e within = clear_optional goes go_on (is k.OpenParen) (Enclosed (is k.OpenParen) (Several (IsVariable r)) (is k.CloseParen)) [] (variables_begin r) (apart_is k.OpenParen goes e) within

-- ---- fields, spreads and inline fragments

abbrev SecondName : Rule (Option (List ℕ))
SecondName = Made (λ (n : List ℕ). Some n) (After (is k.Colon) (Text is_name))

alias_exact : Exact (is k.Colon) alias_and_name AliasAndName
unfolding alias_and_name
alias_exact = made_exact IsReal Unexpected (is k.Colon) named (both name (optional (is k.Colon) (made (λ (n : List ℕ). Some n) (past k.Colon name)) None)) (Both (Text is_name) (Optional SecondName None))
    (both_exact IsReal Unexpected never (is k.Colon) name (Text is_name) (optional (is k.Colon) (made (λ (n : List ℕ). Some n) (past k.Colon name)) None) (Optional SecondName None) (λ a w rest g ends. never_stops (w ++ rest)) (name_exact never)
    (optional_exact IsReal Unexpected (is k.Colon) (is k.Colon) (made (λ (n : List ℕ). Some n) (past k.Colon name)) SecondName None (begins_made (is k.Colon) (λ (n : List ℕ). Some n) (After (is k.Colon) (Text is_name)) (begins_after (is k.Colon) (Text is_name))) (itself (is k.Colon))
    (made_exact IsReal Unexpected (is k.Colon) (λ (n : List ℕ). Some n) (past k.Colon name) (After (is k.Colon) (Text is_name)) (past_exact (is k.Colon) k.Colon name (Text is_name) (name_exact (is k.Colon))))))

module _ (r : Rules) (may : Reader (List Selection)) (May : Rule (List Selection)) (may_exact : Exact lengthens may May)
    (may_clear : (goes : Kind → Bool) → goes k.OpenBrace ≡ false → goes k.Gap ≡ false → Within goes lengthens → Clear goes lengthens May) where
  field_exact : Exact lengthens (field r may) (IsField r May)
  unfolding lengthens_directives
  field_exact = made_exact IsReal Unexpected lengthens field_of (both alias_and_name (both (arguments r) (both (directives r) may))) (Both AliasAndName (Both (Arguments r) (Both (Directives r) May)))
      (both_exact IsReal Unexpected (is k.Colon) lengthens alias_and_name AliasAndName (both (arguments r) (both (directives r) may)) (Both (Arguments r) (Both (Directives r) May))
      (clear_both (is k.Colon) (is k.Colon) lengthens (Arguments r) (Both (Directives r) May) (arguments_clear r (is k.Colon) (is k.Colon) refl (itself (is k.Colon)))
      (clear_both (is k.Colon) (is k.Colon) lengthens (Directives r) May (directives_clear r (is k.Colon) (is k.Colon) refl (itself (is k.Colon))) (may_clear (is k.Colon) refl refl colon_in)))
      alias_exact
      (both_exact IsReal Unexpected (is k.OpenParen) lengthens (arguments r) (Arguments r) (both (directives r) may) (Both (Directives r) May)
      (clear_both (is k.OpenParen) (is k.OpenParen) lengthens (Directives r) May (directives_clear r (is k.OpenParen) (is k.OpenParen) refl (itself (is k.OpenParen))) (may_clear (is k.OpenParen) refl refl paren_in))
      (arguments_exact r)
      (both_exact IsReal Unexpected lengthens_directives lengthens (directives r) (Directives r) may May (may_clear lengthens_directives refl refl directives_in) (directives_exact r) may_exact)))

  field_begins : BeginsWith is_name (IsField r May)
  field_begins = begins_made is_name field_of (Both AliasAndName (Both (Arguments r) (Both (Directives r) May))) (begins_both is_name AliasAndName (Both (Arguments r) (Both (Directives r) May))
      (begins_made is_name named (Both (Text is_name) (Optional SecondName None)) (begins_both is_name (Text is_name) (Optional SecondName None) (begins_text is_name))))

spread_exact : (r : Rules) → Exact lengthens (spread r) (IsSpread r)
spread_exact r = made_exact IsReal Unexpected lengthens spread_of (both (text Unexpected is_fragment_name) (directives r)) (Both (Text is_fragment_name) (Directives r))
    (both_exact IsReal Unexpected never lengthens (text Unexpected is_fragment_name) (Text is_fragment_name) (directives r) (Directives r) (λ a w rest g ends. never_stops (w ++ rest))
    (text_exact IsReal Unexpected never is_fragment_name (has_by is_fragment_name k.Name refl)) (all_directives r))

abbrev OnType : Rule (Option (List ℕ))
OnType = Made (λ (n : List ℕ). Some n) Condition

on_begins : BeginsWith (is k.On) OnType
on_begins = begins_made (is k.On) (λ (n : List ℕ). Some n) Condition (begins_after (is k.On) (Text is_name))

condition_exact : (goes : Kind → Bool) → Exact goes condition Condition
condition_exact goes = past_exact goes k.On name (Text is_name) (name_exact goes)

may_condition_exact : Exact (is k.On) may_condition (Optional OnType None)
unfolding may_condition
may_condition_exact = optional_exact IsReal Unexpected (is k.On) (is k.On) (made (λ (n : List ℕ). Some n) condition) OnType None on_begins (itself (is k.On))
    (made_exact IsReal Unexpected (is k.On) (λ (n : List ℕ). Some n) condition Condition (condition_exact (is k.On)))

opens_apart : (goes : Kind → Bool) → goes k.OpenBrace ≡ false → goes k.Gap ≡ false → Apart begins_set goes
opens_apart goes a b k.OpenBrace h = a
opens_apart goes a b k.Gap h = b
opens_apart goes a b _ h = absurd cc

module _ (r : Rules) (set : Reader (List Selection)) (Set : Rule (List Selection)) (set_exact : Exact never set Set) (set_begins : BeginsWith begins_set Set) where
  set_clear : (goes go_on : Kind → Bool) → goes k.OpenBrace ≡ false → goes k.Gap ≡ false → Clear goes go_on Set
  set_clear goes go_on a b = clear_begins goes go_on begins_set Set set_begins (opens_apart goes a b)

  inline_exact : Exact never (inline r set) (IsInline r Set)
  unfolding lengthens_directives
  inline_exact = made_exact IsReal Unexpected never inline_of (both may_condition (both (directives r) set)) (Both (Optional OnType None) (Both (Directives r) Set))
      (both_exact IsReal Unexpected (is k.On) never may_condition (Optional OnType None) (both (directives r) set) (Both (Directives r) Set)
      (clear_both (is k.On) (is k.On) never (Directives r) Set (directives_clear r (is k.On) (is k.On) refl (itself (is k.On))) (set_clear (is k.On) never refl refl))
      may_condition_exact
      (both_exact IsReal Unexpected lengthens_directives never (directives r) (Directives r) set Set (set_clear lengthens_directives never refl refl) (directives_exact r) set_exact))

  inline_clear : (goes go_on : Kind → Bool) → goes k.On ≡ false → goes k.At ≡ false → goes k.OpenBrace ≡ false → goes k.Gap ≡ false → Clear goes go_on (IsInline r Set)
  inline_clear goes go_on a b c d = clear_made goes go_on inline_of (Both (Optional OnType None) (Both (Directives r) Set)) (clear_both goes goes go_on (Optional OnType None) (Both (Directives r) Set)
      (clear_optional goes goes (is k.On) OnType None on_begins (apart_is k.On goes a) (itself goes))
      (clear_both goes goes go_on (Directives r) Set (directives_clear r goes goes b (itself goes)) (set_clear goes go_on c d)))

  abbrev Dotted : Rule Selection
  Dotted = After (is k.Dots) (Either (IsSpread r) (IsInline r Set))

  may_exact : Exact lengthens (optional begins_set set []) (Optional Set [])
  may_exact = optional_exact IsReal Unexpected lengthens begins_set set Set [] set_begins brace_in (lengthened IsReal Unexpected never lengthens set Set (never_within lengthens) set_exact)

  may_clear : (goes : Kind → Bool) → goes k.OpenBrace ≡ false → goes k.Gap ≡ false → Within goes lengthens → Clear goes lengthens (Optional Set [])
  may_clear goes a b within = clear_optional goes lengthens begins_set Set [] set_begins (opens_apart goes a b) within

  selection_exact : Exact lengthens (selection r set) (IsSelection r Set)
  selection_exact = choose_is_exact IsReal lengthens is_name (field r (optional begins_set set [])) (past k.Dots (choose is_fragment_name (spread r) (inline r set))) (IsField r (Optional Set [])) Dotted
      (field_exact r (optional begins_set set []) (Optional Set []) may_exact may_clear)
      (past_exact lengthens k.Dots (choose is_fragment_name (spread r) (inline r set)) (Either (IsSpread r) (IsInline r Set))
      (choose_is_exact IsReal lengthens is_fragment_name (spread r) (inline r set) (IsSpread r) (IsInline r Set) (spread_exact r)
      (lengthened IsReal Unexpected never lengthens (inline r set) (IsInline r Set) (never_within lengthens) inline_exact)
      (begins_made is_fragment_name spread_of (Both (Text is_fragment_name) (Directives r)) (begins_both is_fragment_name (Text is_fragment_name) (Directives r) (begins_text is_fragment_name)))
      (inline_clear is_fragment_name lengthens refl refl refl refl)))
      (field_begins r (optional begins_set set []) (Optional Set []) may_exact may_clear)
      (clear_begins is_name lengthens (is k.Dots) Dotted (begins_after (is k.Dots) (Either (IsSpread r) (IsInline r Set))) (apart_is k.Dots is_name refl))

  name_selects : (kind : Kind) → is_name kind ≡ true → begins_selection kind ≡ true
  name_selects k.Dots h = refl
  name_selects k.Query h = h
  name_selects k.Mutation h = h
  name_selects k.Subscription h = h
  name_selects k.Fragment h = h
  name_selects k.On h = h
  name_selects k.True h = h
  name_selects k.False h = h
  name_selects k.Null h = h
  name_selects k.Name h = h
  name_selects _ h = absurd cc

  names_select : (ts : List (Lexeme Kind)) → sees is_name ts ≡ true → sees begins_selection ts ≡ true
  names_select [] h = absurd cc
  names_select (t ∷ ts) h = name_selects t.kind h

  selection_begins : BeginsWith begins_selection (IsSelection r Set)
  selection_begins x ts (inl g) = names_select ts (field_begins r (optional begins_set set []) (Optional Set []) may_exact may_clear x ts g)
  selection_begins x ts (inr g) = ap (sees begins_selection) g.4 ∙ subst (λ (q : Kind). begins_selection q ≡ true) (same_is k.Dots g.0.kind g.2) refl

-- ---- selection sets

gap_begins : BeginsWith (is k.Gap) Gap
gap_begins = begins_made (is k.Gap) (λ (t : Lexeme Kind). []) (Token (is k.Gap)) (token_begins (is k.Gap))

gap_exact : Exact never gap Gap
gap_exact = made_exact IsReal Unexpected never (λ (t : Lexeme Kind). []) (token k.Gap) (Token (is k.Gap)) (token_exact never (is k.Gap) (has k.Gap))

gap_clear : Clear (is k.OpenBrace) never Gap
gap_clear = clear_begins (is k.OpenBrace) never (is k.Gap) Gap gap_begins (apart_is k.Gap (is k.OpenBrace) refl)

abbrev pub Braced : Rules → Rule (List Selection) → Rule (List Selection)
Braced r Set = Enclosed (is k.OpenBrace) (Several (IsSelection r Set)) (is k.CloseBrace)

pub braced_begins : (r : Rules) (Set : Rule (List Selection)) → BeginsWith (is k.OpenBrace) (Braced r Set)
braced_begins r Set = begins_after (is k.OpenBrace) (Before (Several (IsSelection r Set)) (is k.CloseBrace))

first_opens : (kind : Kind) → begins_set kind ≡ true → (ts : List (Lexeme Kind)) → sees (is kind) ts ≡ true → sees begins_set ts ≡ true
first_opens kind e [] h = absurd cc
first_opens kind e (t ∷ ts) h = subst (λ (q : Kind). begins_set q ≡ true) (same_is kind t.kind h) e

pub set_begins : (r : Rules) (room : ℕ) → BeginsWith begins_set (IsSet r room)
unfolding IsSet
set_begins r zero x ts g = first_opens k.Gap refl ts (gap_begins x ts g)
set_begins r (suc room) x ts (inl g) = first_opens k.OpenBrace refl ts (braced_begins r (IsSet r room) x ts g)
set_begins r (suc room) x ts (inr g) = first_opens k.Gap refl ts (gap_begins x ts g)

selects : Kind → Bool
selects kind = begins_selection kind || lengthens kind

selection_apart : Apart begins_selection lengthens
unfolding lengthens_directives
selection_apart k.Dots h = refl
selection_apart k.Query h = refl
selection_apart k.Mutation h = refl
selection_apart k.Subscription h = refl
selection_apart k.Fragment h = refl
selection_apart k.On h = refl
selection_apart k.True h = refl
selection_apart k.False h = refl
selection_apart k.Null h = refl
selection_apart k.Name h = refl
selection_apart _ h = absurd cc

pub braced_exact : (r : Rules) (set : Reader (List Selection)) (Set : Rule (List Selection)) → Exact never set Set → BeginsWith begins_set Set → Exact never (braced r set) (Braced r Set)
unfolding selects lengthens_directives
braced_exact r set Set exact begins = past_exact never k.OpenBrace (until (several begins_selection (selection r set)) k.CloseBrace) (Before (Several (IsSelection r Set)) (is k.CloseBrace))
    (until_exact selects never k.CloseBrace (several begins_selection (selection r set)) (Several (IsSelection r Set)) refl
    (several_exact IsReal Unexpected lengthens selects begins_selection (selection r set) (IsSelection r Set) (selection_begins r set Set exact begins)
    selection_apart (λ kind h. (or_parts (begins_selection kind) (lengthens kind) h).1) (λ kind h. (or_parts (begins_selection kind) (lengthens kind) h).0)
    (selection_exact r set Set exact begins)))

pub set_exact : (r : Rules) (room : ℕ) → Exact never (set r room) (IsSet r room)
unfolding set IsSet
set_exact r zero = barred_is_exact IsReal never (is k.OpenBrace) Deep gap Gap gap_exact gap_clear
set_exact r (suc room) = choose_is_exact IsReal never (is k.OpenBrace) (braced r (set r room)) gap (Braced r (IsSet r room)) Gap
    (braced_exact r (set r room) (IsSet r room) (set_exact r room) (set_begins r room)) gap_exact (braced_begins r (IsSet r room)) gap_clear

-- ---- definitions

abbrev MayName : Rule (Option (List ℕ))
MayName = Optional (Made (λ (n : List ℕ). Some n) (Text is_name)) None

may_name_exact : Exact is_name may_name MayName
unfolding may_name
may_name_exact = optional_exact IsReal Unexpected is_name is_name (made (λ (n : List ℕ). Some n) name) (Made (λ (n : List ℕ). Some n) (Text is_name)) None
    (begins_made is_name (λ (n : List ℕ). Some n) (Text is_name) (begins_text is_name)) (itself is_name) (made_exact IsReal Unexpected is_name (λ (n : List ℕ). Some n) name (Text is_name) (name_exact is_name))

operation_type_exact : Exact never operation_type OperationType
operation_type_exact = made_exact IsReal Unexpected never (λ (t : Lexeme Kind). operation_kind t.kind) (one Unexpected is_operation) (Token is_operation) (token_exact never is_operation (has_by is_operation k.Query refl))

operation_apart : (goes : Kind → Bool) → goes k.Query ≡ false → goes k.Mutation ≡ false → goes k.Subscription ≡ false → Apart is_operation goes
operation_apart goes a b c k.Query h = a
operation_apart goes a b c k.Mutation h = b
operation_apart goes a b c k.Subscription h = c
operation_apart goes a b c _ h = absurd cc

module _ (r : Rules) where
  abbrev WithKeyword : Rule (OpKind × (Option (List ℕ) × (List VarDef × (List Directive × List Selection))))
  WithKeyword = Both OperationType (Both MayName (Both (Variables r) (Both (Directives r) (IsSet r r.sets))))

  abbrev BodySet : Rule (List Directive × List Selection)
  BodySet = Both (Directives r) (IsSet r r.sets)

  root_clear : (goes : Kind → Bool) → goes k.OpenBrace ≡ false → goes k.Gap ≡ false → Clear goes never (IsSet r r.sets)
  root_clear goes a b = set_clear r (set r r.sets) (IsSet r r.sets) (set_exact r r.sets) (set_begins r r.sets) goes never a b

  body_exact : Exact never (both (directives r) (set r r.sets)) BodySet
  unfolding lengthens_directives
  body_exact = both_exact IsReal Unexpected lengthens_directives never (directives r) (Directives r) (set r r.sets) (IsSet r r.sets) (root_clear lengthens_directives refl refl) (directives_exact r) (set_exact r r.sets)

  body_clear : (goes : Kind → Bool) → goes k.At ≡ false → goes k.OpenBrace ≡ false → goes k.Gap ≡ false → Clear goes never BodySet
  body_clear goes a b c = clear_both goes goes never (Directives r) (IsSet r r.sets) (directives_clear r goes goes a (itself goes)) (root_clear goes b c)

  keyword_exact : Exact never (both operation_type (both may_name (both (variables r) (both (directives r) (set r r.sets))))) WithKeyword
  keyword_exact = both_exact IsReal Unexpected never never operation_type OperationType (both may_name (both (variables r) (both (directives r) (set r r.sets)))) (Both MayName (Both (Variables r) BodySet))
      (λ a w rest g ends. never_stops (w ++ rest)) operation_type_exact
      (both_exact IsReal Unexpected is_name never may_name MayName (both (variables r) (both (directives r) (set r r.sets))) (Both (Variables r) BodySet)
      (clear_both is_name is_name never (Variables r) BodySet (variables_clear r is_name is_name refl (itself is_name)) (body_clear is_name refl refl refl))
      may_name_exact
      (both_exact IsReal Unexpected (is k.OpenParen) never (variables r) (Variables r) (both (directives r) (set r r.sets)) BodySet (body_clear (is k.OpenParen) refl refl refl) (variables_exact r) body_exact))

  keyword_begins : BeginsWith is_operation (Made operation_of WithKeyword)
  keyword_begins = begins_made is_operation operation_of WithKeyword (begins_both is_operation OperationType (Both MayName (Both (Variables r) BodySet))
      (begins_made is_operation (λ (t : Lexeme Kind). operation_kind t.kind) (Token is_operation) (token_begins is_operation)))

  fragment_exact : Exact never (fragment_definition r) (IsFragment r)
  unfolding fragment_definition
  fragment_exact = made_exact IsReal Unexpected never fragment_of (past k.Fragment (both (text Unexpected is_fragment_name) (both condition (both (directives r) (set r r.sets)))))
      (After (is k.Fragment) (Both (Text is_fragment_name) (Both Condition BodySet)))
      (past_exact never k.Fragment (both (text Unexpected is_fragment_name) (both condition (both (directives r) (set r r.sets)))) (Both (Text is_fragment_name) (Both Condition BodySet))
      (both_exact IsReal Unexpected never never (text Unexpected is_fragment_name) (Text is_fragment_name) (both condition (both (directives r) (set r r.sets))) (Both Condition BodySet) (λ a w rest g ends. never_stops (w ++ rest))
      (text_exact IsReal Unexpected never is_fragment_name (has_by is_fragment_name k.Name refl))
      (both_exact IsReal Unexpected never never condition Condition (both (directives r) (set r r.sets)) BodySet (λ a w rest g ends. never_stops (w ++ rest)) (condition_exact never) body_exact)))

  fragment_begins : BeginsWith (is k.Fragment) (Made fragment (IsFragment r))
  fragment_begins = begins_made (is k.Fragment) fragment (IsFragment r) (begins_made (is k.Fragment) fragment_of (After (is k.Fragment) (Both (Text is_fragment_name) (Both Condition BodySet)))
      (begins_after (is k.Fragment) (Both (Text is_fragment_name) (Both Condition BodySet))))

  shorthand_begins : BeginsWith begins_set (Made shorthand_of (IsSet r r.sets))
  shorthand_begins = begins_made begins_set shorthand_of (IsSet r r.sets) (set_begins r r.sets)

  operation_exact : Exact never (operation_definition r) (IsOperation r)
  unfolding operation_definition
  operation_exact = choose_is_exact IsReal never begins_set (made shorthand_of (set r r.sets)) (made operation_of (both operation_type (both may_name (both (variables r) (both (directives r) (set r r.sets))))))
      (Made shorthand_of (IsSet r r.sets)) (Made operation_of WithKeyword)
      (made_exact IsReal Unexpected never shorthand_of (set r r.sets) (IsSet r r.sets) (set_exact r r.sets))
      (made_exact IsReal Unexpected never operation_of (both operation_type (both may_name (both (variables r) (both (directives r) (set r r.sets))))) WithKeyword keyword_exact)
      shorthand_begins (clear_begins begins_set never is_operation (Made operation_of WithKeyword) keyword_begins (operation_apart begins_set refl refl refl))

  operation_begins : (goes : Kind → Bool) → goes k.OpenBrace ≡ false → goes k.Gap ≡ false → goes k.Query ≡ false → goes k.Mutation ≡ false → goes k.Subscription ≡ false → Clear goes never (Made operation (IsOperation r))
  operation_begins goes a g0 b c d x ts rest (y, e, inl g) ends = clear_begins goes never begins_set (Made shorthand_of (IsSet r r.sets)) shorthand_begins (opens_apart goes a g0) y ts rest g ends
  operation_begins goes a g0 b c d x ts rest (y, e, inr g) ends = clear_begins goes never is_operation (Made operation_of WithKeyword) keyword_begins (operation_apart goes b c d) y ts rest g ends

  definition_exact : Exact never (definition r) (IsDefinition r)
  definition_exact = retyped IsReal never (definition r) (Either (Made fragment (IsFragment r)) (Made operation (IsOperation r))) (IsDefinition r)
      (λ x ts g. elim g [ inl h ↦ inr h | inr h ↦ inl h ])
      (λ x ts g. elim g [ inl h ↦ inr h | inr h ↦ inl h ])
      (choose_is_exact IsReal never (is k.Fragment) (made fragment (fragment_definition r)) (made operation (operation_definition r)) (Made fragment (IsFragment r)) (Made operation (IsOperation r))
      (made_exact IsReal Unexpected never fragment (fragment_definition r) (IsFragment r) fragment_exact)
      (made_exact IsReal Unexpected never operation (operation_definition r) (IsOperation r) operation_exact)
      fragment_begins (operation_begins (is k.Fragment) refl refl refl refl refl))

  first_defines : (kind : Kind) → begins_definition kind ≡ true → (ts : List (Lexeme Kind)) → sees (is kind) ts ≡ true → sees begins_definition ts ≡ true
  first_defines kind e [] h = absurd cc
  first_defines kind e (t ∷ ts) h = subst (λ (q : Kind). begins_definition q ≡ true) (same_is kind t.kind h) e

  operation_defines : (ts : List (Lexeme Kind)) → sees is_operation ts ≡ true → sees begins_definition ts ≡ true
  operation_defines [] h = absurd cc
  operation_defines (t ∷ ts) h = go t.kind h
    where
      go : (kind : Kind) → is_operation kind ≡ true → begins_definition kind ≡ true
      go k.Query h = refl
      go k.Mutation h = refl
      go k.Subscription h = refl
      go _ h = absurd cc

  set_defines : (ts : List (Lexeme Kind)) → sees begins_set ts ≡ true → sees begins_definition ts ≡ true
  set_defines [] h = absurd cc
  set_defines (t ∷ ts) h = go t.kind h
    where
      go : (kind : Kind) → begins_set kind ≡ true → begins_definition kind ≡ true
      go k.OpenBrace h = refl
      go k.Gap h = refl
      go _ h = absurd cc

  definition_begins : BeginsWith begins_definition (IsDefinition r)
  definition_begins x ts (inl (y, e, inl g)) = set_defines ts (shorthand_begins y ts g)
  definition_begins x ts (inl (y, e, inr g)) = operation_defines ts (keyword_begins y ts g)
  definition_begins x ts (inr g) = first_defines k.Fragment refl ts (fragment_begins x ts g)

  pub document_exact : Exact begins_definition (document r) (IsDocument r)
  unfolding document
  document_exact = made_exact IsReal Unexpected begins_definition document_of (several begins_definition (definition r)) (Several (IsDefinition r))
      (several_exact IsReal Unexpected never begins_definition begins_definition (definition r) (IsDefinition r) definition_begins (apart_never begins_definition) (never_within begins_definition) (itself begins_definition) definition_exact)
