-- With room for one more level a document is read further.
use Rattle.std.proofs.Common.{◌≡◌, ℕ, zero, suc, Bool, true, false, List, [], ◌∷◌, ◌++◌, Option, Some, None, Ok, Err, refl, sym, ap, subst, ◌∙◌}
use Rattle.token_read.specs.Lexeme.{Lexeme}
use Rattle.token_read.specs.Parse.{bind, pure, refuse, one, sees, choose, many}
use Rattle.token_read.specs.Productions.{text, after, before, both, made, optional, several, whole}
use Rattle.token_read.proofs.Relax.{Relaxes, itself, Passes, Within, choose_relaxes, many_relaxes, pure_relaxes, barred_relaxes}
use Rattle.token_read.proofs.Relaxed.{token_relaxes, made_relaxes, text_relaxes, after_relaxes, before_relaxes, both_relaxes, optional_relaxes, several_relaxes, exact_within, exact_passes}
use Rattle.token_read.proofs.Ended.{whole_relaxes}
use Rattle.gql_tokens.specs.declared.kinds.Kind.{Kind}
use Rattle.gql_tokens.specs.declared.kinds.Kind.TheVariants as k
use Rattle.gql_tokens.specs.KindTests.{same_kind, is_name, is_fragment_name}
use Rattle.gql_tokens.specs.Lexical.{IsReal}
use Rattle.gql_tokens.proofs.Samples.{same_is}
use Rattle.gql_terms.specs.declared.documents.Value.{Value}
use Rattle.gql_terms.specs.declared.documents.Value.TheVariants as v
use Rattle.gql_terms.specs.declared.documents.TypeRef.{TypeRef}
use Rattle.gql_terms.specs.declared.documents.TypeRef.TheVariants as of
use Rattle.gql_terms.specs.declared.documents.Selection.{Selection}
use Rattle.gql_terms.specs.declared.faults.Refusal.{Refusal}
use Rattle.gql_terms.specs.declared.faults.Refusal.TheVariants.{Unexpected, Deep}
use Rattle.gql_terms.specs.Grammar.{Rules, Rule, deeper, is, IsValue, ListOf, ObjectOf, IsType, ListType, IsSet, directive_of, marked, variable_of, named, field_of, spread_of, inline_of, is_operation, operation_kind, shorthand_of, operation_of, fragment_of, Definition, operation, fragment, document_of}
use Rattle.gql_parser.specs.Reading.{Reader, token, past, until, name, leaf_of, is_leaf, leaf, variable, simple, begins_value, pair, list_of, object_of, value, arguments, directive, directives, mark, named_type, list_type, unmarked, type_ref, default, variable_definition, variables, alias_and_name, field, spread, condition, may_condition, inline, begins_selection, begins_set, selection, gap, braced, set, operation_type, may_name, operation_definition, fragment_definition, definition, begins_definition, document, all}
use Rattle.token_read.proofs.Productions.{BeginsWith, never}
use Rattle.gql_parser.proofs.ValuesExact.{Exact, value_begins, list_exact, list_begins, object_exact, object_begins, value_exact}
use Rattle.gql_parser.proofs.DocumentsExact.{list_type_exact, list_type_begins, set_exact, set_begins, Braced, braced_exact, braced_begins}

abbrev pub by_rule : Refusal → Bool
by_rule Unexpected = false
by_rule Deep = true

abbrev Further : {A : Type 0} → Reader A → Reader A → Type 0
Further p q = Relaxes by_rule p q

one_kind : (kind : Kind) (x y : Kind) → is kind x ≡ true → is kind y ≡ true → x ≡ y
one_kind kind x y a b = sym (same_is kind x a) ∙ same_is kind y b

-- a token is read as it is
unchanged : (test : Kind → Bool) → Further (one Unexpected test) (one Unexpected test)
unchanged test = token_relaxes by_rule Unexpected refl test

name_further : Further name name
name_further = text_relaxes by_rule Unexpected refl is_name

past_further : {A : Type 0} (kind : Kind) (p q : Reader A) → Further p q → Further (past kind p) (past kind q)
past_further kind p q h = after_relaxes by_rule Unexpected refl (is kind) p q h

until_further : {A : Type 0} (kind : Kind) (p q : Reader A) → Further p q → Further (until p kind) (until q kind)
until_further kind p q h = before_relaxes by_rule Unexpected refl (is kind) p q h

made_further : {A B : Type 0} (f : A → B) (p q : Reader A) → Further p q → Further (made f p) (made f q)
made_further f p q h = made_relaxes by_rule Unexpected refl f p q h

both_further : {A B : Type 0} (p p2 : Reader A) (q q2 : Reader B) → Further p p2 → Further q q2 → Further (both p q) (both p2 q2)
both_further p p2 q q2 g h = both_relaxes by_rule Unexpected refl p p2 q q2 g h

optional_further : {A : Type 0} (test : Kind → Bool) (p q : Reader A) (none : A) → Further p q → Further (optional test p none) (optional test q none)
optional_further test p q none h = optional_relaxes by_rule Unexpected refl test p q none h

several_further : {A : Type 0} (test : Kind → Bool) (p q : Reader A) → Further p q → Further (several test p) (several test q)
several_further test p q h = several_relaxes by_rule Unexpected refl test p q h

-- what the rule bars is read by at least its bracket
opened : {A : Type 0} (kind : Kind) (goes : Kind → Bool) (p q q2 : Reader A) (G : Rule A) → Exact goes p G → BeginsWith (is kind) G → Further q q2 → Further (choose (is kind) (refuse Deep) q) (choose (is kind) p q2)
opened kind goes p q q2 G exact begins h = barred_relaxes by_rule Deep (is kind) p q q2 refl (exact_passes by_rule IsReal goes p G exact (is kind) (one_kind kind) begins) (exact_within by_rule IsReal goes p G exact) h

-- ---- values

leaf_further : (const : Bool) → Further (leaf const) (leaf const)
leaf_further const = made_further (λ (t : Lexeme Kind). leaf_of t.kind t.text) (one Unexpected (is_leaf const)) (one Unexpected (is_leaf const)) (unchanged (is_leaf const))

variable_further : Further variable variable
variable_further = made_further v.Variable (past k.Dollar name) (past k.Dollar name) (past_further k.Dollar name name name_further)

simple_further : (const : Bool) → Further (simple const) (simple const)
simple_further true = leaf_further true
simple_further false = choose_relaxes by_rule (is k.Dollar) variable variable (leaf false) (leaf false) variable_further (leaf_further false)

pair_further : (p q : Reader Value) → Further p q → Further (pair p) (pair q)
pair_further p q h = both_further name name (past k.Colon p) (past k.Colon q) name_further (past_further k.Colon p q h)

list_further : (const : Bool) (p q : Reader Value) → Further p q → Further (list_of const p) (list_of const q)
list_further const p q h = made_further v.List (past k.OpenBracket (until (many (begins_value const) p) k.CloseBracket)) (past k.OpenBracket (until (many (begins_value const) q) k.CloseBracket))
    (past_further k.OpenBracket (until (many (begins_value const) p) k.CloseBracket) (until (many (begins_value const) q) k.CloseBracket)
    (until_further k.CloseBracket (many (begins_value const) p) (many (begins_value const) q) (many_relaxes by_rule (begins_value const) p q h)))

object_further : (p q : Reader Value) → Further p q → Further (object_of p) (object_of q)
object_further p q h = made_further v.Object (past k.OpenBrace (until (many is_name (pair p)) k.CloseBrace)) (past k.OpenBrace (until (many is_name (pair q)) k.CloseBrace))
    (past_further k.OpenBrace (until (many is_name (pair p)) k.CloseBrace) (until (many is_name (pair q)) k.CloseBrace)
    (until_further k.CloseBrace (many is_name (pair p)) (many is_name (pair q)) (many_relaxes by_rule is_name (pair p) (pair q) (pair_further p q h))))

value_further : (const : Bool) (room : ℕ) → Further (value const room) (value const (suc room))
unfolding value
value_further const zero = opened k.OpenBracket never (list_of const (value const 0)) (choose (is k.OpenBrace) (refuse Deep) (simple const)) (choose (is k.OpenBrace) (object_of (value const 0)) (simple const)) (ListOf (IsValue const 0))
    (list_exact const (value const 0) (IsValue const 0) (value_begins const 0) (value_exact const 0)) (list_begins (IsValue const 0))
    (opened k.OpenBrace never (object_of (value const 0)) (simple const) (simple const) (ObjectOf (IsValue const 0)) (object_exact (value const 0) (IsValue const 0) (value_exact const 0)) (object_begins (IsValue const 0)) (simple_further const))
value_further const (suc room) = choose_relaxes by_rule (is k.OpenBracket) (list_of const (value const room)) (list_of const (value const (suc room)))
    (choose (is k.OpenBrace) (object_of (value const room)) (simple const)) (choose (is k.OpenBrace) (object_of (value const (suc room))) (simple const))
    (list_further const (value const room) (value const (suc room)) (value_further const room))
    (choose_relaxes by_rule (is k.OpenBrace) (object_of (value const room)) (object_of (value const (suc room))) (simple const) (simple const) (object_further (value const room) (value const (suc room)) (value_further const room)) (simple_further const))

-- ---- arguments and directives

module _ (r : Rules) where
  arguments_further : Further (arguments r) (arguments (deeper r))
  unfolding arguments
  arguments_further = optional_further (is k.OpenParen) (past k.OpenParen (until (several is_name (pair (value false r.values))) k.CloseParen)) (past k.OpenParen (until (several is_name (pair (value false (suc r.values)))) k.CloseParen)) []
      (past_further k.OpenParen (until (several is_name (pair (value false r.values))) k.CloseParen) (until (several is_name (pair (value false (suc r.values)))) k.CloseParen)
      (until_further k.CloseParen (several is_name (pair (value false r.values))) (several is_name (pair (value false (suc r.values))))
      (several_further is_name (pair (value false r.values)) (pair (value false (suc r.values))) (pair_further (value false r.values) (value false (suc r.values)) (value_further false r.values)))))

  directive_further : Further (directive r) (directive (deeper r))
  unfolding directive
  directive_further = made_further directive_of (past k.At (both name (arguments r))) (past k.At (both name (arguments (deeper r))))
      (past_further k.At (both name (arguments r)) (both name (arguments (deeper r))) (both_further name name (arguments r) (arguments (deeper r)) name_further arguments_further))

  directives_further : Further (directives r) (directives (deeper r))
  unfolding directives
  directives_further = many_relaxes by_rule (is k.At) (directive r) (directive (deeper r)) directive_further

-- ---- types

bang_further : Further (optional (is k.Bang) (made (λ (t : Lexeme Kind). true) (token k.Bang)) false) (optional (is k.Bang) (made (λ (t : Lexeme Kind). true) (token k.Bang)) false)
bang_further = optional_further (is k.Bang) (made (λ (t : Lexeme Kind). true) (token k.Bang)) (made (λ (t : Lexeme Kind). true) (token k.Bang)) false
    (made_further (λ (t : Lexeme Kind). true) (token k.Bang) (token k.Bang) (unchanged (is k.Bang)))

mark_further : (p q : Reader TypeRef) → Further p q → Further (mark p) (mark q)
mark_further p q h = made_further marked (both p (optional (is k.Bang) (made (λ (t : Lexeme Kind). true) (token k.Bang)) false)) (both q (optional (is k.Bang) (made (λ (t : Lexeme Kind). true) (token k.Bang)) false))
    (both_further p q (optional (is k.Bang) (made (λ (t : Lexeme Kind). true) (token k.Bang)) false) (optional (is k.Bang) (made (λ (t : Lexeme Kind). true) (token k.Bang)) false) h bang_further)

named_further : Further named_type named_type
named_further = made_further of.Named name name name_further

list_type_further : (p q : Reader TypeRef) → Further p q → Further (list_type p) (list_type q)
list_type_further p q h = made_further of.ListOf (past k.OpenBracket (until p k.CloseBracket)) (past k.OpenBracket (until q k.CloseBracket))
    (past_further k.OpenBracket (until p k.CloseBracket) (until q k.CloseBracket) (until_further k.CloseBracket p q h))

type_further : (room : ℕ) → Further (type_ref room) (type_ref (suc room))
unfolding unmarked
type_further zero = mark_further (choose (is k.OpenBracket) (refuse Deep) named_type) (choose (is k.OpenBracket) (list_type (type_ref 0)) named_type)
    (opened k.OpenBracket never (list_type (type_ref 0)) named_type named_type (ListType (IsType 0)) (list_type_exact 0) (list_type_begins 0) named_further)
type_further (suc room) = mark_further (choose (is k.OpenBracket) (list_type (type_ref room)) named_type) (choose (is k.OpenBracket) (list_type (type_ref (suc room))) named_type)
    (choose_relaxes by_rule (is k.OpenBracket) (list_type (type_ref room)) (list_type (type_ref (suc room))) named_type named_type (list_type_further (type_ref room) (type_ref (suc room)) (type_further room)) named_further)

module _ (r : Rules) where
  default_further : Further (default r) (default (deeper r))
  unfolding default
  default_further = optional_further (is k.Equals) (made (λ (x : Value). Some x) (past k.Equals (value true r.values))) (made (λ (x : Value). Some x) (past k.Equals (value true (suc r.values)))) None
      (made_further (λ (x : Value). Some x) (past k.Equals (value true r.values)) (past k.Equals (value true (suc r.values))) (past_further k.Equals (value true r.values) (value true (suc r.values)) (value_further true r.values)))

  variable_definition_further : Further (variable_definition r) (variable_definition (deeper r))
  unfolding variable_definition
  variable_definition_further = made_further variable_of (past k.Dollar (both name (past k.Colon (both (type_ref r.types) (both (default r) (directives r))))))
      (past k.Dollar (both name (past k.Colon (both (type_ref (suc r.types)) (both (default (deeper r)) (directives (deeper r)))))))
      (past_further k.Dollar (both name (past k.Colon (both (type_ref r.types) (both (default r) (directives r))))) (both name (past k.Colon (both (type_ref (suc r.types)) (both (default (deeper r)) (directives (deeper r))))))
      (both_further name name (past k.Colon (both (type_ref r.types) (both (default r) (directives r)))) (past k.Colon (both (type_ref (suc r.types)) (both (default (deeper r)) (directives (deeper r))))) name_further
      (past_further k.Colon (both (type_ref r.types) (both (default r) (directives r))) (both (type_ref (suc r.types)) (both (default (deeper r)) (directives (deeper r))))
      (both_further (type_ref r.types) (type_ref (suc r.types)) (both (default r) (directives r)) (both (default (deeper r)) (directives (deeper r))) (type_further r.types)
      (both_further (default r) (default (deeper r)) (directives r) (directives (deeper r)) default_further (directives_further r))))))

  variables_further : Further (variables r) (variables (deeper r))
  unfolding variables
  variables_further = optional_further (is k.OpenParen) (past k.OpenParen (until (several (is k.Dollar) (variable_definition r)) k.CloseParen)) (past k.OpenParen (until (several (is k.Dollar) (variable_definition (deeper r))) k.CloseParen)) []
      (past_further k.OpenParen (until (several (is k.Dollar) (variable_definition r)) k.CloseParen) (until (several (is k.Dollar) (variable_definition (deeper r))) k.CloseParen)
      (until_further k.CloseParen (several (is k.Dollar) (variable_definition r)) (several (is k.Dollar) (variable_definition (deeper r))) (several_further (is k.Dollar) (variable_definition r) (variable_definition (deeper r)) variable_definition_further)))

-- ---- selections

alias_further : Further alias_and_name alias_and_name
unfolding alias_and_name
alias_further = made_further named (both name (optional (is k.Colon) (made (λ (n : List ℕ). Some n) (past k.Colon name)) None)) (both name (optional (is k.Colon) (made (λ (n : List ℕ). Some n) (past k.Colon name)) None))
    (both_further name name (optional (is k.Colon) (made (λ (n : List ℕ). Some n) (past k.Colon name)) None) (optional (is k.Colon) (made (λ (n : List ℕ). Some n) (past k.Colon name)) None) name_further
    (optional_further (is k.Colon) (made (λ (n : List ℕ). Some n) (past k.Colon name)) (made (λ (n : List ℕ). Some n) (past k.Colon name)) None
    (made_further (λ (n : List ℕ). Some n) (past k.Colon name) (past k.Colon name) (past_further k.Colon name name name_further))))

may_condition_further : Further may_condition may_condition
unfolding may_condition
may_condition_further = optional_further (is k.On) (made (λ (n : List ℕ). Some n) condition) (made (λ (n : List ℕ). Some n) condition) None
    (made_further (λ (n : List ℕ). Some n) condition condition (past_further k.On name name name_further))

module _ (r : Rules) (set set2 : Reader (List Selection)) (sets : Further set set2) where
  may_further : Further (optional begins_set set []) (optional begins_set set2 [])
  may_further = optional_further begins_set set set2 [] sets

  field_further : Further (field r (optional begins_set set [])) (field (deeper r) (optional begins_set set2 []))
  field_further = made_further field_of (both alias_and_name (both (arguments r) (both (directives r) (optional begins_set set [])))) (both alias_and_name (both (arguments (deeper r)) (both (directives (deeper r)) (optional begins_set set2 []))))
      (both_further alias_and_name alias_and_name (both (arguments r) (both (directives r) (optional begins_set set []))) (both (arguments (deeper r)) (both (directives (deeper r)) (optional begins_set set2 []))) alias_further
      (both_further (arguments r) (arguments (deeper r)) (both (directives r) (optional begins_set set [])) (both (directives (deeper r)) (optional begins_set set2 [])) (arguments_further r)
      (both_further (directives r) (directives (deeper r)) (optional begins_set set []) (optional begins_set set2 []) (directives_further r) may_further)))

  spread_further : Further (spread r) (spread (deeper r))
  spread_further = made_further spread_of (both (text Unexpected is_fragment_name) (directives r)) (both (text Unexpected is_fragment_name) (directives (deeper r)))
      (both_further (text Unexpected is_fragment_name) (text Unexpected is_fragment_name) (directives r) (directives (deeper r)) (text_relaxes by_rule Unexpected refl is_fragment_name) (directives_further r))

  inline_further : Further (inline r set) (inline (deeper r) set2)
  inline_further = made_further inline_of (both may_condition (both (directives r) set)) (both may_condition (both (directives (deeper r)) set2))
      (both_further may_condition may_condition (both (directives r) set) (both (directives (deeper r)) set2) may_condition_further (both_further (directives r) (directives (deeper r)) set set2 (directives_further r) sets))

  selection_further : Further (selection r set) (selection (deeper r) set2)
  selection_further = choose_relaxes by_rule is_name (field r (optional begins_set set [])) (field (deeper r) (optional begins_set set2 [])) (past k.Dots (choose is_fragment_name (spread r) (inline r set)))
      (past k.Dots (choose is_fragment_name (spread (deeper r)) (inline (deeper r) set2))) field_further
      (past_further k.Dots (choose is_fragment_name (spread r) (inline r set)) (choose is_fragment_name (spread (deeper r)) (inline (deeper r) set2))
      (choose_relaxes by_rule is_fragment_name (spread r) (spread (deeper r)) (inline r set) (inline (deeper r) set2) spread_further inline_further))

  braced_further : Further (braced r set) (braced (deeper r) set2)
  braced_further = past_further k.OpenBrace (until (several begins_selection (selection r set)) k.CloseBrace) (until (several begins_selection (selection (deeper r) set2)) k.CloseBrace)
      (until_further k.CloseBrace (several begins_selection (selection r set)) (several begins_selection (selection (deeper r) set2)) (several_further begins_selection (selection r set) (selection (deeper r) set2) selection_further))

gap_further : Further gap gap
gap_further = made_further (λ (t : Lexeme Kind). []) (token k.Gap) (token k.Gap) (unchanged (is k.Gap))

set_further : (r : Rules) (room : ℕ) → Further (set r room) (set (deeper r) (suc room))
unfolding set
set_further r zero = opened k.OpenBrace never (braced (deeper r) (set (deeper r) 0)) gap gap (Braced (deeper r) (IsSet (deeper r) 0))
    (braced_exact (deeper r) (set (deeper r) 0) (IsSet (deeper r) 0) (set_exact (deeper r) 0) (set_begins (deeper r) 0)) (braced_begins (deeper r) (IsSet (deeper r) 0)) gap_further
set_further r (suc room) = choose_relaxes by_rule (is k.OpenBrace) (braced r (set r room)) (braced (deeper r) (set (deeper r) (suc room))) gap gap (braced_further r (set r room) (set (deeper r) (suc room)) (set_further r room)) gap_further

-- ---- definitions

may_name_further : Further may_name may_name
unfolding may_name
may_name_further = optional_further is_name (made (λ (n : List ℕ). Some n) name) (made (λ (n : List ℕ). Some n) name) None (made_further (λ (n : List ℕ). Some n) name name name_further)

operation_type_further : Further operation_type operation_type
operation_type_further = made_further (λ (t : Lexeme Kind). operation_kind t.kind) (one Unexpected is_operation) (one Unexpected is_operation) (unchanged is_operation)

module _ (r : Rules) where
  root_further : Further (set r r.sets) (set (deeper r) (suc r.sets))
  root_further = set_further r r.sets

  body_further : Further (both (directives r) (set r r.sets)) (both (directives (deeper r)) (set (deeper r) (suc r.sets)))
  body_further = both_further (directives r) (directives (deeper r)) (set r r.sets) (set (deeper r) (suc r.sets)) (directives_further r) root_further

  operation_further : Further (operation_definition r) (operation_definition (deeper r))
  unfolding operation_definition
  operation_further = choose_relaxes by_rule begins_set (made shorthand_of (set r r.sets)) (made shorthand_of (set (deeper r) (suc r.sets)))
      (made operation_of (both operation_type (both may_name (both (variables r) (both (directives r) (set r r.sets))))))
      (made operation_of (both operation_type (both may_name (both (variables (deeper r)) (both (directives (deeper r)) (set (deeper r) (suc r.sets)))))))
      (made_further shorthand_of (set r r.sets) (set (deeper r) (suc r.sets)) root_further)
      (made_further operation_of (both operation_type (both may_name (both (variables r) (both (directives r) (set r r.sets))))) (both operation_type (both may_name (both (variables (deeper r)) (both (directives (deeper r)) (set (deeper r) (suc r.sets))))))
      (both_further operation_type operation_type (both may_name (both (variables r) (both (directives r) (set r r.sets)))) (both may_name (both (variables (deeper r)) (both (directives (deeper r)) (set (deeper r) (suc r.sets))))) operation_type_further
      (both_further may_name may_name (both (variables r) (both (directives r) (set r r.sets))) (both (variables (deeper r)) (both (directives (deeper r)) (set (deeper r) (suc r.sets)))) may_name_further
      (both_further (variables r) (variables (deeper r)) (both (directives r) (set r r.sets)) (both (directives (deeper r)) (set (deeper r) (suc r.sets))) (variables_further r) body_further))))

  fragment_further : Further (fragment_definition r) (fragment_definition (deeper r))
  unfolding fragment_definition
  fragment_further = made_further fragment_of (past k.Fragment (both (text Unexpected is_fragment_name) (both condition (both (directives r) (set r r.sets)))))
      (past k.Fragment (both (text Unexpected is_fragment_name) (both condition (both (directives (deeper r)) (set (deeper r) (suc r.sets))))))
      (past_further k.Fragment (both (text Unexpected is_fragment_name) (both condition (both (directives r) (set r r.sets)))) (both (text Unexpected is_fragment_name) (both condition (both (directives (deeper r)) (set (deeper r) (suc r.sets)))))
      (both_further (text Unexpected is_fragment_name) (text Unexpected is_fragment_name) (both condition (both (directives r) (set r r.sets))) (both condition (both (directives (deeper r)) (set (deeper r) (suc r.sets))))
      (text_relaxes by_rule Unexpected refl is_fragment_name)
      (both_further condition condition (both (directives r) (set r r.sets)) (both (directives (deeper r)) (set (deeper r) (suc r.sets))) (past_further k.On name name name_further) body_further)))

  definition_further : Further (definition r) (definition (deeper r))
  definition_further = choose_relaxes by_rule (is k.Fragment) (made fragment (fragment_definition r)) (made fragment (fragment_definition (deeper r))) (made operation (operation_definition r)) (made operation (operation_definition (deeper r)))
      (made_further fragment (fragment_definition r) (fragment_definition (deeper r)) fragment_further) (made_further operation (operation_definition r) (operation_definition (deeper r)) operation_further)

  document_further : Further (document r) (document (deeper r))
  unfolding document
  document_further = made_further document_of (several begins_definition (definition r)) (several begins_definition (definition (deeper r)))
      (several_further begins_definition (definition r) (definition (deeper r)) definition_further)

  pub all_further : Further (all r) (all (deeper r))
  all_further = whole_relaxes by_rule Unexpected refl (document r) (document (deeper r)) document_further
