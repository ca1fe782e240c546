-- The tokens of each production are the words of its value, but for a shorthand and the order of definitions.
use Rattle.std.proofs.Common.{◌≡◌, ℕ, zero, suc, Bool, true, false, List, [], ◌∷◌, ◌++◌, Option, Some, None, refl, sym, ap, subst, ◌∙◌, ◌⊎◌, inl, inr, append_assoc}
use Rattle.std.specs.Prelude.{map, codes}
use Rattle.std.proofs.lemmas.List.{append-nil}
use Rattle.token_read.specs.Lexeme.{Lexeme}
use Rattle.token_read.specs.Exact.{AreReal, Each, Either, Token}
use Rattle.token_read.specs.Productions.{Grammar, Text, After, Before, Enclosed, Both, Made, Optional, Several}
use Rattle.gql_tokens.specs.declared.kinds.Kind.{Kind}
use Rattle.gql_tokens.specs.declared.kinds.Kind.TheVariants as k
use Rattle.gql_tokens.specs.KindTests.{same_kind, is_name, is_fragment_name}
use Rattle.gql_tokens.specs.Lexical as lex
use Rattle.gql_tokens.proofs.Samples.{same_is}
use Rattle.gql_terms.specs.declared.documents.Value.{Value}
use Rattle.gql_terms.specs.declared.documents.Value.TheVariants as v
use Rattle.gql_terms.specs.declared.documents.TypeRef.{TypeRef}
use Rattle.gql_terms.specs.declared.documents.TypeRef.TheVariants as of
use Rattle.gql_terms.specs.declared.documents.Directive.{Directive}
use Rattle.gql_terms.specs.declared.documents.Selection.{Selection}
use Rattle.gql_terms.specs.declared.documents.Selection.TheVariants as s
use Rattle.gql_terms.specs.declared.documents.VarDef.{VarDef}
use Rattle.gql_terms.specs.declared.documents.OpKind.{OpKind}
use Rattle.gql_terms.specs.declared.documents.OpKind.TheVariants as op
use Rattle.gql_terms.specs.declared.documents.Operation.{Operation}
use Rattle.gql_terms.specs.declared.documents.Fragment.{Fragment}
use Rattle.gql_terms.specs.Grammar as g
use Rattle.gql_print.specs.Words as w
use Rattle.gql_print.proofs.Tokens.{text_or, real_text, fixed_is, name_is}
use Rattle.gql_print.proofs.Writes.{Proper, AreProper, Writes, One, one_kind, token_text, text_writes, after_writes, before_writes, enclosed_writes, both_writes, made_writes, either_writes, optional_writes, each_writes, several_writes, front_proper, back_proper}
use Rattle.gql_print.proofs.Equations.{
  value_words-variable,
  value_words-number,
  value_words-string,
  value_words-block,
  value_words-bool,
  value_words-null,
  value_words-enum,
  value_words-list,
  value_words-object,
  type_words-named,
  type_words-list,
  type_words-non_null,
  selection_words-field,
  selection_words-spread,
  selection_words-inline,
}

-- ---- names

name_writes : Writes (Text is_name) (λ (a : List ℕ). w.name a ∷ [])
name_writes = text_writes is_name (λ t proper e. name_is t proper.0 e)

-- a fragment's name is a name
fragment_name : (kind : Kind) → is_fragment_name kind ≡ true → is_name kind ≡ true
fragment_name k.Query e = refl
fragment_name k.Mutation e = refl
fragment_name k.Subscription e = refl
fragment_name k.Fragment e = refl
fragment_name k.On e = refl
fragment_name k.True e = refl
fragment_name k.False e = refl
fragment_name k.Null e = refl
fragment_name k.Name e = refl
fragment_name k.Bang e = e
fragment_name k.Dollar e = e
fragment_name k.Amp e = e
fragment_name k.OpenParen e = e
fragment_name k.CloseParen e = e
fragment_name k.Dots e = e
fragment_name k.Colon e = e
fragment_name k.Equals e = e
fragment_name k.At e = e
fragment_name k.OpenBracket e = e
fragment_name k.CloseBracket e = e
fragment_name k.OpenBrace e = e
fragment_name k.Bar e = e
fragment_name k.CloseBrace e = e
fragment_name k.Number e = e
fragment_name k.Str e = e
fragment_name k.Block e = e
fragment_name k.Gap e = e

fragment_name_writes : Writes (Text is_fragment_name) (λ (a : List ℕ). w.name a ∷ [])
fragment_name_writes = text_writes is_fragment_name (λ t proper e. name_is t proper.0 (fragment_name t.kind e))

-- an enum's value is a name
enum_name : (kind : Kind) → g.is_enum_name kind ≡ true → is_name kind ≡ true
enum_name k.Query e = refl
enum_name k.Mutation e = refl
enum_name k.Subscription e = refl
enum_name k.Fragment e = refl
enum_name k.On e = refl
enum_name k.True e = refl
enum_name k.False e = refl
enum_name k.Null e = refl
enum_name k.Name e = refl
enum_name k.Bang e = e
enum_name k.Dollar e = e
enum_name k.Amp e = e
enum_name k.OpenParen e = e
enum_name k.CloseParen e = e
enum_name k.Dots e = e
enum_name k.Colon e = e
enum_name k.Equals e = e
enum_name k.At e = e
enum_name k.OpenBracket e = e
enum_name k.CloseBracket e = e
enum_name k.OpenBrace e = e
enum_name k.Bar e = e
enum_name k.CloseBrace e = e
enum_name k.Number e = e
enum_name k.Str e = e
enum_name k.Block e = e
enum_name k.Gap e = e

-- ---- values

leaf_is : (const : Bool) (x : Value) (kind : Kind) (a : List ℕ) → g.IsLeaf const x kind a → Proper (w.token kind a) → w.token kind a ∷ [] ≡ w.value_words x
leaf_is const _ _ _ (g.number {a}) proper = sym (value_words-number a)
leaf_is const _ _ _ (g.string {a}) proper = sym (value_words-string a)
leaf_is const _ _ _ (g.block {a} e) proper = sym (value_words-block a)
leaf_is const _ _ _ (g.yes {a}) proper = ap (λ (q : List ℕ). w.token k.True q ∷ []) (real_text (w.token k.True a) proper.0) ∙ sym (value_words-bool true)
leaf_is const _ _ _ (g.no {a}) proper = ap (λ (q : List ℕ). w.token k.False q ∷ []) (real_text (w.token k.False a) proper.0) ∙ sym (value_words-bool false)
leaf_is const _ _ _ (g.null {a}) proper = ap (λ (q : List ℕ). w.token k.Null q ∷ []) (real_text (w.token k.Null a) proper.0) ∙ sym value_words-null
leaf_is const _ _ _ (g.enum {a} kind e) proper = ap (λ (q : lex.Token). q ∷ []) (name_is (w.token kind a) proper.0 (enum_name kind e)) ∙ sym (value_words-enum a)

leaf_writes : (const : Bool) → Writes (g.Leaf const) w.value_words
leaf_writes const = record { is = λ x ts proper h. h.2 ∙ leaf_is const x h.0.kind h.0.text h.1 (subst AreProper h.2 proper).0 }

variable_writes : Writes g.Variable w.value_words
variable_writes = made_writes v.Variable (After (g.is k.Dollar) (Text is_name)) (λ (a : List ℕ). w.dollar ∷ (w.name a ∷ [])) w.value_words (λ a. sym (value_words-variable a))
    (after_writes (g.is k.Dollar) w.dollar (Text is_name) (λ (a : List ℕ). w.name a ∷ []) (one_kind k.Dollar (codes "$") (λ a. refl)) name_writes)

simple_writes : (const : Bool) → Writes (g.Simple const) w.value_words
simple_writes true = leaf_writes true
simple_writes false = either_writes g.Variable (g.Leaf false) w.value_words variable_writes (leaf_writes false)

pair_writes : (G : g.Rule Value) → Writes G w.value_words → Writes (g.Pair G) w.pair_words
pair_writes G one = both_writes (Text is_name) (After (g.is k.Colon) G) (λ (a : List ℕ). w.name a ∷ []) (λ (x : Value). w.colon ∷ w.value_words x) name_writes
    (after_writes (g.is k.Colon) w.colon G w.value_words (one_kind k.Colon (codes ":") (λ a. refl)) one)

list_writes : (G : g.Rule Value) → Writes G w.value_words → Writes (g.ListOf G) w.value_words
list_writes G one = made_writes v.List (Enclosed (g.is k.OpenBracket) (Each G) (g.is k.CloseBracket)) (λ (xs : List Value). w.open_bracket ∷ (w.joined (map w.value_words xs) ++ (w.close_bracket ∷ []))) w.value_words
    (λ xs. sym (value_words-list xs))
    (enclosed_writes (g.is k.OpenBracket) (g.is k.CloseBracket) w.open_bracket w.close_bracket (Each G) (λ (xs : List Value). w.joined (map w.value_words xs)) (one_kind k.OpenBracket (codes "[") (λ a. refl)) (one_kind k.CloseBracket (codes "]") (λ a. refl))
    (each_writes G w.value_words one))

object_writes : (G : g.Rule Value) → Writes G w.value_words → Writes (g.ObjectOf G) w.value_words
object_writes G one = made_writes v.Object (Enclosed (g.is k.OpenBrace) (Each (g.Pair G)) (g.is k.CloseBrace)) (λ (ms : List (List ℕ × Value)). w.open_brace ∷ (w.joined (map w.pair_words ms) ++ (w.close_brace ∷ []))) w.value_words
    (λ ms. sym (value_words-object ms))
    (enclosed_writes (g.is k.OpenBrace) (g.is k.CloseBrace) w.open_brace w.close_brace (Each (g.Pair G)) (λ (ms : List (List ℕ × Value)). w.joined (map w.pair_words ms)) (one_kind k.OpenBrace (codes "{") (λ a. refl)) (one_kind k.CloseBrace (codes "}") (λ a. refl))
    (each_writes (g.Pair G) w.pair_words (pair_writes G one)))

pub value_writes : (const : Bool) (room : ℕ) → Writes (g.IsValue const room) w.value_words
unfolding g.IsValue
value_writes const zero = simple_writes const
value_writes const (suc room) = either_writes (g.ListOf (g.IsValue const room)) (Either (g.ObjectOf (g.IsValue const room)) (g.Simple const)) w.value_words (list_writes (g.IsValue const room) (value_writes const room))
    (either_writes (g.ObjectOf (g.IsValue const room)) (g.Simple const) w.value_words (object_writes (g.IsValue const room) (value_writes const room)) (simple_writes const))

-- ---- arguments and directives

arguments_writes : (r : g.Rules) → Writes (g.Arguments r) w.arguments_words
arguments_writes r = optional_writes (Enclosed (g.is k.OpenParen) (Several (g.Pair (g.IsValue false r.values))) (g.is k.CloseParen)) [] w.arguments_words refl
    (several_writes (g.is k.OpenParen) (g.is k.CloseParen) w.open_paren w.close_paren (g.Pair (g.IsValue false r.values)) w.pair_words (one_kind k.OpenParen (codes "(") (λ a. refl)) (one_kind k.CloseParen (codes ")") (λ a. refl))
    (pair_writes (g.IsValue false r.values) (value_writes false r.values)))

directive_writes : (r : g.Rules) → Writes (g.IsDirective r) w.directive_words
directive_writes r = made_writes g.directive_of (After (g.is k.At) (Both (Text is_name) (g.Arguments r))) (λ (p : List ℕ × List (List ℕ × Value)). w.at_sign ∷ (w.name p.0 ∷ w.arguments_words p.1)) w.directive_words (λ p. refl)
    (after_writes (g.is k.At) w.at_sign (Both (Text is_name) (g.Arguments r)) (λ (p : List ℕ × List (List ℕ × Value)). w.name p.0 ∷ w.arguments_words p.1) (one_kind k.At (codes "@") (λ a. refl))
    (both_writes (Text is_name) (g.Arguments r) (λ (a : List ℕ). w.name a ∷ []) w.arguments_words name_writes (arguments_writes r)))

directives_writes : (r : g.Rules) → Writes (g.Directives r) w.directives_words
directives_writes r = each_writes (g.IsDirective r) w.directive_words (directive_writes r)

-- ---- types

abbrev bang_words : Bool → List lex.Token
bang_words true = w.bang ∷ []
bang_words false = []

bang_writes : Writes (Optional (Made (λ (t : Lexeme Kind). true) (Token (g.is k.Bang))) false) bang_words
bang_writes = record { is = go }
  where
    go : (x : Bool) (ts : List lex.Token) → AreProper ts → Optional (Made (λ (t : Lexeme Kind). true) (Token (g.is k.Bang))) false x ts → ts ≡ bang_words x
    go x ts proper (inl (t, is_true, (is_bang, cut))) = token_text t w.bang ts (one_kind k.Bang (codes "!") (λ a. refl) t (subst AreProper cut proper).0 is_bang) cut ∙ ap bang_words (sym is_true)
    go x ts proper (inr (none, cut)) = cut ∙ ap bang_words (sym none)

marked_writes : (G : g.Rule TypeRef) → Writes G w.type_words → Writes (g.Marked G) w.type_words
marked_writes G one = made_writes g.marked (Both G (Optional (Made (λ (t : Lexeme Kind). true) (Token (g.is k.Bang))) false)) (λ (p : TypeRef × Bool). w.type_words p.0 ++ bang_words p.1) w.type_words same
    (both_writes G (Optional (Made (λ (t : Lexeme Kind). true) (Token (g.is k.Bang))) false) w.type_words bang_words one bang_writes)
  where
    same : (p : TypeRef × Bool) → w.type_words p.0 ++ bang_words p.1 ≡ w.type_words (g.marked p)
    same (t, true) = sym (type_words-non_null t)
    same (t, false) = append-nil (w.type_words t)

named_writes : Writes g.Named w.type_words
named_writes = made_writes of.Named (Text is_name) (λ (a : List ℕ). w.name a ∷ []) w.type_words (λ a. sym (type_words-named a)) name_writes

list_type_writes : (G : g.Rule TypeRef) → Writes G w.type_words → Writes (g.ListType G) w.type_words
list_type_writes G one = made_writes of.ListOf (Enclosed (g.is k.OpenBracket) G (g.is k.CloseBracket)) (λ (t : TypeRef). w.open_bracket ∷ (w.type_words t ++ (w.close_bracket ∷ []))) w.type_words (λ t. sym (type_words-list t))
    (enclosed_writes (g.is k.OpenBracket) (g.is k.CloseBracket) w.open_bracket w.close_bracket G w.type_words (one_kind k.OpenBracket (codes "[") (λ a. refl)) (one_kind k.CloseBracket (codes "]") (λ a. refl)) one)

type_writes : (room : ℕ) → Writes (g.IsType room) w.type_words
unfolding g.IsType
type_writes zero = marked_writes g.Named named_writes
type_writes (suc room) = marked_writes (Either (g.ListType (g.IsType room)) g.Named) (either_writes (g.ListType (g.IsType room)) g.Named w.type_words (list_type_writes (g.IsType room) (type_writes room)) named_writes)

-- ---- variables

default_writes : (r : g.Rules) → Writes (g.Default r) w.default_words
default_writes r = optional_writes (Made (λ (x : Value). Some x) (After (g.is k.Equals) (g.IsValue true r.values))) None w.default_words refl
    (made_writes (λ (x : Value). Some x) (After (g.is k.Equals) (g.IsValue true r.values)) (λ (x : Value). w.equals ∷ w.value_words x) w.default_words (λ x. refl)
    (after_writes (g.is k.Equals) w.equals (g.IsValue true r.values) w.value_words (one_kind k.Equals (codes "=") (λ a. refl)) (value_writes true r.values)))

definition_writes : (r : g.Rules) → Writes (g.IsVariable r) w.variable_words
definition_writes r = made_writes g.variable_of (After (g.is k.Dollar) (Both (Text is_name) (After (g.is k.Colon) (Both (g.IsType r.types) (Both (g.Default r) (g.Directives r))))))
    (λ (p : List ℕ × (TypeRef × (Option Value × List Directive))). w.dollar ∷ (w.name p.0 ∷ (w.colon ∷ (w.type_words p.1.0 ++ (w.default_words p.1.1.0 ++ w.directives_words p.1.1.1))))) w.variable_words (λ p. refl)
    (after_writes (g.is k.Dollar) w.dollar (Both (Text is_name) (After (g.is k.Colon) (Both (g.IsType r.types) (Both (g.Default r) (g.Directives r)))))
    (λ (p : List ℕ × (TypeRef × (Option Value × List Directive))). w.name p.0 ∷ (w.colon ∷ (w.type_words p.1.0 ++ (w.default_words p.1.1.0 ++ w.directives_words p.1.1.1)))) (one_kind k.Dollar (codes "$") (λ a. refl))
    (both_writes (Text is_name) (After (g.is k.Colon) (Both (g.IsType r.types) (Both (g.Default r) (g.Directives r)))) (λ (a : List ℕ). w.name a ∷ [])
    (λ (p : TypeRef × (Option Value × List Directive)). w.colon ∷ (w.type_words p.0 ++ (w.default_words p.1.0 ++ w.directives_words p.1.1))) name_writes
    (after_writes (g.is k.Colon) w.colon (Both (g.IsType r.types) (Both (g.Default r) (g.Directives r))) (λ (p : TypeRef × (Option Value × List Directive)). w.type_words p.0 ++ (w.default_words p.1.0 ++ w.directives_words p.1.1))
    (one_kind k.Colon (codes ":") (λ a. refl))
    (both_writes (g.IsType r.types) (Both (g.Default r) (g.Directives r)) w.type_words (λ (p : Option Value × List Directive). w.default_words p.0 ++ w.directives_words p.1) (type_writes r.types)
    (both_writes (g.Default r) (g.Directives r) w.default_words w.directives_words (default_writes r) (directives_writes r))))))

variables_writes : (r : g.Rules) → Writes (g.Variables r) w.variables_words
variables_writes r = optional_writes (Enclosed (g.is k.OpenParen) (Several (g.IsVariable r)) (g.is k.CloseParen)) [] w.variables_words refl
    (several_writes (g.is k.OpenParen) (g.is k.CloseParen) w.open_paren w.close_paren (g.IsVariable r) w.variable_words (one_kind k.OpenParen (codes "(") (λ a. refl)) (one_kind k.CloseParen (codes ")") (λ a. refl)) (definition_writes r))

-- ---- selections

abbrev after_colon : Option (List ℕ) → List lex.Token
after_colon None = []
after_colon (Some a) = w.colon ∷ (w.name a ∷ [])

alias_writes : Writes g.AliasAndName (λ (p : Option (List ℕ) × List ℕ). w.alias_words p.0 p.1)
alias_writes = made_writes g.named (Both (Text is_name) (Optional (Made (λ (n : List ℕ). Some n) (After (g.is k.Colon) (Text is_name))) None)) (λ (p : List ℕ × Option (List ℕ)). w.name p.0 ∷ after_colon p.1)
    (λ (p : Option (List ℕ) × List ℕ). w.alias_words p.0 p.1) same
    (both_writes (Text is_name) (Optional (Made (λ (n : List ℕ). Some n) (After (g.is k.Colon) (Text is_name))) None) (λ (a : List ℕ). w.name a ∷ []) after_colon name_writes
    (optional_writes (Made (λ (n : List ℕ). Some n) (After (g.is k.Colon) (Text is_name))) None after_colon refl
    (made_writes (λ (n : List ℕ). Some n) (After (g.is k.Colon) (Text is_name)) (λ (a : List ℕ). w.colon ∷ (w.name a ∷ [])) after_colon (λ a. refl)
    (after_writes (g.is k.Colon) w.colon (Text is_name) (λ (a : List ℕ). w.name a ∷ []) (one_kind k.Colon (codes ":") (λ a. refl)) name_writes))))
  where
    same : (p : List ℕ × Option (List ℕ)) → w.name p.0 ∷ after_colon p.1 ≡ w.alias_words (g.named p).0 (g.named p).1
    same (a, None) = refl
    same (a, Some n) = refl

module _ (r : g.Rules) (Set : g.Rule (List Selection)) (set : Writes Set w.set_words) where
  field_writes : Writes (g.IsField r Set) w.selection_words
  field_writes = made_writes g.field_of (Both g.AliasAndName (Both (g.Arguments r) (Both (g.Directives r) Set)))
      (λ (p : (Option (List ℕ) × List ℕ) × (List (List ℕ × Value) × (List Directive × List Selection))). w.alias_words p.0.0 p.0.1 ++ (w.arguments_words p.1.0 ++ (w.directives_words p.1.1.0 ++ w.set_words p.1.1.1))) w.selection_words
      (λ p. sym (selection_words-field p.0.0 p.0.1 p.1.0 p.1.1.0 p.1.1.1))
      (both_writes g.AliasAndName (Both (g.Arguments r) (Both (g.Directives r) Set)) (λ (p : Option (List ℕ) × List ℕ). w.alias_words p.0 p.1)
      (λ (p : List (List ℕ × Value) × (List Directive × List Selection)). w.arguments_words p.0 ++ (w.directives_words p.1.0 ++ w.set_words p.1.1)) alias_writes
      (both_writes (g.Arguments r) (Both (g.Directives r) Set) w.arguments_words (λ (p : List Directive × List Selection). w.directives_words p.0 ++ w.set_words p.1) (arguments_writes r)
      (both_writes (g.Directives r) Set w.directives_words w.set_words (directives_writes r) set)))

  inline_writes : Writes (After (g.is k.Dots) (g.IsInline r Set)) w.selection_words
  inline_writes = record { is = λ x ts proper h. all.is x ts proper (turn x ts h) }
    where
      Body : g.Rule (Option (List ℕ) × (List Directive × List Selection))
      Body = Both (Optional (Made (λ (n : List ℕ). Some n) g.Condition) None) (Both (g.Directives r) Set)

      turn : (x : Selection) (ts : List lex.Token) → After (g.is k.Dots) (g.IsInline r Set) x ts
          → Made g.inline_of (After (g.is k.Dots) (Both (Optional (Made (λ (n : List ℕ). Some n) g.Condition) None) (Both (g.Directives r) Set))) x ts
      turn x ts (t, rest, is_dots, (p, made, body), cut) = (p, made, (t, rest, is_dots, body, cut))

      condition : Writes (Optional (Made (λ (n : List ℕ). Some n) g.Condition) None) w.condition_words
      condition = optional_writes (Made (λ (n : List ℕ). Some n) g.Condition) None w.condition_words refl
          (made_writes (λ (n : List ℕ). Some n) g.Condition (λ (a : List ℕ). w.token k.On (codes "on") ∷ (w.name a ∷ [])) w.condition_words (λ a. refl)
          (after_writes (g.is k.On) (w.token k.On (codes "on")) (Text is_name) (λ (a : List ℕ). w.name a ∷ []) (one_kind k.On (codes "on") (λ a. refl)) name_writes))

      all : Writes (Made g.inline_of (After (g.is k.Dots) (Both (Optional (Made (λ (n : List ℕ). Some n) g.Condition) None) (Both (g.Directives r) Set)))) w.selection_words
      all = made_writes g.inline_of (After (g.is k.Dots) (Both (Optional (Made (λ (n : List ℕ). Some n) g.Condition) None) (Both (g.Directives r) Set)))
          (λ (p : Option (List ℕ) × (List Directive × List Selection)). w.dots ∷ (w.condition_words p.0 ++ (w.directives_words p.1.0 ++ w.set_words p.1.1))) w.selection_words (λ p. sym (selection_words-inline p.0 p.1.0 p.1.1))
          (after_writes (g.is k.Dots) w.dots (Both (Optional (Made (λ (n : List ℕ). Some n) g.Condition) None) (Both (g.Directives r) Set))
          (λ (p : Option (List ℕ) × (List Directive × List Selection)). w.condition_words p.0 ++ (w.directives_words p.1.0 ++ w.set_words p.1.1)) (one_kind k.Dots (codes "...") (λ a. refl))
          (both_writes (Optional (Made (λ (n : List ℕ). Some n) g.Condition) None) (Both (g.Directives r) Set) w.condition_words (λ (p : List Directive × List Selection). w.directives_words p.0 ++ w.set_words p.1) condition
          (both_writes (g.Directives r) Set w.directives_words w.set_words (directives_writes r) set)))

  spread_writes : Writes (After (g.is k.Dots) (g.IsSpread r)) w.selection_words
  spread_writes = record { is = λ x ts proper h. all.is x ts proper (turn x ts h) }
    where
      turn : (x : Selection) (ts : List lex.Token) → After (g.is k.Dots) (g.IsSpread r) x ts → Made g.spread_of (After (g.is k.Dots) (Both (Text is_fragment_name) (g.Directives r))) x ts
      turn x ts (t, rest, is_dots, (p, made, body), cut) = (p, made, (t, rest, is_dots, body, cut))

      all : Writes (Made g.spread_of (After (g.is k.Dots) (Both (Text is_fragment_name) (g.Directives r)))) w.selection_words
      all = made_writes g.spread_of (After (g.is k.Dots) (Both (Text is_fragment_name) (g.Directives r))) (λ (p : List ℕ × List Directive). w.dots ∷ (w.name p.0 ∷ w.directives_words p.1)) w.selection_words
          (λ p. sym (selection_words-spread p.0 p.1))
          (after_writes (g.is k.Dots) w.dots (Both (Text is_fragment_name) (g.Directives r)) (λ (p : List ℕ × List Directive). w.name p.0 ∷ w.directives_words p.1) (one_kind k.Dots (codes "...") (λ a. refl))
          (both_writes (Text is_fragment_name) (g.Directives r) (λ (a : List ℕ). w.name a ∷ []) w.directives_words fragment_name_writes (directives_writes r)))

selection_writes : (r : g.Rules) (Set : g.Rule (List Selection)) → Writes Set w.set_words → Writes (g.IsSelection r Set) w.selection_words
selection_writes r Set set = record { is = go }
  where
    optional : Writes (Optional Set []) w.set_words
    optional = optional_writes Set [] w.set_words refl set

    go : (x : Selection) (ts : List lex.Token) → AreProper ts → g.IsSelection r Set x ts → ts ≡ w.selection_words x
    go x ts proper (inl h) = (field_writes r (Optional Set []) optional).is x ts proper h
    go x ts proper (inr (t, rest, is_dots, inl h, cut)) = (spread_writes r Set set).is x ts proper (t, rest, is_dots, h, cut)
    go x ts proper (inr (t, rest, is_dots, inr h, cut)) = (inline_writes r Set set).is x ts proper (t, rest, is_dots, h, cut)

-- no text has a gap
gap_writes : Writes g.Gap w.set_words
gap_writes = record { is = λ x ts proper h. absurd ((subst AreProper h.2.1 proper).0.1 (sym (same_is k.Gap h.0.kind h.2.0))) }

pub set_writes : (r : g.Rules) (room : ℕ) → Writes (g.IsSet r room) w.set_words
unfolding g.IsSet
set_writes r zero = gap_writes
set_writes r (suc room) = either_writes (Enclosed (g.is k.OpenBrace) (Several (g.IsSelection r (g.IsSet r room))) (g.is k.CloseBrace)) g.Gap w.set_words
    (several_writes (g.is k.OpenBrace) (g.is k.CloseBrace) w.open_brace w.close_brace (g.IsSelection r (g.IsSet r room)) w.selection_words (one_kind k.OpenBrace (codes "{") (λ a. refl)) (one_kind k.CloseBrace (codes "}") (λ a. refl))
    (selection_writes r (g.IsSet r room) (set_writes r room)))
    gap_writes

-- ---- definitions

keyword_is : (kind : Kind) (a : List ℕ) → Proper (w.token kind a) → g.is_operation kind ≡ true → w.token kind a ≡ w.keyword (g.operation_kind kind)
keyword_is k.Query a proper e = ap (λ (q : List ℕ). w.token k.Query q) (real_text (w.token k.Query a) proper.0)
keyword_is k.Mutation a proper e = ap (λ (q : List ℕ). w.token k.Mutation q) (real_text (w.token k.Mutation a) proper.0)
keyword_is k.Subscription a proper e = ap (λ (q : List ℕ). w.token k.Subscription q) (real_text (w.token k.Subscription a) proper.0)
keyword_is kind a proper e = absurd (differ e)
  where
    differ : false ≡ true → ⊥
    differ e = cc

type_of_operation_writes : Writes g.OperationType (λ (x : OpKind). w.keyword x ∷ [])
type_of_operation_writes = record {
  is = λ x ts proper h. token_text h.0 (w.keyword x) ts (keyword_is h.0.kind h.0.text (subst AreProper h.2.1 proper).0 h.2.0 ∙ ap w.keyword (sym h.1)) h.2.1;
}

abbrev pub Whole : g.Rules → g.Rule (OpKind × (Option (List ℕ) × (List VarDef × (List Directive × List Selection))))
Whole r = Both g.OperationType (Both (Optional (Made (λ (n : List ℕ). Some n) (Text is_name)) None) (Both (g.Variables r) (Both (g.Directives r) (g.IsSet r r.sets))))

pub operation_writes : (r : g.Rules) → Writes (Made g.operation_of (Whole r)) w.operation_words
operation_writes r = made_writes g.operation_of (Whole r)
    (λ (p : OpKind × (Option (List ℕ) × (List VarDef × (List Directive × List Selection)))). w.keyword p.0 ∷ (w.name_words p.1.0 ++ (w.variables_words p.1.1.0 ++ (w.directives_words p.1.1.1.0 ++ w.set_words p.1.1.1.1)))) w.operation_words (λ p. refl)
    (both_writes g.OperationType (Both (Optional (Made (λ (n : List ℕ). Some n) (Text is_name)) None) (Both (g.Variables r) (Both (g.Directives r) (g.IsSet r r.sets)))) (λ (x : OpKind). w.keyword x ∷ [])
    (λ (p : Option (List ℕ) × (List VarDef × (List Directive × List Selection))). w.name_words p.0 ++ (w.variables_words p.1.0 ++ (w.directives_words p.1.1.0 ++ w.set_words p.1.1.1))) type_of_operation_writes
    (both_writes (Optional (Made (λ (n : List ℕ). Some n) (Text is_name)) None) (Both (g.Variables r) (Both (g.Directives r) (g.IsSet r r.sets))) w.name_words
    (λ (p : List VarDef × (List Directive × List Selection)). w.variables_words p.0 ++ (w.directives_words p.1.0 ++ w.set_words p.1.1))
    (optional_writes (Made (λ (n : List ℕ). Some n) (Text is_name)) None w.name_words refl (made_writes (λ (n : List ℕ). Some n) (Text is_name) (λ (a : List ℕ). w.name a ∷ []) w.name_words (λ a. refl) name_writes))
    (both_writes (g.Variables r) (Both (g.Directives r) (g.IsSet r r.sets)) w.variables_words (λ (p : List Directive × List Selection). w.directives_words p.0 ++ w.set_words p.1) (variables_writes r)
    (both_writes (g.Directives r) (g.IsSet r r.sets) w.directives_words w.set_words (directives_writes r) (set_writes r r.sets)))))

pub fragment_writes : (r : g.Rules) → Writes (g.IsFragment r) w.fragment_words
fragment_writes r = made_writes g.fragment_of (After (g.is k.Fragment) (Both (Text is_fragment_name) (Both g.Condition (Both (g.Directives r) (g.IsSet r r.sets)))))
    (λ (p : List ℕ × (List ℕ × (List Directive × List Selection))). w.token k.Fragment (codes "fragment") ∷ (w.name p.0 ∷ (w.token k.On (codes "on") ∷ (w.name p.1.0 ∷ (w.directives_words p.1.1.0 ++ w.set_words p.1.1.1))))) w.fragment_words (λ p. refl)
    (after_writes (g.is k.Fragment) (w.token k.Fragment (codes "fragment")) (Both (Text is_fragment_name) (Both g.Condition (Both (g.Directives r) (g.IsSet r r.sets))))
    (λ (p : List ℕ × (List ℕ × (List Directive × List Selection))). w.name p.0 ∷ (w.token k.On (codes "on") ∷ (w.name p.1.0 ∷ (w.directives_words p.1.1.0 ++ w.set_words p.1.1.1)))) (one_kind k.Fragment (codes "fragment") (λ a. refl))
    (both_writes (Text is_fragment_name) (Both g.Condition (Both (g.Directives r) (g.IsSet r r.sets))) (λ (a : List ℕ). w.name a ∷ [])
    (λ (p : List ℕ × (List Directive × List Selection)). w.token k.On (codes "on") ∷ (w.name p.0 ∷ (w.directives_words p.1.0 ++ w.set_words p.1.1))) fragment_name_writes
    (both_writes g.Condition (Both (g.Directives r) (g.IsSet r r.sets)) (λ (a : List ℕ). w.token k.On (codes "on") ∷ (w.name a ∷ [])) (λ (p : List Directive × List Selection). w.directives_words p.0 ++ w.set_words p.1)
    (after_writes (g.is k.On) (w.token k.On (codes "on")) (Text is_name) (λ (a : List ℕ). w.name a ∷ []) (one_kind k.On (codes "on") (λ a. refl)) name_writes)
    (both_writes (g.Directives r) (g.IsSet r r.sets) w.directives_words w.set_words (directives_writes r) (set_writes r r.sets)))))
