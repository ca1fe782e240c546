-- The words of each kind of value, type and selection.
use Rattle.std.proofs.Common.{◌≡◌, ℕ, Bool, List, [], ◌∷◌, ◌++◌, Option, ap, ◌∙◌, sym, refl}
use Rattle.std.specs.Prelude.{map, codes}
use Rattle.gql_tokens.specs.declared.kinds.Kind.TheVariants as k
use Rattle.gql_tokens.specs.Lexical.{Token}
use Rattle.gql_terms.specs.declared.documents.Value.{Value}
use Rattle.gql_terms.specs.declared.documents.Value.TheVariants as v
use Rattle.gql_terms.specs.declared.documents.Value.TheOpen.{Value-F}
use Rattle.gql_terms.specs.declared.documents.Value.TheFolds.{fold-roll-Value}
use Rattle.gql_terms.specs.declared.documents.TypeRef.{TypeRef}
use Rattle.gql_terms.specs.declared.documents.TypeRef.TheVariants as of
use Rattle.gql_terms.specs.declared.documents.TypeRef.TheOpen.{TypeRef-F}
use Rattle.gql_terms.specs.declared.documents.TypeRef.TheFolds.{fold-roll-TypeRef}
use Rattle.gql_terms.specs.declared.documents.Directive.{Directive}
use Rattle.gql_terms.specs.declared.documents.Selection.{Selection}
use Rattle.gql_terms.specs.declared.documents.Selection.TheVariants as s
use Rattle.gql_terms.specs.declared.documents.Selection.TheOpen.{Selection-F}
use Rattle.gql_terms.specs.declared.documents.Selection.TheFolds.{fold-roll-Selection}
use Rattle.gql_print.specs.Words.{
  token,
  name,
  dollar,
  dots,
  bool_word,
  open_bracket,
  close_bracket,
  open_brace,
  close_brace,
  bang,
  joined,
  enclosed,
  member_words,
  value_step,
  value_words,
  pair_words,
  type_step,
  type_words,
  alias_words,
  arguments_words,
  condition_words,
  directives_words,
  selection_step,
  selection_words,
  set_words,
}

pub value_words-variable : (a : List ℕ) → value_words (v.Variable a) ≡ dollar ∷ (name a ∷ [])
value_words-variable a = ap value_words (sym (v.rolls-Variable a)) ∙ fold-roll-Value (List Token) value_step (Value-F.Variable a)

pub value_words-number : (a : List ℕ) → value_words (v.Number a) ≡ token k.Number a ∷ []
value_words-number a = ap value_words (sym (v.rolls-Number a)) ∙ fold-roll-Value (List Token) value_step (Value-F.Number a)

pub value_words-string : (a : List ℕ) → value_words (v.Str a) ≡ token k.Str a ∷ []
value_words-string a = ap value_words (sym (v.rolls-Str a)) ∙ fold-roll-Value (List Token) value_step (Value-F.Str a)

pub value_words-block : (a : List ℕ) → value_words (v.Block a) ≡ token k.Block a ∷ []
value_words-block a = ap value_words (sym (v.rolls-Block a)) ∙ fold-roll-Value (List Token) value_step (Value-F.Block a)

pub value_words-bool : (b : Bool) → value_words (v.Bool b) ≡ bool_word b ∷ []
value_words-bool b = ap value_words (sym (v.rolls-Bool b)) ∙ fold-roll-Value (List Token) value_step (Value-F.Bool b)

pub value_words-null : value_words v.Null ≡ token k.Null (codes "null") ∷ []
value_words-null = ap value_words (sym v.rolls-Null) ∙ fold-roll-Value (List Token) value_step Value-F.Null

pub value_words-enum : (a : List ℕ) → value_words (v.EnumName a) ≡ name a ∷ []
value_words-enum a = ap value_words (sym (v.rolls-EnumName a)) ∙ fold-roll-Value (List Token) value_step (Value-F.EnumName a)

pub value_words-list : (items : List Value) → value_words (v.List items) ≡ open_bracket ∷ (joined (map value_words items) ++ (close_bracket ∷ []))
value_words-list items = ap value_words (sym (v.rolls-List items)) ∙ fold-roll-Value (List Token) value_step (Value-F.List items)

abbrev pub words_of_member : List ℕ × Value → List ℕ × List Token
words_of_member m = (m.0, value_words m.1)

members : (ms : List (List ℕ × Value)) → map member_words (map words_of_member ms) ≡ map pair_words ms
members [] = refl
members (m ∷ ms) = ap (λ (q : List (List Token)). pair_words m ∷ q) (members ms)

pub value_words-object : (ms : List (List ℕ × Value)) → value_words (v.Object ms) ≡ open_brace ∷ (joined (map pair_words ms) ++ (close_brace ∷ []))
value_words-object ms = ap value_words (sym (v.rolls-Object ms)) ∙ fold-roll-Value (List Token) value_step (Value-F.Object ms)
    ∙ ap (λ (q : List (List Token)). open_brace ∷ (joined q ++ (close_brace ∷ []))) (members ms)

pub type_words-named : (a : List ℕ) → type_words (of.Named a) ≡ name a ∷ []
type_words-named a = ap type_words (sym (of.rolls-Named a)) ∙ fold-roll-TypeRef (List Token) type_step (TypeRef-F.Named a)

pub type_words-list : (t : TypeRef) → type_words (of.ListOf t) ≡ open_bracket ∷ (type_words t ++ (close_bracket ∷ []))
type_words-list t = ap type_words (sym (of.rolls-ListOf t)) ∙ fold-roll-TypeRef (List Token) type_step (TypeRef-F.ListOf t)

pub type_words-non_null : (t : TypeRef) → type_words (of.NonNull t) ≡ type_words t ++ (bang ∷ [])
type_words-non_null t = ap type_words (sym (of.rolls-NonNull t)) ∙ fold-roll-TypeRef (List Token) type_step (TypeRef-F.NonNull t)

pub selection_words-field : (alias : Option (List ℕ)) (a : List ℕ) (arguments : List (List ℕ × Value)) (directives : List Directive) (xs : List Selection)
    → selection_words (s.Field alias a arguments directives xs) ≡ alias_words alias a ++ (arguments_words arguments ++ (directives_words directives ++ set_words xs))
selection_words-field alias a arguments directives xs = ap selection_words (sym (s.rolls-Field alias a arguments directives xs)) ∙ fold-roll-Selection (List Token) selection_step (Selection-F.Field alias a arguments directives xs)

pub selection_words-spread : (a : List ℕ) (directives : List Directive) → selection_words (s.Spread a directives) ≡ dots ∷ (name a ∷ directives_words directives)
selection_words-spread a directives = ap selection_words (sym (s.rolls-Spread a directives)) ∙ fold-roll-Selection (List Token) selection_step (Selection-F.Spread a directives)

pub selection_words-inline : (on : Option (List ℕ)) (directives : List Directive) (xs : List Selection)
    → selection_words (s.Inline on directives xs) ≡ dots ∷ (condition_words on ++ (directives_words directives ++ set_words xs))
selection_words-inline on directives xs = ap selection_words (sym (s.rolls-Inline on directives xs)) ∙ fold-roll-Selection (List Token) selection_step (Selection-F.Inline on directives xs)
