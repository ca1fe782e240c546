-- How what is appended adds up to the words, each followed by what separates it from the next.
use Rattle.std.proofs.Common.{◌≡◌, ℕ, zero, suc, ◌+◌, ◌-◌, ◌<◌, ◌≤◌, Bool, true, false, List, [], ◌∷◌, ◌++◌, Option, Some, None, length, get_or, take, drop, refl, sym, ap, subst, ◌∙◌, ◌⊎◌, inl, inr, arith, append_assoc, drop-cons, add-one, length-append}
use Rattle.std.specs.Prelude.{map, codes, ◌==◌}
use Rattle.std.proofs.Math.Seq.{take-append_seam}
use Rattle.std.proofs.lemmas.List.{append-nil, drop_all, get_or_push}
use Rattle.std.proofs.lemmas.Grind.{flat_map-append}
use Rattle.gql_tokens.specs.declared.kinds.Kind.TheVariants as k
use Rattle.gql_tokens.specs.Lexical.{Token, name_kind}
use Rattle.gql_terms.specs.declared.documents.Value.{Value}
use Rattle.gql_terms.specs.declared.documents.Value.TheVariants as v
use Rattle.gql_terms.specs.declared.documents.Document.{Document}
use Rattle.gql_terms.specs.declared.documents.Operation.{Operation}
use Rattle.gql_terms.specs.declared.documents.Fragment.{Fragment}
use Rattle.gql_terms.specs.declared.documents.Directive.{Directive}
use Rattle.gql_terms.specs.declared.documents.OpKind.{OpKind}
use Rattle.gql_terms.specs.declared.documents.OpKind.TheVariants as op
use Rattle.gql_print.specs.Words as w
use Rattle.gql_print.specs.Canonical.{source, separator, spaced_token, spaced, text_of}
use Rattle.gql_print.proofs.Sources.{name_separator, name_source}
use Rattle.gql_print.proofs.Equations.{value_words-object}

pub spaced_append : (a b : List Token) → spaced (a ++ b) ≡ spaced a ++ spaced b
spaced_append a b = flat_map-append spaced_token a b

-- one after another
pub and_then : (o m n : List ℕ) (a b : List Token) → m ≡ o ++ spaced a → n ≡ m ++ spaced b → n ≡ o ++ spaced (a ++ b)
and_then o m n a b first second = second ∙ ap (λ (q : List ℕ). q ++ spaced b) first ∙ append_assoc o (spaced a) (spaced b) ∙ ap (λ (q : List ℕ). o ++ q) (sym (spaced_append a b))

-- a name
pub named : (o text : List ℕ) → o ++ (text ++ (32 ∷ [])) ≡ o ++ spaced (w.name text ∷ [])
named o text = ap (λ (q : List ℕ). o ++ q) (sym (append-nil (spaced_token (w.name text)) ∙ ap (λ (q : List ℕ). q ++ separator (name_kind text)) (name_source text) ∙ ap (λ (q : List ℕ). text ++ q) (name_separator text)))

-- ---- loops

module _ {X : Type 0} (f : X → List Token) where
  step : (xs : List X) (i : ℕ) (x : X) → i < length xs → x ≡ get_or xs i x → w.joined (map f (drop i xs)) ≡ f x ++ w.joined (map f (drop (i + 1) xs))
  step xs i x within is =
      ap (λ (q : List X). w.joined (map f q)) (drop-cons xs i x within)
      ∙ ap (λ (q : X). f q ++ w.joined (map f (drop (suc i) xs))) (sym is)
      ∙ ap (λ (n : ℕ). f x ++ w.joined (map f (drop n xs))) (sym (add-one i))

  pub appended : (xs : List X) (i : ℕ) (x : X) (old new total : List ℕ) → i < length xs → x ≡ get_or xs i x → old ++ spaced (w.joined (map f (drop i xs))) ≡ total → new ≡ old ++ spaced (f x)
      → new ++ spaced (w.joined (map f (drop (i + 1) xs))) ≡ total
  appended xs i x old new total within is all one =
      ap (λ (q : List ℕ). q ++ spaced (w.joined (map f (drop (i + 1) xs)))) one
      ∙ append_assoc old (spaced (f x)) (spaced (w.joined (map f (drop (i + 1) xs))))
      ∙ ap (λ (q : List ℕ). old ++ q) (sym (spaced_append (f x) (w.joined (map f (drop (i + 1) xs)))) ∙ ap spaced (sym (step xs i x within is)))
      ∙ all

  pub all_appended : (xs : List X) (i : ℕ) (out total : List ℕ) → length xs ≤ i → out ++ spaced (w.joined (map f (drop i xs))) ≡ total → out ≡ total
  all_appended xs i out total over all = sym (append-nil out) ∙ ap (λ (q : List X). out ++ spaced (w.joined (map f q))) (sym (drop_all i xs over)) ∙ all

-- ---- the last token is followed by a space

abbrev pub EndsPlain : List Token → Type 0
EndsPlain [] = Unit {0}
EndsPlain (t ∷ []) = separator t.kind ≡ 32 ∷ []
EndsPlain (t ∷ (u ∷ us)) = EndsPlain (u ∷ us)

ends_append : (a b : List Token) → EndsPlain a → EndsPlain b → EndsPlain (a ++ b)
ends_append [] b x y = y
ends_append (t ∷ []) [] x y = x
ends_append (t ∷ []) (u ∷ us) x y = y
ends_append (t ∷ (u ∷ us)) b x y = ends_append (u ∷ us) b x y

ends_enclosed : (left : Token) (tss : List (List Token)) (right : Token) → separator right.kind ≡ 32 ∷ [] → EndsPlain (w.enclosed left tss right)
ends_enclosed left [] right plain = tt
ends_enclosed left (ts ∷ tss) right plain = last (left ∷ w.joined (ts ∷ tss))
  where
    last : (xs : List Token) → EndsPlain (xs ++ (right ∷ []))
    last [] = plain
    last (x ∷ []) = plain
    last (x ∷ (y ∷ ys)) = last (y ∷ ys)

ends_map : {X : Type 0} (f : X → List Token) → ((x : X) → EndsPlain (f x)) → (xs : List X) → EndsPlain (w.joined (map f xs))
ends_map f each [] = tt
ends_map f each (x ∷ xs) = ends_append (f x) (w.joined (map f xs)) (each x) (ends_map f each xs)

ends_directive : (d : Directive) → EndsPlain (w.directive_words d)
ends_directive d = ends_append (w.at_sign ∷ (w.name d.name ∷ [])) (w.arguments_words d.arguments) (name_separator d.name) (ends_enclosed w.open_paren (map w.pair_words d.arguments) w.close_paren refl)

ends_keyword : (kind : OpKind) → EndsPlain (w.keyword kind ∷ [])
ends_keyword op.Query = refl
ends_keyword op.Mutation = refl
ends_keyword op.Subscription = refl

ends_name : (name : Option (List ℕ)) → EndsPlain (w.name_words name)
ends_name None = tt
ends_name (Some a) = name_separator a

ends_operation : (o : Operation) → EndsPlain (w.operation_words o)
ends_operation o = ends_append (w.keyword o.kind ∷ []) (w.name_words o.name ++ (w.variables_words o.variables ++ (w.directives_words o.directives ++ w.set_words o.selections))) (ends_keyword o.kind)
    (ends_append (w.name_words o.name) (w.variables_words o.variables ++ (w.directives_words o.directives ++ w.set_words o.selections)) (ends_name o.name)
    (ends_append (w.variables_words o.variables) (w.directives_words o.directives ++ w.set_words o.selections) (ends_enclosed w.open_paren (map w.variable_words o.variables) w.close_paren refl)
    (ends_append (w.directives_words o.directives) (w.set_words o.selections) (ends_map w.directive_words ends_directive o.directives) (ends_enclosed w.open_brace (map w.selection_words o.selections) w.close_brace refl))))

ends_fragment : (f : Fragment) → EndsPlain (w.fragment_words f)
ends_fragment f = ends_append (w.token k.Fragment (codes "fragment") ∷ (w.name f.name ∷ (w.token k.On (codes "on") ∷ (w.name f.on ∷ [])))) (w.directives_words f.directives ++ w.set_words f.selections) (name_separator f.on)
    (ends_append (w.directives_words f.directives) (w.set_words f.selections) (ends_map w.directive_words ends_directive f.directives) (ends_enclosed w.open_brace (map w.selection_words f.selections) w.close_brace refl))

pub ends_document : (d : Document) → EndsPlain (w.document_words d)
ends_document d = ends_append (w.joined (map w.operation_words d.operations)) (w.joined (map w.fragment_words d.fragments)) (ends_map w.operation_words ends_operation d.operations) (ends_map w.fragment_words ends_fragment d.fragments)

spaced_text : (t : Token) (ts : List Token) → EndsPlain (t ∷ ts) → spaced (t ∷ ts) ≡ text_of (t ∷ ts) ++ (32 ∷ [])
spaced_text t [] plain = append-nil (spaced_token t) ∙ ap (λ (q : List ℕ). source t ++ q) plain
spaced_text t (u ∷ us) plain =
    ap (λ (q : List ℕ). spaced_token t ++ q) (spaced_text u us plain)
    ∙ append_assoc (source t) (separator t.kind) (text_of (u ∷ us) ++ (32 ∷ []))
    ∙ ap (λ (q : List ℕ). source t ++ q) (sym (append_assoc (separator t.kind) (text_of (u ∷ us)) (32 ∷ [])))
    ∙ sym (append_assoc (source t) (separator t.kind ++ text_of (u ∷ us)) (32 ∷ []))

no_length : (xs : List ℕ) → length xs ≡ 0 → xs ≡ []
no_length [] e = refl
no_length (x ∷ xs) e = absurd (omega arith)

-- without the space at the end
pub popped : (d : Document) (bytes new : List ℕ) (n : ℕ) → bytes ≡ spaced (w.document_words d) → n ≡ length bytes → length new ≤ n → (0 < n → get_or bytes (n - 1) 0 < 128 → new ≡ take (n - 1) bytes)
    → new ≡ text_of (w.document_words d)
popped d bytes new n is count few rest = go (w.document_words d) (ends_document d) is
  where
    go : (ts : List Token) → EndsPlain ts → bytes ≡ spaced ts → new ≡ text_of ts
    go [] plain is = no_length new (let none : length bytes ≡ 0 = ap length is in omega arith)
    go (t ∷ ts) plain is =
        let all : bytes ≡ text_of (t ∷ ts) ++ (32 ∷ []) = is ∙ spaced_text t ts plain in
        let total : length bytes ≡ length (text_of (t ∷ ts)) + 1 = ap length all ∙ length-append (text_of (t ∷ ts)) (32 ∷ []) in
        let place : n - 1 ≡ length (text_of (t ∷ ts)) = omega arith in
        let last : get_or bytes (n - 1) 0 ≡ 32 = ap (λ (q : List ℕ). get_or q (n - 1) 0) all ∙ get_or_push (text_of (t ∷ ts)) 32 0 (n - 1) (sym place) in
        rest (omega arith) (omega arith) ∙ ap (λ (m : ℕ). take m bytes) place ∙ ap (take (length (text_of (t ∷ ts)))) all ∙ take-append_seam (text_of (t ∷ ts)) (32 ∷ [])

-- in brackets, where there is something
pub in_brackets : {X : Type 0} (f : X → List Token) (left right : Token) (xs : List X) (o n : List ℕ) → 0 < length xs → n ≡ o ++ spaced (left ∷ (w.joined (map f xs) ++ (right ∷ []))) → n ≡ o ++ spaced (w.enclosed left (map f xs) right)
in_brackets f left right [] o n some is = absurd (omega arith)
in_brackets f left right (x ∷ xs) o n some is = is

pub not_empty : (n : ℕ) (b : Bool) → b ≡ (n == 0) → b ≡ false → 0 < n
not_empty zero b is off = absurd (differ (sym is ∙ off))
  where
    differ : true ≡ false → ⊥
    differ e = cc
not_empty (suc n) b is off = omega arith

-- a name, from what was pushed
pub name_pushed : (o m n text seen : List ℕ) → n ≡ m ++ (32 ∷ []) → m ≡ o ++ seen → seen ≡ text → n ≡ o ++ spaced (w.name text ∷ [])
name_pushed o m n text seen second first same =
    second ∙ ap (λ (q : List ℕ). q ++ (32 ∷ [])) (first ∙ ap (λ (q : List ℕ). o ++ q) same) ∙ append_assoc o text (32 ∷ []) ∙ named o text

pub object_words : (P : List Token → Type 0) (x : Value) (ms ns : List (List ℕ × Value)) → x ≡ v.Object ms → ns ≡ ms → P (w.open_brace ∷ (w.joined (map w.pair_words ns) ++ (w.close_brace ∷ []))) → P (w.value_words x)
object_words P x ms ns is same h =
    subst P (sym (ap w.value_words is ∙ value_words-object ms)) (subst (λ (q : List (List ℕ × Value)). P (w.open_brace ∷ (w.joined (map w.pair_words q) ++ (w.close_brace ∷ [])))) same h)
