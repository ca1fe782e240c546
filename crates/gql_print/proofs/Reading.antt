-- A document for which a text stands is read from its canonical text again.
use Rattle.std.proofs.Common.{◌≡◌, ℕ, Bool, true, false, List, [], ◌∷◌, ◌++◌, Option, Some, None, refl, sym, ap, subst, ◌∙◌, ◌⊎◌, inl, inr, append_assoc}
use Rattle.std.specs.Prelude.{map, codes, ◌↔◌}
use Rattle.token_read.specs.Exact.{AreReal, Each, Either}
use Rattle.token_read.specs.Productions.{Made, Several}
use Rattle.gql_tokens.specs.declared.kinds.Kind.TheVariants as k
use Rattle.gql_tokens.specs.declared.scanner.Class.TheVariants as c
use Rattle.gql_tokens.specs.Lexical as lex
use Rattle.gql_terms.specs.declared.documents.OpKind.TheVariants as op
use Rattle.gql_terms.specs.declared.documents.Operation.{Operation}
use Rattle.gql_terms.specs.declared.documents.Fragment.{Fragment}
use Rattle.gql_terms.specs.declared.documents.Document.{Document}
use Rattle.gql_terms.specs.Grammar as g
use Rattle.gql_parser.proofs.Explained.{text_once}
use Rattle.gql_print.specs.Words as w
use Rattle.gql_print.specs.Canonical.{text_of, canonical_text, AreBytes, IsText}
use Rattle.gql_print.proofs.Writes.{Proper, AreProper, append_proper}
use Rattle.gql_print.proofs.Written.{Whole, set_writes, operation_writes, fragment_writes}
use Rattle.gql_print.proofs.Texts.{text_lexes, lexes_proper}

-- the keyword that a shorthand leaves out
query_is : lex.IsReal (w.keyword op.Query)
unfolding lex.name_kind
query_is = (c.Name, codes "query", lex.name 113 (codes "uery") refl (refl, (refl, (refl, (refl, tt)))), refl)

-- the words are the definition, and bytes are these tokens
abbrev pub IsGood : List lex.Token → g.Definition → Type 0
IsGood ts x = g.IsDefinition g.strict x ts × AreProper ts

good_operation : (o : Operation) (ts : List lex.Token) → AreProper ts → g.IsOperation g.strict o ts → IsGood (w.operation_words o) (g.operation o)
good_operation o ts proper (inr h) =
    let same : ts ≡ w.operation_words o = (operation_writes g.strict).is o ts proper h in
    (inl (o, refl, subst (g.IsOperation g.strict o) same (inr h)), subst AreProper same proper)
good_operation o ts proper (inl (xs, is, set)) = subst (λ (q : Operation). IsGood (w.operation_words q) (g.operation q)) (sym is) short
  where
    same : ts ≡ w.set_words xs
    same = (set_writes g.strict 64).is xs ts proper set

    short : IsGood (w.operation_words (g.shorthand_of xs)) (g.operation (g.shorthand_of xs))
    short = (
      inl (
        g.shorthand_of xs,
        refl,
        inr (
          (op.Query, (None, ([], ([], xs)))),
          refl,
          (w.keyword op.Query ∷ [], w.set_words xs, (w.keyword op.Query, refl, (refl, refl)), ([], w.set_words xs, inr (refl, refl), ([], w.set_words xs, inr (refl, refl), ([], w.set_words xs, refl, subst (g.IsSet g.strict 64 xs) same set, refl), refl), refl), refl),
        ),
      ),
      ((query_is, λ e. absurd cc), subst AreProper same proper),
    )

good_fragment : (f : Fragment) (ts : List lex.Token) → AreProper ts → g.IsFragment g.strict f ts → IsGood (w.fragment_words f) (g.fragment f)
good_fragment f ts proper h =
    let same : ts ≡ w.fragment_words f = (fragment_writes g.strict).is f ts proper h in
    (inr (f, refl, subst (g.IsFragment g.strict f) same h), subst AreProper same proper)

-- ---- definitions in their order, and operations first

abbrev pub AllGood : List g.Definition → Type 0
AllGood [] = Unit {0}
AllGood (g.operation o ∷ ds) = IsGood (w.operation_words o) (g.operation o) × AllGood ds
AllGood (g.fragment f ∷ ds) = IsGood (w.fragment_words f) (g.fragment f) × AllGood ds

front_proper : (u v : List lex.Token) → AreProper (u ++ v) → AreProper u
front_proper [] v h = tt
front_proper (t ∷ u) v h = (h.0, front_proper u v h.1)

back_proper : (u v : List lex.Token) → AreProper (u ++ v) → AreProper v
back_proper [] v h = h
back_proper (t ∷ u) v h = back_proper u v h.1

all_good : (ds : List g.Definition) (ts : List lex.Token) → AreProper ts → Each (g.IsDefinition g.strict) ds ts → AllGood ds
all_good [] ts proper each = tt
all_good (g.operation o ∷ ds) ts proper (u, v, first, rest, cut) =
    let here : AreProper (u ++ v) = subst AreProper cut proper in
    (good first (front_proper u v here), all_good ds v (back_proper u v here) rest)
  where
    good : g.IsDefinition g.strict (g.operation o) u → AreProper u → IsGood (w.operation_words o) (g.operation o)
    good (inl (p, is, h)) proper = good_operation o u proper (subst (λ (q : Operation). g.IsOperation g.strict q u) (operation_is is) h)
      where
        operation_is : {a b : Operation} → g.operation a ≡ g.operation b → b ≡ a
        operation_is e = cc
    good (inr (p, is, h)) proper = absurd (differ is)
      where
        differ : {a : Operation} {b : Fragment} → g.operation a ≡ g.fragment b → ⊥
        differ e = cc
all_good (g.fragment f ∷ ds) ts proper (u, v, first, rest, cut) =
    let here : AreProper (u ++ v) = subst AreProper cut proper in
    (good first (front_proper u v here), all_good ds v (back_proper u v here) rest)
  where
    good : g.IsDefinition g.strict (g.fragment f) u → AreProper u → IsGood (w.fragment_words f) (g.fragment f)
    good (inl (p, is, h)) proper = absurd (differ is)
      where
        differ : {a : Fragment} {b : Operation} → g.fragment a ≡ g.operation b → ⊥
        differ e = cc
    good (inr (p, is, h)) proper = good_fragment f u proper (subst (λ (q : Fragment). g.IsFragment g.strict q u) (fragment_is is) h)
      where
        fragment_is : {a b : Fragment} → g.fragment a ≡ g.fragment b → b ≡ a
        fragment_is e = cc

abbrev pub EachGood : List g.Definition → List lex.Token → Type 0
EachGood ds ts = Each (g.IsDefinition g.strict) ds ts × AreProper ts

operations_first : (ds : List g.Definition) → AllGood ds → EachGood (map (λ o. g.operation o) (g.operations ds)) (w.joined (map w.operation_words (g.operations ds)))
operations_first [] good = (refl, tt)
operations_first (g.operation o ∷ ds) good =
    let rest = operations_first ds good.1 in
    ((w.operation_words o, w.joined (map w.operation_words (g.operations ds)), good.0.0, rest.0, refl), append_proper (w.operation_words o) (w.joined (map w.operation_words (g.operations ds))) good.0.1 rest.1)
operations_first (g.fragment f ∷ ds) good = operations_first ds good.1

fragments_then : (ds : List g.Definition) → AllGood ds → EachGood (map (λ f. g.fragment f) (g.fragments ds)) (w.joined (map w.fragment_words (g.fragments ds)))
fragments_then [] good = (refl, tt)
fragments_then (g.operation o ∷ ds) good = fragments_then ds good.1
fragments_then (g.fragment f ∷ ds) good =
    let rest = fragments_then ds good.1 in
    ((w.fragment_words f, w.joined (map w.fragment_words (g.fragments ds)), good.0.0, rest.0, refl), append_proper (w.fragment_words f) (w.joined (map w.fragment_words (g.fragments ds))) good.0.1 rest.1)

both_each : (xs ys : List g.Definition) (u v : List lex.Token) → Each (g.IsDefinition g.strict) xs u → Each (g.IsDefinition g.strict) ys v → Each (g.IsDefinition g.strict) (xs ++ ys) (u ++ v)
both_each [] ys u v a b = subst (λ (q : List lex.Token). Each (g.IsDefinition g.strict) ys (q ++ v)) (sym a) b
both_each (x ∷ xs) ys u v (p, q, first, rest, cut) b = (p, q ++ v, first, both_each xs ys q v rest b, ap (λ (t : List lex.Token). t ++ v) cut ∙ append_assoc p q v)

abbrev ordered : List Operation → List Fragment → List g.Definition
ordered os fs = map (λ o. g.operation o) os ++ map (λ f. g.fragment f) fs

ordered_fragments : (fs : List Fragment) → (g.operations (map (λ f. g.fragment f) fs) ≡ []) × (g.fragments (map (λ f. g.fragment f) fs) ≡ fs)
ordered_fragments [] = (refl, refl)
ordered_fragments (f ∷ fs) = let r = ordered_fragments fs in (r.0, ap (λ (q : List Fragment). f ∷ q) r.1)

ordered_operations : (os : List Operation) (fs : List Fragment) → (g.operations (ordered os fs) ≡ os) × (g.fragments (ordered os fs) ≡ fs)
ordered_operations [] fs = ordered_fragments fs
ordered_operations (o ∷ os) fs = let r = ordered_operations os fs in (ap (λ (q : List Operation). o ∷ q) r.0, r.1)

several_of : (xs : List g.Definition) (ts : List lex.Token) → (xs ≡ [] → ⊥) → Each (g.IsDefinition g.strict) xs ts → Several (g.IsDefinition g.strict) xs ts
several_of [] ts some each = absurd (some refl)
several_of (x ∷ xs) ts some each = (x, xs, refl, each)

some_ordered : (x : g.Definition) (ds : List g.Definition) → ordered (g.operations (x ∷ ds)) (g.fragments (x ∷ ds)) ≡ [] → ⊥
some_ordered (g.operation o) ds e = cc
some_ordered (g.fragment f) ds e = go (g.operations ds) e
  where
    go : (os : List Operation) → ordered os (f ∷ g.fragments ds) ≡ [] → ⊥
    go [] e = cc
    go (o ∷ os) e = cc

pub words_again : (d : Document) (ts : List lex.Token) → AreProper ts → g.IsDocument g.strict d ts → g.IsDocument g.strict d (w.document_words d) × AreProper (w.document_words d)
words_again d ts proper (ds, is, (x, ys, parts, each)) = subst (λ (q : Document). g.IsDocument g.strict q (w.document_words q) × AreProper (w.document_words q)) (sym is) again
  where
    good : AllGood ds
    good = all_good ds ts proper (subst (λ (q : List g.Definition). Each (g.IsDefinition g.strict) q ts) (sym parts) each)

    first : EachGood (map (λ o. g.operation o) (g.operations ds)) (w.joined (map w.operation_words (g.operations ds)))
    first = operations_first ds good

    second : EachGood (map (λ f. g.fragment f) (g.fragments ds)) (w.joined (map w.fragment_words (g.fragments ds)))
    second = fragments_then ds good

    names : (g.operations (ordered (g.operations ds) (g.fragments ds)) ≡ g.operations ds) × (g.fragments (ordered (g.operations ds) (g.fragments ds)) ≡ g.fragments ds)
    names = ordered_operations (g.operations ds) (g.fragments ds)

    some : ordered (g.operations ds) (g.fragments ds) ≡ [] → ⊥
    some e = some_ordered x ys (ap (λ (q : List g.Definition). ordered (g.operations q) (g.fragments q)) (sym parts) ∙ e)

    same : g.document_of ds ≡ g.document_of (ordered (g.operations ds) (g.fragments ds))
    same = made (g.operations ds) (g.operations (ordered (g.operations ds) (g.fragments ds))) (g.fragments ds) (g.fragments (ordered (g.operations ds) (g.fragments ds))) (sym names.0) (sym names.1)
      where
        made : (a b : List Operation) (p q : List Fragment) → a ≡ b → p ≡ q → (let x : Document = record { operations = a; fragments = p } in x) ≡ record { operations = b; fragments = q }
        made a b p q e h = cc

    again : g.IsDocument g.strict (g.document_of ds) (w.document_words (g.document_of ds)) × AreProper (w.document_words (g.document_of ds))
    again = (
      (
        ordered (g.operations ds) (g.fragments ds),
        same,
        several_of (ordered (g.operations ds) (g.fragments ds)) (w.document_words (g.document_of ds)) some
            (both_each (map (λ o. g.operation o) (g.operations ds)) (map (λ f. g.fragment f) (g.fragments ds)) (w.joined (map w.operation_words (g.operations ds))) (w.joined (map w.fragment_words (g.fragments ds))) first.0 second.0),
      ),
      append_proper (w.joined (map w.operation_words (g.operations ds))) (w.joined (map w.fragment_words (g.fragments ds))) first.1 second.1,
    )

-- ---- texts

pub text_again : (d : Document) (other : List ℕ) → AreBytes other → IsText d other → IsText d (canonical_text d)
text_again d other bytes (ts, l, is) =
    let again = words_again d ts (lexes_proper l bytes) is in
    (w.document_words d, text_lexes (w.document_words d) again.1, again.0)

pub equal_texts : (a b : Document) (s t : List ℕ) → AreBytes s → AreBytes t → IsText a s → IsText b t → (canonical_text a ≡ canonical_text b) ↔ (a ≡ b)
equal_texts a b s t bytes bytes' x y = (
  λ same. text_once (canonical_text b) a b (subst (IsText a) same (text_again a s bytes x)) (text_again b t bytes' y),
  λ same. ap canonical_text same,
)
