-- A value is one plan file, or has one fault.
use Rattle.std.proofs.Common.{◌≡◌, ℕ, suc, List, [], ◌∷◌, ◌++◌, Option, Some, None, Ok, Err, Result, refl, sym, ap, ◌∙◌, subst}
use Rattle.std.specs.Prelude.{All, Bool, true, false, nat_lt, length}
use Rattle.std.proofs.lemmas.List.Elements.{All-head, All-tail}
use Rattle.json_value.specs.declared.tree.Json.{Json}
use Rattle.json_paths.specs.declared.path.Path.{Path}
use Rattle.gql_terms.specs.declared.documents.Document.{Document}
use Rattle.gql_parser.proofs.Explained.{text_once}
use Rattle.gql_spreads.specs.Spreads.{IsFirst, IsBad, document_spreads}
use Rattle.plan_tree.specs.declared.plan.Node.{Node}
use Rattle.plan_tree.specs.declared.plan.Node.TheVariants as node
use Rattle.plan_tree.specs.declared.plan.Fetch.{Fetch}
use Rattle.plan_book.specs.declared.kinds.Kind.{Kind}
use Rattle.plan_book.specs.declared.kinds.Standing.{Standing}
use Rattle.plan_book.specs.declared.book.Entry.{Entry}
use Rattle.plan_book.specs.declared.fault.PlanFault.{PlanFault}
use Rattle.plan_book.specs.Asking.{Read, faulty, made, ask_document, ask_spread, IsDocumentOf, IsAnswered}
use Rattle.plan_book.specs.Forms.{elements}
use Rattle.plan_book.specs.Fetches.{entity}
use Rattle.plan_book.specs.Nodes.{SoFar, after, fetched, flattened, gathered, with_first_node, IsNode, by_kind, IsOfKind, of_no_kind, is_fetch, no_flatten, is_flatten, is_sequence, is_parallel, AreInside, no_nodes, in_order, AreNodes, no_more, stops, another}
use Rattle.plan_book.specs.PlanFile as file
use Rattle.plan_book.specs.PlanFile.{Head, head, whole_entry, standing, IsWholeEntry, HasEntry, IsEntry, of_new_text, IsOfNewText, IsNextEntry, AreEntries, AreFew, IsListOf, IsPlanFile}

-- ---- what the grammar answers

not_in : (P : List ℕ → Type 0) (before : List (List ℕ)) (x : List ℕ) (later : List (List ℕ)) → All (λ y. P y → ⊥) (before ++ (x ∷ later)) → P x → ⊥
not_in P [] x later all p = All-head (λ y. P y → ⊥) x later all p
not_in P (z ∷ before) x later all p = not_in P before x later (All-tail (λ y. P y → ⊥) z (before ++ (x ∷ later)) all) p

one_first : (P : List ℕ → Type 0) (b : List (List ℕ)) (x : List ℕ) (a : List (List ℕ)) (d : List (List ℕ)) (y : List ℕ) (c : List (List ℕ)) →
    b ++ (x ∷ a) ≡ d ++ (y ∷ c) → P x → P y → All (λ z. P z → ⊥) b → All (λ z. P z → ⊥) d → x ≡ y
one_first P [] x a [] y c same px py nb nd = let h : x ∷ a ≡ y ∷ c = same in cc
one_first P [] x a (z ∷ d) y c same px py nb nd = let h : x ∷ a ≡ z ∷ (d ++ (y ∷ c)) = same in let e : x ≡ z = cc in absurd (All-head (λ z. P z → ⊥) z d nd (subst P e px))
one_first P (z ∷ b) x a [] y c same px py nb nd = let h : z ∷ (b ++ (x ∷ a)) ≡ y ∷ c = same in let e : y ≡ z = cc in absurd (All-head (λ z. P z → ⊥) z b nb (subst P e py))
one_first P (z ∷ b) x a (w ∷ d) y c same px py nb nd =
    let h : z ∷ (b ++ (x ∷ a)) ≡ w ∷ (d ++ (y ∷ c)) = same in
    let rest : b ++ (x ∷ a) ≡ d ++ (y ∷ c) = cc in
    one_first P b x a d y c rest px py (All-tail (λ z. P z → ⊥) z b nb) (All-tail (λ z. P z → ⊥) w d nd)

first_once : (P : List ℕ → Type 0) (xs : List (List ℕ)) (a b : Option (List ℕ)) → IsFirst P xs a → IsFirst P xs b → a ≡ b
first_once P xs None None h k = refl
first_once P xs None (Some y) h (py, before, later, parts, apart) = absurd (not_in P before y later (subst (All (λ z. P z → ⊥)) parts h) py)
first_once P xs (Some x) None (px, before, later, parts, apart) k = absurd (not_in P before x later (subst (All (λ z. P z → ⊥)) parts k) px)
first_once P xs (Some x) (Some y) (px, before, later, parts, apart) (py, before', later', parts', apart') =
    ap (λ (z : List ℕ). Some z) (one_first P before x later before' y later' (sym parts ∙ parts') px py apart apart')

document_once : (text : List ℕ) (d e : Option Document) → IsDocumentOf text d → IsDocumentOf text e → d ≡ e
document_once text None None h k = refl
document_once text None (Some e) h k = absurd (h e k)
document_once text (Some d) None h k = absurd (k d h)
document_once text (Some d) (Some e) h k = ap (λ (x : Document). Some x) (text_once text d e h k)

says_once : {X : Type 0} (read : Read X) (r q : Result X PlanFault) → IsAnswered read r → IsAnswered read q → r ≡ q
says_once (faulty f) r q h k = h ∙ sym k
says_once (made x) r q h k = h ∙ sym k
says_once (ask_document text onward) r q (d, stands, h) (e, stands', k) =
    says_once (onward e) r q (subst (λ (x : Option Document). IsAnswered (onward x) r) (document_once text d e stands stands') h) k
says_once (ask_spread document onward) r q (a, is, h) (b, is', k) =
    says_once (onward b) r q (subst (λ (x : Option (List ℕ)). IsAnswered (onward x) r) (first_once (IsBad document.fragments) (document_spreads document) a b is is') h) k

-- ---- nodes

ok_same : {X : Type 0} {x y : X} → ◌≡◌ {A = Result X PlanFault} (Ok x) (Ok y) → x ≡ y
ok_same e = cc

err_same : {X : Type 0} {f g : PlanFault} → ◌≡◌ {A = Result X PlanFault} (Err f) (Err g) → f ≡ g
err_same e = cc

not_both : {X : Type 0} {x : X} {f : PlanFault} → ◌≡◌ {A = Result X PlanFault} (Ok x) (Err f) → ⊥
not_both e = cc

first_same : {n n' : Node} {b b' : SoFar} → ◌≡◌ {A = Node × SoFar} (n, b) (n', b') → n ≡ n'
first_same e = ap (λ (p : Node × SoFar). p.0) e

second_same : {n n' : Node} {b b' : SoFar} → ◌≡◌ {A = Node × SoFar} (n, b) (n', b') → b ≡ b'
second_same e = ap (λ (p : Node × SoFar). p.1) e

flatten_once : (s : Standing) (b : SoFar) (path path' : Path) (inner inner' : Json) (r q : Result Fetch PlanFault) → ◌≡◌ {A = Path × Json} (path, inner) (path', inner') →
    IsAnswered (entity s (suc b.nodes) inner) r → IsAnswered (entity s (suc b.nodes) inner') q → after (flattened b path) r ≡ after (flattened b path') q
flatten_once s b path path' inner inner' r q same l m =
    let here : IsAnswered (entity s (suc b.nodes) inner') r = subst (λ (p : Path × Json). IsAnswered (entity s (suc b.nodes) p.1) r) same l in
    ap (λ (p : Path × Json). after (flattened b p.0) r) same ∙ ap (after (flattened b path')) (says_once (entity s (suc b.nodes) inner') r q here m)

mutual
  node_once : {s : Standing} {b : SoFar} {v : Json} {r q : Result (Node × SoFar) PlanFault} → IsNode s b v r → IsNode s b v q → r ≡ q
  node_once (by_kind h) (by_kind k) = kind_once h k

  kind_once : {s : Standing} {o : Option Kind} {b : SoFar} {v : Json} {r q : Result (Node × SoFar) PlanFault} → IsOfKind s o b v r → IsOfKind s o b v q → r ≡ q
  kind_once of_no_kind of_no_kind = refl
  kind_once (is_fetch {b = b} r h) (is_fetch q k) = ap (after (fetched b)) (says_once _ r q h k)
  kind_once (no_flatten h) (no_flatten k) = ap (λ (f : PlanFault). Err f) (err_same (says_once _ (Err _) (Err _) h k))
  kind_once (no_flatten h) (is_flatten path inner r k l) = absurd (not_both (sym (says_once _ (Err _) (Ok (path, inner)) h k)))
  kind_once (is_flatten path inner r h l) (no_flatten k) = absurd (not_both (says_once _ (Ok (path, inner)) (Err _) h k))
  kind_once {s = s} (is_flatten {b = b} path inner r h l) (is_flatten path' inner' q k m) = flatten_once s b path path' inner inner' r q (ok_same (says_once _ (Ok (path, inner)) (Ok (path', inner')) h k)) l m
  kind_once (is_sequence h) (is_sequence k) = ap (after (gathered node.Sequence)) (inside_once h k)
  kind_once (is_parallel h) (is_parallel k) = ap (after (gathered node.Parallel)) (inside_once h k)

  inside_once : {s : Standing} {o : Option (List Json)} {b : SoFar} {r q : Result (List Node × SoFar) PlanFault} → AreInside s o b r → AreInside s o b q → r ≡ q
  inside_once no_nodes no_nodes = refl
  inside_once (in_order h) (in_order k) = nodes_once h k

  nodes_once : {s : Standing} {b : SoFar} {vs : List Json} {r q : Result (List Node × SoFar) PlanFault} → AreNodes s b vs r → AreNodes s b vs q → r ≡ q
  nodes_once no_more no_more = refl
  nodes_once (stops h) (stops k) = ap (λ (f : PlanFault). Err f) (err_same (node_once h k))
  nodes_once (stops h) (another k l) = absurd (not_both (sym (node_once h k)))
  nodes_once (another h l) (stops k) = absurd (not_both (node_once h k))
  nodes_once {s = s} (another {next = next} {vs = vs} {n = n} {r = r} h l) (another {next = next'} {n = n'} {r = q} k m) =
      let same : n ≡ n' = first_same (ok_same (node_once h k)) in
      ap (λ (x : Node). after (with_first_node x) r) same ∙ ap (after (with_first_node n')) (nodes_once l (subst (λ (x : SoFar). AreNodes s x vs q) (sym (second_same (ok_same (node_once h k)))) m))

-- ---- entries

whole_once : (n : ℕ) (h : Head) (t : Result (Node × SoFar) PlanFault) (r q : Result Entry PlanFault) → IsWholeEntry n h t r → IsWholeEntry n h t q → r ≡ q
whole_once n h (Err f) r q a b = a ∙ sym b
whole_once n h (Ok t) r q a b = says_once (whole_entry n h t) r q a b

plan_once : (n : ℕ) (read : Result Head PlanFault) (r q : Result Entry PlanFault) → HasEntry n read r → HasEntry n read q → r ≡ q
plan_once n (Err f) r q a b = a ∙ sym b
plan_once n (Ok h) r q (t, is, a) (u, is', b) = whole_once n h u r q (subst (λ x. IsWholeEntry n h x r) (node_once is is') a) b

entry_once : (n : ℕ) (v : Json) (r q : Result Entry PlanFault) → IsEntry n v r → IsEntry n v q → r ≡ q
entry_once n v r q a b = plan_once n b.read r q (subst (λ x. HasEntry n x r) (says_once (head n v) a.read b.read a.head_is b.head_is) a.plan_is) b.plan_is

fresh_once : (n : ℕ) (seen : List (List ℕ)) (e r q : Result Entry PlanFault) → IsOfNewText n seen e r → IsOfNewText n seen e q → r ≡ q
fresh_once n seen (Err f) r q a b = a ∙ sym b
fresh_once n seen (Ok e) r q a b = says_once (of_new_text n seen e) r q a b

next_once : {n : ℕ} {seen : List (List ℕ)} {v : Json} {r q : Result Entry PlanFault} → IsNextEntry n seen v r → IsNextEntry n seen v q → r ≡ q
next_once {n = n} {seen = seen} {v = v} {r = r} {q = q} a b =
    fresh_once n seen b.alone r q (subst (λ x. IsOfNewText n seen x r) (entry_once n v a.alone b.alone a.entry_is b.entry_is) a.fresh_is) b.fresh_is

entries_once : {vs : List Json} {n : ℕ} {seen : List (List ℕ)} {r q : Result (List Entry) PlanFault} → AreEntries vs n seen r → AreEntries vs n seen q → r ≡ q
entries_once file.no_more file.no_more = refl
entries_once (file.stops h) (file.stops k) = ap (λ (f : PlanFault). Err f) (err_same (next_once h k))
entries_once (file.stops h) (file.another k l) = absurd (not_both (sym (next_once h k)))
entries_once (file.another h l) (file.stops k) = absurd (not_both (next_once h k))
entries_once (file.another {vs = vs} {n = n} {seen = seen} {e = e} {r = r} h l) (file.another {e = d} {r = q} k m) =
    let same : e ≡ d = ok_same (next_once h k) in
    ap (λ (x : Entry). after (file.with_first_entry x) r) same
    ∙ ap (after (file.with_first_entry d)) (entries_once l (subst (λ (x : Entry). AreEntries vs (suc n) (seen ++ (x.text ∷ [])) q) (sym same) m))

few_once : (many : Bool) (items : List Json) (r q : Result (List Entry) PlanFault) → AreFew many items r → AreFew many items q → r ≡ q
few_once true items r q a b = a ∙ sym b
few_once false items r q a b = entries_once a b

list_once : (o : Option (List Json)) (r q : Result (List Entry) PlanFault) → IsListOf o r → IsListOf o q → r ≡ q
list_once None r q a b = a ∙ sym b
list_once (Some items) r q a b = few_once (nat_lt 1000 (length items)) items r q a b

pub plan_file_once : (v : Json) (r q : Result (List Entry) PlanFault) → IsPlanFile v r → IsPlanFile v q → r ≡ q
plan_file_once v r q a b = list_once (elements v) r q a b
