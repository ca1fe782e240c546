-- A fragment reaches itself by names where its number lies on a cycle.
use Rattle.std.proofs.Common.{◌≡◌, ℕ, zero, suc, ◌+◌, ◌<◌, ◌≤◌, Bool, true, false, List, [], ◌∷◌, ◌++◌, length, get_or, Option, Some, None, refl, sym, ap, subst, ◌∙◌, ◌⊎◌, inl, inr, arith}
use Rattle.std.specs.Prelude.{Contains, All, IsTrue, ◌↔◌, map, cond, slice_index_or, IfOk, Result, Ok, Err}
use Rattle.std.specs.List.{find, filter_map}
use Rattle.std.specs.BTreeMap.{BTreeMap}
use Rattle.std.proofs.lemmas.List.{get_or-map, get_or_past, length-map, get_or_default}
use Rattle.std.proofs.lemmas.Bool.{cases_lt}
use Rattle.gql_spreads.specs.Graph as graphs
use Rattle.gql_terms.specs.declared.documents.Document.{Document}
use Rattle.gql_terms.specs.declared.documents.Fragment.{Fragment}
use Rattle.gql_spreads.specs.Spreads.{fragment_spreads, is_named, fragment_named, Spreads, Reaches, spread, further, IsBad, IsFirst, IsFirstBad, document_spreads}
use Rattle.gql_spreads.specs.Numbers.{number_in, number_of, AreNumbers, targets_of, is_marked, is_bad, HaveMarks}
use Rattle.gql_spreads.proofs.Lists.{contains_none, kept, keeps, first_is}
use Rattle.gql_spreads.proofs.Naming.{some_is, some_none, numbered, number_within, unnumbered, found_number, one_name}

module _ (fragments : List Fragment) (numbers : BTreeMap (List ℕ) ℕ) (are : AreNumbers fragments numbers) where
  abbrev pub graph_of : List (List ℕ)
  graph_of = map (targets_of numbers) fragments

  -- an edge is a spread
  pub edge_spreads : (i j : ℕ) (a : List ℕ) → number_of fragments a ≡ Some i → graphs.IsEdge graph_of i j → (b : List ℕ) × (number_of fragments b ≡ Some j) × Spreads fragments a b
  edge_spreads i j a is e = go fragments refl
    where
      go : (fs : List Fragment) → fs ≡ fragments → (b : List ℕ) × (number_of fragments b ≡ Some j) × Spreads fragments a b
      go [] same = let none : i < 0 = subst (λ (xs : List Fragment). i < length xs) (sym same) (number_within fragments a i is) in absurd (omega arith)
      go (d ∷ ds) same =
          let n = numbered fragments a i d is in
          let k = keeps (number_in numbers) (fragment_spreads (get_or fragments i d)) j
          (subst (λ (xs : List ℕ). Contains xs j) (get_or-map (targets_of numbers) fragments i d [] n.0) e) in
          (k.0, sym (are k.0) ∙ k.2, (get_or fragments i d, n.1, k.1))

  spread_edge : (i j : ℕ) (a b : List ℕ) → number_of fragments a ≡ Some i → number_of fragments b ≡ Some j → Spreads fragments a b → graphs.IsEdge graph_of i j
  spread_edge i j a b is js (f, named, contains) =
      let n = numbered fragments a i f is in
      let same : get_or fragments i f ≡ f = some_is (sym n.1 ∙ named) in
      let k : Contains (targets_of numbers f) j = kept (number_in numbers) (fragment_spreads f) b j contains (are b ∙ js) in
      subst (λ (xs : List ℕ). Contains xs j) (sym (get_or-map (targets_of numbers) fragments i f [] n.0 ∙ ap (targets_of numbers) same)) k

  by_names : {i j : ℕ} → graphs.ReachesNode graph_of i j → (a : List ℕ) → number_of fragments a ≡ Some i → (b : List ℕ) × (number_of fragments b ≡ Some j) × Reaches fragments a b
  by_names (graphs.edge {a = i} {b = j} e) a is = let k = edge_spreads i j a is e in (k.0, k.1, spread k.2)
  by_names (graphs.further {a = i} {b = j} e p) a is =
      let k = edge_spreads i j a is e in
      let r = by_names p k.0 k.1 in
      (r.0, r.1, further k.2 r.2)

  first_spread : {a b : List ℕ} → Reaches fragments a b → (f : Fragment) × (fragment_named fragments a ≡ Some f)
  first_spread (spread s) = (s.0, s.1)
  first_spread (further s p) = (s.0, s.1)

  by_numbers : {a b : List ℕ} → Reaches fragments a b → (i j : ℕ) → number_of fragments a ≡ Some i → number_of fragments b ≡ Some j → graphs.ReachesNode graph_of i j
  by_numbers (spread {a} {b} s) i j is js = graphs.edge (spread_edge i j a b is js s)
  by_numbers (further {a} {b} s p) i j is js =
      let f = first_spread p in
      let k = found_number fragments b f.0 f.1 in
      graphs.further (spread_edge i k.0 a b is k.1 s) (by_numbers p k.0 j k.1 js)

  -- each edge leads to a fragment
  pub is_graph : graphs.IsGraph graph_of
  is_graph i d within p e inside = go fragments refl
    where
      go : (fs : List Fragment) → fs ≡ fragments → get_or (get_or graph_of i d) p e < length graph_of
      go [] same =
          let none : i < 0 = subst (λ (xs : List Fragment). i < length (map (targets_of numbers) xs)) (sym same) within in
          absurd (omega arith)
      go (f ∷ fs) same =
          let lt : i < length fragments = subst (λ (n : ℕ). i < n) (length-map fragments (targets_of numbers)) within in
          let at : get_or graph_of i d ≡ targets_of numbers (get_or fragments i f) = get_or-map (targets_of numbers) fragments i f d lt in
          let inside' : p < length (targets_of numbers (get_or fragments i f)) = subst (λ (xs : List ℕ). p < length xs) at inside in
          let x = get_or (targets_of numbers (get_or fragments i f)) p e in
          let k = keeps (number_in numbers) (fragment_spreads (get_or fragments i f)) x (p, inside', get_or_default (targets_of numbers (get_or fragments i f)) p x e inside') in
          let small : x < length fragments = number_within fragments k.0 x (sym (are k.0) ∙ k.2) in
          subst (λ (xs : List ℕ). get_or xs p e < length graph_of) (sym at) (subst (λ (n : ℕ). x < n) (sym (length-map fragments (targets_of numbers))) small)

  module _ (cyclic : List Bool) (marks : graphs.AreCycles graph_of cyclic) where
    pub have_marks : HaveMarks numbers cyclic
    have_marks name number is = subst (λ (n : ℕ). number < n) (sym (marks.each ∙ length-map fragments (targets_of numbers))) (number_within fragments name number (sym (are name) ∙ is))

    flag_is : (name : List ℕ) (i : ℕ) → number_of fragments name ≡ Some i → IsTrue (slice_index_or cyclic i true) ↔ graphs.ReachesNode graph_of i i
    flag_is name i is =
        let within : i < length fragments = number_within fragments name i is in
        let lt : i < length graph_of = subst (λ (n : ℕ). i < n) (sym (length-map fragments (targets_of numbers))) within in
        subst (λ (b : Bool). IsTrue b ↔ graphs.ReachesNode graph_of i i) (get_or_default cyclic i false true (subst (λ (n : ℕ). i < n) (sym marks.each) lt)) (marks.right i lt)

    pub bad_is : (name : List ℕ) → is_bad numbers cyclic name ≡ true → IsBad fragments name
    bad_is name e = go (number_of fragments name) refl (sym (ap (is_marked cyclic) (are name)) ∙ e)
      where
        go : (o : Option ℕ) → number_of fragments name ≡ o → is_marked cyclic o ≡ true → IsBad fragments name
        go None is e = inl (unnumbered fragments name is)
        go (Some i) is e =
            let r = by_names ((flag_is name i is).0 e) name is in
            inr (subst (λ (b : List ℕ). Reaches fragments name b) (one_name fragments r.0 name i r.1 is) r.2)

    some_fragment : (name : List ℕ) (i : ℕ) → number_of fragments name ≡ Some i → (f : Fragment) × (fragment_named fragments name ≡ Some f)
    some_fragment name i is = first fragments refl
      where
        first : (fs : List Fragment) → fs ≡ fragments → (f : Fragment) × (fragment_named fragments name ≡ Some f)
        first [] same = let none : i < 0 = subst (λ (xs : List Fragment). i < length xs) (sym same) (number_within fragments name i is) in absurd (omega arith)
        first (d ∷ ds) same = (get_or fragments i d, (numbered fragments name i d is).1)

    pub good_is : (name : List ℕ) → is_bad numbers cyclic name ≡ false → IsBad fragments name → ⊥
    good_is name e bad = go (number_of fragments name) refl (sym (ap (is_marked cyclic) (are name)) ∙ e) bad
      where
        differ : true ≡ false → ⊥
        differ e = cc

        go : (o : Option ℕ) → number_of fragments name ≡ o → is_marked cyclic o ≡ false → IsBad fragments name → ⊥
        go None is e bad = differ e
        go (Some i) is e (inl none) = let f = some_fragment name i is in some_none (sym f.1 ∙ none)
        go (Some i) is e (inr r) = differ (sym ((flag_is name i is).1 (by_numbers r i i is is)) ∙ e)

    pub first_bad : (xs : List (List ℕ)) → IsFirst (IsBad fragments) xs (find (is_bad numbers cyclic) xs)
    first_bad xs = first_is (IsBad fragments) (is_bad numbers cyclic) bad_is good_is xs

pub answer : (d : Document) (fragments : List Fragment) (numbers : BTreeMap (List ℕ) ℕ) (graph : List (List ℕ)) (cyclic flags : List Bool) (found : Option (List ℕ)) → AreNumbers fragments numbers → fragments ≡ d.fragments
    → graph ≡ map (targets_of numbers) fragments → graphs.AreCycles graph cyclic → flags ≡ cyclic → found ≡ find (is_bad numbers flags) (document_spreads d) → IsFirstBad d found
answer d fragments numbers graph cyclic flags found are same graph_is cycles flags_are is =
    subst (λ (q : Option (List ℕ)). IsFirstBad d q) (sym (is ∙ ap (λ (q : List Bool). find (is_bad numbers q) (document_spreads d)) flags_are))
    (subst (λ (q : List Fragment). IsFirst (IsBad q) (document_spreads d) (find (is_bad numbers cyclic) (document_spreads d))) same
    (first_bad fragments numbers are cyclic (subst (λ (q : List (List ℕ)). graphs.AreCycles q cyclic) graph_is cycles) (document_spreads d)))

pub weaker : {A E : Type 0} (P Q : A → Type 0) → ((x : A) → P x → Q x) → (r : Result A E) → IfOk r P → IfOk r Q
weaker P Q f (Ok x) h = f x h
weaker P Q f (Err e) h = tt
