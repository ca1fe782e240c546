-- Positions by name, after an update of the map that has them.
use Rattle.std.proofs.Common.{◌≡◌, ◌⊎◌, inl, inr, ℕ, zero, suc, Bool, true, false, not, List, [], ◌∷◌, ◌++◌, length, Option, refl, sym, ap, ◌∙◌, subst, arith, true≢false}
use Rattle.std.specs.Prelude.{nat_eq, Contains}
use Rattle.std.specs.List.{list_any}
use Rattle.std.specs.Option.{option_map_or}
use Rattle.std.specs.Str.{bytes_eq}
use Rattle.std.specs.Cmp.Lexicographic.{nat_list_cmp_total}
use Rattle.std.proofs.lemmas.Bool.Decides.{nat_tests}
use Rattle.std.proofs.lemmas.List.Elements.{Contains-append_left, Contains-push, Contains-push_cases}
use Rattle.std.proofs.lemmas.Map.Lookups.{exact_bytes}
use Rattle.std.specs.BTreeMap as tree
use Rattle.indexmap.specs.IndexMap.{IndexMap, get, Updates}
use Rattle.std.specs.HashSet.{HashSet}
use Rattle.std.specs.HashSet as hashed
use Rattle.book_index.specs.declared.holders.Holders.{Holders}
use Rattle.book_index.specs.declared.subgraph_holders.SubgraphHolders.{SubgraphHolders}
use Rattle.book_index.specs.Positions.{text_cmp}
use Rattle.book_index.specs.Holders.{holders_of, is_holder_in, SetsHolderIn, SetsHolders, HasSameHoldersIn}
use Rattle.book_index.proofs.Sets.{SetsAt, sets_tree, sets_map, texts_exact}

-- an equation of two answers holds where it holds both if P and if not P
pub stable : (a b : Bool) (P : Type 0) → (P → a ≡ b) → ((P → ⊥) → a ≡ b) → a ≡ b
stable true true P if_so if_not = refl
stable false false P if_so if_not = refl
stable true false P if_so if_not = absurd (true≢false (if_not (λ p. true≢false (if_so p))))
stable false true P if_so if_not = absurd (true≢false (sym (if_not (λ p. true≢false (sym (if_so p))))))

unlike : (a b : ℕ) → (b ≡ a → ⊥) → nat_eq a b ≡ false
unlike a b apart = by (nat_eq a b) refl
  where
    by : (r : Bool) → nat_eq a b ≡ r → r ≡ false
    by true e = let same : b ≡ a = grind (arith, nat_tests) in absurd (apart same)
    by false e = refl

-- a set in which one position was set has the others as before
pub set_others : {S : Type 0} (s n : HashSet ℕ S) (k : ℕ) (held : Bool) → hashed.Updates nat_eq s n k held → (p : ℕ) → (p ≡ k → ⊥) → list_any (nat_eq p) n.keys ≡ list_any (nat_eq p) s.keys
set_others s n k held updates p apart = updates.2 p (unlike k p apart)

-- whether the position is in the set, where there is one
abbrev pub in_set : {S : Type 0} → Option (HashSet ℕ S) → ℕ → Bool
in_set set p = list_any (nat_eq p) (option_map_or (λ s. s.keys) set [])

-- whether the position is under the name, where there are holders
abbrev pub in_holders : Option Holders → List ℕ × ℕ → Bool
in_holders holders a = list_any (nat_eq a.1) (option_map_or (λ h. holders_of h a.0) holders [])

pub nothing : (xs : List ℕ) → length xs ≡ 0 → xs ≡ []
nothing [] e = refl
nothing (x ∷ xs) e = absurd (omega (arith, e))

-- an update of the map of a name's positions
pub sets_named : {X S : Type 0} (old new : IndexMap (List ℕ) X S) (name : List ℕ) (value : Option X) → Updates bytes_eq old new name value → SetsAt (λ k. get bytes_eq old k) (λ k. get bytes_eq new k) name value
sets_named old new name value updates = sets_map bytes_eq texts_exact old new name value updates

-- an update of the tree of a subgraph's holders
pub sets_subgraph : {X : Type 0} (old new : tree.BTreeMap (List ℕ) X) (sub : List ℕ) (value : Option X) → tree.Updates text_cmp old new sub value → SetsAt (λ k. tree.get text_cmp old k) (λ k. tree.get text_cmp new k) sub value
sets_subgraph old new sub value updates = sets_tree text_cmp nat_list_cmp_total exact_bytes old new sub value updates

-- a tree that is the same, updated at a key that is the same
pub tree_updates_from : {X : Type 0} (a b new : tree.BTreeMap (List ℕ) X) (j k : List ℕ) (value : Option X) → a ≡ b → j ≡ k → tree.Updates text_cmp a new j value → tree.Updates text_cmp b new k value
tree_updates_from a b new j k value same_map same_key updates = subst (λ m. tree.Updates text_cmp m new k value) same_map (subst (λ (q : List ℕ). tree.Updates text_cmp a new q value) same_key updates)

module _ {X A : Type 0} (view : Option X → A → Bool) {old new : List ℕ → Option X} {key : List ℕ} {value : Option X} (set : SetsAt old new key value) where
  pub this_at : (a : A) → view (new key) a ≡ view value a
  this_at a = ap (λ o. view o a) set.this

  -- what is not at the key, or not At, is as it was
  pub others_at : (At : A → Type 0) → ((a : A) → (At a → ⊥) → view value a ≡ view (old key) a)
      → (k : List ℕ) (a : A) → (((k ≡ key) × At a) → ⊥) → view (new k) a ≡ view (old k) a
  others_at At rest k a apart = elim (set.others k) [ inl same ↦ there same | inr e ↦ ap (λ o. view o a) e ]
    where
      there : k ≡ key → view (new k) a ≡ view (old k) a
      there same = ap (λ (q : List ℕ). view (new q) a) same ∙ this_at a ∙ rest a (λ h. apart (same, h)) ∙ ap (λ (q : List ℕ). view (old q) a) (sym same)

  -- where nothing differs at the key, nothing does at all
  pub same_at : ((a : A) → view value a ≡ view (old key) a) → (k : List ℕ) (a : A) → view (new k) a ≡ view (old k) a
  same_at rest k a = others_at (λ _. ⊥) (λ x _. rest x) k a (λ h. h.1)

in_first : (tag : List ℕ) (rest : List (List ℕ)) (name : List ℕ) → Contains (tag ∷ rest) name → (tag ≡ name) ⊎ Contains rest name
in_first tag rest name (zero, lt, is) = inl is
in_first tag rest name (suc k, lt, is) = inr (k, omega (arith, lt), is)

in_rest : (tag : List ℕ) (rest : List (List ℕ)) (name : List ℕ) → Contains rest name → Contains (tag ∷ rest) name
in_rest tag rest name (k, lt, is) = (suc k, omega (arith, lt), is)

at_first : (tag : List ℕ) (rest : List (List ℕ)) (name : List ℕ) → name ≡ tag → Contains (tag ∷ rest) name
at_first tag rest name is = (0, omega arith, sym is)

module _ (a b c : SubgraphHolders) (sub tag : List ℕ) (position : ℕ) (held : Bool) where
  -- one name, and then the others
  pub names_cons : (rest : List (List ℕ)) → SetsHolderIn a b sub tag position held → SetsHolders b c sub rest position held → SetsHolders a c sub (tag ∷ rest) position held
  names_cons rest one more = record {
    these = λ name h. elim (in_first tag rest name h) [ inl e ↦ first name e | inr x ↦ more.these name x ];
    others = λ s n p apart. more.others s n p (λ h. apart (h.0, in_rest tag rest n h.1, h.2)) ∙ one.others s n p (λ h. apart (h.0, at_first tag rest n h.1, h.2));
  }
    where
      first : (name : List ℕ) → tag ≡ name → is_holder_in c sub name position ≡ held
      first name e = stable (is_holder_in c sub name position) held (Contains rest name) (more.these name) (λ none. more.others sub name position (λ h. none h.1) ∙ ap (λ (n : List ℕ). is_holder_in b sub n position) (sym e) ∙ one.this)

  -- one more name, after the others
  pub names_push : (list : List (List ℕ)) → SetsHolders a b sub list position held → SetsHolderIn b c sub tag position held → SetsHolders a c sub (list ++ tag ∷ []) position held
  names_push list more one = record {
    these = λ name h. elim (Contains-push_cases list tag name h) [ inl x ↦ before name x | inr e ↦ ap (λ (n : List ℕ). is_holder_in c sub n position) (sym e) ∙ one.this ];
    others = λ s n p apart. one.others s n p (λ h. apart (h.0, subst (λ (t : List ℕ). Contains (list ++ tag ∷ []) t) (sym h.1) (Contains-push list tag), h.2)) ∙ more.others s n p (λ h. apart (h.0, Contains-append_left list (tag ∷ []) n h.1, h.2));
  }
    where
      before : (name : List ℕ) → Contains list name → is_holder_in c sub name position ≡ held
      before name x = stable (is_holder_in c sub name position) held (name ≡ tag) (λ e. ap (λ (n : List ℕ). is_holder_in c sub n position) e ∙ one.this) (λ not_it. one.others sub name position (λ h. not_it h.1) ∙ more.these name x)

  -- what was set, left as it is by c, and set back has not changed
  pub named_undone : (d : SubgraphHolders) (was : Bool) → is_holder_in a sub tag position ≡ was → SetsHolderIn a b sub tag position held → HasSameHoldersIn b c → SetsHolderIn c d sub tag position was → (s n : List ℕ) (p : ℕ) → is_holder_in d s n p ≡ is_holder_in a s n p
  named_undone d was before set kept undone s n p = stable (is_holder_in d s n p) (is_holder_in a s n p) ((s ≡ sub) × (n ≡ tag) × (p ≡ position)) here (λ apart. undone.others s n p apart ∙ kept s n p ∙ set.others s n p apart)
    where
      here : (s ≡ sub) × (n ≡ tag) × (p ≡ position) → is_holder_in d s n p ≡ is_holder_in a s n p
      here h = moved d h.0 h.1 h.2 ∙ undone.this ∙ sym before ∙ sym (moved a h.0 h.1 h.2)
        where
          moved : (x : SubgraphHolders) → s ≡ sub → n ≡ tag → p ≡ position → is_holder_in x s n p ≡ is_holder_in x sub tag position
          moved x es en ep = ap (λ (y : List ℕ). is_holder_in x y n p) es ∙ ap (λ (y : List ℕ). is_holder_in x sub y p) en ∙ ap (λ (y : ℕ). is_holder_in x sub tag y) ep

pub was_absent : (new was : Bool) → new ≡ not was → new ≡ true → was ≡ false
was_absent new true e h = absurd (true≢false (sym h ∙ e))
was_absent new false e h = refl
