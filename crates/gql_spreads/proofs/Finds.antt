-- The loops over selections: what was collected and what is still to be collected make the whole.
use Rattle.std.proofs.Common.{◌≡◌, ℕ, zero, suc, ◌+◌, ◌<◌, ◌≤◌, Bool, true, false, List, [], ◌∷◌, ◌++◌, length, get_or, take, drop, Option, Some, None, refl, sym, ap, subst, ◌∙◌, arith, append_assoc, drop-cons, add-one}
use Rattle.std.specs.Prelude.{cond, map}
use Rattle.std.specs.List.{find, filter_map, flat_map, cons_option}
use Rattle.std.proofs.lemmas.List.{drop_all, append-nil}
use Rattle.std.proofs.lemmas.List.Elements.{filter_map-append}
use Rattle.gql_terms.specs.declared.documents.Value.{Value}
use Rattle.gql_terms.specs.declared.documents.Directive.{Directive}
use Rattle.gql_terms.specs.declared.documents.Selection.{Selection}
use Rattle.gql_terms.specs.declared.documents.Selection.TheVariants as s
use Rattle.gql_terms.specs.declared.documents.Selection.TheOpen.{Selection-F}
use Rattle.gql_terms.specs.declared.documents.Selection.TheFolds.{fold-roll-Selection}
use Rattle.gql_spreads.specs.Spreads.{joined, spreads_step, spreads_of, spreads_in}

-- one more piece
pub flat_step : {X A : Type 0} (f : X → List A) (xs : List X) (i : ℕ) (x : X) → i < length xs → x ≡ get_or xs i x → flat_map f (drop i xs) ≡ f x ++ flat_map f (drop (i + 1) xs)
flat_step f xs i x within is =
    ap (flat_map f) (drop-cons xs i x within)
    ∙ ap (λ q. f q ++ flat_map f (drop (suc i) xs)) (sym is)
    ∙ ap (λ (n : ℕ). f x ++ flat_map f (drop n xs)) (sym (add-one i))

-- ---- collecting

module _ {X A B : Type 0} (h : A → Option B) (f : X → List A) where
  pub collected : (xs : List X) (i : ℕ) (x : X) (old new total : List B) → i < length xs → x ≡ get_or xs i x → old ++ filter_map h (flat_map f (drop i xs)) ≡ total → new ≡ old ++ filter_map h (f x)
      → new ++ filter_map h (flat_map f (drop (i + 1) xs)) ≡ total
  collected xs i x old new total within is all one =
      ap (λ (q : List B). q ++ filter_map h (flat_map f (drop (i + 1) xs))) one
      ∙ append_assoc old (filter_map h (f x)) (filter_map h (flat_map f (drop (i + 1) xs)))
      ∙ ap (λ (q : List B). old ++ q) (sym (filter_map-append h (f x) (flat_map f (drop (i + 1) xs))) ∙ ap (filter_map h) (sym (flat_step f xs i x within is)))
      ∙ all

  pub all_collected : (xs : List X) (i : ℕ) (out total : List B) → length xs ≤ i → out ++ filter_map h (flat_map f (drop i xs)) ≡ total → out ≡ total
  all_collected xs i out total over all = sym (append-nil out) ∙ ap (λ (q : List X). out ++ filter_map h (flat_map f q)) (sym (drop_all i xs over)) ∙ all

-- ---- finding

module _ {A : Type 0} (p : A → Bool) where
  pub find_append : (xs ys : List A) → find p xs ≡ None → find p (xs ++ ys) ≡ find p ys
  find_append [] ys e = refl
  find_append (x ∷ xs) ys e = go (p x) (λ k. find_append xs ys k) e
    where
      some_none : ◌≡◌ {A = Option A} (Some x) None → ⊥
      some_none e = cc

      go : (b : Bool) → (find p xs ≡ None → find p (xs ++ ys) ≡ find p ys) → cond b (Some x) (find p xs) ≡ None → cond b (Some x) (find p (xs ++ ys)) ≡ find p ys
      go true rec e = absurd (some_none e)
      go false rec e = rec e

  pub find_first : (xs ys : List A) (x : A) → find p xs ≡ Some x → find p (xs ++ ys) ≡ Some x
  find_first [] ys x e = absurd (none_some e)
    where
      none_some : ◌≡◌ {A = Option A} None (Some x) → ⊥
      none_some e = cc
  find_first (y ∷ zs) ys x e = go (p y) (λ k. find_first zs ys x k) e
    where
      go : (b : Bool) → (find p zs ≡ Some x → find p (zs ++ ys) ≡ Some x) → cond b (Some y) (find p zs) ≡ Some x → cond b (Some y) (find p (zs ++ ys)) ≡ Some x
      go true rec e = e
      go false rec e = rec e

module _ {X A : Type 0} (p : A → Bool) (f : X → List A) where
  pub not_found : (xs : List X) (i : ℕ) (x : X) (total : Option A) → i < length xs → x ≡ get_or xs i x → find p (flat_map f (drop i xs)) ≡ total → find p (f x) ≡ None → find p (flat_map f (drop (i + 1) xs)) ≡ total
  not_found xs i x total within is all none =
      sym (ap (find p) (flat_step f xs i x within is) ∙ find_append p (f x) (flat_map f (drop (i + 1) xs)) none) ∙ all

  pub found : (xs : List X) (i : ℕ) (x : X) (total : Option A) (a : A) → i < length xs → x ≡ get_or xs i x → find p (flat_map f (drop i xs)) ≡ total → find p (f x) ≡ Some a → Some a ≡ total
  found xs i x total a within is all one =
      sym (ap (find p) (flat_step f xs i x within is) ∙ find_first p (f x) (flat_map f (drop (i + 1) xs)) a one) ∙ all

  pub none_found : (xs : List X) (i : ℕ) (total : Option A) → length xs ≤ i → find p (flat_map f (drop i xs)) ≡ total → None ≡ total
  none_found xs i total over all = ap (λ (q : List X). find p (flat_map f q)) (sym (drop_all i xs over)) ∙ all

-- ---- what a selection spreads

joined_map : (selections : List Selection) → joined (map spreads_of selections) ≡ spreads_in selections
joined_map [] = refl
joined_map (x ∷ xs) = ap (λ (q : List (List ℕ)). spreads_of x ++ q) (joined_map xs)

pub field_spreads : (P : List (List ℕ) → Type 0) (x : Selection) (alias : Option (List ℕ)) (name : List ℕ) (arguments : List (List ℕ × Value)) (directives : List Directive) (xs ys : List Selection)
    → x ≡ s.Field alias name arguments directives xs → ys ≡ xs → P (spreads_in ys) → P (spreads_of x)
field_spreads P x alias name arguments directives xs ys is same h = subst P (sym e) h
  where
    e : spreads_of x ≡ spreads_in ys
    e = ap spreads_of (is ∙ sym (s.rolls-Field alias name arguments directives xs)) ∙ fold-roll-Selection (List (List ℕ)) spreads_step (Selection-F.Field alias name arguments directives xs)
        ∙ joined_map xs ∙ ap spreads_in (sym same)

pub inline_spreads : (P : List (List ℕ) → Type 0) (x : Selection) (on : Option (List ℕ)) (directives : List Directive) (xs ys : List Selection)
    → x ≡ s.Inline on directives xs → ys ≡ xs → P (spreads_in ys) → P (spreads_of x)
inline_spreads P x on directives xs ys is same h = subst P (sym e) h
  where
    e : spreads_of x ≡ spreads_in ys
    e = ap spreads_of (is ∙ sym (s.rolls-Inline on directives xs)) ∙ fold-roll-Selection (List (List ℕ)) spreads_step (Selection-F.Inline on directives xs)
        ∙ joined_map xs ∙ ap spreads_in (sym same)
