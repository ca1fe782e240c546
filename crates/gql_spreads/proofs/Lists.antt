-- What lists contain, and the first element of a kind.
use Rattle.std.proofs.Common.{◌≡◌, ℕ, zero, suc, ◌+◌, ◌<◌, ◌≤◌, Bool, true, false, List, [], ◌∷◌, ◌++◌, length, get_or, Option, Some, None, refl, sym, ap, subst, ◌∙◌, ◌⊎◌, inl, inr, arith, append_assoc}
use Rattle.std.specs.Prelude.{Contains, All, cond, if◌then◌else◌}
use Rattle.std.specs.List.{find, filter_map, cons_option, position_from}
use Rattle.std.proofs.lemmas.List.Elements.{All-nil, All-cons}
use Rattle.gql_spreads.specs.Spreads.{IsFirst}

module _ {X : Type 0} where
  pub contains_none : (x : X) → Contains [] x → ⊥
  contains_none x h = let within : h.0 < 0 = h.1 in absurd (omega arith)

  pub contains_cases : (x : X) (xs : List X) (y : X) → Contains (x ∷ xs) y → (x ≡ y) ⊎ Contains xs y
  contains_cases x xs y (zero, within, is) = inl is
  contains_cases x xs y (suc k, within, is) = inr (k, (let w : suc k < suc (length xs) = within in omega arith), is)

  pub contains_first : (x : X) (xs : List X) → Contains (x ∷ xs) x
  contains_first x xs = (0, omega arith, refl)

  pub contains_rest : (x : X) (xs : List X) (y : X) → Contains xs y → Contains (x ∷ xs) y
  contains_rest x xs y (k, within, is) = (suc k, (let w : k < length xs = within in omega arith), is)

-- ---- what a map keeps

module _ {X Y : Type 0} (h : X → Option Y) where
  pub kept : (xs : List X) (x : X) (y : Y) → Contains xs x → h x ≡ Some y → Contains (filter_map h xs) y
  kept [] x y c e = absurd (contains_none x c)
  kept (z ∷ zs) x y c e = elim (contains_cases z zs x c) [
    | inl same ↦ subst (λ (o : Option Y). Contains (cons_option o (filter_map h zs)) y) (sym (ap h same ∙ e)) (contains_first y (filter_map h zs))
    | inr rest ↦ more (h z) (kept zs x y rest e)
  ]
    where
      more : (o : Option Y) → Contains (filter_map h zs) y → Contains (cons_option o (filter_map h zs)) y
      more None k = k
      more (Some v) k = contains_rest v (filter_map h zs) y k

  pub keeps : (xs : List X) (y : Y) → Contains (filter_map h xs) y → (x : X) × Contains xs x × (h x ≡ Some y)
  keeps [] y c = absurd (contains_none y c)
  keeps (z ∷ zs) y c = go (h z) refl (λ k. keeps zs y k) c
    where
      further : (x : X) × Contains zs x × (h x ≡ Some y) → (x : X) × Contains (z ∷ zs) x × (h x ≡ Some y)
      further r = (r.0, contains_rest z zs r.0 r.1, r.2)

      go : (o : Option Y) → h z ≡ o → (Contains (filter_map h zs) y → (x : X) × Contains zs x × (h x ≡ Some y)) → Contains (cons_option o (filter_map h zs)) y
          → (x : X) × Contains (z ∷ zs) x × (h x ≡ Some y)
      go None e rec k = further (rec k)
      go (Some v) e rec k = elim (contains_cases v (filter_map h zs) y k) [
        | inl same ↦ (z, contains_first z zs, e ∙ ap (λ (q : Y). Some q) same)
        | inr rest ↦ further (rec rest)
      ]

-- ---- the first

pub first_is : (P : List ℕ → Type 0) (p : List ℕ → Bool) → ((x : List ℕ) → p x ≡ true → P x) → ((x : List ℕ) → p x ≡ false → P x → ⊥) → (xs : List (List ℕ)) → IsFirst P xs (find p xs)
first_is P p yes_is no_is [] = All-nil (λ x. P x → ⊥)
first_is P p yes_is no_is (x ∷ xs) = go (p x) refl (first_is P p yes_is no_is xs)
  where
    more : (o : Option (List ℕ)) → (P x → ⊥) → IsFirst P xs o → IsFirst P (x ∷ xs) o
    more None apart all = All-cons (λ x. P x → ⊥) x xs apart all
    more (Some y) apart (is, before, after, parts, all) = (is, x ∷ before, after, ap (λ (q : List (List ℕ)). x ∷ q) parts, All-cons (λ x. P x → ⊥) x before apart all)

    go : (b : Bool) → p x ≡ b → IsFirst P xs (find p xs) → IsFirst P (x ∷ xs) (cond b (Some x) (find p xs))
    go true e rec = (yes_is x e, [], xs, refl, All-nil (λ x. P x → ⊥))
    go false e rec = more (find p xs) (no_is x e) rec

-- ---- places

abbrev pub or_else : {A : Type 0} → Option A → Option A → Option A
or_else None o = o
or_else (Some x) o = Some x

module _ {X : Type 0} (t : X → Bool) where
  -- the first place, and what stands there
  pub position_at : (xs : List X) (from i : ℕ) (d : X) → position_from t from xs ≡ Some i → (k : ℕ) × (i ≡ from + k) × (k < length xs) × (find t xs ≡ Some (get_or xs k d))
  position_at [] from i d e = absurd (none e)
    where
      none : {i : ℕ} → ◌≡◌ {A = Option ℕ} None (Some i) → ⊥
      none e = cc
  position_at (x ∷ xs) from i d e = go (t x) refl (λ k. position_at xs (from + 1) i d k) e
    where
      some_is : {a b : ℕ} → Some a ≡ Some b → a ≡ b
      some_is e = cc

      go : (b : Bool) → t x ≡ b → (position_from t (from + 1) xs ≡ Some i → (k : ℕ) × (i ≡ from + 1 + k) × (k < length xs) × (find t xs ≡ Some (get_or xs k d)))
          → cond b (Some from) (position_from t (from + 1) xs) ≡ Some i → (k : ℕ) × (i ≡ from + k) × (k < suc (length xs)) × (cond (t x) (Some x) (find t xs) ≡ Some (get_or (x ∷ xs) k d))
      go true b rec e = (0, (let same : from ≡ i = some_is e in omega arith), omega arith, ap (λ (q : Bool). cond q (Some x) (find t xs)) b)
      go false b rec e =
          let r = rec e in
          let at : i ≡ from + 1 + r.0 = r.1 in
          let within : r.0 < length xs = r.2 in
          (suc r.0, omega arith, omega arith, ap (λ (q : Bool). cond q (Some x) (find t xs)) b ∙ r.3)

  pub position_none : (xs : List X) (from : ℕ) → position_from t from xs ≡ None → find t xs ≡ None
  position_none [] from e = refl
  position_none (x ∷ xs) from e = go (t x) (λ k. position_none xs (from + 1) k) e
    where
      some_none : {i : ℕ} → ◌≡◌ {A = Option ℕ} (Some i) None → ⊥
      some_none e = cc

      go : (b : Bool) → (position_from t (from + 1) xs ≡ None → find t xs ≡ None) → cond b (Some from) (position_from t (from + 1) xs) ≡ None → cond b (Some x) (find t xs) ≡ None
      go true rec e = absurd (some_none e)
      go false rec e = rec e

  pub found_passes : (xs : List X) (x : X) → find t xs ≡ Some x → t x ≡ true
  found_passes [] x e = absurd (none e)
    where
      none : ◌≡◌ {A = Option X} None (Some x) → ⊥
      none e = cc
  found_passes (y ∷ ys) x e = go (t y) refl (λ k. found_passes ys x k) e
    where
      some_is : {a b : X} → Some a ≡ Some b → a ≡ b
      some_is e = cc

      go : (b : Bool) → t y ≡ b → (find t ys ≡ Some x → t x ≡ true) → cond b (Some y) (find t ys) ≡ Some x → t x ≡ true
      go true b rec e = ap t (sym (some_is e)) ∙ b
      go false b rec e = rec e

  -- one more element at the end
  pub position_more : (xs : List X) (y : X) (from : ℕ) → position_from t from (xs ++ (y ∷ [])) ≡ or_else (position_from t from xs) (cond (t y) (Some (from + length xs)) None)
  position_more [] y from = ap (λ (n : ℕ). cond (t y) (Some n) None) (omega arith)
  position_more (x ∷ xs) y from = go (t x) (position_more xs y (from + 1))
    where
      place : from + 1 + length xs ≡ from + suc (length xs)
      place = omega arith

      go : (b : Bool) → position_from t (from + 1) (xs ++ (y ∷ [])) ≡ or_else (position_from t (from + 1) xs) (cond (t y) (Some (from + 1 + length xs)) None)
          → cond b (Some from) (position_from t (from + 1) (xs ++ (y ∷ []))) ≡ or_else (cond b (Some from) (position_from t (from + 1) xs)) (cond (t y) (Some (from + suc (length xs))) None)
      go true rec = refl
      go false rec = rec ∙ ap (λ (n : ℕ). or_else (position_from t (from + 1) xs) (cond (t y) (Some n) None)) place
