-- Sorted rows: where a search ends, and what is found and put there.
use Rattle.std.proofs.Common.{◌≡◌, ℕ, zero, suc, ◌+◌, ◌<◌, ◌≤◌, Bool, true, false, ◌&&◌, cond, List, [], ◌∷◌, length, set, Some, None, refl, sym, ap, ◌∙◌, subst, arith, true≢false}
use Rattle.std.specs.Prelude.{slice_index_or, filter, nat_lt, T}
use Rattle.std.specs.List.{insert}
use Rattle.std.specs.List.Sorted.{IsSortedBy}
use Rattle.std.specs.declared.cmp.Ordering.{Ordering}
use Rattle.std.specs.declared.cmp.Ordering.TheVariants.{Less, Equal, Greater}
use Rattle.std.specs.Ordering.{is_lt, is_eq, ordering_reverse}
use Rattle.std.specs.Cmp.{IsTotalOrder}
use Rattle.std.proofs.lemmas.Cmp.{tied_itself}
use Rattle.std.specs.FinMap.{find, put, is_sorted}
use Rattle.std.specs.FinMap.Entries.{below_all, by_order}
use Rattle.book_index.specs.Stamps.{above}

pub so : (b : Bool) → b ≡ true → T b
so b h = subst T (sym h) tt

pub is_so : (b : Bool) → T b → b ≡ true
is_so true h = refl
is_so false h = absurd h

both_hold : (a b : Bool) → (a && b) ≡ true → (a ≡ true) × (b ≡ true)
both_hold true b h = (refl, h)
both_hold false b h = absurd (true≢false (sym h))

less : (r : Ordering) → is_lt r ≡ true → r ≡ Less
less Less h = refl
less Equal h = absurd (true≢false (sym h))
less Greater h = absurd (true≢false (sym h))

pub equal : (r : Ordering) → is_eq r ≡ true → r ≡ Equal
equal Less h = absurd (true≢false (sym h))
equal Equal h = refl
equal Greater h = absurd (true≢false (sym h))

-- the other way round
flip : {K : Type 0} (R : K → K → Ordering) → IsTotalOrder R → (a b : K) (r : Ordering) → R a b ≡ r → R b a ≡ ordering_reverse r
flip R o a b r h = o.antisymm b a ∙ ap ordering_reverse h

module _ {K X : Type 0} (R : K → K → Ordering) (o : IsTotalOrder R) where
  below_at : (x : K) (es : List (K × X)) → below_all R x es ≡ true → (i : ℕ) (d : K × X) → i < length es → R x (slice_index_or es i d).0 ≡ Less
  below_at x [] h i d lt = absurd (omega (arith, lt))
  below_at x (e ∷ es) h zero d lt = less (R x e.0) (both_hold (is_lt (R x e.0)) (below_all R x es) h).0
  below_at x (e ∷ es) h (suc i) d lt = below_at x es (both_hold (is_lt (R x e.0)) (below_all R x es) h).1 i d (omega (arith, lt))

  -- no row is less than the one before it
  pub adjacent : (es : List (K × X)) → is_sorted R es ≡ true → IsSortedBy (λ a b. is_lt (R a.0 b.0)) es
  adjacent [] h k d le lt = absurd (omega (arith, lt))
  adjacent (e ∷ es) h zero d le lt = ap is_lt (flip R o e.0 (slice_index_or es 0 d).0 Less (below_at e.0 es (both_hold (below_all R e.0 es) (is_sorted R es) h).0 0 d (omega (arith, lt))))
  adjacent (e ∷ es) h (suc k) d le lt = let next : suc k + 1 ≡ suc (k + 1) = omega arith in rw next (adjacent es (both_hold (below_all R e.0 es) (is_sorted R es) h).1 k d (omega arith) (omega (arith, lt)))

  -- a key below all rows is not found
  none_below : (k : K) (v : X) (es : List (K × X)) → ((i : ℕ) (d : K × X) → i < length es → R (slice_index_or es i d).0 k ≡ Greater) → find R k es ≡ None
  none_below k v [] great = refl
  none_below k v (e ∷ es) great = ap (λ r. cond (is_eq r) (Some e.1) (find R k es)) (flip R o e.0 k Greater (great 0 e (omega arith))) ∙ none_below k v es (λ i d lt. great (suc i) d (omega (arith, lt)))

  -- a key that has a gap is not found, and is put there
  pub put_in_gap : (k : K) (v : X) (es : List (K × X)) (i : ℕ) → i ≤ length es
      → ((j : ℕ) (d : K × X) → j < i → R (slice_index_or es j d).0 k ≡ Less)
      → ((j : ℕ) (d : K × X) → i ≤ j → j < length es → R (slice_index_or es j d).0 k ≡ Greater)
      → (find R k es ≡ None) × (insert es i (k, v) ≡ put R k v es)
  put_in_gap k v [] zero le lesser greater = (refl, refl)
  put_in_gap k v [] (suc i) le lesser greater = absurd (omega (arith, le))
  put_in_gap k v (e ∷ es) zero le lesser greater =
      (none_below k v (e ∷ es) (λ j d lt. greater j d (omega arith) lt), sym (ap (λ r. by_order r ((k, v) ∷ e ∷ es) ((e.0, v) ∷ es) (e ∷ put R k v es)) (flip R o e.0 k Greater (greater 0 e (omega arith) (omega arith)))))
  put_in_gap k v (e ∷ es) (suc i) le lesser greater =
      let first : R k e.0 ≡ Greater = flip R o e.0 k Less (lesser 0 e (omega arith)) in
      let rest = put_in_gap k v es i (omega (arith, le)) (λ j d lt. lesser (suc j) d (omega (arith, lt))) (λ j d from lt. greater (suc j) d (omega (arith, from)) (omega (arith, lt))) in
      (ap (λ r. cond (is_eq r) (Some e.1) (find R k es)) first ∙ rest.0, ap (λ l. e ∷ l) rest.1 ∙ sym (ap (λ r. by_order r ((k, v) ∷ e ∷ es) ((e.0, v) ∷ es) (e ∷ put R k v es)) first))

  -- a key that has a row is found there, and is put there
  pub put_in_row : (k : K) (v : X) (es : List (K × X)) → is_sorted R es ≡ true → (i : ℕ) → i < length es → ((d : K × X) → (slice_index_or es i d).0 ≡ k)
      → ((d : K × X) → find R k es ≡ Some (slice_index_or es i d).1) × (set es i (k, v) ≡ put R k v es)
  put_in_row k v [] sorted i lt has = absurd (omega (arith, lt))
  put_in_row k v (e ∷ es) sorted zero lt has =
      let tied : R k e.0 ≡ Equal = ap (R k) (has e) ∙ tied_itself o k in
      (λ d. ap (λ r. cond (is_eq r) (Some e.1) (find R k es)) tied, ap (λ x. (x, v) ∷ es) (sym (has e)) ∙ sym (ap (λ r. by_order r ((k, v) ∷ e ∷ es) ((e.0, v) ∷ es) (e ∷ put R k v es)) tied))
  put_in_row k v (e ∷ es) sorted (suc i) lt has =
      let parts = both_hold (below_all R e.0 es) (is_sorted R es) sorted in
      let first : R k e.0 ≡ Greater = flip R o e.0 k Less (ap (R e.0) (sym (has e)) ∙ below_at e.0 es parts.0 i e (omega (arith, lt))) in
      let rest = put_in_row k v es parts.1 i (omega (arith, lt)) (λ d. has d) in
      (λ d. ap (λ r. cond (is_eq r) (Some e.1) (find R k es)) first ∙ rest.0 d, ap (λ l. e ∷ l) rest.1 ∙ sym (ap (λ r. by_order r ((k, v) ∷ e ∷ es) ((e.0, v) ∷ es) (e ∷ put R k v es)) first))

  below_filter : (p : K × X → Bool) (x : K) (es : List (K × X)) → below_all R x es ≡ true → below_all R x (filter p es) ≡ true
  below_filter p x [] h = refl
  below_filter p x (e ∷ es) h = by (p e) (below_filter p x es (both_hold (is_lt (R x e.0)) (below_all R x es) h).1)
    where
      parts : (is_lt (R x e.0) ≡ true) × (below_all R x es ≡ true)
      parts = both_hold (is_lt (R x e.0)) (below_all R x es) h

      by : (b : Bool) → below_all R x (filter p es) ≡ true → below_all R x (cond b (e ∷ filter p es) (filter p es)) ≡ true
      by true rest = ap (λ b. b && below_all R x (filter p es)) parts.0 ∙ rest
      by false rest = rest

  -- what a test keeps is sorted
  pub sorted_filter : (p : K × X → Bool) (es : List (K × X)) → is_sorted R es ≡ true → is_sorted R (filter p es) ≡ true
  sorted_filter p [] h = refl
  sorted_filter p (e ∷ es) h = by (p e) (sorted_filter p es (both_hold (below_all R e.0 es) (is_sorted R es) h).1)
    where
      parts : (below_all R e.0 es ≡ true) × (is_sorted R es ≡ true)
      parts = both_hold (below_all R e.0 es) (is_sorted R es) h

      by : (b : Bool) → is_sorted R (filter p es) ≡ true → is_sorted R (cond b (e ∷ filter p es) (filter p es)) ≡ true
      by true rest = ap (λ b. b && is_sorted R (filter p es)) (below_filter p e.0 es parts.0) ∙ rest
      by false rest = rest

  -- a key that ties with one below all rows is not found
  none_tied : (q x : K) (es : List (K × X)) → R q x ≡ Equal → below_all R x es ≡ true → find R q es ≡ None
  none_tied q x [] tied h = refl
  none_tied q x (e ∷ es) tied h =
      let parts = both_hold (is_lt (R x e.0)) (below_all R x es) h in
      ap (λ r. cond (is_eq r) (Some e.1) (find R q es)) (o.congr q x e.0 tied ∙ less (R x e.0) parts.0) ∙ none_tied q x es tied parts.1

module _ {K : Type 0} (R : K → K → Ordering) (o : IsTotalOrder R) where
  -- what is found among the rows above the horizon
  pub find_above : (horizon : ℕ) (q : K) (es : List (K × ℕ)) → is_sorted R es ≡ true → find R q (filter (λ e. nat_lt horizon e.1) es) ≡ above horizon (find R q es)
  find_above horizon q [] h = refl
  find_above horizon q (e ∷ es) h = by (find_above horizon q es (both_hold (below_all R e.0 es) (is_sorted R es) h).1) (is_eq (R q e.0)) refl (nat_lt horizon e.1) refl
    where
      parts : (below_all R e.0 es ≡ true) × (is_sorted R es ≡ true)
      parts = both_hold (below_all R e.0 es) (is_sorted R es) h

      kept : List (K × ℕ)
      kept = filter (λ x. nat_lt horizon x.1) es

      by : find R q kept ≡ above horizon (find R q es) → (b : Bool) → is_eq (R q e.0) ≡ b → (c : Bool) → nat_lt horizon e.1 ≡ c → find R q (cond c (e ∷ kept) kept) ≡ above horizon (cond b (Some e.1) (find R q es))
      by rest true t true c = ap (λ b. cond b (Some e.1) (find R q kept)) t ∙ sym (ap (λ b. cond b (Some e.1) None) c)
      by rest true t false c = rest ∙ ap (above horizon) (none_tied R o q e.0 es (equal (R q e.0) t) parts.0) ∙ sym (ap (λ b. cond b (Some e.1) None) c)
      by rest false t true c = ap (λ b. cond b (Some e.1) (find R q kept)) t ∙ rest
      by rest false t false c = rest
