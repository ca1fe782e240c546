-- The finite map that sorted rows make.
use Rattle.std.proofs.Common.{◌≡◌, ◌+◌, ◌≤◌, Bool, true, false, cond, arith, List, [], length, sym, ap, ◌∙◌}
use Rattle.std.specs.declared.cmp.Ordering.{Ordering}
use Rattle.std.specs.Cmp.{IsTotalOrder}
use Rattle.std.specs.FinMap as map
use Rattle.std.specs.FinMap.Entries.{is_sorted-put}
use Rattle.book_index.proofs.Rows.{so, is_so}

module _ {K X : Type 0} (R : K → K → Ordering) where
  pub get_sorted : (es : List (K × X)) → map.is_sorted R es ≡ true → (q : K) → map.get (map.from_sorted {R = R} es) q ≡ map.find R q es
  get_sorted es h q = map.get-from_sorted R es q (so _ h)

  pub len_sorted : (es : List (K × X)) → map.is_sorted R es ≡ true → map.len (map.from_sorted {R = R} es) ≡ length es
  len_sorted es h = map.len-entries (map.from_sorted {R = R} es) ∙ ap length (map.entries-from_sorted R es (so _ h))

  pub empty_sorted : map.from_sorted {X = X} {R = R} [] ≡ map.empty
  empty_sorted = map.empty_of_len (map.from_sorted {R = R} []) (map.len-entries (map.from_sorted {X = X} {R = R} []) ∙ ap length (map.entries-from_sorted {X = X} R [] tt))

  pub sorted_put : IsTotalOrder R → (es : List (K × X)) → map.is_sorted R es ≡ true → (k : K) (v : X) → map.is_sorted R (map.put R k v es) ≡ true
  sorted_put o es h k v = is_so _ (is_sorted-put R o k v es (so _ h))

  pub insert_sorted : IsTotalOrder R → (es : List (K × X)) → map.is_sorted R es ≡ true → (k : K) (v : X) → map.from_sorted {R = R} (map.put R k v es) ≡ map.insert (map.from_sorted es) k v
  insert_sorted o es h k v = map.same_entries_map _ _ (map.entries-from_sorted R (map.put R k v es) (so _ (sorted_put o es h k v)) ∙ sym (map.entries-insert o (map.from_sorted es) k v ∙ ap (map.put R k v) (map.entries-from_sorted R es (so _ h))))

  pub len_insert : IsTotalOrder R → (m : map.FinMap R X) (k : K) (v : X) → map.len (map.insert m k v) ≤ map.len m + 1
  len_insert o m k v = by (map.contains_key m k) (map.len-insert o m k v)
    where
      by : (b : Bool) → map.len (map.insert m k v) ≡ cond b (map.len m) (map.len m + 1) → map.len (map.insert m k v) ≤ map.len m + 1
      by true e = omega (arith, e)
      by false e = omega (arith, e)
