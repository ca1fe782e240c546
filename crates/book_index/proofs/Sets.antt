-- What an update of a map leaves at each key.
use Rattle.std.proofs.Common.{rules, ◌≡◌, ◌⊎◌, inl, inr, ℕ, Bool, true, false, ◌&&◌, cond, List, Option, Some, None, refl, sym, ap, subst, ◌∙◌}
use Rattle.std.specs.declared.cmp.Ordering.{Ordering}
use Rattle.std.specs.Ordering.{is_eq}
use Rattle.std.specs.Cmp.{IsTotalOrder, first_so, second_so}
use Rattle.std.specs.Cmp.Lexicographic.{nat_list_cmp_total, bytes_decides}
use Rattle.std.specs.Str.{bytes_eq}
use Rattle.std.proofs.lemmas.Cmp.{tied_itself}
use Rattle.std.proofs.lemmas.Map.Lookups.{CmpEqualImpliesEq, exact_bytes}
use Rattle.std.specs.BTreeMap as tree
use Rattle.indexmap.specs.IndexMap.{IndexMap, get, Updates}
use Rattle.cache_terms.specs.declared.keys.Key.{Key}
use Rattle.std.specs.Option.{option_and_then}
use Rattle.book_index.specs.declared.key_index.Slot.{Slot}
use Rattle.book_index.specs.declared.key_index.KeyIndex.{KeyIndex}
use Rattle.book_index.specs.Positions.{text_cmp, key_eq, in_slot, position_at, SetsText, SetsKey, HasSame, IsVacant}
use Rattle.book_index.proofs.Rows.{equal}

module _ {K X : Type 0} where
  -- new has the value at the key, and at each other key what old has. Look-ups stand as functions, so that the lemmas serve trees and hash maps
  pub record SetsAt (old new : K → Option X) (key : K) (value : Option X) : Type 0 where
    pub this : new key ≡ value
    pub others : (k : K) → (k ≡ key) ⊎ (new k ≡ old k)

module _ {K X : Type 0} (R : K → K → Ordering) (o : IsTotalOrder R) (same : CmpEqualImpliesEq R) where
  -- an update of a tree whose order tells all keys apart
  pub sets_tree : (old new : tree.BTreeMap K X) (key : K) (value : Option X) → tree.Updates R old new key value → SetsAt (λ k. tree.get R old k) (λ k. tree.get R new k) key value
  sets_tree old new key value updates = record {
    this = updates.0 key ∙ ap (λ r. cond (is_eq r) value (tree.get R old key)) (tied_itself o key);
    others = λ k. by k (is_eq (R key k)) refl;
  }
    where
      by : (k : K) (b : Bool) → is_eq (R key k) ≡ b → (k ≡ key) ⊎ (tree.get R new k ≡ tree.get R old k)
      by k true tied = inl (sym (same key k (equal (R key k) tied)))
      by k false tied = inr (updates.2 k tied)

module _ {K X S : Type 0} (eq : K → K → Bool) (same : (a b : K) → eq a b ≡ true → a ≡ b) where
  -- an update of a hash map whose test tells all keys apart
  pub sets_map : (old new : IndexMap K X S) (key : K) (value : Option X) → Updates eq old new key value → SetsAt (λ k. get eq old k) (λ k. get eq new k) key value
  sets_map old new key value updates = record {
    this = updates.1;
    others = λ k. by k (eq key k) refl;
  }
    where
      by : (k : K) (b : Bool) → eq key k ≡ b → (k ≡ key) ⊎ (get eq new k ≡ get eq old k)
      by k true tied = inl (sym (same key k tied))
      by k false tied = inr (updates.2 k tied)

-- a hash map that is the same, updated at a key that is the same
pub updates_from : {K X S : Type 0} (eq : K → K → Bool) (a b new : IndexMap K X S) (j k : K) (value : Option X) → a ≡ b → j ≡ k → Updates eq a new j value → Updates eq b new k value
updates_from eq a b new j k value same_map same_key updates = subst (λ m. Updates eq m new k value) same_map (subst (λ q. Updates eq a new q value) same_key updates)

-- equal bytes are one text
pub texts_exact : (a b : List ℕ) → bytes_eq a b ≡ true → a ≡ b
texts_exact a b = (bytes_decides a b).0

-- equal texts are one key
keys_exact : (a b : Key) → key_eq a b ≡ true → a ≡ b
keys_exact a b h =
    let first = texts_exact a.sub b.sub (first_so _ _ h) in
    let past_first : (bytes_eq a.type_name b.type_name && (bytes_eq a.rep b.rep && bytes_eq a.sel b.sel)) ≡ true = second_so (bytes_eq a.sub b.sub) _ h in
    let second = texts_exact a.type_name b.type_name (first_so _ _ past_first) in
    let past_second : (bytes_eq a.rep b.rep && bytes_eq a.sel b.sel) ≡ true = second_so (bytes_eq a.type_name b.type_name) _ past_first in
    let third = texts_exact a.rep b.rep (first_so _ _ past_second) in
    let fourth = texts_exact a.sel b.sel (second_so (bytes_eq a.rep b.rep) _ past_second) in
    λ i. record { sub = first i; type_name = second i; rep = third i; sel = fourth i }

pub sets_text : (old new : tree.BTreeMap (List ℕ) ℕ) (id : List ℕ) (value : Option ℕ) → tree.Updates text_cmp old new id value → SetsText old new id value
sets_text old new id value updates =
    let set = sets_tree text_cmp nat_list_cmp_total exact_bytes old new id value updates in
    record {
      this = set.this;
      others = λ other apart. elim (set.others other) [ inl e ↦ absurd (apart e) | inr s ↦ s ];
    }

sets_slot : (old new : KeyIndex) (key : Key) (value : Option Slot) → Updates key_eq old.slots new.slots key value → SetsAt (λ k. get key_eq old.slots k) (λ k. get key_eq new.slots k) key value
sets_slot old new key value updates = sets_map key_eq keys_exact old.slots new.slots key value updates

-- the key's slot is new: in the scope it has the value, and else what the old one has
pub sets_key : (old new : KeyIndex) (key : Key) (scope : Option (List ℕ)) (value : Option ℕ) (slot : Slot) → Updates key_eq old.slots new.slots key (Some slot)
    → in_slot slot scope ≡ value → ((other : Option (List ℕ)) → (other ≡ scope → ⊥) → in_slot slot other ≡ position_at old key other) → SetsKey old new key scope value
sets_key old new key scope value slot updates this others = record {
  this = at scope ∙ this;
  others = λ k s apart. elim (set.others k) [ inl one ↦ there k s one (λ e. apart (one, e)) | inr same ↦ ap (option_and_then (λ x. in_slot x s)) same ];
}
  where
    set : SetsAt (λ k. get key_eq old.slots k) (λ k. get key_eq new.slots k) key (Some slot)
    set = sets_slot old new key (Some slot) updates

    at : (s : Option (List ℕ)) → position_at new key s ≡ in_slot slot s
    at s = ap (option_and_then (λ x. in_slot x s)) set.this

    there : (k : Key) (s : Option (List ℕ)) → k ≡ key → (s ≡ scope → ⊥) → position_at new k s ≡ position_at old k s
    there k s one apart = ap (λ (q : Key). position_at new q s) one ∙ at s ∙ others s apart ∙ ap (λ (q : Key). position_at old q s) (sym one)

-- what has the same positions at the key, and elsewhere the same slots
same_where : (old new : KeyIndex) (key : Key) (value : Option Slot) → Updates key_eq old.slots new.slots key value
    → ((s : Option (List ℕ)) → option_and_then (λ x. in_slot x s) value ≡ position_at old key s) → HasSame old new
same_where old new key value updates same k s = elim (set.others k) [ inl one ↦ there one | inr e ↦ ap (option_and_then (λ x. in_slot x s)) e ]
  where
    set : SetsAt (λ q. get key_eq old.slots q) (λ q. get key_eq new.slots q) key value
    set = sets_slot old new key value updates

    there : k ≡ key → position_at new k s ≡ position_at old k s
    there one = ap (λ (q : Key). position_at new q s) one ∙ ap (option_and_then (λ x. in_slot x s)) set.this ∙ same s ∙ ap (λ (q : Key). position_at old q s) (sym one)

-- the key's slot has the same positions
pub same_key : (old new : KeyIndex) (key : Key) (slot : Slot) → Updates key_eq old.slots new.slots key (Some slot)
    → ((other : Option (List ℕ)) → in_slot slot other ≡ position_at old key other) → HasSame old new
same_key old new key slot updates same = same_where old new key (Some slot) updates same

-- a vacant slot that is taken out changes no position
pub gone_key : (old mid new : KeyIndex) (key : Key) (slot : Slot) → Updates key_eq old.slots mid.slots key (Some slot) → Updates key_eq mid.slots new.slots key None → IsVacant slot → HasSame mid new
gone_key old mid new key slot first updates vacant =
    same_where mid new key None updates (λ s. sym (ap (option_and_then (λ x. in_slot x s)) (sets_slot old mid key (Some slot) first).this ∙ vacant s))

-- a slot of which nothing is set has no position
pub empty_slot : (private : tree.BTreeMap (List ℕ) ℕ) → tree.IsEmpty private → (scope : Option (List ℕ)) → in_slot (record { public = None; private = private }) scope ≡ None
empty_slot private none None = refl
empty_slot private none (Some id) = search rules
