-- Lists of texts without doubles.
use Rattle.std.proofs.Common.{◌≡◌, ℕ, Bool, true, false, not, ◌&&◌, ◌==◌, if◌then◌else◌, filter, List, [], ◌∷◌, ◌++◌, length, ap, sym, refl, ◌∙◌, Contains, true≢false, nat_lt, nat_le}
use Rattle.std.specs.Cmp.{IsEquivalence}
use Rattle.std.specs.Cmp.Lexicographic.{pointwise, nat_list_eq_equiv, same_text}
use Rattle.std.specs.List.{list_any, list_all}
use Rattle.std.proofs.lemmas.List.Elements.{filter-append}
use Rattle.std.proofs.lemmas.List.{append-nil}
use Rattle.std.proofs.lemmas.Map.Views.{any-filter_same, list_any-from_Contains, Contains-from_any}
use Rattle.std.proofs.lemmas.Bool.{ltb-true, leb-true}
use Rattle.indexmap.specs.IndexSet.{insert_key}
use Rattle.cache_terms.specs.TagRules.{serves, distinct, AreApart}

module _ {T : Type 0} (eq : T → T → Bool) (laws : IsEquivalence eq) where
  -- the keys that are not equal to a
  abbrev apart : T → List T → List T
  apart a ks = filter (λ k. not (eq a k)) ks

  apart-last : (a x : T) (ks : List T) → apart a (ks ++ x ∷ []) ≡ apart a ks ++ apart a (x ∷ [])
  apart-last a x ks = filter-append (λ k. not (eq a k)) ks (x ∷ [])

  -- a key equal to a goes with a
  insert_equal : (a x : T) (ks : List T) → eq x a ≡ true → apart a (insert_key eq ks x) ≡ apart a ks
  insert_equal a x ks e = by (list_any (eq x) ks)
    where
      by : (b : Bool) → apart a (if b then ks else ks ++ x ∷ []) ≡ apart a ks
      by true = refl
      by false = apart-last a x ks ∙ ap (λ b. apart a ks ++ (if not b then x ∷ [] else [])) (laws.symm a x ∙ e) ∙ append-nil (apart a ks)

  -- another key is found among those apart from a, if at all
  insert_other : (a x : T) (ks : List T) → eq x a ≡ false → apart a (insert_key eq ks x) ≡ insert_key eq (apart a ks) x
  insert_other a x ks e = by (list_any (eq x) ks) refl
    where
      kept : (k : T) → eq x k ≡ true → not (eq a k) ≡ true
      kept k h = ap not (laws.symm a k ∙ sym (laws.congr x k a h) ∙ e)

      found : list_any (eq x) (apart a ks) ≡ list_any (eq x) ks
      found = any-filter_same (eq x) (λ k. not (eq a k)) true kept ks

      by : (b : Bool) → list_any (eq x) ks ≡ b → apart a (insert_key eq ks x) ≡ insert_key eq (apart a ks) x
      by true h = rw (found, h) refl
      by false h = rw (found, h) (apart-last a x ks ∙ ap (λ b. apart a ks ++ (if not b then x ∷ [] else [])) (laws.symm a x ∙ e))

  insert_after : (a x : T) (ks : List T) → a ∷ apart a (insert_key eq ks x) ≡ insert_key eq (a ∷ apart a ks) x
  insert_after a x ks = by (eq x a) refl
    where
      pushed : (b : Bool) → a ∷ (if b then apart a ks else apart a ks ++ x ∷ []) ≡ (if b then a ∷ apart a ks else (a ∷ apart a ks) ++ x ∷ [])
      pushed true = refl
      pushed false = refl

      by : (b : Bool) → eq x a ≡ b → a ∷ apart a (insert_key eq ks x) ≡ insert_key eq (a ∷ apart a ks) x
      by true e = rw e (ap (λ l. a ∷ l) (insert_equal a x ks e))
      by false e = rw e (ap (λ l. a ∷ l) (insert_other a x ks e) ∙ pushed (list_any (eq x) (apart a ks)))

-- one more text goes last where it is new
pub distinct_last : (texts : List (List ℕ)) (text : List ℕ) → distinct (texts ++ text ∷ []) ≡ insert_key (pointwise ◌==◌) (distinct texts) text
distinct_last [] text = refl
distinct_last (first ∷ texts) text = ap (λ ks. first ∷ filter (λ k. not (pointwise ◌==◌ first k)) ks) (distinct_last texts text) ∙ insert_after (pointwise ◌==◌) nat_list_eq_equiv first text (distinct texts)

-- a test of two parts holds where each does
both_hold : (a b : Bool) → (a && b) ≡ true → (a ≡ true) × (b ≡ true)
both_hold true b h = (refl, h)
both_hold false b h = absurd (true≢false (sym h))

-- equal bytes are one text
same : (a b : List ℕ) → pointwise ◌==◌ a b ≡ true → a ≡ b
same a b h = same_text a b (sym h)

-- what a filter keeps was there
Contains-from_filter : (p : List ℕ → Bool) (tags : List (List ℕ)) (tag : List ℕ) → Contains (filter p tags) tag → Contains tags tag
Contains-from_filter p tags tag h = Contains-from_any same tag tags (both_hold (p tag) (list_any (pointwise ◌==◌ tag) tags) kept).1
  where
    kept : (p tag && list_any (pointwise ◌==◌ tag) tags) ≡ true
    kept = sym (any-filter_same (pointwise ◌==◌ tag) p (p tag) (λ k e. ap p (sym (same tag k e))) tags) ∙ list_any-from_Contains nat_list_eq_equiv tag (filter p tags) h

-- a text is not among those apart from it
none_itself : (tag : List ℕ) (tags : List (List ℕ)) → Contains (filter (λ k. not (pointwise ◌==◌ tag k)) tags) tag → ⊥
none_itself tag tags h = true≢false (sym (list_any-from_Contains nat_list_eq_equiv tag (filter (λ k. not (pointwise ◌==◌ tag k)) tags) h) ∙ any-filter_same (pointwise ◌==◌ tag) (λ k. not (pointwise ◌==◌ tag k)) false (λ k e. ap not e) tags)

-- what is left of a list without doubles has none
apart-filter : (p : List ℕ → Bool) (tags : List (List ℕ)) → AreApart tags → AreApart (filter p tags)
apart-filter p [] h = tt
apart-filter p (tag ∷ tags) h = by (p tag) (apart-filter p tags h.3)
  where
    by : (b : Bool) → AreApart (filter p tags) → AreApart (if b then tag ∷ filter p tags else filter p tags)
    by true rest = (h.0, h.1, λ twice. h.2 (Contains-from_filter p tags tag twice), rest)
    by false rest = rest

-- texts that serve stand apart without their doubles
pub AreApart-distinct : (texts : List (List ℕ)) → list_all serves texts ≡ true → AreApart (distinct texts)
AreApart-distinct [] h = tt
AreApart-distinct (text ∷ texts) h =
    let serving : (serves text ≡ true) × (list_all serves texts ≡ true) = both_hold (serves text) (list_all serves texts) h in
    let bounds : (nat_lt 0 (length text) ≡ true) × (nat_le (length text) 128 ≡ true) = both_hold (nat_lt 0 (length text)) (nat_le (length text) 128) serving.0 in
    (ltb-true 0 (length text) bounds.0, leb-true (length text) 128 bounds.1, none_itself text (distinct texts), apart-filter (λ k. not (pointwise ◌==◌ text k)) (distinct texts) (AreApart-distinct texts serving.1))
