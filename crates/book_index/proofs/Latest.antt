-- The last of what is noted for several targets.
use Rattle.std.proofs.Common.{◌≡◌, ◌⊎◌, inl, inr, ℕ, zero, suc, ◌+◌, ◌-◌, ◌^◌, ◌<◌, ◌≤◌, min, Bool, true, false, List, [], ◌∷◌, ◌++◌, length, take, Option, Some, None, refl, sym, ap, ◌∙◌, arith}
use Rattle.std.specs.Prelude.{nat_lt, if◌then◌else◌}
use Rattle.std.proofs.lemmas.Bool.Decides.{nat_tests}
use Rattle.std.proofs.lemmas.Option.{same_Some}
use Rattle.std.proofs.lemmas.List.Elements.{Contains-append_left, Contains-push, Contains-push_cases}
use Rattle.std.specs.FinMap as map
use Rattle.cache_terms.specs.Keys.{Covers}
use Rattle.cache_terms.specs.declared.keys.Key.{Key}
use Rattle.cache_terms.specs.declared.keys.Target.TheVariants.{Subgraph, OfType, Tag}
use Rattle.cache_terms.specs.declared.tags.Tags.{Tags}
use Rattle.cache_terms.specs.declared.tags.Tags.TheVariants.{Known, Many, Malformed}
use Rattle.cache_model.specs.Journal.{IsLast}
use Rattle.book_index.specs.Stamps.{Positions, Stamped, probed, later, IsNotedFor, IsTagNoted}

pub last_same : (P Q : ℕ → Type 0) → ((p : ℕ) → P p → Q p) → ((p : ℕ) → Q p → P p) → (o : Option ℕ) → IsLast P o → IsLast Q o
last_same P Q forth back None last = λ p h. last p (back p h)
last_same P Q forth back (Some q) last = (forth q last.0, λ p lt h. last.1 p lt (back p h))

pub last_either : (P Q : ℕ → Type 0) (a b : Option ℕ) → IsLast P a → IsLast Q b → IsLast (λ p. P p ⊎ Q p) (later a b)
last_either P Q None None la lb = λ p h. elim h [ inl x ↦ la p x | inr y ↦ lb p y ]
last_either P Q None (Some b) la lb = (inr lb.0, λ p lt h. elim h [ inl x ↦ la p x | inr y ↦ lb.1 p lt y ])
last_either P Q (Some a) None la lb = (inl la.0, λ p lt h. elim h [ inl x ↦ la.1 p lt x | inr y ↦ lb p y ])
last_either P Q (Some a) (Some b) la lb = by (nat_lt a b) refl
  where
    by : (c : Bool) → nat_lt a b ≡ c → IsLast (λ p. P p ⊎ Q p) (if c then Some b else Some a)
    by true is =
        let less : a < b = grind (arith, nat_tests) in
        (inr lb.0, λ p lt h. elim h [ inl x ↦ la.1 p (omega (arith, less, lt)) x | inr y ↦ lb.1 p lt y ])
    by false is =
        let most : b ≤ a = grind (arith, nat_tests) in
        (inl la.0, λ p lt h. elim h [ inl x ↦ la.1 p lt x | inr y ↦ lb.1 p (omega (arith, most, lt)) y ])

-- what one target has is the last for it
pub last_one : (o : Option ℕ) → IsLast (λ p. o ≡ Some p) o
last_one None = λ p h. absurd (cc h)
last_one (Some q) = (refl, λ p lt h. absurd (omega (arith, lt, same_Some q p h)))

pub probed_more : (s : Stamped) (m n : ℕ) → probed (probed s m) n ≡ probed s (m + n)
probed_more s m n = ap (λ (x : ℕ). record s { probes = x }) (sum s.probes)
  where
    sum : (a : ℕ) → ◌≡◌ {A = ℕ} (min (min (a + m) (2 ^ 64 - 1) + n) (2 ^ 64 - 1)) (min (a + (m + n)) (2 ^ 64 - 1))
    sum a = omega arith

pub take_all : {X : Type 0} (xs : List X) (n : ℕ) → length xs ≤ n → take n xs ≡ xs
take_all [] zero le = refl
take_all [] (suc n) le = refl
take_all (x ∷ xs) zero le = absurd (omega (arith, le))
take_all (x ∷ xs) (suc n) le = ap (λ l. x ∷ l) (take_all xs n (omega (arith, le)))

pub probed_none : (s : Stamped) → s.probes < 2 ^ 64 → s ≡ probed s 0
probed_none s h = ap (λ (x : ℕ). record s { probes = x }) same
  where
    same : s.probes ≡ min (s.probes + 0) (2 ^ 64 - 1)
    same = omega (arith, h)

module _ (stamps : Positions) where
  -- with one more tag
  pub last_tag : (sub : List ℕ) (tags : List (List ℕ)) (tag : List ℕ) (o : Option ℕ) → IsLast (IsTagNoted stamps sub tags) o
      → IsLast (IsTagNoted stamps sub (tags ++ tag ∷ [])) (later o (map.get stamps (Tag sub tag)))
  last_tag sub tags tag o last = last_same _ _ forth back _ (last_either _ _ o (map.get stamps (Tag sub tag)) last (last_one (map.get stamps (Tag sub tag))))
    where
      forth : (p : ℕ) → IsTagNoted stamps sub tags p ⊎ (map.get stamps (Tag sub tag) ≡ Some p) → IsTagNoted stamps sub (tags ++ tag ∷ []) p
      forth p h = elim h [ inl x ↦ (x.0, Contains-append_left tags (tag ∷ []) x.0 x.1, x.2) | inr y ↦ (tag, Contains-push tags tag, y) ]

      back : (p : ℕ) → IsTagNoted stamps sub (tags ++ tag ∷ []) p → IsTagNoted stamps sub tags p ⊎ (map.get stamps (Tag sub tag) ≡ Some p)
      back p h = elim (Contains-push_cases tags tag h.0 h.1) [ inl x ↦ inl (h.0, x, h.2) | inr y ↦ inr (ap (λ t. map.get stamps (Tag sub t)) y ∙ h.2) ]

  -- noted for the subgraph or the type
  abbrev pub IsWholeNoted : Key → ℕ → Type 0
  IsWholeNoted key p = (map.get stamps (Subgraph key.sub) ≡ Some p) ⊎ (map.get stamps (OfType key.sub key.type_name) ≡ Some p)

  pub last_whole : (key : Key) → IsLast (IsWholeNoted key) (later (map.get stamps (Subgraph key.sub)) (map.get stamps (OfType key.sub key.type_name)))
  last_whole key = last_either _ _ _ _ (last_one (map.get stamps (Subgraph key.sub))) (last_one (map.get stamps (OfType key.sub key.type_name)))

  whole_noted : (key : Key) (tags : Tags) (p : ℕ) → IsWholeNoted key p → IsNotedFor stamps key tags p
  whole_noted key tags p h = elim h [ inl x ↦ (Subgraph key.sub, x, refl) | inr y ↦ (OfType key.sub key.type_name, y, (refl, refl)) ]

  -- no tag is known
  no_tags : (key : Key) (tags : Tags) → ((tag : List ℕ) → Covers (Tag key.sub tag) key tags → ⊥) → (p : ℕ) → IsNotedFor stamps key tags p → IsWholeNoted key p
  no_tags key tags none p (Subgraph sub, got, cover) = inl (ap (λ s. map.get stamps (Subgraph s)) (sym cover) ∙ got)
  no_tags key tags none p (OfType sub name, got, cover) = inr (ap (λ s. map.get stamps (OfType s key.type_name)) (sym cover.0) ∙ ap (λ n. map.get stamps (OfType sub n)) (sym cover.1) ∙ got)
  no_tags key tags none p (Tag sub tag, got, cover) = absurd (none tag (refl, cover.1))

  pub last_many : (key : Key) (count : ℕ) (o : Option ℕ) → IsLast (IsWholeNoted key) o → IsLast (IsNotedFor stamps key (Many count)) o
  last_many key count o last = last_same _ _ (whole_noted key (Many count)) (no_tags key (Many count) (λ tag h. h.1)) o last

  pub last_malformed : (key : Key) (o : Option ℕ) → IsLast (IsWholeNoted key) o → IsLast (IsNotedFor stamps key Malformed) o
  last_malformed key o last = last_same _ _ (whole_noted key Malformed) (no_tags key Malformed (λ tag h. h.1)) o last

  known_noted : (key : Key) (tags : List (List ℕ)) (p : ℕ) → IsNotedFor stamps key (Known tags) p → IsWholeNoted key p ⊎ IsTagNoted stamps key.sub tags p
  known_noted key tags p (Subgraph sub, got, cover) = inl (inl (ap (λ s. map.get stamps (Subgraph s)) (sym cover) ∙ got))
  known_noted key tags p (OfType sub name, got, cover) = inl (inr (ap (λ s. map.get stamps (OfType s key.type_name)) (sym cover.0) ∙ ap (λ n. map.get stamps (OfType sub n)) (sym cover.1) ∙ got))
  known_noted key tags p (Tag sub tag, got, cover) = inr (tag, cover.1, ap (λ s. map.get stamps (Tag s tag)) (sym cover.0) ∙ got)

  pub last_known : (key : Key) (tags : List (List ℕ)) (a b : Option ℕ) → IsLast (IsWholeNoted key) a → IsLast (IsTagNoted stamps key.sub tags) b → IsLast (IsNotedFor stamps key (Known tags)) (later a b)
  last_known key tags a b la lb = last_same _ _ (λ p h. elim h [ inl x ↦ whole_noted key (Known tags) p x | inr y ↦ (Tag key.sub y.0, y.2, (refl, y.1)) ]) (known_noted key tags) (later a b) (last_either _ _ a b la lb)
