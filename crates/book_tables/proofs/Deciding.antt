-- A key, a scope and a cover are these or they are not.
use Rattle.std.proofs.Common.{◌≡◌, ◌⊎◌, inl, inr, ℕ, ◌==◌, Bool, true, false, List, [], ◌∷◌, Option, Some, None, refl, ap, sym, ◌∙◌, arith}
use Rattle.std.specs.Prelude.{Contains}
use Rattle.std.specs.List.{list_any}
use Rattle.std.specs.Cmp.Lexicographic.{pointwise}
use Rattle.std.proofs.lemmas.Bool.Decides.{nat_tests}
use Rattle.std.proofs.lemmas.Cmp.{nat_list_eq_equiv}
use Rattle.std.proofs.lemmas.Map.Views.{list_any-from_Contains, Contains-from_any}
use Rattle.std.proofs.lemmas.Option.{same_Some}
use Rattle.cache_terms.specs.declared.keys.Key.{Key}
use Rattle.cache_terms.specs.declared.keys.Target.{Target}
use Rattle.cache_terms.specs.declared.keys.Target.TheVariants.{Subgraph, OfType, Tag}
use Rattle.cache_terms.specs.declared.tags.Tags.{Tags}
use Rattle.cache_terms.specs.declared.tags.Tags.TheVariants.{Known, Many, Malformed}
use Rattle.cache_terms.specs.Keys.{Covers}
use Rattle.cache_terms.specs.Tags.{HasTag}

-- the property holds or it does not
abbrev pub Either : Type 0 → Type 0
Either P = P ⊎ (P → ⊥)

both : {P Q : Type 0} → Either P → Either Q → Either (P × Q)
both (inl p) (inl q) = inl (p, q)
both (inl p) (inr no_q) = inr (λ h. no_q h.1)
both (inr no_p) q = inr (λ h. no_p h.0)

same_texts : (a b : List ℕ) → pointwise ◌==◌ a b ≡ true → a ≡ b
same_texts [] [] h = refl
same_texts [] (y ∷ b) h = absurd (cc h)
same_texts (x ∷ a) [] h = absurd (cc h)
same_texts (x ∷ a) (y ∷ b) h = grind (arith, nat_tests, same_texts a b, h)

text_or_not : (a b : List ℕ) → Either (a ≡ b)
text_or_not a b = from (pointwise ◌==◌ a b) refl
  where
    from : (t : Bool) → pointwise ◌==◌ a b ≡ t → Either (a ≡ b)
    from true is = inl (same_texts a b is)
    from false is = inr (λ same. cc (sym is ∙ ap (pointwise ◌==◌ a) (sym same) ∙ nat_list_eq_equiv.refl a))

scope_or_not : (a b : Option (List ℕ)) → Either (a ≡ b)
scope_or_not None None = inl refl
scope_or_not None (Some y) = inr (λ h. cc h)
scope_or_not (Some x) None = inr (λ h. cc h)
scope_or_not (Some x) (Some y) = from (text_or_not x y)
  where
    from : Either (x ≡ y) → Either (Some x ≡ Some y)
    from (inl same) = inl (ap Some same)
    from (inr other) = inr (λ h. other (same_Some x y h))

key_or_not : (a b : Key) → Either (a ≡ b)
key_or_not a b = from (text_or_not a.sub b.sub) (text_or_not a.type_name b.type_name) (text_or_not a.rep b.rep) (text_or_not a.sel b.sel)
  where
    from : Either (a.sub ≡ b.sub) → Either (a.type_name ≡ b.type_name) → Either (a.rep ≡ b.rep) → Either (a.sel ≡ b.sel) → Either (a ≡ b)
    from (inl sub) (inl name) (inl rep) (inl sel) = inl (ap (λ (x : List ℕ). record { sub = x; type_name = a.type_name; rep = a.rep; sel = a.sel }) sub
        ∙ ap (λ (x : List ℕ). record { sub = b.sub; type_name = x; rep = a.rep; sel = a.sel }) name
        ∙ ap (λ (x : List ℕ). record { sub = b.sub; type_name = b.type_name; rep = x; sel = a.sel }) rep
        ∙ ap (λ (x : List ℕ). record { sub = b.sub; type_name = b.type_name; rep = b.rep; sel = x }) sel)
    from (inr other) name rep sel = inr (λ h. other (ap (λ (k : Key). k.sub) h))
    from sub (inr other) rep sel = inr (λ h. other (ap (λ (k : Key). k.type_name) h))
    from sub name (inr other) sel = inr (λ h. other (ap (λ (k : Key). k.rep) h))
    from sub name rep (inr other) = inr (λ h. other (ap (λ (k : Key). k.sel) h))

-- the key and the scope are these or they are not
pub pair_or_not : (k key : Key) (s scope : Option (List ℕ)) → Either ((k ≡ key) × (s ≡ scope))
pair_or_not k key s scope = both (key_or_not k key) (scope_or_not s scope)

tag_or_not : (tags : Tags) (tag : List ℕ) → Either (HasTag tags tag)
tag_or_not (Many count) tag = inr (λ h. h)
tag_or_not Malformed tag = inr (λ h. h)
tag_or_not (Known tags) tag = from (list_any (pointwise ◌==◌ tag) tags) refl
  where
    from : (b : Bool) → list_any (pointwise ◌==◌ tag) tags ≡ b → Either (Contains tags tag)
    from true is = inl (Contains-from_any same_texts tag tags is)
    from false is = inr (λ has. cc (sym is ∙ list_any-from_Contains nat_list_eq_equiv tag tags has))

-- the target covers the key and tags or it does not
pub covers_or_not : (target : Target) (key : Key) (tags : Tags) → Either (Covers target key tags)
covers_or_not (Subgraph sub) key tags = text_or_not sub key.sub
covers_or_not (OfType sub type_name) key tags = both (text_or_not sub key.sub) (text_or_not type_name key.type_name)
covers_or_not (Tag sub tag) key tags = both (text_or_not sub key.sub) (tag_or_not tags tag)
