-- The numbers of subgraphs.
use Rattle.std.proofs.Common.{◌≡◌, ℕ, ◌+◌, ◌<◌, zero, suc, true, false, List, [], ◌∷◌, Option, Some, None, ◌⊎◌, inl, inr, refl, sym, ap, ◌∙◌, subst, arith, length, get_or}
use Rattle.std.specs.Prelude.{Contains, is_some, IsSome, IfSome, IsSomeAnd, slice_get}
use Rattle.std.specs.Str.{bytes_eq}
use Rattle.std.proofs.lemmas.Slice.Eq.{bytes_eq-Decides}
use Rattle.router_config.specs.declared.config.SubRule.{SubRule}
use Rattle.router_config.specs.Rules.{names, is_ruled, number_from, number_of}
use Rattle.router_config.proofs.Fitting.{either, ruled}

-- there is a number where one of the rules has the name
some-number : (n : ℕ) (rules : List SubRule) (name : List ℕ) → is_some (number_from n rules name) ≡ is_ruled rules name
some-number n [] name = refl
some-number n (rule ∷ rules) name = by_name (either (bytes_eq rule.name name)) (some-number (n + 1) rules name)
  where
    by_name : (bytes_eq rule.name name ≡ true) ⊎ (bytes_eq rule.name name ≡ false) → is_some (number_from (n + 1) rules name) ≡ is_ruled rules name →
        is_some (number_from n (rule ∷ rules) name) ≡ is_ruled (rule ∷ rules) name
    by_name (inl h) later = rw h refl
    by_name (inr h) later = rw h later

contained : (rules : List SubRule) (name : List ℕ) (k : ℕ) → k < length (names rules) → get_or (names rules) k name ≡ name → is_ruled rules name ≡ true
contained [] name k below is = absurd (omega arith)
contained (rule ∷ rules) name zero below is = let here : bytes_eq rule.name name ≡ true = (bytes_eq-Decides rule.name name).1 is in rw here refl
contained (rule ∷ rules) name (suc k) below is = by_name (either (bytes_eq rule.name name)) (contained rules name k (omega arith) is)
  where
    by_name : (bytes_eq rule.name name ≡ true) ⊎ (bytes_eq rule.name name ≡ false) → is_ruled rules name ≡ true → is_ruled (rule ∷ rules) name ≡ true
    by_name (inl h) later = rw h refl
    by_name (inr h) later = rw h later

numbered : (rules : List SubRule) (name : List ℕ) → Contains (names rules) name → is_some (number_of rules name) ≡ true
numbered rules name (k, below, is) = some-number 0 rules name ∙ contained rules name k below is

-- a rule with the name stands k places after the first one, which has the number n
record NamedFrom (n : ℕ) (rules : List SubRule) (name : List ℕ) (m : ℕ) : Type 0 where
  k : ℕ
  is : m ≡ n + k
  rule : IsSomeAnd (slice_get rules k) (λ (r : SubRule). r.name ≡ name)

named_next : (n : ℕ) (rule : SubRule) (rules : List SubRule) (name : List ℕ) (m : ℕ) → NamedFrom (n + 1) rules name m → NamedFrom n (rule ∷ rules) name m
named_next n rule rules name m f = record { k = suc f.k; is = omega arith; rule = f.rule }

named_from : (n : ℕ) (rules : List SubRule) (name : List ℕ) (m : ℕ) → number_from n rules name ≡ Some m → NamedFrom n rules name m
named_from n [] name m e = cc
named_from n (rule ∷ rules) name m e = by_name (either (bytes_eq rule.name name)) (λ later. named_from (n + 1) rules name m later)
  where
    by_name : (bytes_eq rule.name name ≡ true) ⊎ (bytes_eq rule.name name ≡ false) → (number_from (n + 1) rules name ≡ Some m → NamedFrom (n + 1) rules name m) → NamedFrom n (rule ∷ rules) name m
    by_name (inl h) onward =
        let here : Some n ≡ Some m = rw h at e in
        let same : n ≡ m = cc in
        record { k = 0; is = omega arith; rule = (bytes_eq-Decides rule.name name).0 h }
    by_name (inr h) onward = named_next n rule rules name m (onward (rw h at e))

-- the rule with this number has the name
pub named : (rules : List SubRule) (name : List ℕ) (found : Option ℕ) → found ≡ number_of rules name → IfSome found (λ n. IsSomeAnd (slice_get rules n) (λ (r : SubRule). r.name ≡ name))
named rules name None e = tt
named rules name (Some n) e =
    let f : NamedFrom 0 rules name n = named_from 0 rules name n (sym e) in
    let same : f.k ≡ n = omega arith in
    subst (λ (k : ℕ). IsSomeAnd (slice_get rules k) (λ (r : SubRule). r.name ≡ name)) same f.rule

-- there is a number exactly where the name is among those of the rules
pub known : (rules : List SubRule) (name : List ℕ) (found : Option ℕ) → found ≡ number_of rules name → (IsSome found → Contains (names rules) name) × (Contains (names rules) name → IsSome found)
known rules name found e = ((λ h. ruled rules name (sym (some-number 0 rules name) ∙ ap is_some (sym e) ∙ h)), (λ h. ap is_some e ∙ numbered rules name h))
