-- A tree's entries seen as a finite map.
use Rattle.std.proofs.Common.{◌≡◌, ℕ, cond, List, [], ◌∷◌, Some, None, refl, ap, sym, ◌∙◌}
use Rattle.std.specs.declared.cmp.Ordering.{Ordering}
use Rattle.std.specs.declared.cmp.Ordering.TheVariants.{Less, Equal, Greater}
use Rattle.std.specs.Ordering.{eq_by_cmp, nat_cmp, ordering_then}
use Rattle.std.specs.Cmp.{IsTotalOrder}
use Rattle.std.proofs.lemmas.Cmp.{nat_cmp_total, on_total, then_total, eq_by_cmp_equiv}
use Rattle.std.specs.Map.{lookup}
use Rattle.std.specs.BTreeMap.{is_at}
use Rattle.std.specs.FinMap as map
use Rattle.std.specs.FinMap.{IsAntisymmetric, nat_cmp-IsAntisymmetric}
use Rattle.rehearsal.specs.Names.{name_cmp}

pub find_is : {K X : Type 0} (R : K → K → Ordering) (q : K) (es : List (K × X)) → map.find R q es ≡ lookup (is_at (R q)) es
find_is R q [] = refl
find_is R q (e ∷ es) = ap (cond (eq_by_cmp R q e.0) (Some e.1)) (find_is R q es)

pub get_is : {K X : Type 0} {R : K → K → Ordering} (o : IsTotalOrder R) (es : List (K × X)) (q : K) → map.get (map.from_entries {R = R} es) q ≡ lookup (is_at (R q)) es
get_is {R = R} o es q = map.get-from_entries o es q ∙ find_is R q es

-- where each key has what it had, but for one that has v now
pub insert_is : {K X : Type 0} {R : K → K → Ordering} (o : IsTotalOrder R) → IsAntisymmetric R → (es fs : List (K × X)) (k : K) (v : X)
    → ((q : K) → lookup (is_at (R q)) fs ≡ cond (is_at (R k) q) (Some v) (lookup (is_at (R q)) es)) → map.from_entries {R = R} fs ≡ map.insert (map.from_entries {R = R} es) k v
insert_is {R = R} o same es fs k v h =
    map.same_map o same (map.from_entries {R = R} fs) (map.insert (map.from_entries {R = R} es) k v)
    (λ q. get_is o fs q ∙ h q ∙ ap (λ b. cond b (Some v) (lookup (is_at (R q)) es)) ((eq_by_cmp_equiv o).symm k q)
    ∙ ap (cond (eq_by_cmp R q k) (Some v)) (sym (get_is o es q)) ∙ sym (map.get-insert o (map.from_entries {R = R} es) k v q))

-- where each key has what it had, but for one that has nothing now
pub remove_is : {K X : Type 0} {R : K → K → Ordering} (o : IsTotalOrder R) → IsAntisymmetric R → (es fs : List (K × X)) (k : K)
    → ((q : K) → lookup (is_at (R q)) fs ≡ cond (is_at (R k) q) None (lookup (is_at (R q)) es)) → map.from_entries {R = R} fs ≡ map.remove (map.from_entries {R = R} es) k
remove_is {R = R} o same es fs k h =
    map.same_map o same (map.from_entries {R = R} fs) (map.remove (map.from_entries {R = R} es) k)
    (λ q. get_is o fs q ∙ h q ∙ ap (λ b. cond b None (lookup (is_at (R q)) es)) ((eq_by_cmp_equiv o).symm k q)
    ∙ ap (cond (eq_by_cmp R q k) None) (sym (get_is o es q)) ∙ sym (map.get-remove o (map.from_entries {R = R} es) k q))

pub name_total : IsTotalOrder name_cmp
name_total = then_total (on_total (λ (t : ℕ × ℕ). t.0) nat_cmp_total) (on_total (λ (t : ℕ × ℕ). t.1) nat_cmp_total)

pub name_same : IsAntisymmetric name_cmp
name_same x y e = from (nat_cmp x.0 y.0) refl e
  where
    from : (r : Ordering) → nat_cmp x.0 y.0 ≡ r → ordering_then r (nat_cmp x.1 y.1) ≡ Equal → x ≡ y
    from Less is h = absurd cc
    from Equal is h = λ i. (nat_cmp-IsAntisymmetric x.0 y.0 is i, nat_cmp-IsAntisymmetric x.1 y.1 h i)
    from Greater is h = absurd cc
