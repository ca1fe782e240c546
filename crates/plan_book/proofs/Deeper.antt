-- The nodes in a Sequence or Parallel have fewer levels than it.
use Rattle.std.proofs.Common.{◌≡◌, ℕ, suc, ◌+◌, ◌*◌, ◌<◌, Bool, true, false, List, Option, Some, None, refl, ap, ◌∙◌, sym, arith}
use Rattle.json_value.specs.declared.tree.Json.{Json, out-Json}
use Rattle.json_value.specs.declared.tree.Json.TheVariants as json
use Rattle.json_value.specs.Members.{member}
use Rattle.json_value.specs.Heights.{height, items_height}
use Rattle.json_value.proofs.Cases.{Kind, kind_of, is_null, is_bool, is_number, is_string, is_list, is_object, out-null, out-bool, out-number, out-string, out-list, out-object}
use Rattle.json_value.proofs.Heights.{part-height, height-list}
use Rattle.plan_book.specs.Forms.{elements, elements_at, elements_in, if_fits, are_children, children_in}

elements_is : (v : Json) (vs : List Json) → elements v ≡ Some vs → v ≡ json.List vs
elements_is v vs is = by_kind (kind_of v) is
  where
    by_kind : {v : Json} → Kind v → elements v ≡ Some vs → v ≡ json.List vs
    by_kind is_null is = let e : elements_at (out-Json json.Null) ≡ None = ap elements_at out-null in absurd cc
    by_kind (is_bool b) is = let e : elements_at (out-Json (json.Bool b)) ≡ None = ap elements_at (out-bool b) in absurd cc
    by_kind (is_number t) is = let e : elements_at (out-Json (json.Number t)) ≡ None = ap elements_at (out-number t) in absurd cc
    by_kind (is_string t) is = let e : elements_at (out-Json (json.Str t)) ≡ None = ap elements_at (out-string t) in absurd cc
    by_kind (is_list xs) is = let e : elements_at (out-Json (json.List xs)) ≡ Some xs = ap elements_at (out-list xs) in let same : xs ≡ vs = cc in ap json.List same
    by_kind (is_object ms) is = let e : elements_at (out-Json (json.Object ms)) ≡ None = ap elements_at (out-object ms) in absurd cc

pub kept : {X : Type 0} (test : X → Bool) (o : Option X) (x : X) → if_fits test o ≡ Some x → (o ≡ Some x) × (test x ≡ true)
kept test None x is = absurd cc
kept test (Some y) x is = by_test (test y) refl is
  where
    by_test : (b : Bool) → test y ≡ b → if_fits test (Some y) ≡ Some x → (◌≡◌ {A = Option _} (Some y) (Some x)) × (test x ≡ true)
    by_test true e is = let same : ◌≡◌ {A = Option _} (Some y) (Some x) = rw e at is in let eq : y ≡ x = cc in (same, ap test (sym eq) ∙ e)
    by_test false e is = let none : ◌≡◌ {A = Option _} None (Some x) = rw e at is in absurd cc

list_below : (v : Json) (name : List ℕ) (o : Option Json) (vs : List Json) → member v name ≡ o → elements_in o ≡ Some vs → 3 * items_height vs + 2 < 3 * height v
list_below v name None vs at is = absurd cc
list_below v name (Some w) vs at is =
    let below : height w < height v = part-height v name w at in
    let tall : height w ≡ suc (items_height vs) = ap height (elements_is w vs is) ∙ height-list vs in
    omega (arith, below, tall)

pub children_below : (v : Json) (name : List ℕ) (vs : List Json) → children_in (member v name) ≡ Some vs → 3 * items_height vs + 2 < 3 * height v
children_below v name vs is = list_below v name (member v name) vs refl (kept are_children (elements_in (member v name)) vs is).0
