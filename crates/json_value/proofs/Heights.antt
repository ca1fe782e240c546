-- The parts of a value have fewer levels than the value.
use Rattle.std.proofs.Common.{Bool, true, false, None, ◌≡◌, ℕ, zero, suc, ◌<◌, ◌≤◌, max, List, [], ◌∷◌, Some, refl, ap, ◌∙◌, sym, arith}
use Rattle.std.specs.Prelude.{map, slice_get}
use Rattle.std.specs.Str.{bytes_eq}
use Rattle.json_value.specs.Members.{member, member_at, named}
use Rattle.json_value.proofs.Cases.{Kind, kind_of, is_null, is_bool, is_number, is_string, is_list, is_object, out-null, out-bool, out-number, out-string, out-list, out-object}
use Rattle.json_value.specs.declared.tree.Json.{Json, out-Json}
use Rattle.json_value.specs.declared.tree.Json.TheVariants as json
use Rattle.json_value.specs.declared.tree.Json.TheOpen.{Json-F}
use Rattle.json_value.specs.declared.tree.Json.TheFolds.{fold-Json, fold-roll-Json}
use Rattle.json_value.specs.Heights.{tallest, member_height, height_step, height, items_height, members_height}

pub height-list : (xs : List Json) → height (json.List xs) ≡ suc (items_height xs)
unfolding height items_height
height-list xs = ap (fold-Json ℕ height_step) (sym (json.rolls-List xs)) ∙ fold-roll-Json ℕ height_step (Json-F.List xs)

pub height-object : (ms : List (List ℕ × Json)) → height (json.Object ms) ≡ suc (members_height ms)
unfolding height members_height
height-object ms = ap (fold-Json ℕ height_step) (sym (json.rolls-Object ms)) ∙ fold-roll-Json ℕ height_step (Json-F.Object ms) ∙ ap (λ (ns : List ℕ). suc (tallest ns)) (values ms)
  where
    values : (ms : List (List ℕ × Json)) → map member_height (map (λ m. (m.0, fold-Json ℕ height_step m.1)) ms) ≡ map (λ m. fold-Json ℕ height_step m.1) ms
    values [] = refl
    values (m ∷ ms) = rw (values ms) refl

pub item-height : (xs : List Json) (i : ℕ) (x : Json) → slice_get xs i ≡ Some x → height x ≤ items_height xs
unfolding items_height
item-height [] i x is = cc
item-height (y ∷ xs) zero x is = let same : y ≡ x = cc in rw (← same) (omega arith)
item-height (y ∷ xs) (suc i) x is = let below = item-height xs i x is in omega arith

pub member-height : (ms : List (List ℕ × Json)) (i : ℕ) (m : List ℕ × Json) → slice_get ms i ≡ Some m → height m.1 ≤ members_height ms
unfolding members_height
member-height [] i m is = cc
member-height (n ∷ ms) zero m is = let same : n ≡ m = cc in rw (← same) (omega arith)
member-height (n ∷ ms) (suc i) m is = let below = member-height ms i m is in omega arith

named-height : (name : List ℕ) (ms : List (List ℕ × Json)) (x : Json) → named name ms ≡ Some x → height x ≤ members_height ms
unfolding members_height
named-height name [] x is = cc
named-height name (m ∷ ms) x is = by_name (bytes_eq m.0 name) refl (named-height name ms x)
  where
    by_name : (b : Bool) → bytes_eq m.0 name ≡ b → (named name ms ≡ Some x → height x ≤ tallest (map (λ m. height m.1) ms)) → height x ≤ max (height m.1) (tallest (map (λ m. height m.1) ms))
    by_name true same below =
        let found : named name (m ∷ ms) ≡ Some m.1 = rw same refl in
        let e : m.1 ≡ x = cc in
        rw (← e) (omega arith)
    by_name false other below =
        let onward : named name (m ∷ ms) ≡ named name ms = rw other refl in
        let low = below (sym onward ∙ is) in
        omega arith

pub part-height : (v : Json) (name : List ℕ) (x : Json) → member v name ≡ Some x → height x < height v
part-height v name x is = by_kind v (kind_of v) is
  where
    by_kind : (v : Json) → Kind v → member v name ≡ Some x → height x < height v
    by_kind _ is_null is = let e : member_at name (out-Json json.Null) ≡ None = rw out-null refl in cc
    by_kind _ (is_bool b) is = let e : member_at name (out-Json (json.Bool b)) ≡ None = rw (out-bool b) refl in cc
    by_kind _ (is_number t) is = let e : member_at name (out-Json (json.Number t)) ≡ None = rw (out-number t) refl in cc
    by_kind _ (is_string t) is = let e : member_at name (out-Json (json.Str t)) ≡ None = rw (out-string t) refl in cc
    by_kind _ (is_list xs) is = let e : member_at name (out-Json (json.List xs)) ≡ None = rw (out-list xs) refl in cc
    by_kind _ (is_object ms) is =
        let e : member_at name (out-Json (json.Object ms)) ≡ named name ms = rw (out-object ms) refl in
        let low : height x ≤ members_height ms = named-height name ms x (sym e ∙ is) in
        omega (arith, low, height-object ms)
