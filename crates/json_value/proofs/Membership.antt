-- A member is found exactly where its name is among the names.
use Rattle.std.proofs.Common.{◌≡◌, ◌∙◌, ap, sym, subst, refl, ℕ, Bool, true, false, List, [], ◌∷◌, ◌<◌, arith, None, Some}
use Rattle.std.specs.Prelude.{◌↔◌, IsSome, Contains, map, Option, if◌then◌else◌}
use Rattle.std.specs.Str.{bytes_eq}
use Rattle.std.specs.Option.{option_copied}
use Rattle.std.specs.Borrow.{Bor}
use Rattle.std.proofs.lemmas.List.Elements.{Contains-append_left, Contains-append_right, Contains-push}
use Rattle.std.proofs.lemmas.Map.Made.{Contains-tail}
use Rattle.std.proofs.lemmas.Slice.Eq.{bytes_eq-Decides}
use Rattle.json_value.specs.declared.tree.Json.{Json, out-Json}
use Rattle.json_value.specs.declared.tree.Json.TheVariants as j
use Rattle.json_value.specs.declared.tree.Json.TheOpen.{Json-F}
use Rattle.json_value.proofs.Cases.{out-object}
use Rattle.json_value.specs.Members.{member, member_at, named, name_of, names, names_at}

pub Contains-none : {X : Type 0} (x : X) → Contains [] x → ⊥
Contains-none x has = let below : has.0 < 0 = has.1 in omega arith

named-IsSome : (name : List ℕ) (ms : List (List ℕ × Json)) → IsSome (named name ms) ↔ Contains (map name_of ms) name
named-IsSome name [] = (λ some. absurd cc, λ has. absurd (Contains-none name has))
named-IsSome name (m ∷ ms) = by (bytes_eq m.0 name) refl (named-IsSome name ms)
  where
    by : (b : Bool) → bytes_eq m.0 name ≡ b → IsSome (named name ms) ↔ Contains (map name_of ms) name →
        IsSome (if b then Some m.1 else named name ms) ↔ Contains (m.0 ∷ map name_of ms) name
    by true same onward =
        let e : m.0 ≡ name = (bytes_eq-Decides m.0 name).0 same in
        (λ some. subst (λ (n : List ℕ). Contains (m.0 ∷ map name_of ms) n) e (Contains-append_left (m.0 ∷ []) (map name_of ms) m.0 (Contains-push [] m.0)), λ has. refl)
    by false other onward = (
      λ some. Contains-append_right (m.0 ∷ []) (map name_of ms) name (onward.0 some),
      λ has. onward.1 (Contains-tail m.0 (map name_of ms) name (λ (e : m.0 ≡ name). let yes : bytes_eq m.0 name ≡ true = (bytes_eq-Decides m.0 name).1 e in cc) has),
    )

member_at-IsSome : (name : List ℕ) (v : Json-F Json) → IsSome (member_at name v) ↔ Contains (names_at v) name
member_at-IsSome name Json-F.Null = (λ some. absurd cc, λ has. absurd (Contains-none name has))
member_at-IsSome name (Json-F.Bool b) = (λ some. absurd cc, λ has. absurd (Contains-none name has))
member_at-IsSome name (Json-F.Number t) = (λ some. absurd cc, λ has. absurd (Contains-none name has))
member_at-IsSome name (Json-F.Str t) = (λ some. absurd cc, λ has. absurd (Contains-none name has))
member_at-IsSome name (Json-F.List xs) = (λ some. absurd cc, λ has. absurd (Contains-none name has))
member_at-IsSome name (Json-F.Object ms) = named-IsSome name ms

pub member-IsSome : (name : List ℕ) (v : Json) → IsSome (member v name) ↔ Contains (names v) name
member-IsSome name v = member_at-IsSome name (out-Json v)

pub member_found : (o : Option (Bor Json)) (name : List ℕ) (v : Json) → option_copied o ≡ member v name → IsSome o ↔ Contains (names v) name
member_found None name v e = let same : IsSome (member v name) ↔ Contains (names v) name = member-IsSome name v in
    (λ some. absurd cc, λ has. let some : IsSome (member v name) = same.1 has in let none : IsSome {T = Json} None = subst (λ (p : Option Json). IsSome p) (sym e) some in absurd cc)
member_found (Some b) name v e = let same : IsSome (member v name) ↔ Contains (names v) name = member-IsSome name v in
    (λ some. same.0 (subst (λ (p : Option Json). IsSome p) e refl), λ has. refl)

pub found_among : (o : Option (Bor Json)) (name : List ℕ) (v : Json) (ms seen : List (List ℕ × Json)) → option_copied o ≡ named name seen → seen ≡ ms → v ≡ j.Object ms
    → IsSome o ↔ Contains (names v) name
found_among o name v ms seen is same of =
    let same_member : member v name ≡ named name ms = ap (λ (u : Json). member u name) of ∙ ap (member_at name) (out-object ms) in
    member_found o name v (is ∙ ap (named name) same ∙ sym same_member)
