-- The first word is the program's name.
use Rattle.std.proofs.Common.{◌≡◌, List, [], ◌∷◌, ◌++◌, map, drop, length, Option, Some, None, refl, ap, sym, ◌∙◌, arith}
use Rattle.std.specs.Prelude.{String, string_bytes}
use Rattle.std.specs.Vec.Iter.{into_iter_items, into_iter_len, into_iter_steps}
use Rattle.std.specs.declared.vec.IntoIter.{IntoIter}
use Rattle.fedrouter.specs.Words.{after_name}

none_of : {X : Type 0} (xs : List X) → length xs ≡ 0 → xs ≡ []
none_of [] e = refl
none_of (x ∷ xs) e = absurd (omega (arith, e))

nothing_left : {X Z : Type 0} (it : IntoIter X Z) → into_iter_len it ≡ 0 → into_iter_items it ≡ []
nothing_left it e = none_of (it.rest.items) (sym it.rest.ok.0 ∙ e)

module _ {A : Type 0} where
  -- the name is passed over
  pub name_passed : (whole : IntoIter (String A) A) (name : Option (String A)) (rest : IntoIter (String A) A) → into_iter_steps whole name rest
      → [] ++ map string_bytes (into_iter_items rest) ≡ after_name (into_iter_items whole)
  name_passed whole None rest h = ap (map string_bytes) (nothing_left rest h.1) ∙ sym (ap (λ (l : List (String A)). drop 1 (map string_bytes l)) (nothing_left whole h.0))
  name_passed whole (Some name) rest h = sym (ap (λ (l : List (String A)). drop 1 (map string_bytes l)) h.0)
