-- Members are found by an index of their names.
use Rattle.std.proofs.Common.{◌≡◌, ℕ, suc, ◌+◌, ◌<◌, List, ◌∷◌, Option, Some, length, get_or, drop, drop-cons, refl, sym, ap, ◌∙◌, arith, inl, inr}
use Rattle.std.specs.Prelude.{if◌then◌else◌}
use Rattle.std.specs.Str.{bytes_eq}
use Rattle.json_value.specs.declared.tree.Json.{Json}
use Rattle.gql_shape.specs.Completing.{place_of}
use Rattle.gql_shape.specs.Indexed.{place_or}
use Rattle.gql_shape.proofs.Spreads.{either}

-- one more member, before those whose places are known
pub places-put : (ms : List (List ℕ × Json)) (j i : ℕ) (m : List ℕ × Json) → j ≡ suc i → i < length ms → m ≡ get_or ms i m → (now next : List ℕ → Option ℕ) (k : List ℕ) → k ≡ m.0 →
    ((q : List ℕ) → place_or (now q) (length ms) ≡ j + place_of q (drop j ms)) → ((q : List ℕ) → next q ≡ (if bytes_eq k q then Some i else now q)) →
    (q : List ℕ) → place_or (next q) (length ms) ≡ i + place_of q (drop i ms)
places-put ms j i m same within is now next k named before puts q =
    let here : drop i ms ≡ m ∷ drop (suc i) ms = drop-cons ms i m within ∙ ap (λ (n : List ℕ × Json). n ∷ drop (suc i) ms) (sym is) in
    let put : next q ≡ (if bytes_eq m.0 q then Some i else now q) = puts q ∙ ap (λ (n : List ℕ). if bytes_eq n q then Some i else now q) named in
    let old : place_or (now q) (length ms) ≡ suc i + place_of q (drop (suc i) ms) = before q ∙ ap (λ (n : ℕ). n + place_of q (drop n ms)) same in
    elim (either (bytes_eq m.0 q)) [
      | inl this ↦ (
          let new : next q ≡ Some i = rw this at put in
          let first : place_of q (drop i ms) ≡ 0 = rw (here, this) refl in
          rw (new, first) (omega arith))
      | inr other ↦ (
          let kept : next q ≡ now q = rw other at put in
          let later : place_of q (drop i ms) ≡ suc (place_of q (drop (suc i) ms)) = rw (here, other) refl in
          rw (kept, later) (omega (arith, old)))
    ]
