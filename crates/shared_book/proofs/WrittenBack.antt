-- Handles of one book that were lent as a slice, and the number of those that were opened.
use Rattle.std.proofs.Common.{◌≡◌, ◌<◌, ℕ, zero, suc, List, [], ◌∷◌, ◌++◌, All, length, take, drop, map, refl, sym, subst, ap, ◌∙◌, arith, length-append, length-drop}
use Rattle.std.proofs.lemmas.List.{append-nil, drop_all, length-take, length-map}
use Rattle.std.proofs.lemmas.List.Elements.{All-take}
use Rattle.atomic_table.specs.Seated.{TableId}
use Rattle.turn_lock.specs.Members.{newcomer, newcomers}
use Rattle.shared_book.specs.Sharing.{Shared}
use Rattle.shared_book.specs.Handles.{fresh}

newcomers_count : (z : TableId) (x : Shared) (n : ℕ) → length (newcomers z x n) ≡ n
newcomers_count z x zero = refl
newcomers_count z x (suc n) = let before = newcomers_count z x n in omega (arith, before, length-append (newcomers z x n) (newcomer z x n ∷ []))

pub fresh_count : (z : TableId) (x : Shared) (n : ℕ) → length (map fresh (newcomers z x n)) ≡ n
fresh_count z x n = length-map (newcomers z x n) fresh ∙ newcomers_count z x n

pub written_some : {X : Type 0} (n : ℕ) (new old : List X) → n ≡ length old → 0 < n → 0 < length (take n (new ++ drop (length new) old))
written_some n new old same some = omega (arith, same, some, length-take n (new ++ drop (length new) old), length-append new (drop (length new) old), length-drop (length new) old)

pub written_all : {X : Type 0} (P : X → Type 0) (n : ℕ) (new old : List X) → length new ≡ length old → All P new → All P (take n (new ++ drop (length new) old))
written_all P n new old same all =
    let none : drop (length new) old ≡ [] = drop_all (length new) old (omega (arith, same)) in
    All-take P n (new ++ drop (length new) old) (subst (All P) (sym (ap (λ (l : List _). new ++ l) none ∙ append-nil new)) all)
