-- What stands for the asks of a look.
use Rattle.std.proofs.Common.{◌≡◌, ◌≤◌, ℕ, Bool, false, List, [], ◌∷◌, length, All, Option, refl, ap, ◌∙◌, arith}
use Rattle.std.proofs.lemmas.List.Elements.{All-nil, All-cons, All-head, All-tail}
use Rattle.cache_terms.specs.declared.keys.Key.{Key}
use Rattle.cache_book.specs.declared.found.Found.{Found}
use Rattle.cache_book.specs.declared.found.Found.TheVariants as found
use Rattle.cache_book.specs.Permits.{Pinned, Granted}
use Rattle.cache_seam.specs.Hand.{permits_of, AreAnswers, FindObjects}
use Rattle.piece_fetch.specs.declared.slots.Slot.TheVariants as slot
use Rattle.piece_fetch.specs.Fetching.{slots_of}
use Rattle.piece_fetch.specs.Between.{asked_count, IsReadable}

-- one is asked for by each permit
pub asked_permits : (answers : List Found) → asked_count (slots_of answers) ≡ length (permits_of answers)
asked_permits [] = refl
asked_permits (found.Hit l q v m b ∷ answers) = asked_permits answers
asked_permits (found.Miss l p ∷ answers) = omega (arith, asked_permits answers)
asked_permits (found.Bypass p ∷ answers) = omega (arith, asked_permits answers)

pub found_readable : (answers : List Found) → FindObjects answers → All IsReadable (slots_of answers)
found_readable [] h = All-nil IsReadable
found_readable (found.Hit l q v m b ∷ answers) h = All-cons IsReadable (slot.Hit l q v (record { left_ms = m; private = b })) (slots_of answers) h.0 (found_readable answers h.1)
found_readable (found.Miss l p ∷ answers) h = All-cons IsReadable slot.Asked (slots_of answers) tt (found_readable answers h)
found_readable (found.Bypass p ∷ answers) h = All-cons IsReadable slot.Asked (slots_of answers) tt (found_readable answers h)

-- each ask has one answer
pub as_many : (pass : Pinned) (id : Option (List ℕ)) (keys : List Key) (answers : List Found) → AreAnswers pass id keys answers → length answers ≡ length keys
as_many pass id [] [] h = refl
as_many pass id (k ∷ keys) (found.Hit l q v m b ∷ answers) h = omega (arith, as_many pass id keys answers h)
as_many pass id (k ∷ keys) (found.Miss l p ∷ answers) h = omega (arith, as_many pass id keys answers h.1)
as_many pass id (k ∷ keys) (found.Bypass p ∷ answers) h = omega (arith, as_many pass id keys answers h.1)
as_many pass id [] (a ∷ answers) h = absurd h
as_many pass id (k ∷ keys) [] h = absurd h

abbrev IsOf : List ℕ → Granted → Type 0
IsOf name p = p.key.sub ≡ name

abbrev IsKeyOf : List ℕ → Key → Type 0
IsKeyOf name k = k.sub ≡ name

-- the permits are for keys of the subgraph
pub permits_named : (pass : Pinned) (id : Option (List ℕ)) (keys : List Key) (answers : List Found) (name : List ℕ) → AreAnswers pass id keys answers → All (λ (k : Key). k.sub ≡ name) keys → All (λ (p : Granted). p.key.sub ≡ name) (permits_of answers)
permits_named pass id [] [] name h all = All-nil (IsOf name)
permits_named pass id (k ∷ keys) (found.Hit l q v m b ∷ answers) name h all = permits_named pass id keys answers name h (All-tail (IsKeyOf name) k keys all)
permits_named pass id (k ∷ keys) (found.Miss l p ∷ answers) name h all =
    All-cons (IsOf name) p (permits_of answers) (ap (λ (x : Key). x.sub) (h.0.key_is) ∙ All-head (IsKeyOf name) k keys all) (permits_named pass id keys answers name h.1 (All-tail (IsKeyOf name) k keys all))
permits_named pass id (k ∷ keys) (found.Bypass p ∷ answers) name h all =
    All-cons (IsOf name) p (permits_of answers) (ap (λ (x : Key). x.sub) (h.0.key_is) ∙ All-head (IsKeyOf name) k keys all) (permits_named pass id keys answers name h.1 (All-tail (IsKeyOf name) k keys all))
permits_named pass id [] (a ∷ answers) name h all = absurd h
permits_named pass id (k ∷ keys) [] name h all = absurd h

-- no more than one permit for one key
pub few_permits : (answers : List Found) → length (permits_of answers) ≤ length answers
few_permits [] = omega arith
few_permits (found.Hit l q v m b ∷ answers) = omega (arith, few_permits answers)
few_permits (found.Miss l p ∷ answers) = omega (arith, few_permits answers)
few_permits (found.Bypass p ∷ answers) = omega (arith, few_permits answers)

-- where there is one key there is one permit at most
pub lent_few : (pass : Pinned) (id : Option (List ℕ)) (keys : List Key) (answers : List Found) (lent : List Granted) (entities : Bool) → AreAnswers pass id keys answers → lent ≡ permits_of answers → (entities ≡ false → length keys ≡ 1) → entities ≡ false → length lent ≤ 1
lent_few pass id keys answers lent entities answered same one root =
    let many : length answers ≡ length keys = as_many pass id keys answers answered in
    let single : length keys ≡ 1 = one root in
    omega (arith, many, single, ap length same, few_permits answers)
