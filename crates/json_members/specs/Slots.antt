-- A table of digests of names. A slot of 0 is empty.
use Rattle.std.specs.Prelude.{◌≡◌, ℕ, suc, Bool, true, false, cond, not, ◌||◌, ◌&&◌, ◌==◌, List, [], ◌∷◌, drop, bit_and}
use Rattle.std.specs.Hash.FoldHasher as folding
use Rattle.json_members.specs.declared.digests.Digests.{Digests}

-- the digest of a name
unfoldable pub digest_of : List ℕ → ℕ
digest_of name = folding.finish (folding.write folding.initial name)

-- how many slots come slots_before the first that is empty or has this digest
abbrev pub slots_before : List ℕ → ℕ → ℕ
slots_before [] d = 0
slots_before (s ∷ ss) d = cond (s == 0 || s == d) 0 (suc (slots_before ss d))

-- whether one of the slots slots_before the first that is empty has this digest
abbrev pub stands : List ℕ → ℕ → Bool
stands [] d = false
stands (s ∷ ss) d = not (s == 0) && (s == d || stands ss d)

-- whether the table has this digest: one stands at its own slot, or behind it with no empty one in between
abbrev pub has_digest : Digests → ℕ → Bool
has_digest t d = stands (drop (bit_and d t.mask) t.slots.items) d

-- each digest of the first table is in the second
abbrev pub KeepsDigests : Digests → Digests → Type 0
KeepsDigests t t' = (d : ℕ) → has_digest t d ≡ true → has_digest t' d ≡ true
