-- Which lists of tags a piece may have.
use Rattle.std.specs.Prelude.{ℕ, ◌<◌, ◌≤◌, Bool, not, ◌&&◌, ◌==◌, nat_lt, nat_le, List, [], ◌∷◌, length, filter, Contains}
use Rattle.std.specs.Cmp.Lexicographic.{pointwise}

-- each has 1 to 128 bytes, and none stands twice
abbrev pub AreApart : List (List ℕ) → Type 0
AreApart [] = Unit {0}
AreApart (tag ∷ tags) = (0 < length tag) × (length tag ≤ 128) × (Contains tags tag → ⊥) × AreApart tags

-- at most 16 of them
abbrev pub AreTags : List (List ℕ) → Type 0
AreTags tags = (length tags ≤ 16) × AreApart tags

-- the text has 1 to 128 bytes
abbrev pub serves : List ℕ → Bool
serves text = nat_lt 0 (length text) && nat_le (length text) 128

-- the texts without doubles, each at its first place
abbrev pub distinct : List (List ℕ) → List (List ℕ)
distinct [] = []
distinct (text ∷ texts) = text ∷ filter (λ other. not (pointwise ◌==◌ text other)) (distinct texts)
