-- Sources and sinks in memory, whose calls are cut and fail by lists.
use Rattle.std.specs.Prelude.{◌⊎◌, ℕ, ◌+◌, ◌-◌, ◌^◌, ◌<◌, min, max, nat_lt, if◌then◌else◌, List, length, slice_index, Contains}

-- a source: the bytes that are left, the lists, and how many reads and failures there were
pub record Feed : Type 0 where
  pub left : List ℕ
  pub pieces : List ℕ
  pub failing : List ℕ
  pub reads : ℕ
  pub faults : ℕ

-- a sink: the bytes that were written, their limit, the lists, and how many writes and failures there were
pub record Tape : Type 0 where
  pub written : List ℕ
  pub limit : ℕ
  pub pieces : List ℕ
  pub failing : List ℕ
  pub writes : ℕ
  pub faults : ℕ

-- one more, up to the greatest number of 64 bits
abbrev pub next : ℕ → ℕ
next n = min (n + 1) (2 ^ 64 - 1)

-- the most that call number k moves where n would fit: the list's entry, where 0 counts as 1, and past the list what fits
abbrev pub piece_of : List ℕ → ℕ → ℕ → ℕ
piece_of pieces k n = if nat_lt k (length pieces) then min (max 1 (slice_index pieces k)) n else n

-- the write is one of those that fail, or would go past the limit
abbrev pub Refuses : Tape → List ℕ → Type 0
Refuses s bytes = Contains s.failing s.writes ⊎ (s.limit < length s.written + piece_of s.pieces s.writes (length bytes))
