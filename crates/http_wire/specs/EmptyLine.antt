-- Where the head of a message ends.
use Rattle.std.specs.Prelude.{◌≡◌, ℕ, ◌-◌, ◌+◌, ◌<◌, ◌≤◌, Bool, true, false, ◌&&◌, ◌||◌, ◌==◌, not, List, length, slice_index}

-- the byte at this place is a line feed
abbrev pub is_line_feed : List ℕ → ℕ → Bool
is_line_feed bytes at = slice_index bytes at == 10

-- the byte at this place is a carriage return
abbrev pub is_return : List ℕ → ℕ → Bool
is_return bytes at = slice_index bytes at == 13

-- an empty line ends at this place: a line feed that follows a line feed, or a CR that follows one
unfoldable pub ends_empty_line : List ℕ → ℕ → Bool
ends_empty_line bytes at =
    is_line_feed bytes at
    && ((not (at == 0) && is_line_feed bytes (at - 1))
    || (not (at == 0) && not (at == 1) && is_return bytes (at - 1) && is_line_feed bytes (at - 2)))

-- no empty line ends from here up to there
abbrev pub NoEmptyLine : List ℕ → ℕ → ℕ → Type 0
NoEmptyLine bytes from to = (at : ℕ) → from ≤ at → at < to → ends_empty_line bytes at ≡ false

-- the first empty line ends at this place
pub record IsFirstEmptyLine (bytes : List ℕ) (at : ℕ) : Type 0 where
  pub inside : at < length bytes
  pub ends : ends_empty_line bytes at ≡ true
  pub first : NoEmptyLine bytes 0 at

-- the first n bytes are a head: they go up to and with the first empty line
abbrev pub IsHeadLength : List ℕ → ℕ → Type 0
IsHeadLength bytes n = (at : ℕ) × (n ≡ at + 1) × IsFirstEmptyLine bytes at
