-- The text of a string, from its source between the quotes (October 2021, section 2.9.4).
use Rattle.std.specs.Prelude.{◌≡◌, ℕ, zero, suc, ◌-◌, ◌||◌, ◌&&◌, ◌==◌, if◌then◌else◌, List, [], ◌∷◌, ◌++◌, Option, Some, None, drop, encode_utf8}
use Rattle.json_value.specs.Strings.{short, hex_digit, four_digits, is_high, is_low, join}

abbrev pub number_of : Option ℕ → Option ℕ → Option ℕ → Option ℕ → Option ℕ
number_of (Some a) (Some b) (Some c) (Some d) = Some (four_digits a b c d)
number_of _ _ _ _ = None

-- `\u` EscapedUnicode, where the source begins with it: the number of the code unit
abbrev pub unit : List ℕ → Option ℕ
unit (a ∷ (b ∷ (x ∷ (y ∷ (z ∷ (w ∷ rest)))))) = if a == 92 && b == 117 then number_of (hex_digit x) (hex_digit y) (hex_digit z) (hex_digit w) else None
unit _ = None

-- `\` EscapedCharacter, where the source begins with it: the character, which is one byte
abbrev pub letter : List ℕ → Option ℕ
letter (a ∷ (b ∷ rest)) = if a == 92 then short b else None
letter _ = None

-- a surrogate outside a pair is U+FFFD
abbrev pub alone : ℕ → ℕ
alone u = if is_high u || is_low u then 0xFFFD else u

-- a code unit with the next one, where that is escaped too
abbrev pub with_next_unit : ℕ → Option ℕ → ℕ × ℕ
with_next_unit u None = (alone u, 6)
with_next_unit u (Some v) = if is_high u && is_low v then (join u v, 12) else (alone u, 6)

abbrev pub escape_by : Option ℕ → Option ℕ → Option ℕ → Option (ℕ × ℕ)
escape_by (Some u) next c = Some (with_next_unit u next)
escape_by None next (Some c) = Some (c, 2)
escape_by None next None = None

-- the escape_read with which the source begins: its character, and its length
abbrev pub escape_read : List ℕ → Option (ℕ × ℕ)
escape_read source = escape_by (unit source) (unit (drop 6 source)) (letter source)

-- what the source begins with: a character's bytes, or one byte that begins no escape_read
abbrev pub front : ℕ → Option (ℕ × ℕ) → List ℕ
front b None = b ∷ []
front b (Some e) = encode_utf8 e.0

abbrev pub behind : Option (ℕ × ℕ) → ℕ
behind None = 0
behind (Some e) = e.1 - 1

-- the text without so many bytes of the source, which belong to the escape_read before
unfoldable pub unescaped_past : ℕ → List ℕ → List ℕ
unescaped_past n [] = []
unescaped_past zero (b ∷ w) = front b (escape_read (b ∷ w)) ++ unescaped_past (behind (escape_read (b ∷ w))) w
unescaped_past (suc n) (b ∷ w) = unescaped_past n w

-- the text of a source
abbrev pub unescaped : List ℕ → List ℕ
unescaped source = unescaped_past 0 source

-- After so many bytes of the source the text goes on as it would have.
abbrev pub GoesOn : List ℕ → List ℕ → ℕ → List ℕ → Type 0
GoesOn text source n more = more ++ unescaped (drop n source) ≡ text ++ unescaped source
