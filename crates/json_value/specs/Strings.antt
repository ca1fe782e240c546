-- The texts of strings (RFC 8259, section 7), in UTF-8 (RFC 3629, section 4), after the opening quote.
use Rattle.std.specs.Prelude.{◌≡◌, ℕ, ◌+◌, ◌-◌, ◌*◌, Bool, true, false, ◌&&◌, ◌==◌, not, nat_le, if◌then◌else◌, List, [], ◌∷◌, ◌++◌, Option, Some, None, encode_utf8}

abbrev pub within : ℕ → ℕ → ℕ → Bool
within low high b = nat_le low b && nat_le b high

-- unescaped = %x20-21 / %x23-5B / %x5D-10FFFF: those of one byte
abbrev pub is_plain : ℕ → Bool
is_plain b = within 32 127 b && (not (b == 34) && not (b == 92))

-- UTF8-tail = %x80-BF
abbrev pub is_tail : ℕ → Bool
is_tail b = within 128 191 b

-- UTF8-2 / UTF8-3 / UTF8-4: the characters of more than one byte
pub data IsWide : List ℕ → Type 0 where
  -- %xC2-DF UTF8-tail
  two : (a b : ℕ) → within 0xC2 0xDF a ≡ true → is_tail b ≡ true → IsWide (a ∷ (b ∷ []))
  -- %xE0 %xA0-BF UTF8-tail
  three_first : (b c : ℕ) → within 0xA0 0xBF b ≡ true → is_tail c ≡ true → IsWide (0xE0 ∷ (b ∷ (c ∷ [])))
  -- %xE1-EC 2( UTF8-tail )
  three : (a b c : ℕ) → within 0xE1 0xEC a ≡ true → is_tail b ≡ true → is_tail c ≡ true → IsWide (a ∷ (b ∷ (c ∷ [])))
  -- %xED %x80-9F UTF8-tail
  three_below : (b c : ℕ) → within 0x80 0x9F b ≡ true → is_tail c ≡ true → IsWide (0xED ∷ (b ∷ (c ∷ [])))
  -- %xEE-EF 2( UTF8-tail )
  three_above : (a b c : ℕ) → within 0xEE 0xEF a ≡ true → is_tail b ≡ true → is_tail c ≡ true → IsWide (a ∷ (b ∷ (c ∷ [])))
  -- %xF0 %x90-BF 2( UTF8-tail )
  four_first : (b c d : ℕ) → within 0x90 0xBF b ≡ true → is_tail c ≡ true → is_tail d ≡ true → IsWide (0xF0 ∷ (b ∷ (c ∷ (d ∷ []))))
  -- %xF1-F3 3( UTF8-tail )
  four : (a b c d : ℕ) → within 0xF1 0xF3 a ≡ true → is_tail b ≡ true → is_tail c ≡ true → is_tail d ≡ true → IsWide (a ∷ (b ∷ (c ∷ (d ∷ []))))
  -- %xF4 %x80-8F 2( UTF8-tail )
  four_last : (b c d : ℕ) → within 0x80 0x8F b ≡ true → is_tail c ≡ true → is_tail d ≡ true → IsWide (0xF4 ∷ (b ∷ (c ∷ (d ∷ []))))

-- what the letter after a backslash stands for: `"`, `\`, `/`, and b, f, n, r and t
abbrev pub short : ℕ → Option ℕ
short b = if b == 34 then Some 34 else (if b == 92 then Some 92 else (if b == 47 then Some 47 else (if b == 98 then Some 8 else
    (if b == 102 then Some 12 else (if b == 110 then Some 10 else (if b == 114 then Some 13 else (if b == 116 then Some 9 else None)))))))

-- HEXDIG, in either case
abbrev pub hex_digit : ℕ → Option ℕ
hex_digit b = if within 48 57 b then Some (b - 48) else (if within 97 102 b then Some (b - 87) else (if within 65 70 b then Some (b - 55) else None))

abbrev pub four_digits : ℕ → ℕ → ℕ → ℕ → ℕ
four_digits a b c d = 4096 * a + (256 * b + (16 * c + d))

-- 4HEXDIG, and the number that they write
pub data IsUnit : ℕ → List ℕ → Type 0 where
  digits : (a b c d x y z w : ℕ) → hex_digit x ≡ Some a → hex_digit y ≡ Some b → hex_digit z ≡ Some c → hex_digit w ≡ Some d
      → IsUnit (four_digits a b c d) (x ∷ (y ∷ (z ∷ (w ∷ []))))

-- the halves of a surrogate pair, and its character
abbrev pub is_high : ℕ → Bool
is_high u = within 0xD800 0xDBFF u

abbrev pub is_low : ℕ → Bool
is_low u = within 0xDC00 0xDFFF u

abbrev pub join : ℕ → ℕ → ℕ
join high low = 0x10000 + ((high - 0xD800) * 0x400 + (low - 0xDC00))

-- The text that is spelled, in UTF-8, and how it is spelled, through the closing quote. A surrogate is escaped only
-- as a high one before a low one. Where `cut` holds, the escape of a low one may stand alone with 256, which is no
-- byte, in the place of its fourth digit: so bytes that end before that digit may go on, and no byte completes it.
pub data Chars (cut : Bool) : List ℕ → List ℕ → Type 0 where
  end : Chars cut [] (34 ∷ [])
  plain : (c : ℕ) (t w : List ℕ) → is_plain c ≡ true → Chars cut t w → Chars cut (c ∷ t) (c ∷ w)
  wide : (s t w : List ℕ) → IsWide s → Chars cut t w → Chars cut (s ++ t) (s ++ w)
  short_escape : (b c : ℕ) (t w : List ℕ) → short b ≡ Some c → Chars cut t w → Chars cut (c ∷ t) (92 ∷ (b ∷ w))
  escape : (u : ℕ) (ds t w : List ℕ) → IsUnit u ds → is_high u ≡ false → is_low u ≡ false → Chars cut t w
      → Chars cut (encode_utf8 u ++ t) (92 ∷ (117 ∷ (ds ++ w)))
  pair_escape : (u v : ℕ) (ds es t w : List ℕ) → IsUnit u ds → IsUnit v es → is_high u ≡ true → is_low v ≡ true → Chars cut t w
      → Chars cut (encode_utf8 (join u v) ++ t) (92 ∷ (117 ∷ (ds ++ (92 ∷ (117 ∷ (es ++ w))))))
  cut_escape : (a b c x y z : ℕ) (t w : List ℕ) → cut ≡ true → hex_digit x ≡ Some a → hex_digit y ≡ Some b → hex_digit z ≡ Some c
      → is_low (four_digits a b c 0) ≡ true → Chars cut t w → Chars cut t (92 ∷ (117 ∷ (x ∷ (y ∷ (z ∷ (256 ∷ w))))))
