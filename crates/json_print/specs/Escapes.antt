-- How a string is written (RFC 8259, section 7): what must be escaped is, and nothing else.
use Rattle.std.specs.Prelude.{◌≡◌, ℕ, zero, suc, ◌+◌, ◌/◌, ◌%◌, ◌<◌, ◌≤◌, ◌==◌, ◌⊎◌, nat_lt, if◌then◌else◌, List, [], ◌∷◌, ◌++◌, codes, get_or}

-- the control characters, the quote and the backslash
abbrev pub NeedsEscape : ℕ → Type 0
NeedsEscape b = (b < 32) ⊎ ((b ≡ 34) ⊎ (b ≡ 92))

-- one of the bytes needs an escape
abbrev pub HasEscape : List ℕ → Type 0
HasEscape [] = ⊥
HasEscape (b ∷ bs) = NeedsEscape b ⊎ HasEscape bs

-- none of the bytes from one place up to another needs an escape
abbrev pub ArePlain : List ℕ → (from to : ℕ) → Type 0
ArePlain bytes from to = (i : ℕ) → from ≤ i → i < to → NeedsEscape (get_or bytes i 0) → ⊥

-- a hexadecimal digit, in lower case
abbrev pub hex : ℕ → ℕ
hex n = if nat_lt n 10 then 48 + n else 87 + n

-- a control character by its number
abbrev pub control : ℕ → List ℕ
control b = codes "\\u00" ++ (hex (b / 16) ∷ (hex (b % 16) ∷ []))

-- a byte of a string as it is written
abbrev pub escape : ℕ → List ℕ
escape b =
    if b == 34 then codes "\\\"" else
    (if b == 92 then codes "\\\\" else
    (if b == 8 then codes "\\b" else
    (if b == 9 then codes "\\t" else
    (if b == 10 then codes "\\n" else
    (if b == 12 then codes "\\f" else
    (if b == 13 then codes "\\r" else
    (if nat_lt b 32 then control b else b ∷ [])))))))

-- a letter after a backslash is how a byte is escaped, and where it is 0 the byte's number is
abbrev pub IsLetterOf : ℕ → ℕ → Type 0
IsLetterOf b zero = (escape b ≡ control b) × (b < 32)
IsLetterOf b (suc n) = (escape b ≡ 92 ∷ (suc n ∷ [])) × (suc n < 128)

abbrev pub escaped : List ℕ → List ℕ
escaped [] = []
escaped (b ∷ bs) = escape b ++ escaped bs

abbrev pub quoted : List ℕ → List ℕ
quoted text = 34 ∷ (escaped text ++ (34 ∷ []))
