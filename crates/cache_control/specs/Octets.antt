-- The bytes of header texts (RFC 9110, sections 5.6.2 to 5.6.4).
use Rattle.std.specs.Prelude.{ℕ, List, length, drop, Bool, not, ◌&&◌, ◌||◌, ◌==◌, nat_le, codes}
use Rattle.std.specs.List.{list_any, take_while}
use Rattle.std.specs.Char.{is_ascii_alphanumeric}

-- a space or a tab
abbrev pub is_blank : ℕ → Bool
is_blank byte = byte == 32 || byte == 9

-- the text without the blanks at its front
abbrev pub after_blanks : List ℕ → List ℕ
after_blanks text = drop (length (take_while is_blank text)) text

-- what tokens are made of (section 5.6.2: tchar)
abbrev pub is_token_byte : ℕ → Bool
is_token_byte byte = is_ascii_alphanumeric byte || list_any (λ mark. mark == byte) (codes "!#$%&'*+-.^_`|~")

-- what may follow a backslash in a quoted string (section 5.6.4): a tab, or no control character
abbrev pub is_quotable : ℕ → Bool
is_quotable byte = byte == 9 || (nat_le 32 byte && not (byte == 127))

-- what stands for itself in a quoted string (section 5.6.4: qdtext)
abbrev pub is_quoted_byte : ℕ → Bool
is_quoted_byte byte = is_quotable byte && not (byte == 34) && not (byte == 92)
