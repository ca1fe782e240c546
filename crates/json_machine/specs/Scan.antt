-- One byte of a string.
use Rattle.std.specs.Prelude.{◌≡◌, ℕ, Bool, true, false, ◌&&◌, ◌==◌, nat_lt, if◌then◌else◌, List, [], ◌∷◌, ◌++◌, Option, Some, None, Result, Ok, Err, encode_utf8}
use Rattle.json_machine.specs.Refusal.{Refusal}
use Rattle.json_machine.specs.Refusal as e
use Rattle.json_machine.specs.Part.{Part}
use Rattle.json_machine.specs.Part as p
use Rattle.json_machine.specs.Progress.{StringProgress}
use Rattle.json_machine.specs.Progress as s
use Rattle.json_machine.specs.declared.begun.Tail.{Tail}
use Rattle.json_machine.specs.declared.begun.Tail.TheVariants as tails
use Rattle.json_machine.specs.Quad.{Quad}
use Rattle.json_machine.specs.Quad as q
use Rattle.json_machine.specs.Grown.{Grown}
use Rattle.json_machine.specs.Grown as g
use Rattle.json_value.specs.Strings.{IsWide, within, is_plain, short, hex_digit, is_high, is_low, join, four_digits}

-- characters that stand for themselves (RFC 8259, section 7: unescaped)
pub data Unescaped : List ℕ → Type 0 where
  none : Unescaped []
  one : (c : ℕ) (w : List ℕ) → is_plain c ≡ true → Unescaped w → Unescaped (c ∷ w)
  wide : (s w : List ℕ) → IsWide s → Unescaped w → Unescaped (s ++ w)

-- the bytes past the first of a character of several bytes, and the bounds of the first of these
abbrev pub lead : ℕ → Option Tail
lead b = if within 194 223 b then Some (tails.One 128 191) else
    (if b == 224 then Some (tails.Two 160 191) else
    (if b == 237 then Some (tails.Two 128 159) else
    (if within 225 239 b then Some (tails.Two 128 191) else
    (if b == 240 then Some (tails.Three 144 191) else
    (if within 241 243 b then Some (tails.Three 128 191) else
    (if b == 244 then Some (tails.Three 128 143) else None))))))

abbrev pub Scanned : Type 0
Scanned = Result StringProgress Refusal

abbrev pub with : List ℕ → List ℕ → Scanned
with text more = Ok (s.More p.Plain (text ++ more))

abbrev pub wide_by : ℕ → List ℕ → ℕ → Option Tail → Scanned
wide_by at text b (Some tail) = Ok (s.More (p.Wide at tail) (text ++ b ∷ []))
wide_by at text b None = Err e.Syntax

unfoldable pub plain_scan : ℕ → List ℕ → ℕ → Scanned
plain_scan at text b = if b == 34 then Ok (s.Done text) else (if b == 92 then Ok (s.More (p.Escape at) text) else
    (if is_plain b then with text (b ∷ []) else wide_by at text b (lead b)))

abbrev pub short_by : List ℕ → Option ℕ → Scanned
short_by text (Some c) = with text (c ∷ [])
short_by text None = Err e.Syntax

unfoldable pub escape_scan : ℕ → List ℕ → ℕ → Scanned
escape_scan place text b = if b == 117 then Ok (s.More (p.Hex place q.Nothing) text) else short_by text (short b)

-- one digit more
abbrev pub grow : Quad → ℕ → Grown
grow q.Nothing d = g.Part (q.One d)
grow (q.One a) d = g.Part (q.Two a d)
grow (q.Two a b) d = g.Part (q.Three a b d)
grow (q.Three a b c) d = g.Whole (four_digits a b c d)

unfoldable pub unit_scan : ℕ → List ℕ → ℕ → Scanned
unit_scan place text u = if is_high u then Ok (s.More (p.Slash place u) text) else
    (if is_low u then Err (e.Surrogate place) else with text (encode_utf8 u))

abbrev pub hex_grown : ℕ → List ℕ → Grown → Scanned
hex_grown place text (g.Part quad) = Ok (s.More (p.Hex place quad) text)
hex_grown place text (g.Whole u) = unit_scan place text u

abbrev pub hex_by : ℕ → Quad → List ℕ → Option ℕ → Scanned
hex_by place quad text None = Err e.Syntax
hex_by place quad text (Some d) = hex_grown place text (grow quad d)

-- whether a fourth digit makes a low surrogate
abbrev pub is_cut : Quad → Bool
is_cut (q.Three a b c) = is_low (four_digits a b c 0)
is_cut _ = false

unfoldable pub hex_scan : Bool → ℕ → Quad → List ℕ → ℕ → Scanned
hex_scan cut place quad text b = if cut && (b == 256 && is_cut quad) then Ok (s.More p.Plain text) else hex_by place quad text (hex_digit b)

-- whether some low surrogate begins with these digits
abbrev pub may_be_low : Quad → Bool
may_be_low q.Nothing = true
may_be_low (q.One a) = a == 13
may_be_low (q.Two a b) = a == 13 && within 12 15 b
may_be_low (q.Three a b c) = a == 13 && (within 12 15 b && nat_lt c 16)

unfoldable pub pair_scan : ℕ → List ℕ → ℕ → ℕ → Scanned
pair_scan place text high u = if is_high high && is_low u then with text (encode_utf8 (join high u)) else Err (e.Surrogate place)

abbrev pub low_grown : ℕ → ℕ → List ℕ → Grown → Scanned
low_grown place high text (g.Part quad) = if may_be_low quad then Ok (s.More (p.Low place high quad) text) else Err (e.Surrogate place)
low_grown place high text (g.Whole u) = pair_scan place text high u

abbrev pub low_by : ℕ → ℕ → Quad → List ℕ → Option ℕ → Scanned
low_by place high quad text None = Err (e.Surrogate place)
low_by place high quad text (Some d) = low_grown place high text (grow quad d)

unfoldable pub low_scan : ℕ → ℕ → Quad → List ℕ → ℕ → Scanned
low_scan place high quad text b = low_by place high quad text (hex_digit b)

abbrev pub wide_next : ℕ → Tail → Part
wide_next place (tails.One low high) = p.Plain
wide_next place (tails.Two low high) = p.Wide place (tails.One 128 191)
wide_next place (tails.Three low high) = p.Wide place (tails.Two 128 191)

abbrev pub tail_low : Tail → ℕ
tail_low (tails.One low high) = low
tail_low (tails.Two low high) = low
tail_low (tails.Three low high) = low

abbrev pub tail_high : Tail → ℕ
tail_high (tails.One low high) = high
tail_high (tails.Two low high) = high
tail_high (tails.Three low high) = high

unfoldable pub wide_scan : ℕ → Tail → List ℕ → ℕ → Scanned
wide_scan place tail text b = if within (tail_low tail) (tail_high tail) b then Ok (s.More (wide_next place tail) (text ++ b ∷ [])) else Err (e.Malformed place)

unfoldable pub slash_scan : ℕ → ℕ → List ℕ → ℕ → Scanned
slash_scan place high text b = if b == 92 then Ok (s.More (p.Letter place high) text) else Err (e.Surrogate place)

unfoldable pub letter_scan : ℕ → ℕ → List ℕ → ℕ → Scanned
letter_scan place high text b = if b == 117 then Ok (s.More (p.Low place high q.Nothing) text) else Err (e.Surrogate place)

-- what the next byte makes of the string: where `cut` holds, 256 ends the escape of a low surrogate after three digits
unfoldable pub scan : Bool → ℕ → Part → List ℕ → ℕ → Scanned
scan cut at p.Plain text b = plain_scan at text b
scan cut at (p.Escape place) text b = escape_scan place text b
scan cut at (p.Hex place quad) text b = hex_scan cut place quad text b
scan cut at (p.Slash place high) text b = slash_scan place high text b
scan cut at (p.Letter place high) text b = letter_scan place high text b
scan cut at (p.Low place high quad) text b = low_scan place high quad text b
scan cut at (p.Wide place tail) text b = wide_scan place tail text b
