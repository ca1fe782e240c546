-- What each function of the reader ensures of reading on from a place: that reading on from a later place comes to the
-- same, or what the fault is.
use Rattle.std.specs.Prelude.{◌≡◌, ◌≢◌, ◌≤◌, ◌<◌, ◌+◌, ◌==◌, ◌||◌, ℕ, Bool, true, false, nat_lt, if◌then◌else◌, List, [], ◌∷◌, ◌++◌, length, drop, slice_index, Some, Result, Ok, Err, encode_utf8, ◌⊎◌}
use Rattle.json_value.specs.declared.fault.JsonFault.{JsonFault}
use Rattle.json_value.specs.declared.fault.JsonFault.TheVariants as faults
use Rattle.json_value.specs.declared.tree.Json.{Json}
use Rattle.json_value.specs.Strings.{within, hex_digit, is_high, is_low, join}
use Rattle.json_machine.specs.declared.begun.Digit.{Digit}
use Rattle.json_machine.specs.declared.begun.Word.{Word}
use Rattle.json_machine.specs.declared.begun.Tail.{Tail}
use Rattle.json_machine.specs.Refusal as e
use Rattle.json_machine.specs.Part.{Part}
use Rattle.json_machine.specs.Part as p
use Rattle.json_machine.specs.Quad.{Quad}
use Rattle.json_machine.specs.Quad as q
use Rattle.json_machine.specs.Frame.{Frame}
use Rattle.json_machine.specs.Frame as f
use Rattle.json_machine.specs.Mode.{Mode}
use Rattle.json_machine.specs.Mode as m
use Rattle.json_machine.specs.Numbers.{number_next}
use Rattle.json_machine.specs.Scan.{unit_scan, Unescaped, tail_low, tail_high}
use Rattle.json_machine.specs.Machine.{Frames, Pairs, placed, after_by, letters, meant}
use Rattle.json_machine.specs.Onward.{read_from, cut, Reading, reading_by, text_from}
use Rattle.json_machine.specs.Onward as o

-- A value is read from the place through that one: where such frames are open, reading on from the place in this mode
-- comes to what reading on from that one after the value comes to.
abbrev pub ReadsOn : (Frames → Type 0) → List ℕ → ℕ → Mode → Result (Json × ℕ) JsonFault → Type 0
ReadsOn Open bytes at mode (Ok x) = (at ≤ x.1) × (x.1 ≤ length bytes) × ((fs : Frames) → Open fs → read_from bytes at mode fs ≡ read_from bytes x.1 (m.After x.0) fs)
ReadsOn Open bytes at mode (Err fault) = fault ≢ faults.Memory → (fs : Frames) → Open fs → read_from bytes at mode fs ≡ Err fault

-- whatever is open
abbrev pub Anywhere : Frames → Type 0
Anywhere fs = Unit {0}

-- so many more levels may open
abbrev pub HasRoom : ℕ → Frames → Type 0
HasRoom room fs = length fs + room ≡ 64

-- a name and its colon
abbrev pub ReadsName : List ℕ → ℕ → Pairs → Result (List ℕ × ℕ) JsonFault → Type 0
ReadsName bytes at ms (Ok x) = (at ≤ x.1) × (x.1 ≤ length bytes) × ((fs : Frames) → read_from bytes at (m.NextName ms) fs ≡ read_from bytes x.1 m.Value (f.Member ms x.0 ∷ fs))
ReadsName bytes at ms (Err fault) = fault ≢ faults.Memory → (fs : Frames) → read_from bytes at (m.NextName ms) fs ≡ Err fault

-- after a value in this frame, nothing but a comma and this bracket goes on
abbrev pub ClosedBy : ℕ → Frame → Type 0
ClosedBy bracket frame = (v : Json) (fs : Frames) (b : ℕ) → b ≢ 44 → b ≢ bracket → after_by (frame ∷ fs) v b ≡ Err e.Syntax

-- after a value: the place of a comma, or of the bracket
abbrev pub ReadsMark : List ℕ → ℕ → ℕ → Result (Bool × ℕ) JsonFault → Type 0
ReadsMark bytes at bracket (Ok x) = (at ≤ x.1) × (x.1 < length bytes) × (slice_index bytes x.1 ≡ (if x.0 then 44 else bracket)) × ((v : Json) (fs : Frames) → read_from bytes at (m.After v) fs ≡ read_from bytes x.1 (m.After v) fs)
ReadsMark bytes at bracket (Err fault) = (v : Json) (frame : Frame) (fs : Frames) → ClosedBy bracket frame → read_from bytes at (m.After v) (frame ∷ fs) ≡ Err fault

-- in a word, of which so many letters were read, or after it
abbrev pub worded : Word → ℕ → Mode
worded word read = if nat_lt read (length (letters word)) then m.Word word read else m.After (meant word)

-- each byte goes on with the number
abbrev pub NumberFollows : Digit → List ℕ → Digit → Type 0
NumberFollows part [] last = part ≡ last
NumberFollows part (b ∷ bs) last = (next : Digit) × (number_next part b ≡ Some next) × NumberFollows next bs last

-- the fault of a string that is not read to its closing quote
abbrev pub Fails : Reading → JsonFault → Type 0
Fails (o.Open part text) fault = fault ≡ faults.Ended
Fails (o.Closed text rest at) fault = ⊥
Fails (o.Failed why at) fault = fault ≡ placed why at

-- a text, and the place of its closing quote
abbrev pub ReadsText : List ℕ → ℕ → Result (List ℕ × ℕ) JsonFault → Type 0
ReadsText bytes at (Ok x) = (at ≤ x.1) × (x.1 < length bytes) × (text_from bytes at p.Plain [] ≡ o.Closed x.0 (drop (x.1 + 1) bytes) x.1)
ReadsText bytes at (Err fault) = fault ≢ faults.Memory → Fails (text_from bytes at p.Plain []) fault

-- the end of the characters that stand for themselves: a quote or a backslash
abbrev pub ReadsRun : List ℕ → ℕ → Result ℕ JsonFault → Type 0
ReadsRun bytes at (Ok end) = (at ≤ end) × (end < length bytes) × Unescaped (cut bytes at end) × ((slice_index bytes end == 34 || slice_index bytes end == 92) ≡ true)
ReadsRun bytes at (Err fault) = (text : List ℕ) → Fails (text_from bytes at p.Plain text) fault

-- the end of a character of several bytes
abbrev pub ReadsWide : List ℕ → ℕ → Result ℕ JsonFault → Type 0
ReadsWide bytes at (Ok end) = (at < end) × (end ≤ length bytes) × Unescaped (cut bytes at end)
ReadsWide bytes at (Err fault) = (text : List ℕ) → Fails (text_from bytes at p.Plain text) fault

-- the next byte of the character at the place, within these bounds, and the place after it
abbrev pub ReadsTail : List ℕ → ℕ → ℕ → ℕ → ℕ → Result ℕ JsonFault → Type 0
ReadsTail bytes at place low high (Ok end) = (end ≡ at + 1) × (at < length bytes) × (within low high (slice_index bytes at) ≡ true)
ReadsTail bytes at place low high (Err fault) = (tail : Tail) (text : List ℕ) → tail_low tail ≡ low → tail_high tail ≡ high → Fails (text_from bytes at (p.Wide place tail) text) fault

-- the character of an escape, and the place after it
abbrev pub ReadsEscape : List ℕ → ℕ → Part → Result (ℕ × ℕ) JsonFault → Type 0
ReadsEscape bytes at part (Ok x) = (at < x.1) × (x.1 ≤ length bytes) × ((text : List ℕ) → text_from bytes at part text ≡ text_from bytes x.1 p.Plain (text ++ encode_utf8 x.0))
ReadsEscape bytes at part (Err fault) = (text : List ℕ) → Fails (text_from bytes at part text) fault

-- a hexadecimal digit
abbrev pub ReadsDigit : List ℕ → ℕ → Result ℕ JsonFault → Type 0
ReadsDigit bytes at (Ok d) = (at < length bytes) × (hex_digit (slice_index bytes at) ≡ Some d)
ReadsDigit bytes at (Err fault) = (place : ℕ) (quad : Quad) (text : List ℕ) → Fails (text_from bytes at (p.Hex place quad) text) fault

-- four hexadecimal digits, and the unit that they write
abbrev pub ReadsUnit : List ℕ → ℕ → Result ℕ JsonFault → Type 0
ReadsUnit bytes at (Ok unit) = (at + 4 ≤ length bytes) × (unit ≤ 65535) × ((place : ℕ) (text : List ℕ) → text_from bytes at (p.Hex place q.Nothing) text ≡ reading_by (unit_scan place text unit) (at + 3) (drop (at + 4) bytes) (text_from bytes (at + 4)))
ReadsUnit bytes at (Err fault) = (place : ℕ) (text : List ℕ) → Fails (text_from bytes at (p.Hex place q.Nothing) text) fault

-- a digit of a low surrogate, within these bounds
abbrev pub ReadsLow : List ℕ → ℕ → ℕ → ℕ → ℕ → Result ℕ JsonFault → Type 0
ReadsLow bytes at place low high (Ok d) = (at < length bytes) × (hex_digit (slice_index bytes at) ≡ Some d) × (low ≤ d) × (d ≤ high)
ReadsLow bytes at place low high (Err fault) = ((length bytes ≤ at) × (fault ≡ faults.Ended)) ⊎ ((at < length bytes) × (fault ≡ faults.Surrogate place) × ((d : ℕ) → hex_digit (slice_index bytes at) ≡ Some d → within low high d ≡ false))

-- the escape of the low half of a pair, after that of the high half at the place
abbrev pub ReadsPair : List ℕ → ℕ → ℕ → Result ℕ JsonFault → Type 0
ReadsPair bytes at place (Ok low) = (at + 6 ≤ length bytes) × (is_low low ≡ true) × ((high : ℕ) (text : List ℕ) → is_high high ≡ true → text_from bytes at (p.Slash place high) text ≡ text_from bytes (at + 6) p.Plain (text ++ encode_utf8 (join high low)))
ReadsPair bytes at place (Err fault) = (high : ℕ) (text : List ℕ) → Fails (text_from bytes at (p.Slash place high) text) fault

-- this very byte
abbrev pub ReadsByte : List ℕ → ℕ → ℕ → ℕ → Result (Unit {0}) JsonFault → Type 0
ReadsByte bytes at place wanted (Ok _) = (at < length bytes) × (slice_index bytes at ≡ wanted)
ReadsByte bytes at place wanted (Err fault) = ((length bytes ≤ at) × (fault ≡ faults.Ended)) ⊎ ((at < length bytes) × (fault ≡ faults.Surrogate place) × (slice_index bytes at ≢ wanted))
