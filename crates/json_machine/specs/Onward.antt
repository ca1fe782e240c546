-- Reading on from a place: what the bytes from there come to, in the machine and in a string alone.
use Rattle.std.specs.Prelude.{◌≡◌, ℕ, ◌+◌, ◌-◌, true, false, List, [], ◌∷◌, take, drop, Result, Ok, Err}
use Rattle.json_value.specs.declared.fault.JsonFault.{JsonFault}
use Rattle.json_value.specs.declared.tree.Json.{Json}
use Rattle.json_value.specs.Grammar.{strict, is_blank}
use Rattle.exact_read.specs.Steps.{run}
use Rattle.json_machine.specs.Refusal.{Refusal}
use Rattle.json_machine.specs.Part.{Part}
use Rattle.json_machine.specs.Progress as s
use Rattle.json_machine.specs.Mode.{Mode}
use Rattle.json_machine.specs.Scan.{Scanned, scan}
use Rattle.json_machine.specs.Machine.{Frames, step, whole}

-- what the bytes from a place on come to, in this mode and with these frames
unfoldable pub read_from : List ℕ → ℕ → Mode → Frames → Result Json JsonFault
read_from bytes at mode frames = whole (run (step strict) (drop at bytes) at (record { mode = mode; frames = frames }))

-- blanks leave the mode
abbrev pub Skips : Mode → Type 0
Skips mode = (at b : ℕ) (fs : Frames) → is_blank b ≡ true → step strict at (record { mode = mode; frames = fs }) b ≡ Ok (record { mode = mode; frames = fs })

-- the bytes from the one place to the other
abbrev pub cut : List ℕ → ℕ → ℕ → List ℕ
cut bytes at end = take (end - at) (drop at bytes)

-- what reading on in a string comes to: all bytes are read, or the closing quote stands at this place before these bytes, or a byte is refused
pub data Reading : Type 0 where
  Open : Part → List ℕ → Reading
  Closed : List ℕ → List ℕ → ℕ → Reading
  Failed : Refusal → ℕ → Reading

-- after the step on one byte at the place
abbrev pub reading_by : Scanned → ℕ → List ℕ → (Part → List ℕ → Reading) → Reading
reading_by (Ok (s.More part text)) at bs onward = onward part text
reading_by (Ok (s.Done text)) at bs onward = Closed text bs at
reading_by (Err why) at bs onward = Failed why at

unfoldable pub reading : List ℕ → ℕ → Part → List ℕ → Reading
reading [] at part text = Open part text
reading (b ∷ bs) at part text = reading_by (scan false at part text b) at bs (reading bs (at + 1))

-- what the bytes from a place on come to in a string
unfoldable pub text_from : List ℕ → ℕ → Part → List ℕ → Reading
text_from bytes at part text = reading (drop at bytes) at part text
