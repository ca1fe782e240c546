-- What a whole script writes.
use Rattle.std.specs.Prelude.{◌≡◌, ◌⊎◌, ℕ, ◌+◌, List, [], ◌∷◌, ◌++◌, Option}
use Rattle.std.proofs.Common.{inl, inr}
use Rattle.cache_terms.specs.declared.events.Outcome.TheVariants as outcome
use Rattle.script_lines.specs.declared.replies.Cause.{Cause}
use Rattle.script_lines.specs.declared.replies.Reply.TheVariants as replies
use Rattle.script_lines.specs.Replies.{reply_text}
use Rattle.rehearsal.specs.Scene.{Scene}
use Rattle.rehearsal.specs.Replied.{refusal}
use Rattle.rehearsal.specs.Acts.{Plays, RefusesLine}

-- how far a text goes: to the end of the script, to a line that is refused, or through some lines
pub data Extent : Type 0 where
  Whole : Extent
  Refused : Extent
  Front : Extent

-- what may be written from these lines on, where it ends before the first of them is carried out
abbrev pub Ends : ℕ → Scene → List (List ℕ) → List ℕ → Extent → Type 0
Ends number s lines out Front = out ≡ []
Ends number s [] out Whole = out ≡ []
Ends number s (line ∷ lines) out Whole = ⊥
Ends number s [] out Refused = ⊥
Ends number s (line ∷ lines) out Refused = (c : Cause) × RefusesLine s line c × (out ≡ refusal number c)

-- what may be written for these lines, of which the first has this number
abbrev pub Runs : ℕ → Scene → List (List ℕ) → List ℕ → Extent → Type 0
Runs number s [] out extent = Ends number s [] out extent
Runs number s (line ∷ lines) out extent =
    Ends number s (line ∷ lines) out extent
    ⊎ ((text rest : List ℕ) × (next : Scene) × Plays s line text next × Runs (number + 1) next lines rest extent × (out ≡ text ++ rest))

-- the text says that a settle found no memory
abbrev pub SaysMemory : List ℕ → Type 0
SaysMemory text = (position : Option ℕ) × (text ≡ reply_text (replies.Settled position outcome.Memory))

-- no text of a line of the run says so
abbrev pub FindsMemory : (number : ℕ) (s : Scene) (lines : List (List ℕ)) (out : List ℕ) (extent : Extent) → Runs number s lines out extent → Type 0
FindsMemory number s [] out extent run = Unit {0}
FindsMemory number s (line ∷ lines) out extent (inl ends) = Unit {0}
FindsMemory number s (line ∷ lines) out extent (inr run) = (SaysMemory (run.0) → ⊥) × FindsMemory (number + 1) (run.2) lines (run.1) extent run.4

-- the text goes to the end of the script, or to a line that is refused
abbrev pub IsComplete : Extent → Type 0
IsComplete Whole = Unit {0}
IsComplete Refused = Unit {0}
IsComplete Front = ⊥

-- no text that goes on from this one goes to the end of the script, or to a line that is refused
abbrev pub IsDeadEnd : ℕ → Scene → List (List ℕ) → List ℕ → Type 0
IsDeadEnd number s lines out = (more : List ℕ) (extent : Extent) → IsComplete extent → Runs number s lines (out ++ more) extent → ⊥
