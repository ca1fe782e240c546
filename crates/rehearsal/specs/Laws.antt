-- What the laws of rehearsals say.
use Rattle.std.specs.Prelude.{◌≡◌, ◌++◌, ℕ, List}
use Rattle.cache_terms.specs.declared.events.Limits.{Limits}
use Rattle.cache_model.specs.State.{IsWithinRanges}
use Rattle.rehearsal.specs.Scene.{Scene, opening}
use Rattle.rehearsal.specs.Acts.{Plays}
use Rattle.rehearsal.specs.Runs.{Extent, Front, IsComplete, IsDeadEnd, Runs, SaysMemory, FindsMemory}

-- what a line is answered and leaves is determined, but for want of memory
abbrev pub LinesHaveOneReply : Type 0
LinesHaveOneReply = (scene : Scene) (line text other : List ℕ) (next last : Scene)
    → (SaysMemory text → ⊥) → (SaysMemory other → ⊥) → Plays scene line text next → Plays scene line other last → (text ≡ other) × (next ≡ last)

-- what is written for lines, to their end or to one that is refused, is determined, but for want of memory
abbrev pub LinesHaveOneText : Type 0
LinesHaveOneText = (number : ℕ) (scene : Scene) (lines : List (List ℕ)) (out other : List ℕ) (extent last : Extent)
    → IsComplete extent → IsComplete last → (run : Runs number scene lines out extent) → (again : Runs number scene lines other last)
    → FindsMemory number scene lines out extent run → FindsMemory number scene lines other last again → (out ≡ other) × (extent ≡ last)

-- what is written for some first lines is a front of what is written for all, or up to a line that is refused, but for
-- want of memory
abbrev pub FrontsAreFronts : Type 0
FrontsAreFronts = (number : ℕ) (scene : Scene) (lines : List (List ℕ)) (out other : List ℕ) (extent : Extent)
    → IsComplete extent → (front : Runs number scene lines out Front) → (run : Runs number scene lines other extent)
    → FindsMemory number scene lines out Front front → FindsMemory number scene lines other extent run → (more : List ℕ) × (other ≡ out ++ more)

-- what is written for some first lines of a script goes on to what is written for all, or up to a line that is refused;
-- that it does not is refuted
abbrev pub FrontsGoOn : Type 0
FrontsGoOn = (limits : Limits) (lines : List (List ℕ)) (out : List ℕ)
    → IsWithinRanges limits → Runs 1 (opening limits) lines out Front → IsDeadEnd 1 (opening limits) lines out → ⊥
