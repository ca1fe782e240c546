-- What is still asked for after more pieces were given, and in which order.
use Rattle.std.specs.Prelude.{ℕ, List, [], ◌∷◌, Option, Some, None}
use Rattle.json_value.specs.declared.tree.Json.{Json}
use Rattle.plan_exec.specs.declared.tasks.Done.{Done}
use Rattle.plan_exec.specs.Exec.{pieces_of}
use Rattle.plan_exec.specs.Ready.{Waiting}
use Rattle.plan_exec.specs.Giving.{Among}

abbrev pub unless_pieces : Option (List Json) → Waiting → List Waiting → List Waiting
unless_pieces None w later = w ∷ later
unless_pieces (Some pieces) w later = later

-- those of these whose pieces are not given
abbrev pub still_open : List Done → List Waiting → List Waiting
still_open given [] = []
still_open given (w ∷ ws) = unless_pieces (pieces_of given w.fetch) w (still_open given ws)

-- the first list is the second without some of its elements: what is left stands in the same order
pub data IsPart {X : Type 0} : List X → List X → Type 0 where
  nothing : IsPart [] []
  kept : (x : X) (part whole : List X) → IsPart part whole → IsPart (x ∷ part) (x ∷ whole)
  passed : (x : X) (part whole : List X) → IsPart part whole → IsPart part (x ∷ whole)

-- no number stands twice
abbrev pub AllDiffer : List ℕ → Type 0
AllDiffer [] = Unit {0}
AllDiffer (n ∷ ns) = (Among n ns → ⊥) × AllDiffer ns
