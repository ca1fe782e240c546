-- The numbers of a plan's fetches.
use Rattle.std.specs.Prelude.{◌≡◌, ℕ, zero, suc, List, [], ◌∷◌, ◌++◌, length}
use Rattle.plan_tree.specs.declared.plan.Node.{Node}
use Rattle.plan_tree.specs.declared.plan.Node.TheOpen.{Node-F}
use Rattle.plan_tree.specs.declared.plan.Node.TheFolds.{fold-Node}

abbrev pub joined : List (List ℕ) → List ℕ
joined [] = []
joined (numbers ∷ later) = numbers ++ joined later

abbrev pub numbers_step : Node-F (List ℕ) → List ℕ
numbers_step (Node-F.Fetch fetch) = fetch ∷ []
numbers_step (Node-F.Flatten path fetch) = fetch ∷ []
numbers_step (Node-F.Sequence children) = joined children
numbers_step (Node-F.Parallel children) = joined children

-- the numbers of a node's fetches, in the order of the plan's text
unfoldable pub numbers : Node → List ℕ
numbers = fold-Node (List ℕ) numbers_step

-- so many numbers, from one on upward
abbrev pub numbers_from : ℕ → ℕ → List ℕ
numbers_from zero from = []
numbers_from (suc n) from = from ∷ numbers_from n (suc from)
