-- The subgraphs of a site, by their names.
use Rattle.std.specs.Prelude.{ℕ, ◌+◌, Bool, if◌then◌else◌, List, [], ◌∷◌, IsSome, All, Option, Some, None}
use Rattle.std.specs.Str.{bytes_eq}
use Rattle.plan_tree.specs.declared.plan.Fetch.{Fetch}
use Rattle.plan_run.specs.declared.subgraphs.Subgraph.{Subgraph}

-- the number of the first one with this name, counted from here on, and whether nothing of it is kept
abbrev pub found_from : ℕ → List Subgraph → List ℕ → Option (ℕ × Bool)
found_from n [] name = None
found_from n (s ∷ subgraphs) name = if bytes_eq s.name name then Some (n, s.uncached) else found_from (n + 1) subgraphs name

abbrev pub found_by : List Subgraph → List ℕ → Option (ℕ × Bool)
found_by subgraphs name = found_from 0 subgraphs name

-- each fetch is from one of them
abbrev pub AreFrom : List Subgraph → List Fetch → Type 0
AreFrom subgraphs fetches = All (λ (fetch : Fetch). IsSome (found_by subgraphs fetch.sub)) fetches
