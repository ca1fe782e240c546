-- Serves private clauses and proofs alone.
-- Paths in a directed graph, which is the list of the targets of each node's edges.
use Rattle.std.specs.Prelude.{◌≡◌, ℕ, Bool, false, List, [], IsTrue, ◌↔◌, ◌<◌, length, slice_index_or, Contains, All}

-- an edge leads from a to b
abbrev pub IsEdge : List (List ℕ) → ℕ → ℕ → Type 0
IsEdge graph a b = Contains (slice_index_or graph a []) b

-- a path of one edge or more leads from a to b
pub data ReachesNode (graph : List (List ℕ)) : ℕ → ℕ → Type 0 where
  edge : {a b : ℕ} → IsEdge graph a b → ReachesNode graph a b
  further : {a b c : ℕ} → IsEdge graph a b → ReachesNode graph b c → ReachesNode graph a c

-- each edge leads to a node
abbrev pub LeadToNodes : ℕ → List ℕ → Type 0
LeadToNodes count targets = All (λ target. target < count) targets

abbrev pub IsGraph : List (List ℕ) → Type 0
IsGraph graph = All (LeadToNodes (length graph)) graph

-- for each node, whether a path leads from it back to it
pub record AreCycles (graph : List (List ℕ)) (flags : List Bool) : Type 0 where
  pub each : length flags ≡ length graph
  pub right : (node : ℕ) → node < length graph → IsTrue (slice_index_or flags node false) ↔ ReachesNode graph node node
