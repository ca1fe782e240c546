-- Serves private clauses and proofs alone.
-- What a depth-first search keeps. It goes down a path of groups of nodes: from each node of a group paths lead to
-- each other node of the group and of the later ones, and in a cyclic group to itself too.
use Rattle.std.specs.Prelude.{◌≡◌, ℕ, ◌+◌, ◌<◌, Bool, true, false, ◌⊎◌, List, [], ◌∷◌, ◌++◌, length, slice_index_or, slice_set, Contains, sum_by}
use Rattle.gql_spreads.specs.declared.search.Mark.{Mark}
use Rattle.gql_spreads.specs.declared.search.Mark.TheVariants as mark
use Rattle.gql_spreads.specs.declared.search.Group.{Group}
use Rattle.gql_spreads.specs.declared.search.Search.{Search}
use Rattle.gql_spreads.specs.Graph.{IsEdge, ReachesNode}

-- a group: its nodes, and the targets of their edges that were not followed yet
pub record NodeGroup : Type 0 where
  pub nodes : List ℕ
  pub edges : List ℕ
  pub cyclic : Bool

-- the groups stand from the last to the first
abbrev pub nodes_of : List NodeGroup → List ℕ
nodes_of [] = []
nodes_of (g ∷ gs) = nodes_of gs ++ g.nodes

abbrev pub edges_of : List NodeGroup → List ℕ
edges_of [] = []
edges_of (g ∷ gs) = edges_of gs ++ g.edges

abbrev pub group_at : ℕ → ℕ → Bool → Group
group_at node edge cyclic = record { node = node; edge = edge; cyclic = cyclic }

abbrev pub group_on : List NodeGroup → Bool → Group
group_on below cyclic = group_at (length (nodes_of below)) (length (edges_of below)) cyclic

abbrev pub groups_of : List NodeGroup → List Group
groups_of [] = []
groups_of (g ∷ gs) = groups_of gs ++ (group_on gs g.cyclic ∷ [])

abbrev pub mark_at : List Mark → ℕ → Mark
mark_at marks v = slice_index_or marks v mark.Fresh

abbrev pub IsDone : List Mark → ℕ → Type 0
IsDone marks v = (cyclic : Bool) × (mark_at marks v ≡ mark.Done cyclic)

-- the mark of a node on a cycle
abbrev pub is_cyclic : Mark → Bool
is_cyclic (mark.Done cyclic) = cyclic
is_cyclic _ = false

-- what was seen stays seen
abbrev pub StaySeen : List Mark → List Mark → Type 0
StaySeen old new = (v : ℕ) → (mark_at old v ≡ mark.Fresh → ⊥) → mark_at new v ≡ mark.Fresh → ⊥

-- these nodes are done
abbrev pub done_all : List ℕ → Bool → List Mark → List Mark
done_all [] cyclic marks = marks
done_all (v ∷ vs) cyclic marks = done_all vs cyclic (slice_set marks v (mark.Done cyclic))

-- the same node, or a later one on a path
abbrev pub IsOnward : List (List ℕ) → ℕ → ℕ → Type 0
IsOnward graph a b = (a ≡ b) ⊎ ReachesNode graph a b

-- the target of an edge that was followed from a group
pub record IsPast (marks : List Mark) (g : NodeGroup) (below : List NodeGroup) (w : ℕ) : Type 0 where
  pub seen : mark_at marks w ≡ mark.Fresh → ⊥
  pub upper : Contains (nodes_of below) w → ⊥
  pub own : Contains g.nodes w → g.cyclic ≡ true

-- a group on those below it
pub record StandsOnOthers (graph : List (List ℕ)) (marks : List Mark) (g : NodeGroup) (below : List NodeGroup) : Type 0 where
  pub source : (w : ℕ) → Contains g.edges w → (v : ℕ) × Contains g.nodes v × IsEdge graph v w
  pub past : (v w : ℕ) → Contains g.nodes v → IsEdge graph v w → Contains g.edges w ⊎ IsPast marks g below w
  pub leads : (x y : ℕ) → Contains (nodes_of below ++ g.nodes) x → Contains g.nodes y → IsOnward graph x y
  pub around : g.cyclic ≡ true → (x : ℕ) → Contains g.nodes x → ReachesNode graph x x
  pub single : g.cyclic ≡ false → (v : ℕ) × (g.nodes ≡ v ∷ [])
  pub apart : (v : ℕ) → Contains g.nodes v → Contains (nodes_of below) v → ⊥

abbrev pub AllStand : List (List ℕ) → List Mark → List NodeGroup → Type 0
AllStand graph marks [] = Unit {0}
AllStand graph marks (g ∷ gs) = StandsOnOthers graph marks g gs × AllStand graph marks gs

pub record IsSearchSound (graph : List (List ℕ)) (marks : List Mark) (stack : List NodeGroup) : Type 0 where
  pub counts : length marks ≡ length graph
  pub stand : AllStand graph marks stack
  -- an open node knows its place
  pub here : (p : ℕ) → p < length (nodes_of stack) → mark_at marks (slice_index_or (nodes_of stack) p 0) ≡ mark.Open p
  pub placed : (v p : ℕ) → mark_at marks v ≡ mark.Open p → (p < length (nodes_of stack)) × (slice_index_or (nodes_of stack) p 0 ≡ v)
  -- a node that is done is marked by whether it is on a cycle, and leads to no node that is not done
  pub on_cycle : (v : ℕ) → mark_at marks v ≡ mark.Done true → ReachesNode graph v v
  pub on_none : (v : ℕ) → mark_at marks v ≡ mark.Done false → ReachesNode graph v v → ⊥
  pub closed : (v w : ℕ) → IsDone marks v → IsEdge graph v w → IsDone marks w

-- what the search keeps is such a stack
pub record KeepsStack (graph : List (List ℕ)) (s : Search) : Type 0 where
  pub stack : List NodeGroup
  pub sound : IsSearchSound graph s.marks.items stack
  pub nodes_is : s.nodes.items ≡ nodes_of stack
  pub edges_is : s.edges.items ≡ edges_of stack
  pub groups_is : s.groups.items ≡ groups_of stack

-- how many steps the search may still take: a fresh node may bring as many edges as there are, itself and its group
abbrev pub steps_for : ℕ → Mark → ℕ
steps_for edges mark.Fresh = edges + 2
steps_for edges _ = 0

abbrev pub steps_left : List (List ℕ) → Search → ℕ
steps_left graph s = sum_by (steps_for (sum_by length graph)) s.marks.items + length s.edges.items + length s.groups.items

-- nothing is known of so many nodes
pub record IsBlank (count : ℕ) (s : Search) : Type 0 where
  pub counts : length s.marks.items ≡ count
  pub fresh : (v : ℕ) → mark_at s.marks.items v ≡ mark.Fresh
  pub nodes : s.nodes.items ≡ []
  pub edges : s.edges.items ≡ []
  pub groups : s.groups.items ≡ []

-- one step of the search
pub record IsStep (graph : List (List ℕ)) (s t : Search) : Type 0 where
  pub keeps : KeepsStack graph t
  pub falls : steps_left graph t < steps_left graph s
  pub seen : StaySeen s.marks.items t.marks.items

-- no node is open, and this one is done
pub record IsExplored (graph : List (List ℕ)) (root : ℕ) (s t : Search) : Type 0 where
  pub keeps : KeepsStack graph t
  pub closed : t.groups.items ≡ []
  pub root_seen : mark_at t.marks.items root ≡ mark.Fresh → ⊥
  pub seen : StaySeen s.marks.items t.marks.items
