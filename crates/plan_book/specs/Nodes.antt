-- Which nodes a plan has: in the order of the text, a node before those in it, and a node's faults before theirs.
use Rattle.std.specs.Prelude.{ℕ, suc, false, List, [], ◌∷◌, ◌++◌, Option, Some, None, Result, Ok, Err, length, codes}
use Rattle.json_value.specs.declared.tree.Json.{Json}
use Rattle.json_value.specs.Members.{member}
use Rattle.json_paths.specs.declared.path.Path.{Path}
use Rattle.plan_tree.specs.declared.plan.Node.{Node}
use Rattle.plan_tree.specs.declared.plan.Node.TheVariants as node
use Rattle.plan_tree.specs.declared.plan.Fetch.{Fetch}
use Rattle.plan_book.specs.declared.kinds.Kind.{Kind}
use Rattle.plan_book.specs.declared.kinds.Kind.TheVariants as kinds
use Rattle.plan_book.specs.declared.kinds.Standing.{Standing}
use Rattle.plan_book.specs.declared.fault.PlanFault.{PlanFault}
use Rattle.plan_book.specs.declared.fault.PlanFault.TheVariants as fault
use Rattle.plan_book.specs.Asking.{IsAnswered}
use Rattle.plan_book.specs.Forms.{children_in, kind_of}
use Rattle.plan_book.specs.Fetches.{fetch, flatten, entity}

-- how many nodes were read, and their fetches
pub record SoFar : Type 0 where
  pub nodes : ℕ
  pub fetches : List Fetch

abbrev pub nothing : SoFar
nothing = record { nodes = 0; fetches = [] }

-- what is made of the result, and the fault as it is
abbrev pub after : {X Y : Type 0} → (X → Y) → Result X PlanFault → Result Y PlanFault
after make (Ok x) = Ok (make x)
after make (Err f) = Err f

-- one node more, without a fetch of its own
abbrev pub one_node_more : SoFar → SoFar
one_node_more b = record { nodes = suc b.nodes; fetches = b.fetches }

-- one fetch more
abbrev pub with_fetch : SoFar → Fetch → SoFar
with_fetch b x = record { nodes = b.nodes; fetches = b.fetches ++ (x ∷ []) }

-- fetches are numbered in their order
abbrev pub fetched : SoFar → Fetch → Node × SoFar
fetched b x = (node.Fetch (length b.fetches), with_fetch (one_node_more b) x)

-- a Flatten, and the fetch in it, are two nodes
abbrev pub flattened : SoFar → Path → Fetch → Node × SoFar
flattened b path x = (node.Flatten path (length b.fetches), with_fetch (one_node_more (one_node_more b)) x)

abbrev pub gathered : (List Node → Node) → List Node × SoFar → Node × SoFar
gathered make p = (make p.0, p.1)

abbrev pub with_first_node : Node → List Node × SoFar → List Node × SoFar
with_first_node n p = (n ∷ p.0, p.1)

mutual
  -- the value is read as this node, or has this fault
  pub data IsNode (s : Standing) : SoFar → Json → Result (Node × SoFar) PlanFault → Type 0 where
    by_kind : {b : SoFar} {v : Json} {r : Result (Node × SoFar) PlanFault} → IsOfKind s (kind_of v) b v r → IsNode s b v r

  -- `kind` is looked at first
  pub data IsOfKind (s : Standing) : Option Kind → SoFar → Json → Result (Node × SoFar) PlanFault → Type 0 where
    of_no_kind : {b : SoFar} {v : Json} → IsOfKind s None b v (Err (fault.Kind s.entry b.nodes))
    is_fetch : {b : SoFar} {v : Json} (r : Result Fetch PlanFault) →
        IsAnswered (fetch s false b.nodes v) r → IsOfKind s (Some kinds.Fetch) b v (after (fetched b) r)
    no_flatten : {b : SoFar} {v : Json} {f : PlanFault} →
        IsAnswered (flatten s.entry v) (Err f) → IsOfKind s (Some kinds.Flatten) b v (Err f)
    is_flatten : {b : SoFar} {v : Json} (path : Path) (inner : Json) (r : Result Fetch PlanFault) →
        IsAnswered (flatten s.entry v) (Ok (path, inner)) → IsAnswered (entity s (suc b.nodes) inner) r → IsOfKind s (Some kinds.Flatten) b v (after (flattened b path) r)
    is_sequence : {b : SoFar} {v : Json} {r : Result (List Node × SoFar) PlanFault} →
        AreInside s (children_in (member v (codes "nodes"))) b r → IsOfKind s (Some kinds.Sequence) b v (after (gathered node.Sequence) r)
    is_parallel : {b : SoFar} {v : Json} {r : Result (List Node × SoFar) PlanFault} →
        AreInside s (children_in (member v (codes "nodes"))) b r → IsOfKind s (Some kinds.Parallel) b v (after (gathered node.Parallel) r)

  -- the nodes in a Sequence or Parallel
  pub data AreInside (s : Standing) : Option (List Json) → SoFar → Result (List Node × SoFar) PlanFault → Type 0 where
    no_nodes : {b : SoFar} → AreInside s None b (Err (fault.Field s.entry (codes "nodes")))
    in_order : {b : SoFar} {vs : List Json} {r : Result (List Node × SoFar) PlanFault} → AreNodes s (one_node_more b) vs r → AreInside s (Some vs) b r

  -- one after the other, until one has a fault
  pub data AreNodes (s : Standing) : SoFar → List Json → Result (List Node × SoFar) PlanFault → Type 0 where
    no_more : {b : SoFar} → AreNodes s b [] (Ok ([], b))
    stops : {b : SoFar} {v : Json} {vs : List Json} {f : PlanFault} → IsNode s b v (Err f) → AreNodes s b (v ∷ vs) (Err f)
    another : {b next : SoFar} {v : Json} {vs : List Json} {n : Node} {r : Result (List Node × SoFar) PlanFault} →
        IsNode s b v (Ok (n, next)) → AreNodes s next vs r → AreNodes s b (v ∷ vs) (after (with_first_node n) r)
