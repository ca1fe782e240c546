-- What is read as a plan's nodes is lawful.
use Rattle.std.proofs.Common.{◌≡◌, ℕ, suc, ◌+◌, Bool, true, false, not, List, [], ◌∷◌, ◌++◌, Option, Some, None, Ok, Err, Result, length, refl, sym, ap, ◌∙◌, append_assoc, length-append, arith}
use Rattle.std.specs.Prelude.{map, codes, ◌&&◌, slice_get}
use Rattle.std.proofs.lemmas.List.{append-nil, map-append}
use Rattle.json_value.specs.declared.tree.Json.{Json}
use Rattle.json_value.specs.Members.{member}
use Rattle.json_paths.specs.declared.path.Path.{Path}
use Rattle.json_paths.specs.declared.path.Step.{Step}
use Rattle.json_paths.specs.declared.needs.Requires.{Requires}
use Rattle.plan_tree.specs.declared.plan.Node.{Node}
use Rattle.plan_tree.specs.declared.plan.Node.TheVariants as node
use Rattle.plan_tree.specs.declared.plan.Fetch.{Fetch}
use Rattle.plan_tree.specs.Lawful.{is_well_placed, is_some_of, all_true, without_needs, is_root, is_entity, needs_formed, fetch_formed}
use Rattle.plan_tree.specs.Numbers.{joined, numbers, numbers_from}
use Rattle.plan_book.specs.declared.kinds.Kind.{Kind}
use Rattle.plan_book.specs.declared.kinds.Kind.TheVariants as kinds
use Rattle.plan_book.specs.declared.kinds.Standing.{Standing}
use Rattle.plan_book.specs.declared.fault.PlanFault.{PlanFault}
use Rattle.plan_book.specs.declared.fault.PlanFault.TheVariants as fault
use Rattle.plan_book.specs.Asking.{Read, faulty, made, needed, refused_if, document_in, IsAnswered}
use Rattle.plan_book.specs.Forms.{text_in, variables_in, path_in, requires_in, object_in, elements_in, children_in, are_children, kind_of, if_fits, each, step_of, as_path}
use Rattle.plan_book.specs.Fetches.{operation_of, has_needs, same, may_stand, fetch, flatten, entity_by, entity}
use Rattle.plan_book.specs.Nodes.{SoFar, after, one_node_more, fetched, flattened, gathered, with_first_node, IsNode, by_kind, IsOfKind, of_no_kind, is_fetch, no_flatten, is_flatten, is_sequence, is_parallel, AreInside, no_nodes, in_order, AreNodes, no_more, stops, another}
use Rattle.plan_book.proofs.Deeper.{kept}
use Rattle.plan_book.proofs.Formed.{both_true, and_true, variables_fit, requires_fit}
use Rattle.plan_book.proofs.Levels.{numbers-fetch, numbers-flatten, numbers-sequence, numbers-parallel, fits-fetch, fits-flatten, fits-sequence, fits-parallel, counted-add, slice_get-at}

-- ---- a fetch

-- the form of `fetch`, by what its members are
abbrev fetch_by : Standing → Bool → ℕ → Option (List ℕ) → Option (Bool × List ℕ) → Option (List (List ℕ)) → Option (Option Requires) → Read Fetch
fetch_by s in_flatten number sub operation variables needs =
    needed (fault.Field s.entry (codes "subgraph")) sub (λ sub.
    needed (fault.Field s.entry (codes "operation")) operation (λ operation.
    needed (fault.Field s.entry (codes "variables")) variables (λ variables.
    needed (fault.Field s.entry (codes "requires")) needs (λ needs.
    refused_if (not (may_stand s.of_query in_flatten (has_needs needs) operation.0)) (fault.Nesting s.entry number)
    (made (record { sub = sub; mutation = operation.0; sel = operation.1; needs = needs; variables = variables }))))))

-- what holds of a fetch that was read
pub record Holds (of_query in_flatten : Bool) (variables : Option (List (List ℕ))) (needs : Option (Option Requires)) (f : Fetch) : Type 0 where
  pub variables_are : variables ≡ Some f.variables
  pub needs_are : needs ≡ Some f.needs
  pub stands : may_stand of_query in_flatten (has_needs f.needs) f.mutation ≡ true

stand_holds : (s : Standing) (in_flatten : Bool) (number : ℕ) (sub : List ℕ) (operation : Bool × List ℕ) (variables : List (List ℕ)) (needs : Option Requires) (f : Fetch) (b : Bool) →
    may_stand s.of_query in_flatten (has_needs needs) operation.0 ≡ b →
    IsAnswered (refused_if (not b) (fault.Nesting s.entry number) (made (record { sub = sub; mutation = operation.0; sel = operation.1; needs = needs; variables = variables }))) (Ok f) → Holds s.of_query in_flatten (Some variables) (Some needs) f
stand_holds s in_flatten number sub operation variables needs f true is h =
    let e : ◌≡◌ {A = Fetch} f (record { sub = sub; mutation = operation.0; sel = operation.1; needs = needs; variables = variables }) = cc in
    record {
      variables_are = ap (λ (x : Fetch). Some x.variables) (sym e);
      needs_are = ap (λ (x : Fetch). Some x.needs) (sym e);
      stands = ap (λ (x : Fetch). may_stand s.of_query in_flatten (has_needs x.needs) x.mutation) e ∙ is;
    }
stand_holds s in_flatten number sub operation variables needs f false is h = absurd cc

by_members : (s : Standing) (in_flatten : Bool) (number : ℕ) (sub : Option (List ℕ)) (operation : Option (Bool × List ℕ)) (variables : Option (List (List ℕ))) (needs : Option (Option Requires)) (f : Fetch) →
    IsAnswered (fetch_by s in_flatten number sub operation variables needs) (Ok f) → Holds s.of_query in_flatten variables needs f
by_members s in_flatten number None operation variables needs f h = absurd cc
by_members s in_flatten number (Some sub) None variables needs f h = absurd cc
by_members s in_flatten number (Some sub) (Some operation) None needs f h = absurd cc
by_members s in_flatten number (Some sub) (Some operation) (Some variables) None f h = absurd cc
by_members s in_flatten number (Some sub) (Some operation) (Some variables) (Some needs) f h =
    stand_holds s in_flatten number sub operation variables needs f (may_stand s.of_query in_flatten (has_needs needs) operation.0) refl h

by_document : (s : Standing) (in_flatten : Bool) (number : ℕ) (sub : Option (List ℕ)) (text : Option (List ℕ)) (variables : Option (List (List ℕ))) (needs : Option (Option Requires)) (f : Fetch) →
    IsAnswered (needed (fault.Field s.entry (codes "subgraph")) sub (λ sub.
    document_in text (λ document.
    needed (fault.Field s.entry (codes "operation")) (operation_of document) (λ operation.
    needed (fault.Field s.entry (codes "variables")) variables (λ variables.
    needed (fault.Field s.entry (codes "requires")) needs (λ needs.
    refused_if (not (may_stand s.of_query in_flatten (has_needs needs) operation.0)) (fault.Nesting s.entry number)
    (made (record { sub = sub; mutation = operation.0; sel = operation.1; needs = needs; variables = variables })))))))) (Ok f) → Holds s.of_query in_flatten variables needs f
by_document s in_flatten number None text variables needs f h = absurd cc
by_document s in_flatten number (Some sub) None variables needs f h = by_members s in_flatten number (Some sub) None variables needs f h
by_document s in_flatten number (Some sub) (Some text) variables needs f (d, stands, h) = by_members s in_flatten number (Some sub) (operation_of d) variables needs f h

fetch_holds : (s : Standing) (in_flatten : Bool) (number : ℕ) (v : Json) (f : Fetch) → IsAnswered (fetch s in_flatten number v) (Ok f) →
    Holds s.of_query in_flatten (variables_in (member v (codes "variables"))) (requires_in (member v (codes "requires"))) f
fetch_holds s in_flatten number v f h =
    by_document s in_flatten number (text_in (member v (codes "subgraph"))) (text_in (member v (codes "operation"))) (variables_in (member v (codes "variables"))) (requires_in (member v (codes "requires"))) f h

is_formed : (s : Standing) (in_flatten : Bool) (number : ℕ) (v : Json) (f : Fetch) → IsAnswered (fetch s in_flatten number v) (Ok f) → fetch_formed f ≡ true
is_formed s in_flatten number v f h =
    let holds = fetch_holds s in_flatten number v f h in
    let needs : needs_formed f.needs ≡ true = requires_fit (member v (codes "requires")) f.needs holds.needs_are in
    let names = variables_fit (member v (codes "variables")) f.variables holds.variables_are in
    grind (arith, needs, names)

root_stands : (of_query : Bool) (needs : Option Requires) (mutation : Bool) → may_stand of_query false (has_needs needs) mutation ≡ true → without_needs needs ≡ true
root_stands of_query None mutation e = refl
root_stands of_query (Some needs) mutation e = absurd cc

entity_stands : (of_query : Bool) (needs : Option Requires) (mutation : Bool) → may_stand of_query true (has_needs needs) mutation ≡ true → (not (without_needs needs) && not mutation) ≡ true
entity_stands of_query None mutation e = absurd cc
entity_stands of_query (Some needs) true e = absurd cc
entity_stands of_query (Some needs) false e = refl

-- ---- the node in a Flatten

nested : (entry number : ℕ) (path : Option Path) (inner : Option Json) (f : Fetch) →
    IsAnswered (needed (fault.Field entry (codes "path")) path (λ path. needed (fault.Field entry (codes "node")) inner (λ inner. faulty (fault.Nesting entry number)))) (Ok f) → ⊥
nested entry number None inner f h = cc
nested entry number (Some path) None f h = cc
nested entry number (Some path) (Some inner) f h = cc

nested_nodes : (entry number : ℕ) (nodes : Option (List Json)) (f : Fetch) → IsAnswered (needed (fault.Field entry (codes "nodes")) nodes (λ nodes. faulty (fault.Nesting entry number))) (Ok f) → ⊥
nested_nodes entry number None f h = cc
nested_nodes entry number (Some nodes) f h = cc

entity_is : (o : Option Kind) (s : Standing) (number : ℕ) (v : Json) (f : Fetch) → IsAnswered (entity_by o s number v) (Ok f) → IsAnswered (fetch s true number v) (Ok f)
entity_is None s number v f h = absurd cc
entity_is (Some kinds.Fetch) s number v f h = h
entity_is (Some kinds.Flatten) s number v f h = absurd (nested s.entry number (path_in (member v (codes "path"))) (object_in (member v (codes "node"))) f h)
entity_is (Some kinds.Sequence) s number v f h = absurd (nested_nodes s.entry number (children_in (member v (codes "nodes"))) f h)
entity_is (Some kinds.Parallel) s number v f h = absurd (nested_nodes s.entry number (children_in (member v (codes "nodes"))) f h)

path_of : (entry : ℕ) (path : Option Path) (inner : Option Json) (p : Path) (v : Json) →
    IsAnswered {X = Path × Json} (needed (fault.Field entry (codes "path")) path (λ path. needed (fault.Field entry (codes "node")) inner (λ inner. made (path, inner)))) (Ok (p, v)) → path ≡ Some p
path_of entry None inner p v h = absurd cc
path_of entry (Some path) None p v h = absurd cc
path_of entry (Some path) (Some inner) p v h = let e : ◌≡◌ {A = Path × Json} (p, v) (path, inner) = cc in ap (λ (x : Path × Json). Some x.0) (sym e)

some_steps : (o : Option (List Step)) (p : Path) → as_path (if_fits is_some_of o) ≡ Some p → is_some_of p.steps ≡ true
some_steps None p is = absurd cc
some_steps (Some []) p is = absurd cc
some_steps (Some (step ∷ steps)) p is = let e : ◌≡◌ {A = Path} (record { steps = step ∷ steps }) p = cc in ap (λ (x : Path). is_some_of x.steps) (sym e)

-- ---- what is kept

-- a node, before which these fetches stand
pub record Keeps (first : List Fetch) (n : Node) (last : List Fetch) : Type 0 where
  pub own : List Fetch
  pub fetches_are : last ≡ first ++ own
  pub numbered : numbers n ≡ numbers_from (length own) (length first)
  pub formed : all_true (map fetch_formed own) ≡ true
  pub fit : (more : List Fetch) → is_well_placed ((first ++ own) ++ more) n ≡ true

-- nodes one after the other
pub record KeepsAll (first : List Fetch) (ns : List Node) (last : List Fetch) : Type 0 where
  pub own : List Fetch
  pub fetches_are : last ≡ first ++ own
  pub numbered : joined (map numbers ns) ≡ numbers_from (length own) (length first)
  pub formed : all_true (map fetch_formed own) ≡ true
  pub fit : (more : List Fetch) → all_true (map (is_well_placed ((first ++ own) ++ more)) ns) ≡ true

root_kept : (s : Standing) (b : SoFar) (v : Json) (f : Fetch) → IsAnswered (fetch s false b.nodes v) (Ok f) → Keeps b.fetches (node.Fetch (length b.fetches)) (b.fetches ++ (f ∷ []))
root_kept s b v f h = record {
  own = f ∷ [];
  fetches_are = refl;
  numbered = numbers-fetch (length b.fetches);
  formed = and_true (fetch_formed f) true (is_formed s false b.nodes v f h) refl;
  fit = λ more. fits-fetch ((b.fetches ++ (f ∷ [])) ++ more) (length b.fetches) ∙ ap is_root (slice_get-at b.fetches f more)
      ∙ root_stands s.of_query f.needs f.mutation (fetch_holds s false b.nodes v f h).stands;
}

entity_kept : (s : Standing) (b : SoFar) (number : ℕ) (v : Json) (path : Path) (f : Fetch) → is_some_of path.steps ≡ true → IsAnswered (fetch s true number v) (Ok f) → Keeps b.fetches (node.Flatten path (length b.fetches)) (b.fetches ++ (f ∷ []))
entity_kept s b number v path f some h = record {
  own = f ∷ [];
  fetches_are = refl;
  numbered = numbers-flatten path (length b.fetches);
  formed = and_true (fetch_formed f) true (is_formed s true number v f h) refl;
  fit = λ more. fits-flatten ((b.fetches ++ (f ∷ [])) ++ more) path (length b.fetches)
      ∙ and_true (is_some_of path.steps) (is_entity (slice_get ((b.fetches ++ (f ∷ [])) ++ more) (length b.fetches))) some
      (ap is_entity (slice_get-at b.fetches f more) ∙ entity_stands s.of_query f.needs f.mutation (fetch_holds s true number v f h).stands);
}

none_kept : (first : List Fetch) → KeepsAll first [] first
none_kept first = record { own = []; fetches_are = sym (append-nil first); numbered = refl; formed = refl; fit = λ more. refl }

all_true-append : (bs cs : List Bool) → all_true bs ≡ true → all_true cs ≡ true → all_true (bs ++ cs) ≡ true
all_true-append [] cs e f = f
all_true-append (b ∷ bs) cs e f =
    let parts = both_true b (all_true bs) e in
    and_true b (all_true (bs ++ cs)) parts.0 (all_true-append bs cs parts.1 f)

both_kept : (first mid last : List Fetch) (n : Node) (ns : List Node) → Keeps first n mid → KeepsAll mid ns last → KeepsAll first (n ∷ ns) last
both_kept first mid last n ns h k =
    let regrouped : (first ++ h.own) ++ k.own ≡ first ++ (h.own ++ k.own) = append_assoc first h.own k.own in
    let long : length mid ≡ length h.own + length first = ap length h.fetches_are ∙ length-append first h.own ∙ omega arith in
    record {
      own = h.own ++ k.own;
      fetches_are = k.fetches_are ∙ ap (λ (fs : List Fetch). fs ++ k.own) h.fetches_are ∙ regrouped;
      numbered =
          ap (λ (a : List ℕ). a ++ joined (map numbers ns)) h.numbered ∙ ap (λ (c : List ℕ). numbers_from (length h.own) (length first) ++ c) (k.numbered ∙ ap (numbers_from (length k.own)) long)
          ∙ sym (counted-add (length h.own) (length k.own) (length first)) ∙ ap (λ (m : ℕ). numbers_from m (length first)) (sym (length-append h.own k.own));
      formed = ap all_true (map-append fetch_formed h.own k.own) ∙ all_true-append (map fetch_formed h.own) (map fetch_formed k.own) h.formed k.formed;
      fit = λ more.
          let here : (first ++ (h.own ++ k.own)) ++ more ≡ (first ++ h.own) ++ (k.own ++ more) = ap (λ (fs : List Fetch). fs ++ more) (sym regrouped) ∙ append_assoc (first ++ h.own) k.own more in
          let there : (first ++ (h.own ++ k.own)) ++ more ≡ (mid ++ k.own) ++ more = ap (λ (fs : List Fetch). fs ++ more) (sym regrouped) ∙ ap (λ (fs : List Fetch). (fs ++ k.own) ++ more) (sym h.fetches_are) in
          and_true (is_well_placed ((first ++ (h.own ++ k.own)) ++ more) n) (all_true (map (is_well_placed ((first ++ (h.own ++ k.own)) ++ more)) ns))
          (ap (λ (fs : List Fetch). is_well_placed fs n) here ∙ h.fit (k.own ++ more))
          (ap (λ (fs : List Fetch). all_true (map (is_well_placed fs) ns)) there ∙ k.fit more);
    }

sequence_kept : (first : List Fetch) (ns : List Node) (last : List Fetch) → is_some_of ns ≡ true → KeepsAll first ns last → Keeps first (node.Sequence ns) last
sequence_kept first ns last some h = record {
  own = h.own;
  fetches_are = h.fetches_are;
  numbered = numbers-sequence ns ∙ h.numbered;
  formed = h.formed;
  fit = λ more. fits-sequence ((first ++ h.own) ++ more) ns ∙ and_true (is_some_of ns) (all_true (map (is_well_placed ((first ++ h.own) ++ more)) ns)) some (h.fit more);
}

parallel_kept : (first : List Fetch) (ns : List Node) (last : List Fetch) → is_some_of ns ≡ true → KeepsAll first ns last → Keeps first (node.Parallel ns) last
parallel_kept first ns last some h = record {
  own = h.own;
  fetches_are = h.fetches_are;
  numbered = numbers-parallel ns ∙ h.numbered;
  formed = h.formed;
  fit = λ more. fits-parallel ((first ++ h.own) ++ more) ns ∙ and_true (is_some_of ns) (all_true (map (is_well_placed ((first ++ h.own) ++ more)) ns)) some (h.fit more);
}

-- ---- by what was read

abbrev pub NodeKept : SoFar → Result (Node × SoFar) PlanFault → Type 0
NodeKept b (Ok p) = Keeps b.fetches p.0 p.1.fetches
NodeKept b (Err f) = Unit {0}

-- there are as many nodes as values
abbrev pub NodesKept : Bool → SoFar → Result (List Node × SoFar) PlanFault → Type 0
NodesKept some b (Ok p) = KeepsAll b.fetches p.0 p.1.fetches × (is_some_of p.0 ≡ some)
NodesKept some b (Err f) = Unit {0}

fetch_result : (s : Standing) (b : SoFar) (v : Json) (r : Result Fetch PlanFault) → IsAnswered (fetch s false b.nodes v) r → NodeKept b (after (fetched b) r)
fetch_result s b v (Ok f) h = root_kept s b v f h
fetch_result s b v (Err f) h = tt

flatten_result : (s : Standing) (b : SoFar) (v : Json) (path : Path) (inner : Json) (r : Result Fetch PlanFault) → IsAnswered (flatten s.entry v) (Ok (path, inner)) → IsAnswered (entity s (suc b.nodes) inner) r → NodeKept b (after (flattened b path) r)
flatten_result s b v path inner (Ok f) h k =
    let some : is_some_of path.steps ≡ true = some_steps (each step_of (elements_in (member v (codes "path")))) path (path_of s.entry (path_in (member v (codes "path"))) (object_in (member v (codes "node"))) path inner h) in
    entity_kept s b (suc b.nodes) inner path f some (entity_is (kind_of inner) s (suc b.nodes) inner f k)
flatten_result s b v path inner (Err f) h k = tt

some_child : (o : Option (List Json)) (vs : List Json) → if_fits are_children o ≡ Some vs → is_some_of vs ≡ true
some_child o vs is = (both_true (is_some_of vs) _ (kept are_children o vs is).1).0

sequence_result : (b : SoFar) (r : Result (List Node × SoFar) PlanFault) → NodesKept true b r → NodeKept b (after (gathered node.Sequence) r)
sequence_result b (Ok p) (h, some) = sequence_kept b.fetches p.0 p.1.fetches some h
sequence_result b (Err f) h = tt

parallel_result : (b : SoFar) (r : Result (List Node × SoFar) PlanFault) → NodesKept true b r → NodeKept b (after (gathered node.Parallel) r)
parallel_result b (Ok p) (h, some) = parallel_kept b.fetches p.0 p.1.fetches some h
parallel_result b (Err f) h = tt

first_result : (b next : SoFar) (n : Node) (some : Bool) (r : Result (List Node × SoFar) PlanFault) → Keeps b.fetches n next.fetches → NodesKept some next r → NodesKept true b (after (with_first_node n) r)
first_result b next n some (Ok p) h (k, is) = (both_kept b.fetches next.fetches p.1.fetches n p.0 h k, refl)
first_result b next n some (Err f) h k = tt

past_kept : (b : SoFar) (some : Bool) (r : Result (List Node × SoFar) PlanFault) → some ≡ true → NodesKept some (one_node_more b) r → NodesKept true b r
past_kept b some (Ok p) is (h, same) = (h, same ∙ is)
past_kept b some (Err f) is h = tt

mutual
  pub node_kept : {s : Standing} {b : SoFar} {v : Json} {r : Result (Node × SoFar) PlanFault} → IsNode s b v r → NodeKept b r
  node_kept (by_kind h) = kind_kept h

  kind_kept : {s : Standing} {o : Option Kind} {b : SoFar} {v : Json} {r : Result (Node × SoFar) PlanFault} → IsOfKind s o b v r → NodeKept b r
  kind_kept of_no_kind = tt
  kind_kept {s = s} (is_fetch {b = b} {v = v} r h) = fetch_result s b v r h
  kind_kept (no_flatten h) = tt
  kind_kept {s = s} (is_flatten {b = b} {v = v} path inner r h k) = flatten_result s b v path inner r h k
  kind_kept (is_sequence {b = b} {v = v} {r = r} h) = sequence_result b r (inside_kept h (some_child (elements_in (member v (codes "nodes")))))
  kind_kept (is_parallel {b = b} {v = v} {r = r} h) = parallel_result b r (inside_kept h (some_child (elements_in (member v (codes "nodes")))))

  inside_kept : {s : Standing} {o : Option (List Json)} {b : SoFar} {r : Result (List Node × SoFar) PlanFault} → AreInside s o b r → ((vs : List Json) → o ≡ Some vs → is_some_of vs ≡ true) → NodesKept true b r
  inside_kept no_nodes some = tt
  inside_kept (in_order {b = b} {vs = vs} {r = r} h) some = past_kept b (is_some_of vs) r (some vs refl) (nodes_kept h)

  nodes_kept : {s : Standing} {b : SoFar} {vs : List Json} {r : Result (List Node × SoFar) PlanFault} → AreNodes s b vs r → NodesKept (is_some_of vs) b r
  nodes_kept (no_more {b = b}) = (none_kept b.fetches, refl)
  nodes_kept (stops h) = tt
  nodes_kept (another {b = b} {next = next} {vs = vs} {n = n} {r = r} h k) = first_result b next n (is_some_of vs) r (node_kept h) (nodes_kept k)
