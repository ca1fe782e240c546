-- What each step of the search leaves, from what the code wrote.
use Rattle.std.proofs.Common.{◌≡◌, ℕ, zero, suc, ◌+◌, ◌-◌, ◌<◌, ◌≤◌, Bool, true, false, List, [], ◌∷◌, ◌++◌, length, set, get_or, take, drop, refl, sym, ap, subst, ◌∙◌, ◌⊎◌, inl, inr, arith, append_assoc, length-append}
use Rattle.std.specs.Prelude.{Contains, All, slice_index_or, sum_by, map, IsTrue, ◌↔◌}
use Rattle.std.proofs.Math.Seq.{take-append_seam, drop-append_seam, set-append_seam, get_or-append_right}
use Rattle.std.proofs.lemmas.List.{get_or_push, get_or_append_left, append-nil, get_or-map, length-map}
use Rattle.std.proofs.lemmas.List.Elements.{Contains-get_or, Contains-append_left, Contains-append_right}
use Rattle.std.proofs.lemmas.List.Sums.{get_or-le-sum_by}
use Rattle.gql_spreads.specs.declared.search.Mark.{Mark}
use Rattle.gql_spreads.specs.declared.search.Mark.TheVariants as mark
use Rattle.gql_spreads.specs.declared.search.Group.{Group}
use Rattle.gql_spreads.specs.declared.search.Search.{Search}
use Rattle.gql_spreads.specs.Graph.{IsEdge, ReachesNode, IsGraph, AreCycles}
use Rattle.gql_spreads.specs.Search.{NodeGroup, nodes_of, edges_of, groups_of, group_at, group_on, mark_at, IsDone, StaySeen, done_all, StandsOnOthers, IsSearchSound, KeepsStack, steps_for, steps_left, IsStep, IsBlank, is_cyclic}
use Rattle.gql_spreads.proofs.Members.{contains_none, edge_within, contains_along, place_contains}
use Rattle.gql_spreads.proofs.Marks.{fresh_open, fresh_done, set_here, done_seen, set_seen, set_left, done_left, seen_within}
use Rattle.gql_spreads.proofs.Stack.{not_fresh, without, last_source, skipped, circled, joined, joins, entry, entered_marks, enters_from, enters_first}
use Rattle.gql_spreads.proofs.Leaving.{leaves}

-- ---- lists that end in one element

module _ {A : Type 0} where
  pub length_one : (xs : List A) (x : A) → length (xs ++ (x ∷ [])) ≡ length xs + 1
  length_one xs x = length-append xs (x ∷ [])

  pub last_at : (all xs : List A) (x d : A) (n : ℕ) → all ≡ xs ++ (x ∷ []) → n ≡ length all → get_or all (n - 1) d ≡ x
  last_at all xs x d n is count =
      let total : length all ≡ length xs + 1 = ap length is ∙ length_one xs x in
      ap (λ (q : List A). get_or q (n - 1) d) is ∙ get_or_push xs x d (n - 1) (omega arith)

  pub front_of : (all xs : List A) (x : A) (n : ℕ) → all ≡ xs ++ (x ∷ []) → n ≡ length all → take (n - 1) all ≡ xs
  front_of all xs x n is count =
      let total : length all ≡ length xs + 1 = ap length is ∙ length_one xs x in
      let at : n - 1 ≡ length xs = omega arith in
      ap (λ (k : ℕ). take k all) at ∙ ap (take (length xs)) is ∙ take-append_seam xs (x ∷ [])

  pub set_last : (xs : List A) (x y : A) (n : ℕ) → n ≡ length xs → set (xs ++ (x ∷ [])) n y ≡ xs ++ (y ∷ [])
  set_last xs x y n at = ap (λ (k : ℕ). set (xs ++ (x ∷ [])) k y) at ∙ set-append_seam xs x [] y

  pub split_last : (xs : List A) → 0 < length xs → (es : List A) × (w : A) × (xs ≡ es ++ (w ∷ []))
  split_last [] h = absurd (omega arith)
  split_last (x ∷ []) h = ([], x, refl)
  split_last (x ∷ (y ∷ ys)) h = let k = split_last (y ∷ ys) (omega arith) in (x ∷ k.0, k.1, ap (λ (q : List A). x ∷ q) k.2)

  pub no_length : (xs : List A) → length xs ≡ 0 → xs ≡ []
  no_length [] e = refl
  no_length (x ∷ xs) e = absurd (omega arith)

-- ---- the last group

pub record Top (graph : List (List ℕ)) (s : Search) : Type 0 where
  pub g : NodeGroup
  pub gs : List NodeGroup
  pub sound : IsSearchSound graph s.marks.items (g ∷ gs)
  pub nodes_is : s.nodes.items ≡ nodes_of gs ++ g.nodes
  pub edges_is : s.edges.items ≡ edges_of gs ++ g.edges
  pub groups_is : s.groups.items ≡ groups_of gs ++ (group_on gs g.cyclic ∷ [])

pub top : (graph : List (List ℕ)) (s : Search) → 0 < length s.groups.items → KeepsStack graph s → Top graph s
top graph s some k = go k.stack k.sound k.nodes_is k.edges_is k.groups_is
  where
    go : (st : List NodeGroup) → IsSearchSound graph s.marks.items st → s.nodes.items ≡ nodes_of st → s.edges.items ≡ edges_of st → s.groups.items ≡ groups_of st → Top graph s
    go [] sound n e gr = let none : length s.groups.items ≡ 0 = ap length gr in absurd (omega arith)
    go (g ∷ gs) sound n e gr = record { g = g; gs = gs; sound = sound; nodes_is = n; edges_is = e; groups_is = gr }

module _ (graph : List (List ℕ)) (s t : Search) (k : Top graph s) where
  pub group_is : (group : Group) → group ≡ get_or s.groups.items (length s.groups.items - 1) group → group ≡ group_on k.gs k.g.cyclic
  group_is group at = at ∙ last_at s.groups.items (groups_of k.gs) (group_on k.gs k.g.cyclic) group (length s.groups.items) k.groups_is refl

  own_nodes : drop (length (nodes_of k.gs)) s.nodes.items ≡ k.g.nodes
  own_nodes = ap (drop (length (nodes_of k.gs))) k.nodes_is ∙ drop-append_seam (nodes_of k.gs) k.g.nodes

  pub own_marked : (group : Group) → group ≡ group_on k.gs k.g.cyclic → All (λ v. v < length s.marks.items) (drop group.node s.nodes.items)
  own_marked group is = subst (λ (q : Group). All (λ v. v < length s.marks.items) (drop q.node s.nodes.items)) (sym is)
      (subst (λ (q : List ℕ). All (λ v. v < length s.marks.items) q) (sym own_nodes) each)
    where
      each : All (λ v. v < length s.marks.items) k.g.nodes
      each p d h = seen_within s.marks.items (get_or k.g.nodes p d)
          (not_fresh graph s.marks.items (k.g ∷ k.gs) k.sound (get_or k.g.nodes p d) (Contains-append_right (nodes_of k.gs) k.g.nodes (get_or k.g.nodes p d) (Contains-get_or k.g.nodes p d h)))

  pub own_begins : (group : Group) → group ≡ group_on k.gs k.g.cyclic → group.node ≤ length s.nodes.items
  own_begins group is =
      let total : length s.nodes.items ≡ length (nodes_of k.gs) + length k.g.nodes = ap length k.nodes_is ∙ length-append (nodes_of k.gs) k.g.nodes in
      let at : group.node ≡ length (nodes_of k.gs) = ap (λ (q : Group). q.node) is in
      omega arith

  -- no edge is left
  pub left : (group : Group) → group ≡ group_on k.gs k.g.cyclic → length s.edges.items ≤ group.edge
      → t.marks.items ≡ done_all (drop group.node s.nodes.items) group.cyclic s.marks.items → t.nodes.items ≡ take group.node s.nodes.items → t.edges.items ≡ s.edges.items
      → t.groups.items ≡ take (length s.groups.items - 1) s.groups.items → IsStep graph s t
  left group is over marks_are nodes_are edges_are groups_are = record {
    keeps = record { stack = k.gs; sound = subst (λ (q : List Mark). IsSearchSound graph q k.gs) (sym marks_is) (leaves graph s.marks.items k.g k.gs none k.sound); nodes_is = nodes_are ∙ ap (λ (n : ℕ). take n s.nodes.items) node ∙ ap (take (length (nodes_of k.gs))) k.nodes_is ∙ take-append_seam (nodes_of k.gs) k.g.nodes; edges_is = edges_are ∙ k.edges_is ∙ ap (λ (q : List ℕ). edges_of k.gs ++ q) none ∙ append-nil (edges_of k.gs); groups_is = fewer };
    falls = falls;
    seen = subst (λ (q : List Mark). StaySeen s.marks.items q) (sym marks_is) (done_seen k.g.nodes k.g.cyclic s.marks.items);
  }
    where
      node : group.node ≡ length (nodes_of k.gs)
      node = ap (λ (q : Group). q.node) is

      none : k.g.edges ≡ []
      none =
          let total : length s.edges.items ≡ length (edges_of k.gs) + length k.g.edges = ap length k.edges_is ∙ length-append (edges_of k.gs) k.g.edges in
          let at : group.edge ≡ length (edges_of k.gs) = ap (λ (q : Group). q.edge) is in
          no_length k.g.edges (omega arith)

      marks_is : t.marks.items ≡ done_all k.g.nodes k.g.cyclic s.marks.items
      marks_is = marks_are ∙ ap (λ (q : Group). done_all (drop q.node s.nodes.items) q.cyclic s.marks.items) is ∙ ap (λ (q : List ℕ). done_all q k.g.cyclic s.marks.items) own_nodes

      fewer : t.groups.items ≡ groups_of k.gs
      fewer = groups_are ∙ front_of s.groups.items (groups_of k.gs) (group_on k.gs k.g.cyclic) (length s.groups.items) k.groups_is refl

      falls : steps_left graph t < steps_left graph s
      falls =
          let marks : sum_by (steps_for (sum_by length graph)) t.marks.items ≤ sum_by (steps_for (sum_by length graph)) s.marks.items =
          subst (λ (q : List Mark). sum_by (steps_for (sum_by length graph)) q ≤ sum_by (steps_for (sum_by length graph)) s.marks.items) (sym marks_is)
          (done_left (sum_by length graph) k.g.nodes k.g.cyclic s.marks.items
          (λ v h. seen_within s.marks.items v (not_fresh graph s.marks.items (k.g ∷ k.gs) k.sound v (Contains-append_right (nodes_of k.gs) k.g.nodes v h)))) in
          let edges : length t.edges.items ≡ length s.edges.items = ap length edges_are in
          let before : length s.groups.items ≡ length (groups_of k.gs) + 1 = ap length k.groups_is ∙ length_one (groups_of k.gs) (group_on k.gs k.g.cyclic) in
          let after : length t.groups.items ≡ length (groups_of k.gs) = ap length fewer in
          omega arith

  -- ---- an edge is left

  pub record Pending : Type 0 where
    pub es : List ℕ
    pub w : ℕ
    pub cut : k.g.edges ≡ es ++ (w ∷ [])
    pub whole : s.edges.items ≡ (edges_of k.gs ++ es) ++ (w ∷ [])

  pub pending : (group : Group) → group ≡ group_on k.gs k.g.cyclic → group.edge < length s.edges.items → Pending
  pending group is under =
      let total : length s.edges.items ≡ length (edges_of k.gs) + length k.g.edges = ap length k.edges_is ∙ length-append (edges_of k.gs) k.g.edges in
      let at : group.edge ≡ length (edges_of k.gs) = ap (λ (q : Group). q.edge) is in
      let l = split_last k.g.edges (omega arith) in
      record { es = l.0; w = l.1; cut = l.2; whole = k.edges_is ∙ ap (λ (q : List ℕ). edges_of k.gs ++ q) l.2 ∙ sym (append_assoc (edges_of k.gs) l.0 (l.1 ∷ [])) }

  module _ (p : Pending) where
    pub pending_is : (node d : ℕ) → node ≡ get_or s.edges.items (length s.edges.items - 1) d → node ≡ p.w
    pending_is node d at = at ∙ last_at s.edges.items (edges_of k.gs ++ p.es) p.w d (length s.edges.items) p.whole refl

    pub pending_node : IsGraph graph → p.w < length graph
    pending_node nodes = let v = last_source graph s.marks.items k.g k.gs p.es p.w p.cut k.sound.stand.0 in edge_within graph nodes v.0 p.w v.2

    edges_front : take (length s.edges.items - 1) s.edges.items ≡ edges_of k.gs ++ p.es
    edges_front = front_of s.edges.items (edges_of k.gs ++ p.es) p.w (length s.edges.items) p.whole refl

    edges_fall : length s.edges.items ≡ length (edges_of k.gs ++ p.es) + 1
    edges_fall = ap length p.whole ∙ length_one (edges_of k.gs ++ p.es) p.w

    pub skips : (c : Bool) → mark_at s.marks.items p.w ≡ mark.Done c → t.marks.items ≡ s.marks.items → t.nodes.items ≡ s.nodes.items → t.edges.items ≡ take (length s.edges.items - 1) s.edges.items
        → t.groups.items ≡ s.groups.items → IsStep graph s t
    skips c is marks_are nodes_are edges_are groups_are = record {
      keeps = record { stack = without k.g p.es k.g.cyclic ∷ k.gs; sound = subst (λ (q : List Mark). IsSearchSound graph q (without k.g p.es k.g.cyclic ∷ k.gs)) (sym marks_are) (skipped graph s.marks.items k.g k.gs p.es p.w c p.cut is k.sound); nodes_is = nodes_are ∙ k.nodes_is; edges_is = edges_are ∙ edges_front; groups_is = groups_are ∙ k.groups_is };
      falls = (
          let marks : sum_by (steps_for (sum_by length graph)) t.marks.items ≡ sum_by (steps_for (sum_by length graph)) s.marks.items = ap (sum_by (steps_for (sum_by length graph))) marks_are in
          let edges : length t.edges.items ≡ length (edges_of k.gs ++ p.es) = ap length (edges_are ∙ edges_front) in
          let groups : length t.groups.items ≡ length s.groups.items = ap length groups_are in
          let before : length s.edges.items ≡ length (edges_of k.gs ++ p.es) + 1 = edges_fall in
          omega arith
          );
      seen = subst (λ (q : List Mark). StaySeen s.marks.items q) (sym marks_are) (λ v h. h);
    }

    pub circles : (group : Group) (place : ℕ) → group ≡ group_on k.gs k.g.cyclic → mark_at s.marks.items p.w ≡ mark.Open place → group.node ≤ place → t.marks.items ≡ s.marks.items → t.nodes.items ≡ s.nodes.items
        → t.edges.items ≡ take (length s.edges.items - 1) s.edges.items
        → ((xs : List Group) (g : Group) → s.groups.items ≡ xs ++ (g ∷ []) → t.groups.items ≡ xs ++ (group_at group.node group.edge true ∷ [])) → IsStep graph s t
    circles group place is opened above marks_are nodes_are edges_are groups_are = record {
      keeps = record { stack = without k.g p.es true ∷ k.gs; sound = subst (λ (q : List Mark). IsSearchSound graph q (without k.g p.es true ∷ k.gs)) (sym marks_are) (circled graph s.marks.items k.g k.gs p.es p.w p.cut in_g k.sound); nodes_is = nodes_are ∙ k.nodes_is; edges_is = edges_are ∙ edges_front; groups_is = now };
      falls = (
          let marks : sum_by (steps_for (sum_by length graph)) t.marks.items ≡ sum_by (steps_for (sum_by length graph)) s.marks.items = ap (sum_by (steps_for (sum_by length graph))) marks_are in
          let edges : length t.edges.items ≡ length (edges_of k.gs ++ p.es) = ap length (edges_are ∙ edges_front) in
          let groups : length t.groups.items ≡ length (groups_of k.gs) + 1 = ap length now ∙ length_one (groups_of k.gs) (group_on k.gs true) in
          let were : length s.groups.items ≡ length (groups_of k.gs) + 1 = ap length k.groups_is ∙ length_one (groups_of k.gs) (group_on k.gs k.g.cyclic) in
          let before : length s.edges.items ≡ length (edges_of k.gs ++ p.es) + 1 = edges_fall in
          omega arith
          );
      seen = subst (λ (q : List Mark). StaySeen s.marks.items q) (sym marks_are) (λ v h. h);
    }
      where
        now : t.groups.items ≡ groups_of k.gs ++ (group_on k.gs true ∷ [])
        now = groups_are (groups_of k.gs) (group_on k.gs k.g.cyclic) k.groups_is ∙ ap (λ (q : Group). groups_of k.gs ++ (group_at q.node q.edge true ∷ [])) is

        in_g : Contains k.g.nodes p.w
        in_g =
            let at = k.sound.placed p.w place opened in
            let from : group.node ≡ length (nodes_of k.gs) = ap (λ (q : Group). q.node) is in
            let within : place < length (nodes_of k.gs ++ k.g.nodes) = at.0 in
            let total : length (nodes_of k.gs ++ k.g.nodes) ≡ length (nodes_of k.gs) + length k.g.nodes = length-append (nodes_of k.gs) k.g.nodes in
            place_contains k.g.nodes p.w (place - length (nodes_of k.gs)) (omega arith) (sym (get_or-append_right (nodes_of k.gs) k.g.nodes place 0 (omega arith)) ∙ at.1)

    -- ---- to a node below

    below_some : (place : ℕ) → mark_at s.marks.items p.w ≡ mark.Open place → place < length (nodes_of k.gs) → Contains (nodes_of k.gs) p.w
    below_some place opened under =
        let at = k.sound.placed p.w place opened in
        place_contains (nodes_of k.gs) p.w place under (sym (get_or_append_left (nodes_of k.gs) k.g.nodes 0 place under) ∙ at.1)

    pub two_groups : (group : Group) (place : ℕ) → group ≡ group_on k.gs k.g.cyclic → place < group.node → 1 < length s.groups.items
    two_groups group place is under = go k.gs (ap (λ (q : Group). q.node) is) k.groups_is
      where
        go : (gs : List NodeGroup) → group.node ≡ length (nodes_of gs) → s.groups.items ≡ groups_of gs ++ (group_on gs k.g.cyclic ∷ []) → 1 < length s.groups.items
        go [] at are = let none : group.node ≡ 0 = at in absurd (omega arith)
        go (f ∷ fs) at are =
            let one : length s.groups.items ≡ length (groups_of (f ∷ fs)) + 1 = ap length are ∙ length_one (groups_of (f ∷ fs)) (group_on (f ∷ fs) k.g.cyclic) in
            let two : length (groups_of (f ∷ fs)) ≡ length (groups_of fs) + 1 = length_one (groups_of fs) (group_on fs f.cyclic) in
            omega arith

    pub swallows : (group : Group) (place : ℕ) → group ≡ group_on k.gs k.g.cyclic → mark_at s.marks.items p.w ≡ mark.Open place → place < group.node → t.marks.items ≡ s.marks.items → t.nodes.items ≡ s.nodes.items
        → t.edges.items ≡ s.edges.items
        → ((xs : List Group) (f g : Group) → s.groups.items ≡ (xs ++ (f ∷ [])) ++ (g ∷ []) → t.groups.items ≡ xs ++ (group_at f.node f.edge true ∷ [])) → IsStep graph s t
    swallows group place is opened under marks_are nodes_are edges_are groups_are = go k.gs k.sound k.nodes_is k.edges_is k.groups_is at (below_some place opened (subst (λ (n : ℕ). place < n) at under))
      where
        at : group.node ≡ length (nodes_of k.gs)
        at = ap (λ (q : Group). q.node) is

        in_edges : Contains k.g.edges p.w
        in_edges = contains_along (p.es ++ (p.w ∷ [])) k.g.edges p.w (sym p.cut) (Contains-append_right p.es (p.w ∷ []) p.w (0, omega arith, refl))

        go : (gs : List NodeGroup) → IsSearchSound graph s.marks.items (k.g ∷ gs) → s.nodes.items ≡ nodes_of gs ++ k.g.nodes → s.edges.items ≡ edges_of gs ++ k.g.edges → s.groups.items ≡ groups_of gs ++ (group_on gs k.g.cyclic ∷ [])
            → group.node ≡ length (nodes_of gs) → Contains (nodes_of gs) p.w → IsStep graph s t
        go [] sound n e gr from below = absurd (contains_none p.w below)
        go (f ∷ fs) sound n e gr from below = record {
          keeps = record {
            stack = joined k.g f ∷ fs;
            sound = subst (λ (q : List Mark). IsSearchSound graph q (joined k.g f ∷ fs)) (sym marks_are) (joins graph s.marks.items k.g f fs p.w in_edges below sound);
            nodes_is = nodes_are ∙ n ∙ append_assoc (nodes_of fs) f.nodes k.g.nodes;
            edges_is = edges_are ∙ e ∙ append_assoc (edges_of fs) f.edges k.g.edges;
            groups_is = now;
          };
          falls = (
              let marks : sum_by (steps_for (sum_by length graph)) t.marks.items ≡ sum_by (steps_for (sum_by length graph)) s.marks.items = ap (sum_by (steps_for (sum_by length graph))) marks_are in
              let edges : length t.edges.items ≡ length s.edges.items = ap length edges_are in
              let groups : length t.groups.items ≡ length (groups_of fs) + 1 = ap length now ∙ length_one (groups_of fs) (group_on fs true) in
              let one : length s.groups.items ≡ length (groups_of (f ∷ fs)) + 1 = ap length gr ∙ length_one (groups_of (f ∷ fs)) (group_on (f ∷ fs) k.g.cyclic) in
              let two : length (groups_of (f ∷ fs)) ≡ length (groups_of fs) + 1 = length_one (groups_of fs) (group_on fs f.cyclic) in
              omega arith
              );
          seen = subst (λ (q : List Mark). StaySeen s.marks.items q) (sym marks_are) (λ v h. h);
        }
          where
            now : t.groups.items ≡ groups_of fs ++ (group_on fs true ∷ [])
            now = groups_are (groups_of fs) (group_on fs f.cyclic) (group_on (f ∷ fs) k.g.cyclic) gr

    -- ---- to a fresh node

    pub opens : IsGraph graph → mark_at s.marks.items p.w ≡ mark.Fresh → t.marks.items ≡ set s.marks.items p.w (mark.Open (length s.nodes.items)) → t.nodes.items ≡ s.nodes.items ++ (p.w ∷ [])
        → t.edges.items ≡ take (length s.edges.items - 1) s.edges.items ++ slice_index_or graph p.w []
        → t.groups.items ≡ s.groups.items ++ (group_at (length s.nodes.items) (length (take (length s.edges.items - 1) s.edges.items)) false ∷ []) → IsStep graph s t
    opens graph_is fresh marks_are nodes_are edges_are groups_are = record {
      keeps = record {
        stack = entry graph p.w ∷ (without k.g p.es k.g.cyclic ∷ k.gs);
        sound = subst (λ (q : List Mark). IsSearchSound graph q (entry graph p.w ∷ (without k.g p.es k.g.cyclic ∷ k.gs))) (sym marks_is) (enters_from graph s.marks.items k.g k.gs p.es p.w p.cut fresh is_node k.sound);
        nodes_is = nodes_are ∙ ap (λ (q : List ℕ). q ++ (p.w ∷ [])) k.nodes_is;
        edges_is = edges_are ∙ ap (λ (q : List ℕ). q ++ slice_index_or graph p.w []) edges_front;
        groups_is = now;
      };
      falls = falls;
      seen = subst (λ (q : List Mark). StaySeen s.marks.items q) (sym marks_are) (set_seen s.marks.items p.w (mark.Open (length s.nodes.items)) (λ e. fresh_open (length s.nodes.items) (sym e)));
    }
      where
        is_node : p.w < length graph
        is_node = pending_node graph_is

        marks_is : t.marks.items ≡ entered_marks s.marks.items (without k.g p.es k.g.cyclic ∷ k.gs) p.w
        marks_is = marks_are ∙ ap (λ (q : List ℕ). set s.marks.items p.w (mark.Open (length q))) k.nodes_is

        now : t.groups.items ≡ (groups_of k.gs ++ (group_on k.gs k.g.cyclic ∷ [])) ++ (group_on (without k.g p.es k.g.cyclic ∷ k.gs) false ∷ [])
        now = groups_are
            ∙ ap (λ (q : List Group). q ++ (group_at (length s.nodes.items) (length (take (length s.edges.items - 1) s.edges.items)) false ∷ [])) k.groups_is
            ∙ ap (λ (q : List ℕ). (groups_of k.gs ++ (group_on k.gs k.g.cyclic ∷ [])) ++ (group_at (length q) (length (take (length s.edges.items - 1) s.edges.items)) false ∷ [])) k.nodes_is
            ∙ ap (λ (q : List ℕ). (groups_of k.gs ++ (group_on k.gs k.g.cyclic ∷ [])) ++ (group_at (length (nodes_of k.gs ++ k.g.nodes)) (length q) false ∷ [])) edges_front

        falls : steps_left graph t < steps_left graph s
        falls =
            let within : p.w < length s.marks.items = subst (λ (n : ℕ). p.w < n) (sym k.sound.counts) is_node in
            let one : sum_by (steps_for (sum_by length graph)) (set s.marks.items p.w (mark.Open (length s.nodes.items))) + steps_for (sum_by length graph) (mark_at s.marks.items p.w) ≡ sum_by (steps_for (sum_by length graph)) s.marks.items + 0 =
            set_left (sum_by length graph) s.marks.items p.w (mark.Open (length s.nodes.items)) within in
            let same : steps_for (sum_by length graph) (mark_at s.marks.items p.w) ≡ sum_by length graph + 2 = ap (steps_for (sum_by length graph)) fresh in
            let marks : sum_by (steps_for (sum_by length graph)) t.marks.items ≡ sum_by (steps_for (sum_by length graph)) (set s.marks.items p.w (mark.Open (length s.nodes.items))) = ap (sum_by (steps_for (sum_by length graph))) marks_are in
            let edges : length t.edges.items ≡ length (edges_of k.gs ++ p.es) + length (slice_index_or graph p.w []) = ap length (edges_are ∙ ap (λ (q : List ℕ). q ++ slice_index_or graph p.w []) edges_front) ∙ length-append (edges_of k.gs ++ p.es) (slice_index_or graph p.w []) in
            let few : length (slice_index_or graph p.w []) ≤ sum_by length graph = get_or-le-sum_by length graph p.w [] is_node in
            let before : length s.edges.items ≡ length (edges_of k.gs ++ p.es) + 1 = edges_fall in
            let groups : length t.groups.items ≡ length s.groups.items + 1 = ap length groups_are ∙ length_one s.groups.items (group_at (length s.nodes.items) (length (take (length s.edges.items - 1) s.edges.items)) false) in
            omega arith

-- ---- a root

-- nothing is open
pub empty_stack : (graph : List (List ℕ)) (s : Search) → KeepsStack graph s → s.groups.items ≡ [] → IsSearchSound graph s.marks.items [] × (s.nodes.items ≡ []) × (s.edges.items ≡ [])
empty_stack graph s k closed = go k.stack k.sound k.nodes_is k.edges_is k.groups_is
  where
    go : (st : List NodeGroup) → IsSearchSound graph s.marks.items st → s.nodes.items ≡ nodes_of st → s.edges.items ≡ edges_of st → s.groups.items ≡ groups_of st → IsSearchSound graph s.marks.items [] × (s.nodes.items ≡ []) × (s.edges.items ≡ [])
    go [] sound n e gr = (sound, n, e)
    go (g ∷ gs) sound n e gr =
        let none : 0 ≡ length (groups_of gs) + 1 = ap length (sym closed ∙ gr) ∙ length_one (groups_of gs) (group_on gs g.cyclic) in
        absurd (omega arith)

pub begins : (graph : List (List ℕ)) (s t : Search) (root : ℕ) → KeepsStack graph s → s.groups.items ≡ [] → root < length graph → mark_at s.marks.items root ≡ mark.Fresh
    → t.marks.items ≡ set s.marks.items root (mark.Open (length s.nodes.items)) → t.nodes.items ≡ s.nodes.items ++ (root ∷ []) → t.edges.items ≡ s.edges.items ++ slice_index_or graph root []
    → t.groups.items ≡ s.groups.items ++ (group_at (length s.nodes.items) (length s.edges.items) false ∷ []) → KeepsStack graph t
begins graph s t root k closed is_node fresh marks_are nodes_are edges_are groups_are =
    let none = empty_stack graph s k closed in
    let marks_is : t.marks.items ≡ entered_marks s.marks.items [] root = marks_are ∙ ap (λ (q : List ℕ). set s.marks.items root (mark.Open (length q))) none.1 in
    record {
      stack = entry graph root ∷ [];
      sound = subst (λ (q : List Mark). IsSearchSound graph q (entry graph root ∷ [])) (sym marks_is) (enters_first graph s.marks.items root fresh is_node none.0);
      nodes_is = nodes_are ∙ ap (λ (q : List ℕ). q ++ (root ∷ [])) none.1;
      edges_is = edges_are ∙ ap (λ (q : List ℕ). q ++ slice_index_or graph root []) none.2;
      groups_is = groups_are ∙ ap (λ (q : List Group). q ++ (group_at (length s.nodes.items) (length s.edges.items) false ∷ [])) closed
          ∙ ap (λ (q : List ℕ). group_at (length q) (length s.edges.items) false ∷ []) none.1 ∙ ap (λ (q : List ℕ). group_at 0 (length q) false ∷ []) none.2;
    }

pub begun_seen : (marks : List Mark) (root place : ℕ) → root < length marks → mark_at (set marks root (mark.Open place)) root ≡ mark.Fresh → ⊥
begun_seen marks root place within now = fresh_open place (sym now ∙ set_here marks root (mark.Open place) within)

pub starts : (graph : List (List ℕ)) (s : Search) → IsBlank (length graph) s → KeepsStack graph s
starts graph s b = record {
  stack = [];
  sound = record {
    counts = b.counts;
    stand = tt;
    here = λ p h. absurd (omega arith);
    placed = λ v p o. absurd (fresh_open p (sym (b.fresh v) ∙ o));
    on_cycle = λ v d. absurd (fresh_done true (sym (b.fresh v) ∙ d));
    on_none = λ v d. absurd (fresh_done false (sym (b.fresh v) ∙ d));
    closed = λ v w d e. absurd (fresh_done d.0 (sym (b.fresh v) ∙ d.1));
  };
  nodes_is = b.nodes;
  edges_is = b.edges;
  groups_is = b.groups;
}

-- ---- the answer

pub answers : (graph : List (List ℕ)) (s : Search) → KeepsStack graph s → s.groups.items ≡ [] → ((v : ℕ) → v < length graph → mark_at s.marks.items v ≡ mark.Fresh → ⊥) → AreCycles graph (map is_cyclic s.marks.items)
answers graph s k closed seen = record {
  each = length-map s.marks.items is_cyclic ∙ sound.counts;
  right = λ node h. subst (λ (b : Bool). IsTrue b ↔ ReachesNode graph node node) (sym (get_or-map is_cyclic s.marks.items node mark.Fresh false (subst (λ (n : ℕ). node < n) (sym sound.counts) h))) (go node (seen node h) (mark_at s.marks.items node) refl);
}
  where
    sound : IsSearchSound graph s.marks.items []
    sound = (empty_stack graph s k closed).0

    go : (node : ℕ) → (mark_at s.marks.items node ≡ mark.Fresh → ⊥) → (m : Mark) → mark_at s.marks.items node ≡ m → IsTrue (is_cyclic m) ↔ ReachesNode graph node node
    go node seen mark.Fresh is = absurd (seen is)
    go node seen (mark.Open p) is = let none : p < 0 = (sound.placed node p is).0 in absurd (omega arith)
    go node seen (mark.Done true) is = (λ h. sound.on_cycle node is, λ h. refl)
    go node seen (mark.Done false) is = (λ h. absurd (differ h), λ r. absurd (sound.on_none node is r))
      where
        differ : false ≡ true → ⊥
        differ e = cc
