-- The facts at each branch of a step, from what the code read.
use Rattle.std.proofs.Common.{◌≡◌, ℕ, zero, suc, ◌+◌, ◌-◌, ◌<◌, ◌≤◌, Bool, true, false, List, [], ◌∷◌, ◌++◌, length, set, get_or, take, drop, refl, sym, ap, subst, ◌∙◌, ◌⊎◌, inl, inr, arith, vec_len}
use Rattle.std.specs.Prelude.{All, slice_index_or, map}
use Rattle.std.proofs.lemmas.Bool.{cases_lt}
use Rattle.std.proofs.lemmas.List.{get_or_default, take_all}
use Rattle.gql_spreads.specs.declared.search.Mark.{Mark}
use Rattle.gql_spreads.specs.declared.search.Mark.TheVariants as mark
use Rattle.gql_spreads.specs.declared.search.Group.{Group}
use Rattle.gql_spreads.specs.declared.search.Search.{Search}
use Rattle.gql_spreads.specs.Graph.{IsGraph, AreCycles}
use Rattle.gql_spreads.specs.Search.{group_at, group_on, mark_at, StaySeen, done_all, KeepsStack, IsStep, is_cyclic}
use Rattle.gql_spreads.proofs.Marks.{set_seen, fresh_open}
use Rattle.gql_spreads.proofs.Kept.{Top, top, group_is, own_marked, own_begins, left, Pending, pending, pending_is, pending_node, skips, circles, two_groups, swallows, opens, last_at, begins, begun_seen, answers}

pub mark_is : (marks : List Mark) (v : ℕ) (x m : Mark) → v < length marks → x ≡ get_or marks v x → x ≡ m → mark_at marks v ≡ m
mark_is marks v x m within at is = get_or_default marks v mark.Fresh x within ∙ sym at ∙ is

module _ (graph : List (List ℕ)) (s : Search) (group : Group) (n : ℕ) (some : 0 < vec_len s.groups) (keeps : KeepsStack graph s) (count : n ≡ vec_len s.groups) (at : group ≡ get_or s.groups.items (n - 1) group) where
  k : Top graph s
  k = top graph s (subst (λ (m : ℕ). 0 < m) s.groups.ok.0 some) keeps

  is : group ≡ group_on k.gs k.g.cyclic
  is = group_is graph s s k group (at ∙ ap (λ (m : ℕ). get_or s.groups.items (m - 1) group) (count ∙ s.groups.ok.0))

  pub leave_within : group.node ≤ vec_len s.nodes
  leave_within = subst (λ (m : ℕ). group.node ≤ m) (sym s.nodes.ok.0) (own_begins graph s s k group is)

  pub leave_marked : All (λ v. v < vec_len s.marks) (drop group.node s.nodes.items)
  leave_marked = subst (λ (m : ℕ). All (λ v. v < m) (drop group.node s.nodes.items)) (sym s.marks.ok.0) (own_marked graph s s k group is)

  pub leave_step : (t : Search) → vec_len s.edges ≤ group.edge → t.marks.items ≡ done_all (drop group.node s.nodes.items) group.cyclic s.marks.items → t.nodes.items ≡ take group.node s.nodes.items
      → t.edges.items ≡ s.edges.items → t.groups.items ≡ take (vec_len s.groups - 1) s.groups.items → IsStep graph s t
  leave_step t over marks nodes edges groups = left graph s t k group is (subst (λ (m : ℕ). m ≤ group.edge) s.edges.ok.0 over) marks nodes edges (groups ∙ ap (λ (m : ℕ). take (m - 1) s.groups.items) s.groups.ok.0)

  module _ (node m : ℕ) (under : group.edge < vec_len s.edges) (edge_count : m ≡ vec_len s.edges) (last : node ≡ get_or s.edges.items (m - 1) node) where
    p : Pending graph s s k
    p = pending graph s s k group is (subst (λ (e : ℕ). group.edge < e) s.edges.ok.0 under)

    node_is : node ≡ p.w
    node_is = pending_is graph s s k p node node (last ∙ ap (λ (e : ℕ). get_or s.edges.items (e - 1) node) (edge_count ∙ s.edges.ok.0))

    pub node_within : IsGraph graph → node < length graph
    node_within nodes = subst (λ (v : ℕ). v < length graph) (sym node_is) (pending_node graph s s k p nodes)

    within : IsGraph graph → node < length s.marks.items
    within nodes = subst (λ (e : ℕ). node < e) (sym k.sound.counts) (node_within nodes)

    pub node_marked : IsGraph graph → node < vec_len s.marks
    node_marked nodes = subst (λ (e : ℕ). node < e) (sym s.marks.ok.0) (within nodes)

    marked : (x m : Mark) → IsGraph graph → x ≡ get_or s.marks.items node x → x ≡ m → mark_at s.marks.items p.w ≡ m
    marked x m nodes at is = ap (mark_at s.marks.items) (sym node_is) ∙ mark_is s.marks.items node x m (within nodes) at is

    pub swallow_two : (place : ℕ) → place < group.node → 1 < vec_len s.groups
    swallow_two place below = subst (λ (e : ℕ). 1 < e) (sym s.groups.ok.0) (two_groups graph s s k p group place is below)

    pub swallow_step : (t : Search) (x : Mark) (place : ℕ) → IsGraph graph → x ≡ get_or s.marks.items node x → x ≡ mark.Open place → place < group.node → t.marks.items ≡ s.marks.items → t.nodes.items ≡ s.nodes.items → t.edges.items ≡ s.edges.items
        → ((xs : List Group) (f g : Group) → s.groups.items ≡ (xs ++ (f ∷ [])) ++ (g ∷ []) → t.groups.items ≡ xs ++ (group_at f.node f.edge true ∷ [])) → IsStep graph s t
    swallow_step t x place nodes_ok at opened below marks nodes edges groups = swallows graph s t k (same t) group place is (marked x (mark.Open place) nodes_ok at opened) below marks nodes edges groups
      where
        same : (t : Search) → Pending graph s t k
        same t = record { es = p.es; w = p.w; cut = p.cut; whole = p.whole }

    pub circle_step : (t : Search) (x : Mark) (place : ℕ) → IsGraph graph → x ≡ get_or s.marks.items node x → x ≡ mark.Open place → group.node ≤ place → t.marks.items ≡ s.marks.items → t.nodes.items ≡ s.nodes.items
        → t.edges.items ≡ take (vec_len s.edges - 1) s.edges.items
        → ((xs : List Group) (g : Group) → s.groups.items ≡ xs ++ (g ∷ []) → t.groups.items ≡ xs ++ (group_at group.node group.edge true ∷ [])) → IsStep graph s t
    circle_step t x place nodes_ok at opened above marks nodes edges groups = circles graph s t k (same t) group place is (marked x (mark.Open place) nodes_ok at opened) above marks nodes (edges ∙ ap (λ (e : ℕ). take (e - 1) s.edges.items) s.edges.ok.0) groups
      where
        same : (t : Search) → Pending graph s t k
        same t = record { es = p.es; w = p.w; cut = p.cut; whole = p.whole }

    pub skip_step : (t : Search) (x : Mark) (c : Bool) → IsGraph graph → x ≡ get_or s.marks.items node x → x ≡ mark.Done c → t.marks.items ≡ s.marks.items → t.nodes.items ≡ s.nodes.items
        → t.edges.items ≡ take (vec_len s.edges - 1) s.edges.items → t.groups.items ≡ s.groups.items → IsStep graph s t
    skip_step t x c nodes_ok at done marks nodes edges groups = skips graph s t k (same t) c (marked x (mark.Done c) nodes_ok at done) marks nodes (edges ∙ ap (λ (e : ℕ). take (e - 1) s.edges.items) s.edges.ok.0) groups
      where
        same : (t : Search) → Pending graph s t k
        same t = record { es = p.es; w = p.w; cut = p.cut; whole = p.whole }

    pub enter_step : (t : Search) (x : Mark) (popped : List ℕ) (left : ℕ) → IsGraph graph → x ≡ get_or s.marks.items node x → x ≡ mark.Fresh → popped ≡ take (vec_len s.edges - 1) s.edges.items → left ≡ length popped
        → t.marks.items ≡ set s.marks.items node (mark.Open (vec_len s.nodes)) → t.nodes.items ≡ s.nodes.items ++ (node ∷ []) → t.edges.items ≡ popped ++ slice_index_or graph node []
        → t.groups.items ≡ s.groups.items ++ (group_at (vec_len s.nodes) left false ∷ []) → IsStep graph s t
    enter_step t x popped left nodes_ok at fresh cut count marks nodes edges groups = opens graph s t k (same t) nodes_ok (marked x mark.Fresh nodes_ok at fresh)
        (marks ∙ ap (λ (v : ℕ). set s.marks.items v (mark.Open (vec_len s.nodes))) node_is ∙ ap (λ (e : ℕ). set s.marks.items p.w (mark.Open e)) s.nodes.ok.0)
        (nodes ∙ ap (λ (v : ℕ). s.nodes.items ++ (v ∷ [])) node_is)
        (edges ∙ ap (λ (v : ℕ). popped ++ slice_index_or graph v []) node_is ∙ ap (λ (q : List ℕ). q ++ slice_index_or graph p.w []) front)
        (groups ∙ ap (λ (e : ℕ). s.groups.items ++ (group_at e left false ∷ [])) s.nodes.ok.0 ∙ ap (λ (e : ℕ). s.groups.items ++ (group_at (length s.nodes.items) e false ∷ [])) (count ∙ ap length front))
      where
        same : (t : Search) → Pending graph s t k
        same t = record { es = p.es; w = p.w; cut = p.cut; whole = p.whole }

        front : popped ≡ take (length s.edges.items - 1) s.edges.items
        front = cut ∙ ap (λ (e : ℕ). take (e - 1) s.edges.items) s.edges.ok.0

-- ---- a root

abbrev pub AtRoot : List (List ℕ) → ℕ → Search → Search → Type 0
AtRoot graph root s t = KeepsStack graph t × StaySeen s.marks.items t.marks.items × (mark_at t.marks.items root ≡ mark.Fresh → ⊥)

pub root_fresh : (graph : List (List ℕ)) (s t : Search) (root : ℕ) (x : Mark) → KeepsStack graph s → s.groups.items ≡ [] → root < length graph → x ≡ get_or s.marks.items root x → x ≡ mark.Fresh
    → t.marks.items ≡ set s.marks.items root (mark.Open (vec_len s.nodes)) → t.nodes.items ≡ s.nodes.items ++ (root ∷ []) → t.edges.items ≡ s.edges.items ++ slice_index_or graph root []
    → t.groups.items ≡ s.groups.items ++ (group_at (vec_len s.nodes) (vec_len s.edges) false ∷ []) → AtRoot graph root s t
root_fresh graph s t root x keeps closed is_node at fresh marks nodes edges groups = (
  begins graph s t root keeps closed is_node (mark_is s.marks.items root x mark.Fresh within at fresh) (marks ∙ ap (λ (e : ℕ). set s.marks.items root (mark.Open e)) s.nodes.ok.0) nodes edges
      (groups ∙ ap (λ (e : ℕ). s.groups.items ++ (group_at e (vec_len s.edges) false ∷ [])) s.nodes.ok.0 ∙ ap (λ (e : ℕ). s.groups.items ++ (group_at (length s.nodes.items) e false ∷ [])) s.edges.ok.0),
  subst (λ (q : List Mark). StaySeen s.marks.items q) (sym marks) (set_seen s.marks.items root (mark.Open (vec_len s.nodes)) (λ e. fresh_open (vec_len s.nodes) (sym e))),
  λ e. begun_seen s.marks.items root (vec_len s.nodes) within (ap (λ (q : List Mark). mark_at q root) (sym marks) ∙ e),
)
  where
    within : root < length s.marks.items
    within = subst (λ (e : ℕ). root < e) (sym keeps.sound.counts) is_node

pub root_seen : (graph : List (List ℕ)) (s : Search) (root : ℕ) (x : Mark) → KeepsStack graph s → root < length graph → x ≡ get_or s.marks.items root x → (x ≡ mark.Fresh → ⊥) → AtRoot graph root s s
root_seen graph s root x keeps is_node at seen = (keeps, λ v h. h, λ e. seen (at ∙ get_or_default s.marks.items root x mark.Fresh within ∙ e))
  where
    within : root < length s.marks.items
    within = subst (λ (e : ℕ). root < e) (sym keeps.sound.counts) is_node

pub root_along : (graph : List (List ℕ)) (root : ℕ) (s t u : Search) → u ≡ t → AtRoot graph root s t → AtRoot graph root s u
root_along graph root s t u same h = subst (λ (q : Search). AtRoot graph root s q) (sym same) h

pub explored_more : (old new : List Mark) (root v : ℕ) → StaySeen old new → (mark_at new root ≡ mark.Fresh → ⊥) → ((w : ℕ) → w < root → mark_at old w ≡ mark.Fresh → ⊥) → v < root + 1 → mark_at new v ≡ mark.Fresh → ⊥
explored_more old new root v seen here before within now = elim (cases_lt v root) [
  | inl lt ↦ seen v (before v lt) now
  | inr ge ↦ here (let same : v ≡ root = omega arith in ap (mark_at new) (sym same) ∙ now)
]

-- ---- the answer

pub answered : (graph : List (List ℕ)) (s : Search) (root i : ℕ) (flags : List Bool) (items : List Mark) → KeepsStack graph s × (s.groups.items ≡ []) × ((v : ℕ) → v < root → mark_at s.marks.items v ≡ mark.Fresh → ⊥)
    → length graph ≤ root → items ≡ s.marks.items → length items ≤ i → flags ≡ map is_cyclic (take i items) → AreCycles graph flags
answered graph s root i flags items (keeps, closed, seen) all same over are =
    subst (λ (q : List Bool). AreCycles graph q) (sym (are ∙ ap (map is_cyclic) (take_all i items over ∙ same))) (answers graph s keeps closed (λ v h. seen v (omega arith)))
