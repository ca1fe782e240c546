-- A group with no edge left is done.
use Rattle.std.proofs.Common.{◌≡◌, ℕ, zero, suc, ◌+◌, ◌-◌, ◌<◌, ◌≤◌, Bool, true, false, List, [], ◌∷◌, ◌++◌, length, get_or, refl, sym, ap, subst, ◌∙◌, ◌⊎◌, inl, inr, arith, length-append}
use Rattle.std.specs.Prelude.{Contains, slice_index_or}
use Rattle.std.proofs.lemmas.List.{get_or_append_left}
use Rattle.std.proofs.lemmas.List.Elements.{Contains-append_cases, Contains-append_left, Contains-append_right}
use Rattle.gql_spreads.specs.declared.search.Mark.{Mark}
use Rattle.gql_spreads.specs.declared.search.Mark.TheVariants as mark
use Rattle.gql_spreads.specs.Graph.{IsEdge, ReachesNode, edge, further}
use Rattle.gql_spreads.specs.Search.{NodeGroup, nodes_of, mark_at, IsDone, StaySeen, IsPast, StandsOnOthers, AllStand, IsSearchSound, done_all}
use Rattle.gql_spreads.proofs.Members.{contains_none, one_contains, contains_one, contains_along, contains_same, contains_place, place_contains}
use Rattle.gql_spreads.proofs.Marks.{fresh_open, fresh_done, open_done, open_open, done_done, seen_within, Marked, fresh, opened, done, marked, done_at, done_apart, done_seen, length-done}
use Rattle.gql_spreads.proofs.Stack.{is_open, open_is, not_fresh, not_done, stays}

-- no path leads from a node that is done to one that is not
pub stays_done : (graph : List (List ℕ)) (marks : List Mark) → ((v w : ℕ) → IsDone marks v → IsEdge graph v w → IsDone marks w) → {a b : ℕ} → ReachesNode graph a b → IsDone marks a → IsDone marks b
stays_done graph marks closed (edge {a} {b} e) d = closed a b d e
stays_done graph marks closed (further {a} {b} e p) d = stays_done graph marks closed p (closed a b d e)

module _ (graph : List (List ℕ)) (marks : List Mark) (g : NodeGroup) (gs : List NodeGroup) (none : g.edges ≡ []) (s : IsSearchSound graph marks (g ∷ gs)) where
  own_open : (v : ℕ) → Contains g.nodes v → Contains (nodes_of gs ++ g.nodes) v
  own_open v h = Contains-append_right (nodes_of gs) g.nodes v h

  own_within : (v : ℕ) → Contains g.nodes v → v < length marks
  own_within v h = seen_within marks v (not_fresh graph marks (g ∷ gs) s v (own_open v h))

  past : (v w : ℕ) → Contains g.nodes v → IsEdge graph v w → IsPast marks g gs w
  past v w h e = elim (s.stand.0.past v w h e) [ inl k ↦ absurd (contains_none w (contains_along g.edges [] w none k)) | inr p ↦ p ]

  -- an edge of the group leads to a node that is done, or back into the group
  leads_to : (v w : ℕ) → Contains g.nodes v → IsEdge graph v w → IsDone marks w ⊎ Contains g.nodes w
  leads_to v w h e = go (marked (mark_at marks w))
    where
      p : IsPast marks g gs w
      p = past v w h e

      go : Marked (mark_at marks w) → IsDone marks w ⊎ Contains g.nodes w
      go (fresh f) = absurd (p.seen f)
      go (opened k o) = elim (Contains-append_cases (nodes_of gs) g.nodes w (open_is graph marks (g ∷ gs) s w k o)) [ inl i ↦ absurd (p.upper i) | inr i ↦ inr i ]
      go (done c d) = inl (c, d)

  not_around : g.cyclic ≡ false → (v : ℕ) → Contains g.nodes v → ReachesNode graph v v → ⊥
  not_around off v h r = first v h r (λ c d. not_done graph marks (g ∷ gs) s v c (own_open v h) d)
    where
      next : (v w : ℕ) → Contains g.nodes v → IsEdge graph v w → IsDone marks w
      next v w h e = elim (leads_to v w h e) [ inl d ↦ d | inr i ↦ absurd (differ ((past v w h e).own i)) ]
        where
          differ : g.cyclic ≡ true → ⊥
          differ on = let e : true ≡ false = sym on ∙ off in cc

      first : (v : ℕ) → Contains g.nodes v → {b : ℕ} → ReachesNode graph v b → ((c : Bool) → mark_at marks b ≡ mark.Done c → ⊥) → ⊥
      first v h (edge {b = b} e) never = let d = next v b h e in never d.0 d.1
      first v h (further {b = b} e p) never = let d = stays_done graph marks s.closed p (next v b h e) in never d.0 d.1

  now_own : (v : ℕ) → Contains g.nodes v → mark_at (done_all g.nodes g.cyclic marks) v ≡ mark.Done g.cyclic
  now_own v h = done_at g.nodes g.cyclic marks v (own_within v h) h

  now_done : (v : ℕ) (c : Bool) → mark_at marks v ≡ mark.Done c → mark_at (done_all g.nodes g.cyclic marks) v ≡ mark.Done c
  now_done v c d = done_apart g.nodes g.cyclic marks v (λ h. not_done graph marks (g ∷ gs) s v c (own_open v h) d) ∙ d

  now_below : (v : ℕ) → Contains (nodes_of gs) v → mark_at (done_all g.nodes g.cyclic marks) v ≡ mark_at marks v
  now_below v k = done_apart g.nodes g.cyclic marks v (λ h. s.stand.0.apart v h k)

  was_done : (v : ℕ) (c : Bool) → mark_at (done_all g.nodes g.cyclic marks) v ≡ mark.Done c → (Contains g.nodes v × (g.cyclic ≡ c)) ⊎ (mark_at marks v ≡ mark.Done c)
  was_done v c now = go (marked (mark_at marks v))
    where
      go : Marked (mark_at marks v) → (Contains g.nodes v × (g.cyclic ≡ c)) ⊎ (mark_at marks v ≡ mark.Done c)
      go (fresh f) = absurd (fresh_done c (sym f ∙ sym (done_apart g.nodes g.cyclic marks v (λ h. not_fresh graph marks (g ∷ gs) s v (own_open v h) f)) ∙ now))
      go (opened k o) = elim (Contains-append_cases (nodes_of gs) g.nodes v (open_is graph marks (g ∷ gs) s v k o)) [
        | inl i ↦ absurd (open_done k c (sym o ∙ sym (now_below v i) ∙ now))
        | inr i ↦ inl (i, done_done g.cyclic c (sym (now_own v i) ∙ now))
      ]
      go (done d is) = inr (is ∙ ap (λ (q : Bool). mark.Done q) (done_done d c (sym (now_done v d is) ∙ now)))

  pub leaves : IsSearchSound graph (done_all g.nodes g.cyclic marks) gs
  leaves = record {
    counts = length-done g.nodes g.cyclic marks ∙ s.counts;
    stand = stays graph marks (done_all g.nodes g.cyclic marks) gs (done_seen g.nodes g.cyclic marks) s.stand.1;
    here = here;
    placed = placed;
    on_cycle = λ v d. elim (was_done v true d) [ inl h ↦ s.stand.0.around h.1 v h.0 | inr d ↦ s.on_cycle v d ];
    on_none = λ v d. elim (was_done v false d) [ inl h ↦ not_around h.1 v h.0 | inr d ↦ s.on_none v d ];
    closed = λ v w d e. closed v w d.0 (was_done v d.0 d.1) e;
  }
    where
      here : (p : ℕ) → p < length (nodes_of gs) → mark_at (done_all g.nodes g.cyclic marks) (slice_index_or (nodes_of gs) p 0) ≡ mark.Open p
      here p lt =
          let more : p < length (nodes_of gs ++ g.nodes) = (let total : length (nodes_of gs ++ g.nodes) ≡ length (nodes_of gs) + length g.nodes = length-append (nodes_of gs) g.nodes in omega arith) in
          now_below (slice_index_or (nodes_of gs) p 0) (place_contains (nodes_of gs) (slice_index_or (nodes_of gs) p 0) p lt refl)
          ∙ ap (mark_at marks) (sym (get_or_append_left (nodes_of gs) g.nodes 0 p lt)) ∙ s.here p more

      placed : (v p : ℕ) → mark_at (done_all g.nodes g.cyclic marks) v ≡ mark.Open p → (p < length (nodes_of gs)) × (slice_index_or (nodes_of gs) p 0 ≡ v)
      placed v p o = go (marked (mark_at marks v))
        where
          below : Contains (nodes_of gs) v → (p < length (nodes_of gs)) × (slice_index_or (nodes_of gs) p 0 ≡ v)
          below i =
              let k = contains_place (nodes_of gs) v i in
              let same : k.0 ≡ p = open_open k.0 p (sym (here k.0 k.1) ∙ ap (mark_at (done_all g.nodes g.cyclic marks)) k.2 ∙ o) in
              subst (λ (q : ℕ). (q < length (nodes_of gs)) × (slice_index_or (nodes_of gs) q 0 ≡ v)) same (k.1, k.2)

          go : Marked (mark_at marks v) → (p < length (nodes_of gs)) × (slice_index_or (nodes_of gs) p 0 ≡ v)
          go (fresh f) = absurd (fresh_open p (sym f ∙ sym (done_apart g.nodes g.cyclic marks v (λ h. not_fresh graph marks (g ∷ gs) s v (own_open v h) f)) ∙ o))
          go (opened k was) = elim (Contains-append_cases (nodes_of gs) g.nodes v (open_is graph marks (g ∷ gs) s v k was)) [
            | inl i ↦ below i
            | inr i ↦ absurd (open_done p g.cyclic (sym o ∙ now_own v i))
          ]
          go (done c d) = absurd (open_done p c (sym o ∙ now_done v c d))

      closed : (v w : ℕ) (c : Bool) → (Contains g.nodes v × (g.cyclic ≡ c)) ⊎ (mark_at marks v ≡ mark.Done c) → IsEdge graph v w → IsDone (done_all g.nodes g.cyclic marks) w
      closed v w c (inl h) e = elim (leads_to v w h.0 e) [ inl d ↦ (d.0, now_done w d.0 d.1) | inr i ↦ (g.cyclic, now_own w i) ]
      closed v w c (inr d) e = let k = s.closed v w (c, d) e in (k.0, now_done w k.0 k.1)
