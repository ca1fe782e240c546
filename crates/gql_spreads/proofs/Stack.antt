-- The steps of the search keep what it stands for: an edge is followed to a node that is done, to a group below or to
-- the same group, and to a fresh node.
use Rattle.std.proofs.Common.{◌≡◌, ℕ, zero, suc, ◌+◌, ◌-◌, ◌<◌, ◌≤◌, Bool, true, false, List, [], ◌∷◌, ◌++◌, length, set, get_or, refl, sym, ap, subst, ◌∙◌, ◌⊎◌, inl, inr, arith, append_assoc, length-append}
use Rattle.std.specs.Prelude.{Contains, slice_index_or}
use Rattle.std.proofs.lemmas.Bool.{cases_eq, cases_lt}
use Rattle.std.proofs.lemmas.List.{length-set, get_or_append_left, get_or_push}
use Rattle.std.proofs.lemmas.List.Elements.{Contains-append_cases, Contains-append_left, Contains-append_right, Contains-push}
use Rattle.gql_spreads.specs.declared.search.Mark.{Mark}
use Rattle.gql_spreads.specs.declared.search.Mark.TheVariants as mark
use Rattle.gql_spreads.specs.Graph.{IsEdge, ReachesNode, edge, further}
use Rattle.gql_spreads.specs.Search.{NodeGroup, nodes_of, edges_of, mark_at, IsDone, StaySeen, IsOnward, IsPast, StandsOnOthers, AllStand, IsSearchSound}
use Rattle.gql_spreads.proofs.Members.{contains_none, contains_one, one_contains, before_last, contains_along, contains_same, contains_place, place_contains}
use Rattle.gql_spreads.proofs.Walks.{along}
use Rattle.gql_spreads.proofs.Marks.{fresh_open, fresh_done, open_done, open_open, done_done, set_here, set_there, set_seen, seen_within}

-- ---- the open nodes

module _ (graph : List (List ℕ)) (marks : List Mark) (stack : List NodeGroup) (sound : IsSearchSound graph marks stack) where
  pub is_open : (v : ℕ) → Contains (nodes_of stack) v → (p : ℕ) × (mark_at marks v ≡ mark.Open p)
  is_open v h =
      let k = contains_place (nodes_of stack) v h in
      (k.0, ap (mark_at marks) (sym k.2) ∙ sound.here k.0 k.1)

  pub open_is : (v p : ℕ) → mark_at marks v ≡ mark.Open p → Contains (nodes_of stack) v
  open_is v p o = let k = sound.placed v p o in place_contains (nodes_of stack) v p k.0 k.1

  pub not_fresh : (v : ℕ) → Contains (nodes_of stack) v → mark_at marks v ≡ mark.Fresh → ⊥
  not_fresh v h f = let o = is_open v h in fresh_open o.0 (sym f ∙ o.1)

  pub not_done : (v : ℕ) (c : Bool) → Contains (nodes_of stack) v → mark_at marks v ≡ mark.Done c → ⊥
  not_done v c h d = let o = is_open v h in open_done o.0 c (sym o.1 ∙ d)

-- ---- an edge that was followed

pub stays : (graph : List (List ℕ)) (old new : List Mark) (gs : List NodeGroup) → StaySeen old new → AllStand graph old gs → AllStand graph new gs
stays graph old new [] seen all = tt
stays graph old new (g ∷ gs) seen all = (
  record {
    source = all.0.source;
    past = λ v w h e. elim (all.0.past v w h e) [ inl k ↦ inl k | inr p ↦ inr (record { seen = seen w p.seen; upper = p.upper; own = p.own }) ];
    leads = all.0.leads;
    around = all.0.around;
    single = all.0.single;
    apart = all.0.apart;
  },
  stays graph old new gs seen all.1,
)

abbrev pub without : NodeGroup → List ℕ → Bool → NodeGroup
without g es c = record { nodes = g.nodes; edges = es; cyclic = c }

pub followed : (graph : List (List ℕ)) (old new : List Mark) (g : NodeGroup) (gs : List NodeGroup) (es : List ℕ) (w : ℕ) (c : Bool) → g.edges ≡ es ++ (w ∷ []) → StaySeen old new
    → (g.cyclic ≡ true → c ≡ true) → (c ≡ true → (x : ℕ) → Contains g.nodes x → ReachesNode graph x x) → (c ≡ false → g.cyclic ≡ false) → IsPast new (without g es c) gs w
    → StandsOnOthers graph old g gs → StandsOnOthers graph new (without g es c) gs
followed graph old new g gs es w c cut seen on around single here s = record {
  source = λ x h. s.source x (contains_along (es ++ (w ∷ [])) g.edges x (sym cut) (Contains-append_left es (w ∷ []) x h));
  past = λ v x h e. elim (s.past v x h e) [ inl k ↦ past x (before_last es w x (contains_along g.edges (es ++ (w ∷ [])) x cut k)) | inr p ↦ inr (record { seen = seen x p.seen; upper = p.upper; own = λ k. on (p.own k) }) ];
  leads = s.leads;
  around = around;
  single = λ e. s.single (single e);
  apart = s.apart;
}
  where
    past : (x : ℕ) → Contains es x ⊎ (w ≡ x) → Contains es x ⊎ IsPast new (without g es c) gs x
    past x (inl k) = inl k
    past x (inr e) = inr (subst (IsPast new (without g es c) gs) e here)

-- the source of the last edge
pub last_source : (graph : List (List ℕ)) (marks : List Mark) (g : NodeGroup) (gs : List NodeGroup) (es : List ℕ) (w : ℕ) → g.edges ≡ es ++ (w ∷ []) → StandsOnOthers graph marks g gs → (v : ℕ) × Contains g.nodes v × IsEdge graph v w
last_source graph marks g gs es w cut s = s.source w (contains_along (es ++ (w ∷ [])) g.edges w (sym cut) (Contains-push es w))

-- to a node that is done
pub skipped : (graph : List (List ℕ)) (marks : List Mark) (g : NodeGroup) (gs : List NodeGroup) (es : List ℕ) (w : ℕ) (d : Bool) → g.edges ≡ es ++ (w ∷ []) → mark_at marks w ≡ mark.Done d
    → IsSearchSound graph marks (g ∷ gs) → IsSearchSound graph marks (without g es g.cyclic ∷ gs)
skipped graph marks g gs es w d cut is s = record {
  counts = s.counts;
  stand = (followed graph marks marks g gs es w g.cyclic cut (λ v h. h) (λ e. e) s.stand.0.around (λ e. e) here s.stand.0, s.stand.1);
  here = s.here;
  placed = s.placed;
  on_cycle = s.on_cycle;
  on_none = s.on_none;
  closed = s.closed;
}
  where
    here : IsPast marks (without g es g.cyclic) gs w
    here = record {
      seen = λ e. fresh_done d (sym e ∙ is);
      upper = λ h. absurd (not_done graph marks (g ∷ gs) s w d (Contains-append_left (nodes_of gs) g.nodes w h) is);
      own = λ h. absurd (not_done graph marks (g ∷ gs) s w d (Contains-append_right (nodes_of gs) g.nodes w h) is);
    }

-- to a node of the same group
pub circled : (graph : List (List ℕ)) (marks : List Mark) (g : NodeGroup) (gs : List NodeGroup) (es : List ℕ) (w : ℕ) → g.edges ≡ es ++ (w ∷ []) → Contains g.nodes w
    → IsSearchSound graph marks (g ∷ gs) → IsSearchSound graph marks (without g es true ∷ gs)
circled graph marks g gs es w cut in_g s = record {
  counts = s.counts;
  stand = (followed graph marks marks g gs es w true cut (λ v h. h) (λ e. refl) (λ e x h. around x h) (λ e. absurd cc) here s.stand.0, s.stand.1);
  here = s.here;
  placed = s.placed;
  on_cycle = s.on_cycle;
  on_none = s.on_none;
  closed = s.closed;
}
  where
    around : (x : ℕ) → Contains g.nodes x → ReachesNode graph x x
    around x h =
        let v = last_source graph marks g gs es w cut s.stand.0 in
        along graph x v.0 w x (s.stand.0.leads x v.0 (Contains-append_right (nodes_of gs) g.nodes x h) v.1) v.2 (s.stand.0.leads w x (Contains-append_right (nodes_of gs) g.nodes w in_g) h)

    here : IsPast marks (without g es true) gs w
    here = record {
      seen = λ e. not_fresh graph marks (g ∷ gs) s w (Contains-append_right (nodes_of gs) g.nodes w in_g) e;
      upper = λ h. s.stand.0.apart w in_g h;
      own = λ h. refl;
    }

-- ---- two groups become one

abbrev pub joined : NodeGroup → NodeGroup → NodeGroup
joined g f = record { nodes = f.nodes ++ g.nodes; edges = f.edges ++ g.edges; cyclic = true }

-- an edge leads from the last group to a node below it
pub joins : (graph : List (List ℕ)) (marks : List Mark) (g f : NodeGroup) (gs : List NodeGroup) (w : ℕ) → Contains g.edges w → Contains (nodes_of (f ∷ gs)) w
    → IsSearchSound graph marks (g ∷ (f ∷ gs)) → IsSearchSound graph marks (joined g f ∷ gs)
joins graph marks g f gs w pending below s = record {
  counts = s.counts;
  stand = (record { source = source; past = past; leads = λ x y h k. inr (reaches x y h k); around = λ e x h. reaches x x (Contains-append_right (nodes_of gs) (f.nodes ++ g.nodes) x h) h; single = λ e. absurd cc; apart = apart }, s.stand.1.1);
  here = λ p h. subst (λ (q : List ℕ). mark_at marks (slice_index_or q p 0) ≡ mark.Open p) same (s.here p (subst (λ (q : List ℕ). p < length q) (sym same) h));
  placed = λ v p o. subst (λ (q : List ℕ). (p < length q) × (slice_index_or q p 0 ≡ v)) same (s.placed v p o);
  on_cycle = s.on_cycle;
  on_none = s.on_none;
  closed = s.closed;
}
  where
    same : (nodes_of gs ++ f.nodes) ++ g.nodes ≡ nodes_of gs ++ (f.nodes ++ g.nodes)
    same = append_assoc (nodes_of gs) f.nodes g.nodes

    upper : StandsOnOthers graph marks g (f ∷ gs)
    upper = s.stand.0

    lower : StandsOnOthers graph marks f gs
    lower = s.stand.1.0

    source : (x : ℕ) → Contains (f.edges ++ g.edges) x → (v : ℕ) × Contains (f.nodes ++ g.nodes) v × IsEdge graph v x
    source x h = go (Contains-append_cases f.edges g.edges x h)
      where
        go : Contains f.edges x ⊎ Contains g.edges x → (v : ℕ) × Contains (f.nodes ++ g.nodes) v × IsEdge graph v x
        go (inl k) = let v = lower.source x k in (v.0, Contains-append_left f.nodes g.nodes v.0 v.1, v.2)
        go (inr k) = let v = upper.source x k in (v.0, Contains-append_right f.nodes g.nodes v.0 v.1, v.2)

    past : (v x : ℕ) → Contains (f.nodes ++ g.nodes) v → IsEdge graph v x → Contains (f.edges ++ g.edges) x ⊎ IsPast marks (joined g f) gs x
    past v x h e = go (Contains-append_cases f.nodes g.nodes v h)
      where
        low : Contains f.edges x ⊎ IsPast marks f gs x → Contains (f.edges ++ g.edges) x ⊎ IsPast marks (joined g f) gs x
        low (inl k) = inl (Contains-append_left f.edges g.edges x k)
        low (inr p) = inr (record { seen = p.seen; upper = p.upper; own = λ k. refl })

        high : Contains g.edges x ⊎ IsPast marks g (f ∷ gs) x → Contains (f.edges ++ g.edges) x ⊎ IsPast marks (joined g f) gs x
        high (inl k) = inl (Contains-append_right f.edges g.edges x k)
        high (inr p) = inr (record { seen = p.seen; upper = λ k. p.upper (Contains-append_left (nodes_of gs) f.nodes x k); own = λ k. refl })

        go : Contains f.nodes v ⊎ Contains g.nodes v → Contains (f.edges ++ g.edges) x ⊎ IsPast marks (joined g f) gs x
        go (inl k) = low (lower.past v x k e)
        go (inr k) = high (upper.past v x k e)

    reaches : (x y : ℕ) → Contains (nodes_of gs ++ (f.nodes ++ g.nodes)) x → Contains (f.nodes ++ g.nodes) y → ReachesNode graph x y
    reaches x y h k = along graph x v.0 w y (upper.leads x v.0 (contains_along (nodes_of gs ++ (f.nodes ++ g.nodes)) ((nodes_of gs ++ f.nodes) ++ g.nodes) x (sym same) h) v.1) v.2 (go (Contains-append_cases f.nodes g.nodes y k))
      where
        v : (v : ℕ) × Contains g.nodes v × IsEdge graph v w
        v = upper.source w pending

        go : Contains f.nodes y ⊎ Contains g.nodes y → IsOnward graph w y
        go (inl i) = lower.leads w y below i
        go (inr i) = upper.leads w y (Contains-append_left (nodes_of gs ++ f.nodes) g.nodes w below) i

    apart : (v : ℕ) → Contains (f.nodes ++ g.nodes) v → Contains (nodes_of gs) v → ⊥
    apart v h k = go (Contains-append_cases f.nodes g.nodes v h)
      where
        go : Contains f.nodes v ⊎ Contains g.nodes v → ⊥
        go (inl i) = lower.apart v i k
        go (inr i) = upper.apart v i (Contains-append_left (nodes_of gs) f.nodes v k)

-- ---- a fresh node is entered

abbrev pub entry : List (List ℕ) → ℕ → NodeGroup
entry graph w = record { nodes = w ∷ []; edges = slice_index_or graph w []; cyclic = false }

abbrev pub entered_marks : List Mark → List NodeGroup → ℕ → List Mark
entered_marks marks below w = set marks w (mark.Open (length (nodes_of below)))

pub enters : (graph : List (List ℕ)) (marks : List Mark) (old below : List NodeGroup) (w : ℕ) → IsSearchSound graph marks old → nodes_of old ≡ nodes_of below → mark_at marks w ≡ mark.Fresh → w < length graph
    → AllStand graph (entered_marks marks below w) below → ((x : ℕ) → Contains (nodes_of below) x → ReachesNode graph x w) → IsSearchSound graph (entered_marks marks below w) (entry graph w ∷ below)
enters graph marks old below w s same fresh is_node all reach = record {
  counts = length-set marks w (mark.Open (length (nodes_of below))) ∙ s.counts;
  stand = (
    record {
      source = λ x h. (w, contains_one w, h);
      past = λ v x h e. inl (subst (λ (q : ℕ). IsEdge graph q x) (sym (one_contains w v h)) e);
      leads = leads;
      around = λ e. absurd cc;
      single = λ e. (w, refl);
      apart = λ v h k. not_fresh graph marks old s w (contains_along (nodes_of below) (nodes_of old) w (sym same) (contains_same (nodes_of below) v w (sym (one_contains w v h)) k)) fresh;
    },
    all,
  );
  here = here;
  placed = placed;
  on_cycle = λ v e. s.on_cycle v (done_before v true e);
  on_none = λ v e. s.on_none v (done_before v false e);
  closed = λ v x d e. let k = s.closed v x (d.0, done_before v d.0 d.1) e in (k.0, done_after x k.0 k.1);
}
  where
    place : ℕ
    place = length (nodes_of below)

    within : w < length marks
    within = subst (λ (n : ℕ). w < n) (sym s.counts) is_node

    now : List Mark
    now = entered_marks marks below w

    leads : (x y : ℕ) → Contains (nodes_of below ++ (w ∷ [])) x → Contains (w ∷ []) y → IsOnward graph x y
    leads x y h k = go (before_last (nodes_of below) w x h)
      where
        go : Contains (nodes_of below) x ⊎ (w ≡ x) → IsOnward graph x y
        go (inl i) = inr (subst (ReachesNode graph x) (one_contains w y k) (reach x i))
        go (inr e) = inl (sym e ∙ one_contains w y k)

    done_after : (v : ℕ) (c : Bool) → mark_at marks v ≡ mark.Done c → mark_at (entered_marks marks below w) v ≡ mark.Done c
    done_after v c d = set_there marks w v (mark.Open (length (nodes_of below))) (λ e. fresh_done c (sym fresh ∙ ap (mark_at marks) (sym e) ∙ d)) ∙ d

    done_before : (v : ℕ) (c : Bool) → mark_at (entered_marks marks below w) v ≡ mark.Done c → mark_at marks v ≡ mark.Done c
    done_before v c d = elim (cases_eq v w) [
      | inl e ↦ absurd (open_done (length (nodes_of below)) c (sym (set_here marks w (mark.Open (length (nodes_of below))) within) ∙ ap (mark_at (entered_marks marks below w)) (sym e) ∙ d))
      | inr apart ↦ sym (set_there marks w v (mark.Open (length (nodes_of below))) apart) ∙ d
    ]

    here : (p : ℕ) → p < length (nodes_of below ++ (w ∷ [])) → mark_at (entered_marks marks below w) (slice_index_or (nodes_of below ++ (w ∷ [])) p 0) ≡ mark.Open p
    here p h = elim (cases_lt p (length (nodes_of below))) [ inl lt ↦ before lt | inr ge ↦ last (let total : length (nodes_of below ++ (w ∷ [])) ≡ length (nodes_of below) + 1 = length-append (nodes_of below) (w ∷ []) in omega arith) ]
      where
        before : p < length (nodes_of below) → mark_at (entered_marks marks below w) (slice_index_or (nodes_of below ++ (w ∷ [])) p 0) ≡ mark.Open p
        before lt =
            let was : mark_at marks (slice_index_or (nodes_of below) p 0) ≡ mark.Open p = subst (λ (q : List ℕ). mark_at marks (slice_index_or q p 0) ≡ mark.Open p) same (s.here p (subst (λ (q : List ℕ). p < length q) (sym same) lt)) in
            ap (mark_at (entered_marks marks below w)) (get_or_append_left (nodes_of below) (w ∷ []) 0 p lt)
            ∙ set_there marks w (slice_index_or (nodes_of below) p 0) (mark.Open (length (nodes_of below))) (λ e. fresh_open p (sym fresh ∙ ap (mark_at marks) (sym e) ∙ was))
            ∙ was

        last : length (nodes_of below) ≡ p → mark_at (entered_marks marks below w) (slice_index_or (nodes_of below ++ (w ∷ [])) p 0) ≡ mark.Open p
        last e = ap (mark_at (entered_marks marks below w)) (get_or_push (nodes_of below) w 0 p e) ∙ set_here marks w (mark.Open (length (nodes_of below))) within ∙ ap (λ (n : ℕ). mark.Open n) e

    placed : (v p : ℕ) → mark_at (entered_marks marks below w) v ≡ mark.Open p → (p < length (nodes_of below ++ (w ∷ []))) × (slice_index_or (nodes_of below ++ (w ∷ [])) p 0 ≡ v)
    placed v p o = elim (cases_eq v w) [ inl e ↦ last e | inr apart ↦ before apart ]
      where
        total : length (nodes_of below ++ (w ∷ [])) ≡ length (nodes_of below) + 1
        total = length-append (nodes_of below) (w ∷ [])

        last : v ≡ w → (p < length (nodes_of below ++ (w ∷ []))) × (slice_index_or (nodes_of below ++ (w ∷ [])) p 0 ≡ v)
        last e =
            let at : length (nodes_of below) ≡ p = open_open (length (nodes_of below)) p (sym (set_here marks w (mark.Open (length (nodes_of below))) within) ∙ ap (mark_at (entered_marks marks below w)) (sym e) ∙ o) in
            let total : length (nodes_of below ++ (w ∷ [])) ≡ length (nodes_of below) + 1 = length-append (nodes_of below) (w ∷ []) in
            (omega arith, get_or_push (nodes_of below) w 0 p at ∙ sym e)

        before : (v ≡ w → ⊥) → (p < length (nodes_of below ++ (w ∷ []))) × (slice_index_or (nodes_of below ++ (w ∷ [])) p 0 ≡ v)
        before apart =
            let k : (p < length (nodes_of below)) × (slice_index_or (nodes_of below) p 0 ≡ v) =
            subst (λ (q : List ℕ). (p < length q) × (slice_index_or q p 0 ≡ v)) same (s.placed v p (sym (set_there marks w v (mark.Open (length (nodes_of below))) apart) ∙ o)) in
            let lt : p < length (nodes_of below) = k.0 in
            let total : length (nodes_of below ++ (w ∷ [])) ≡ length (nodes_of below) + 1 = length-append (nodes_of below) (w ∷ []) in
            (omega arith, get_or_append_left (nodes_of below) (w ∷ []) 0 p lt ∙ k.1)

-- from the last group
pub enters_from : (graph : List (List ℕ)) (marks : List Mark) (g : NodeGroup) (gs : List NodeGroup) (es : List ℕ) (w : ℕ) → g.edges ≡ es ++ (w ∷ []) → mark_at marks w ≡ mark.Fresh → w < length graph
    → IsSearchSound graph marks (g ∷ gs) → IsSearchSound graph (entered_marks marks (without g es g.cyclic ∷ gs) w) (entry graph w ∷ (without g es g.cyclic ∷ gs))
enters_from graph marks g gs es w cut fresh is_node s = enters graph marks (g ∷ gs) (without g es g.cyclic ∷ gs) w s refl fresh is_node
    (followed graph marks (entered_marks marks (without g es g.cyclic ∷ gs) w) g gs es w g.cyclic cut seen (λ e. e) s.stand.0.around (λ e. e) here s.stand.0, stays graph marks (entered_marks marks (without g es g.cyclic ∷ gs) w) gs seen s.stand.1)
    reach
  where
    place : ℕ
    place = length (nodes_of gs ++ g.nodes)

    within : w < length marks
    within = subst (λ (n : ℕ). w < n) (sym s.counts) is_node

    seen : StaySeen marks (entered_marks marks (without g es g.cyclic ∷ gs) w)
    seen = set_seen marks w (mark.Open (length (nodes_of gs ++ g.nodes))) (λ e. fresh_open (length (nodes_of gs ++ g.nodes)) (sym e))

    here : IsPast (entered_marks marks (without g es g.cyclic ∷ gs) w) (without g es g.cyclic) gs w
    here = record {
      seen = λ e. fresh_open (length (nodes_of gs ++ g.nodes)) (sym e ∙ set_here marks w (mark.Open (length (nodes_of gs ++ g.nodes))) within);
      upper = λ h. not_fresh graph marks (g ∷ gs) s w (Contains-append_left (nodes_of gs) g.nodes w h) fresh;
      own = λ h. absurd (not_fresh graph marks (g ∷ gs) s w (Contains-append_right (nodes_of gs) g.nodes w h) fresh);
    }

    reach : (x : ℕ) → Contains (nodes_of gs ++ g.nodes) x → ReachesNode graph x w
    reach x h = let v = last_source graph marks g gs es w cut s.stand.0 in along graph x v.0 w w (s.stand.0.leads x v.0 h v.1) v.2 (inl refl)

-- where nothing is open
pub enters_first : (graph : List (List ℕ)) (marks : List Mark) (w : ℕ) → mark_at marks w ≡ mark.Fresh → w < length graph → IsSearchSound graph marks [] → IsSearchSound graph (entered_marks marks [] w) (entry graph w ∷ [])
enters_first graph marks w fresh is_node s = enters graph marks [] [] w s refl fresh is_node tt (λ x h. absurd (contains_none x h))
