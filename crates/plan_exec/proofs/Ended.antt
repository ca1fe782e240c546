-- Where nothing is ready, each fetch is given or passed over.
use Rattle.std.proofs.Common.{◌≡◌, ℕ, List, [], ◌∷◌, ◌++◌, Option, Some, None, refl, ap, ◌∙◌, sym, subst}
use Rattle.std.specs.Prelude.{map}
use Rattle.json_value.specs.declared.tree.Json.{Json}
use Rattle.json_paths.specs.declared.path.Path.{Path}
use Rattle.plan_tree.specs.declared.plan.Node.{Node, map-Node}
use Rattle.plan_tree.specs.declared.plan.Node.TheVariants as node
use Rattle.plan_tree.specs.declared.plan.Node.TheOpen.{Node-F}
use Rattle.plan_tree.specs.declared.plan.Node.TheViews.{roll-Node}
use Rattle.plan_tree.specs.declared.plan.Node.TheFolds.{ind-Node}
use Rattle.plan_tree.specs.declared.plan.Fetch.{Fetch}
use Rattle.representations.specs.Gather.{Rep}
use Rattle.plan_exec.specs.declared.tasks.Done.{Done}
use Rattle.plan_exec.specs.Exec.{pieces_of, reps_for, exec}
use Rattle.plan_exec.specs.Ready.{Waiting, unless_given, if_any, or_else, ready}
use Rattle.plan_exec.specs.Levels.{first_of, each_of}
use Rattle.plan_exec.specs.Ended.{IsEnded, root_given, entities_given, passed_over, sequence, parallel, InTurn, end, next, AtOnce, all, beside}
use Rattle.plan_exec.proofs.Equations.{ready-fetch, ready-flatten, ready-sequence, ready-parallel}

none_before : (ws later : List Waiting) → or_else ws later ≡ [] → (ws ≡ []) × (later ≡ [])
none_before [] later none = (refl, none)
none_before (w ∷ ws) later none = cc

none_beside : {X : Type 0} (xs ys : List X) → xs ++ ys ≡ [] → (xs ≡ []) × (ys ≡ [])
none_beside [] ys none = (refl, none)
none_beside (x ∷ xs) ys none = cc

nothing : (o : Option (List Json)) → unless_given o [] ≡ []
nothing None = refl
nothing (Some pieces) = refl

module _ (fetches : List Fetch) (given : List Done) where
  abbrev Ends : Node → Type 0
  Ends n = (v : Json) → ready fetches given n v ≡ [] → IsEnded fetches given n v

  fetch_ends : (fetch : ℕ) → Ends (node.Fetch fetch)
  fetch_ends fetch v none = by_given (pieces_of given fetch) refl (sym (ready-fetch fetches given fetch v) ∙ none)
    where
      by_given : (o : Option (List Json)) → pieces_of given fetch ≡ o → unless_given (pieces_of given fetch) (record { fetch = fetch; path = None; start = v } ∷ []) ≡ [] → IsEnded fetches given (node.Fetch fetch) v
      by_given None is none = let here : unless_given (pieces_of given fetch) (record { fetch = fetch; path = None; start = v } ∷ []) ≡ record { fetch = fetch; path = None; start = v } ∷ [] = rw is refl in cc
      by_given (Some pieces) is none = root_given fetch pieces is

  flatten_ends : (path : Path) (fetch : ℕ) → Ends (node.Flatten path fetch)
  flatten_ends path fetch v none = by_given (pieces_of given fetch) refl (reps_for fetches v path fetch) refl (sym (ready-flatten fetches given path fetch v) ∙ none)
    where
      by_given : (o : Option (List Json)) → pieces_of given fetch ≡ o → (reps : List Rep) → reps_for fetches v path fetch ≡ reps →
          unless_given (pieces_of given fetch) (if_any (reps_for fetches v path fetch) (record { fetch = fetch; path = Some path; start = v })) ≡ [] → IsEnded fetches given (node.Flatten path fetch) v
      by_given (Some pieces) is reps are none = entities_given path fetch pieces is
      by_given None is [] are none = passed_over path fetch are
      by_given None is (rep ∷ reps) are none =
          let here : unless_given (pieces_of given fetch) (if_any (reps_for fetches v path fetch) (record { fetch = fetch; path = Some path; start = v })) ≡ record { fetch = fetch; path = Some path; start = v } ∷ [] =
          ap (λ o. unless_given o (if_any (reps_for fetches v path fetch) (record { fetch = fetch; path = Some path; start = v }))) is ∙ ap (λ rs. if_any rs (record { fetch = fetch; path = Some path; start = v })) are in
          cc

  turn_ends : (ps : List ((n : Node) × Ends n)) (v : Json) → first_of fetches given (map (λ e. e.0) ps) v ≡ [] → InTurn fetches given (map (λ e. e.0) ps) v
  turn_ends [] v none = end
  turn_ends (p ∷ ps) v none =
      let parts = none_before (ready fetches given p.0 v) (first_of fetches given (map (λ e. e.0) ps) (exec fetches given p.0 v)) none in
      next p.0 (map (λ e. e.0) ps) (p.1 v parts.0) (turn_ends ps (exec fetches given p.0 v) parts.1)

  each_ends : (ps : List ((n : Node) × Ends n)) (v : Json) → each_of fetches given (map (λ e. e.0) ps) v ≡ [] → AtOnce fetches given (map (λ e. e.0) ps) v
  each_ends [] v none = all
  each_ends (p ∷ ps) v none =
      let parts = none_beside (ready fetches given p.0 v) (each_of fetches given (map (λ e. e.0) ps) v) none in
      beside p.0 (map (λ e. e.0) ps) (p.1 v parts.0) (each_ends ps v parts.1)

  ends_at : (y : Node-F ((n : Node) × Ends n)) → Ends (roll-Node (map-Node ((n : Node) × Ends n) Node (λ e. e.0) y))
  ends_at (Node-F.Fetch fetch) = subst Ends (sym (node.rolls-Fetch fetch)) (fetch_ends fetch)
  ends_at (Node-F.Flatten path fetch) = subst Ends (sym (node.rolls-Flatten path fetch)) (flatten_ends path fetch)
  ends_at (Node-F.Sequence ps) = subst Ends (sym (node.rolls-Sequence (map (λ e. e.0) ps))) (λ v none. sequence (map (λ e. e.0) ps) (turn_ends ps v (sym (ready-sequence fetches given (map (λ e. e.0) ps) v) ∙ none)))
  ends_at (Node-F.Parallel ps) = subst Ends (sym (node.rolls-Parallel (map (λ e. e.0) ps))) (λ v none. parallel (map (λ e. e.0) ps) (each_ends ps v (sym (ready-parallel fetches given (map (λ e. e.0) ps) v) ∙ none)))

  pub nothing_ready : (n : Node) (v : Json) → ready fetches given n v ≡ [] → IsEnded fetches given n v
  nothing_ready = ind-Node Ends (λ x y is. subst (λ z. Ends (roll-Node z)) is (ends_at y))

-- and where each fetch is given or is passed over, nothing is ready
mutual
  pub none_ready : (fetches : List Fetch) (given : List Done) (n : Node) (v : Json) → IsEnded fetches given n v → ready fetches given n v ≡ []
  none_ready fetches given _ v (root_given fetch pieces is) = ready-fetch fetches given fetch v ∙ ap (λ o. unless_given o (record { fetch = fetch; path = None; start = v } ∷ [])) is
  none_ready fetches given _ v (entities_given path fetch pieces is) = ready-flatten fetches given path fetch v ∙ ap (λ o. unless_given o (if_any (reps_for fetches v path fetch) (record { fetch = fetch; path = Some path; start = v }))) is
  none_ready fetches given _ v (passed_over path fetch are) =
      ready-flatten fetches given path fetch v ∙ ap (λ rs. unless_given (pieces_of given fetch) (if_any rs (record { fetch = fetch; path = Some path; start = v }))) are ∙ nothing (pieces_of given fetch)
  none_ready fetches given _ v (sequence nodes turns) = ready-sequence fetches given nodes v ∙ none_in_turn fetches given nodes v turns
  none_ready fetches given _ v (parallel nodes all_ended) = ready-parallel fetches given nodes v ∙ none_at_once fetches given nodes v all_ended

  none_in_turn : (fetches : List Fetch) (given : List Done) (nodes : List Node) (v : Json) → InTurn fetches given nodes v → first_of fetches given nodes v ≡ []
  none_in_turn fetches given _ v end = refl
  none_in_turn fetches given _ v (next n nodes ended turns) =
      ap (λ ws. or_else ws (first_of fetches given nodes (exec fetches given n v))) (none_ready fetches given n v ended) ∙ none_in_turn fetches given nodes (exec fetches given n v) turns

  none_at_once : (fetches : List Fetch) (given : List Done) (nodes : List Node) (v : Json) → AtOnce fetches given nodes v → each_of fetches given nodes v ≡ []
  none_at_once fetches given _ v all = refl
  none_at_once fetches given _ v (beside n nodes ended others) =
      ap (λ ws. ws ++ each_of fetches given nodes v) (none_ready fetches given n v ended) ∙ none_at_once fetches given nodes v others
