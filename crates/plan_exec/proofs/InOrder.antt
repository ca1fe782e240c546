-- The ready fetches stand in the plan's order, each once where the plan has each number once.
use Rattle.std.proofs.Common.{◌≡◌, ℕ, zero, suc, ◌+◌, ◌<◌, ◌≤◌, List, [], ◌∷◌, ◌++◌, Option, Some, None, ◌⊎◌, inl, inr, refl, ap, ◌∙◌, sym, subst, arith, length}
use Rattle.std.specs.Prelude.{map}
use Rattle.std.proofs.lemmas.List.{map-append}
use Rattle.json_value.specs.declared.tree.Json.{Json}
use Rattle.json_paths.specs.declared.path.Path.{Path}
use Rattle.plan_tree.specs.declared.plan.Node.{Node, map-Node}
use Rattle.plan_tree.specs.declared.plan.Node.TheVariants as node
use Rattle.plan_tree.specs.declared.plan.Node.TheOpen.{Node-F}
use Rattle.plan_tree.specs.declared.plan.Node.TheViews.{roll-Node}
use Rattle.plan_tree.specs.declared.plan.Node.TheFolds.{ind-Node}
use Rattle.plan_tree.specs.declared.plan.Fetch.{Fetch}
use Rattle.plan_tree.specs.declared.plan.Plan.{Plan}
use Rattle.plan_tree.specs.Numbers.{joined, numbers, numbers_from}
use Rattle.plan_tree.specs.Lawful.{IsLawful}
use Rattle.representations.specs.Gather.{Rep}
use Rattle.plan_exec.specs.declared.tasks.Done.{Done}
use Rattle.plan_exec.specs.Exec.{pieces_of, reps_for, exec}
use Rattle.plan_exec.specs.Ready.{Waiting, unless_given, if_any, or_else, ready}
use Rattle.plan_exec.specs.Levels.{first_of, each_of}
use Rattle.plan_exec.specs.Giving.{Among}
use Rattle.plan_exec.specs.Order.{fetch_of}
use Rattle.plan_exec.specs.Keeping.{IsPart, nothing, kept, passed, AllDiffer}
use Rattle.plan_exec.proofs.Equations.{ready-fetch, ready-flatten, ready-sequence, ready-parallel}
use Rattle.plan_exec.proofs.Keeping.{none_of, beside, part_left}
use Rattle.plan_exec.proofs.Orders.{numbers-fetch, numbers-flatten, numbers-sequence, numbers-parallel}

module _ (fetches : List Fetch) (given : List Done) where
  abbrev StandsInOrder : Node → Type 0
  StandsInOrder n = (v : Json) → IsPart (map fetch_of (ready fetches given n v)) (numbers n)

  one_stands : (one : Waiting) (o : Option (List Json)) → IsPart (map fetch_of (unless_given o (one ∷ []))) (one.fetch ∷ [])
  one_stands one None = kept one.fetch [] [] nothing
  one_stands one (Some pieces) = none_of (one.fetch ∷ [])

  none_stands : (fetch : ℕ) (o : Option (List Json)) → IsPart (map fetch_of (unless_given o [])) (fetch ∷ [])
  none_stands fetch None = none_of (fetch ∷ [])
  none_stands fetch (Some pieces) = none_of (fetch ∷ [])

  fetch_stands : (fetch : ℕ) → StandsInOrder (node.Fetch fetch)
  fetch_stands fetch v = subst (λ ws. IsPart (map fetch_of ws) (numbers (node.Fetch fetch))) (sym (ready-fetch fetches given fetch v))
      (subst (λ ns. IsPart (map fetch_of (unless_given (pieces_of given fetch) (record { fetch = fetch; path = None; start = v } ∷ []))) ns) (sym (numbers-fetch fetch)) (one_stands (record { fetch = fetch; path = None; start = v }) (pieces_of given fetch)))

  flatten_stands : (path : Path) (fetch : ℕ) → StandsInOrder (node.Flatten path fetch)
  flatten_stands path fetch v = subst (λ ws. IsPart (map fetch_of ws) (numbers (node.Flatten path fetch))) (sym (ready-flatten fetches given path fetch v))
      (subst (λ ns. IsPart (map fetch_of (unless_given (pieces_of given fetch) (if_any (reps_for fetches v path fetch) (record { fetch = fetch; path = Some path; start = v })))) ns) (sym (numbers-flatten path fetch)) (by_reps (reps_for fetches v path fetch)))
    where
      by_reps : (reps : List Rep) → IsPart (map fetch_of (unless_given (pieces_of given fetch) (if_any reps (record { fetch = fetch; path = Some path; start = v })))) (fetch ∷ [])
      by_reps [] = none_stands fetch (pieces_of given fetch)
      by_reps (rep ∷ reps) = one_stands (record { fetch = fetch; path = Some path; start = v }) (pieces_of given fetch)

  turn_stands : (ps : List ((n : Node) × StandsInOrder n)) (v : Json) → IsPart (map fetch_of (first_of fetches given (map (λ e. e.0) ps) v)) (joined (map numbers (map (λ e. e.0) ps)))
  turn_stands [] v = nothing
  turn_stands (p ∷ ps) v = by_ready (ready fetches given p.0 v) (p.1 v) (turn_stands ps (exec fetches given p.0 v))
    where
      by_ready : (ws : List Waiting) → IsPart (map fetch_of ws) (numbers p.0) → IsPart (map fetch_of (first_of fetches given (map (λ e. e.0) ps) (exec fetches given p.0 v))) (joined (map numbers (map (λ e. e.0) ps))) →
          IsPart (map fetch_of (or_else ws (first_of fetches given (map (λ e. e.0) ps) (exec fetches given p.0 v)))) (numbers p.0 ++ joined (map numbers (map (λ e. e.0) ps)))
      by_ready [] here rest = beside [] (numbers p.0) (map fetch_of (first_of fetches given (map (λ e. e.0) ps) (exec fetches given p.0 v))) (joined (map numbers (map (λ e. e.0) ps))) (none_of (numbers p.0)) rest
      by_ready (w ∷ ws) here rest = part_left (map fetch_of (w ∷ ws)) (numbers p.0) (joined (map numbers (map (λ e. e.0) ps))) here

  each_stands : (ps : List ((n : Node) × StandsInOrder n)) (v : Json) → IsPart (map fetch_of (each_of fetches given (map (λ e. e.0) ps) v)) (joined (map numbers (map (λ e. e.0) ps)))
  each_stands [] v = nothing
  each_stands (p ∷ ps) v = subst (λ ns. IsPart ns (numbers p.0 ++ joined (map numbers (map (λ e. e.0) ps)))) (sym (map-append fetch_of (ready fetches given p.0 v) (each_of fetches given (map (λ e. e.0) ps) v)))
      (beside (map fetch_of (ready fetches given p.0 v)) (numbers p.0) (map fetch_of (each_of fetches given (map (λ e. e.0) ps) v)) (joined (map numbers (map (λ e. e.0) ps))) (p.1 v) (each_stands ps v))

  stands_at : (y : Node-F ((n : Node) × StandsInOrder n)) → StandsInOrder (roll-Node (map-Node ((n : Node) × StandsInOrder n) Node (λ e. e.0) y))
  stands_at (Node-F.Fetch fetch) = subst StandsInOrder (sym (node.rolls-Fetch fetch)) (fetch_stands fetch)
  stands_at (Node-F.Flatten path fetch) = subst StandsInOrder (sym (node.rolls-Flatten path fetch)) (flatten_stands path fetch)
  stands_at (Node-F.Sequence ps) = subst StandsInOrder (sym (node.rolls-Sequence (map (λ e. e.0) ps))) (λ v.
      subst (λ ws. IsPart (map fetch_of ws) (numbers (node.Sequence (map (λ e. e.0) ps)))) (sym (ready-sequence fetches given (map (λ e. e.0) ps) v))
      (subst (λ ns. IsPart (map fetch_of (first_of fetches given (map (λ e. e.0) ps) v)) ns) (sym (numbers-sequence (map (λ e. e.0) ps))) (turn_stands ps v)))
  stands_at (Node-F.Parallel ps) = subst StandsInOrder (sym (node.rolls-Parallel (map (λ e. e.0) ps))) (λ v.
      subst (λ ws. IsPart (map fetch_of ws) (numbers (node.Parallel (map (λ e. e.0) ps)))) (sym (ready-parallel fetches given (map (λ e. e.0) ps) v))
      (subst (λ ns. IsPart (map fetch_of (each_of fetches given (map (λ e. e.0) ps) v)) ns) (sym (numbers-parallel (map (λ e. e.0) ps))) (each_stands ps v)))

  pub stands_in_order : (n : Node) (v : Json) → IsPart (map fetch_of (ready fetches given n v)) (numbers n)
  stands_in_order = ind-Node StandsInOrder (λ x y is. subst (λ z. StandsInOrder (roll-Node z)) is (stands_at y))

-- ---- each once

among_part : (x : ℕ) (part whole : List ℕ) → IsPart part whole → Among x part → Among x whole
among_part x _ _ nothing has = has
among_part x _ _ (kept y part whole here) (inl e) = inl e
among_part x _ _ (kept y part whole here) (inr later) = inr (among_part x part whole here later)
among_part x _ _ (passed y part whole here) has = inr (among_part x part whole here has)

part_differ : (part whole : List ℕ) → IsPart part whole → AllDiffer whole → AllDiffer part
part_differ _ _ nothing differ = tt
part_differ _ _ (kept y part whole here) differ = (λ has. differ.0 (among_part y part whole here has), part_differ part whole here differ.1)
part_differ _ _ (passed y part whole here) differ = part_differ part whole here differ.1

counted_above : (n from x : ℕ) → Among x (numbers_from n from) → from ≤ x
counted_above zero from x has = absurd has
counted_above (suc n) from x (inl e) = omega arith
counted_above (suc n) from x (inr later) = let above : suc from ≤ x = counted_above n (suc from) x later in omega arith

counted_differ : (n from : ℕ) → AllDiffer (numbers_from n from)
counted_differ zero from = tt
counted_differ (suc n) from = (λ has. (let above : suc from ≤ from = counted_above n (suc from) from has in omega arith), counted_differ n (suc from))

pub asks_each_once : (plan : Plan) (given : List Done) (v : Json) → IsLawful plan → AllDiffer (map fetch_of (ready plan.fetches given plan.root v))
asks_each_once plan given v lawful =
    let whole : AllDiffer (numbers plan.root) = subst AllDiffer (sym lawful.numbered) (counted_differ (length plan.fetches) 0) in
    part_differ (map fetch_of (ready plan.fetches given plan.root v)) (numbers plan.root) (stands_in_order plan.fetches given plan.root v) whole
