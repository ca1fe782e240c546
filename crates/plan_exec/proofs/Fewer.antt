-- Each round leaves fewer fetches.
use Rattle.std.proofs.Common.{◌≡◌, ℕ, suc, ◌+◌, ◌<◌, ◌≤◌, List, [], ◌∷◌, ◌++◌, Option, Some, None, ◌⊎◌, inl, inr, refl, ap, ◌∙◌, sym, subst, arith}
use Rattle.std.specs.Prelude.{map}
use Rattle.json_value.specs.declared.tree.Json.{Json}
use Rattle.json_paths.specs.declared.path.Path.{Path}
use Rattle.plan_tree.specs.declared.plan.Node.{Node, map-Node}
use Rattle.plan_tree.specs.declared.plan.Node.TheVariants as node
use Rattle.plan_tree.specs.declared.plan.Node.TheOpen.{Node-F}
use Rattle.plan_tree.specs.declared.plan.Node.TheViews.{roll-Node}
use Rattle.plan_tree.specs.declared.plan.Node.TheFolds.{fold-Node, fold-roll-Node, ind-Node}
use Rattle.plan_tree.specs.declared.plan.Fetch.{Fetch}
use Rattle.representations.specs.Gather.{Rep}
use Rattle.plan_exec.specs.declared.tasks.Done.{Done}
use Rattle.plan_exec.specs.Exec.{pieces_of, reps_for, exec}
use Rattle.plan_exec.specs.Ready.{Waiting, unless_given, if_any, or_else, ready}
use Rattle.plan_exec.specs.Levels.{first_of, each_of}
use Rattle.plan_exec.specs.Giving.{Among, sum, unless_done, left_step, count_left}
use Rattle.plan_exec.proofs.Equations.{ready-fetch, ready-flatten, ready-sequence, ready-parallel}
use Rattle.plan_exec.proofs.Staying.{Among-append_cases, Extends}

pub left-fetch : (given : List Done) (fetch : ℕ) → count_left given (node.Fetch fetch) ≡ unless_done (pieces_of given fetch)
unfolding count_left
left-fetch given fetch = ap (fold-Node ℕ (left_step given)) (sym (node.rolls-Fetch fetch)) ∙ fold-roll-Node ℕ (left_step given) (Node-F.Fetch fetch)

pub left-flatten : (given : List Done) (path : Path) (fetch : ℕ) → count_left given (node.Flatten path fetch) ≡ unless_done (pieces_of given fetch)
unfolding count_left
left-flatten given path fetch = ap (fold-Node ℕ (left_step given)) (sym (node.rolls-Flatten path fetch)) ∙ fold-roll-Node ℕ (left_step given) (Node-F.Flatten path fetch)

pub left-sequence : (given : List Done) (nodes : List Node) → count_left given (node.Sequence nodes) ≡ sum (map (count_left given) nodes)
unfolding count_left
left-sequence given nodes = ap (fold-Node ℕ (left_step given)) (sym (node.rolls-Sequence nodes)) ∙ fold-roll-Node ℕ (left_step given) (Node-F.Sequence nodes)

pub left-parallel : (given : List Done) (nodes : List Node) → count_left given (node.Parallel nodes) ≡ sum (map (count_left given) nodes)
unfolding count_left
left-parallel given nodes = ap (fold-Node ℕ (left_step given)) (sym (node.rolls-Parallel nodes)) ∙ fold-roll-Node ℕ (left_step given) (Node-F.Parallel nodes)

one_ready : (one w : Waiting) (o : Option (List Json)) → Among w (unless_given o (one ∷ [])) → (one ≡ w) × (o ≡ None)
one_ready one w None (inl e) = (e, refl)
one_ready one w None (inr never) = absurd never
one_ready one w (Some pieces) among = absurd among

none_ready : (w : Waiting) (o : Option (List Json)) → Among w (unless_given o []) → ⊥
none_ready w None h = h
none_ready w (Some pieces) h = h

some_ready : (one w : Waiting) (o : Option (List Json)) (reps : List Rep) → Among w (unless_given o (if_any reps one)) → (one ≡ w) × (o ≡ None)
some_ready one w o [] among = absurd (none_ready w o among)
some_ready one w o (rep ∷ reps) among = one_ready one w o among

or_else_cases : (ws later : List Waiting) (w : Waiting) → Among w (or_else ws later) → Among w ws ⊎ Among w later
or_else_cases [] later w h = inr h
or_else_cases (x ∷ ws) later w h = inl h

-- ---- what is ready was not given

module _ (fetches : List Fetch) (given : List Done) where
  abbrev Lacks : Node → Type 0
  Lacks n = (v : Json) (w : Waiting) → Among w (ready fetches given n v) → pieces_of given w.fetch ≡ None

  turn_lacks : (ps : List ((n : Node) × Lacks n)) (v : Json) (w : Waiting) → Among w (first_of fetches given (map (λ e. e.0) ps) v) → pieces_of given w.fetch ≡ None
  turn_lacks [] v w among = absurd among
  turn_lacks (p ∷ ps) v w among = elim (or_else_cases (ready fetches given p.0 v) (first_of fetches given (map (λ e. e.0) ps) (exec fetches given p.0 v)) w among) [
    | inl here ↦ p.1 v w here
    | inr later ↦ turn_lacks ps (exec fetches given p.0 v) w later
  ]

  each_lacks : (ps : List ((n : Node) × Lacks n)) (v : Json) (w : Waiting) → Among w (each_of fetches given (map (λ e. e.0) ps) v) → pieces_of given w.fetch ≡ None
  each_lacks [] v w among = absurd among
  each_lacks (p ∷ ps) v w among = elim (Among-append_cases (ready fetches given p.0 v) (each_of fetches given (map (λ e. e.0) ps) v) w among) [
    | inl here ↦ p.1 v w here
    | inr later ↦ each_lacks ps v w later
  ]

  lacks_at : (y : Node-F ((n : Node) × Lacks n)) → Lacks (roll-Node (map-Node ((n : Node) × Lacks n) Node (λ e. e.0) y))
  lacks_at (Node-F.Fetch fetch) = subst Lacks (sym (node.rolls-Fetch fetch)) (λ v w among.
      let h = one_ready (record { fetch = fetch; path = None; start = v }) w (pieces_of given fetch) (subst (Among w) (ready-fetch fetches given fetch v) among) in
      ap (λ (u : Waiting). pieces_of given u.fetch) (sym h.0) ∙ h.1)
  lacks_at (Node-F.Flatten path fetch) = subst Lacks (sym (node.rolls-Flatten path fetch)) (λ v w among.
      let h = some_ready (record { fetch = fetch; path = Some path; start = v }) w (pieces_of given fetch) (reps_for fetches v path fetch) (subst (Among w) (ready-flatten fetches given path fetch v) among) in
      ap (λ (u : Waiting). pieces_of given u.fetch) (sym h.0) ∙ h.1)
  lacks_at (Node-F.Sequence ps) = subst Lacks (sym (node.rolls-Sequence (map (λ e. e.0) ps))) (λ v w among. turn_lacks ps v w (subst (Among w) (ready-sequence fetches given (map (λ e. e.0) ps) v) among))
  lacks_at (Node-F.Parallel ps) = subst Lacks (sym (node.rolls-Parallel (map (λ e. e.0) ps))) (λ v w among. each_lacks ps v w (subst (Among w) (ready-parallel fetches given (map (λ e. e.0) ps) v) among))

  pub ready_lacks : (n : Node) (v : Json) (w : Waiting) → Among w (ready fetches given n v) → pieces_of given w.fetch ≡ None
  ready_lacks = ind-Node Lacks (λ x y is. subst (λ z. Lacks (roll-Node z)) is (lacks_at y))

-- ---- fewer are count_left

module _ (fetches : List Fetch) (given more : List Done) (ext : Extends given more) where
  pub record Falls (n : Node) : Type 0 where
    pub at_most : count_left more n ≤ count_left given n
    pub below : (v : Json) (w : Waiting) (pieces : List Json) → Among w (ready fetches given n v) → pieces_of more w.fetch ≡ Some pieces → count_left more n < count_left given n

  leaf_at_most : (fetch : ℕ) → unless_done (pieces_of more fetch) ≤ unless_done (pieces_of given fetch)
  leaf_at_most fetch = by_given (pieces_of given fetch) refl
    where
      by_given : (o : Option (List Json)) → pieces_of given fetch ≡ o → unless_done (pieces_of more fetch) ≤ unless_done o
      by_given (Some pieces) is = rw (ext fetch pieces is) (omega arith)
      by_given None is = at_most_one (pieces_of more fetch)
        where
          at_most_one : (o : Option (List Json)) → unless_done o ≤ 1
          at_most_one None = omega arith
          at_most_one (Some pieces) = omega arith

  leaf_below : (fetch : ℕ) (one w : Waiting) (pieces : List Json) → one.fetch ≡ fetch → (one ≡ w) × (pieces_of given fetch ≡ None) → pieces_of more w.fetch ≡ Some pieces → unless_done (pieces_of more fetch) < unless_done (pieces_of given fetch)
  leaf_below fetch one w pieces its h is =
      let here : pieces_of more fetch ≡ Some pieces = ap (pieces_of more) (sym its) ∙ ap (λ (u : Waiting). pieces_of more u.fetch) h.0 ∙ is in
      rw (here, h.1) (omega arith)

  children_at_most : (ps : List ((n : Node) × Falls n)) → sum (map (count_left more) (map (λ e. e.0) ps)) ≤ sum (map (count_left given) (map (λ e. e.0) ps))
  children_at_most [] = omega arith
  children_at_most (p ∷ ps) = let here = p.1.at_most in let rest = children_at_most ps in omega arith

  turn_below : (ps : List ((n : Node) × Falls n)) (v : Json) (w : Waiting) (pieces : List Json) → Among w (first_of fetches given (map (λ e. e.0) ps) v) → pieces_of more w.fetch ≡ Some pieces →
      sum (map (count_left more) (map (λ e. e.0) ps)) < sum (map (count_left given) (map (λ e. e.0) ps))
  turn_below [] v w pieces among is = absurd among
  turn_below (p ∷ ps) v w pieces among is = elim (or_else_cases (ready fetches given p.0 v) (first_of fetches given (map (λ e. e.0) ps) (exec fetches given p.0 v)) w among) [
    | inl here ↦ (let a = p.1.below v w pieces here is in let b = children_at_most ps in omega arith)
    | inr later ↦ (let a = p.1.at_most in let b = turn_below ps (exec fetches given p.0 v) w pieces later is in omega arith)
  ]

  each_below : (ps : List ((n : Node) × Falls n)) (v : Json) (w : Waiting) (pieces : List Json) → Among w (each_of fetches given (map (λ e. e.0) ps) v) → pieces_of more w.fetch ≡ Some pieces →
      sum (map (count_left more) (map (λ e. e.0) ps)) < sum (map (count_left given) (map (λ e. e.0) ps))
  each_below [] v w pieces among is = absurd among
  each_below (p ∷ ps) v w pieces among is = elim (Among-append_cases (ready fetches given p.0 v) (each_of fetches given (map (λ e. e.0) ps) v) w among) [
    | inl here ↦ (let a = p.1.below v w pieces here is in let b = children_at_most ps in omega arith)
    | inr later ↦ (let a = p.1.at_most in let b = each_below ps v w pieces later is in omega arith)
  ]

  falls_at : (y : Node-F ((n : Node) × Falls n)) → Falls (roll-Node (map-Node ((n : Node) × Falls n) Node (λ e. e.0) y))
  falls_at (Node-F.Fetch fetch) = subst Falls (sym (node.rolls-Fetch fetch)) (record {
    at_most = rw (left-fetch more fetch, left-fetch given fetch) (leaf_at_most fetch);
    below = λ v w pieces among is. rw (left-fetch more fetch, left-fetch given fetch) (leaf_below fetch (record { fetch = fetch; path = None; start = v }) w pieces refl (one_ready (record { fetch = fetch; path = None; start = v }) w (pieces_of given fetch) (subst (Among w) (ready-fetch fetches given fetch v) among)) is);
  })
  falls_at (Node-F.Flatten path fetch) = subst Falls (sym (node.rolls-Flatten path fetch)) (record {
    at_most = rw (left-flatten more path fetch, left-flatten given path fetch) (leaf_at_most fetch);
    below = λ v w pieces among is. rw (left-flatten more path fetch, left-flatten given path fetch) (leaf_below fetch (record { fetch = fetch; path = Some path; start = v }) w pieces refl (some_ready (record { fetch = fetch; path = Some path; start = v }) w (pieces_of given fetch) (reps_for fetches v path fetch) (subst (Among w) (ready-flatten fetches given path fetch v) among)) is);
  })
  falls_at (Node-F.Sequence ps) = subst Falls (sym (node.rolls-Sequence (map (λ e. e.0) ps))) (record {
    at_most = rw (left-sequence more (map (λ e. e.0) ps), left-sequence given (map (λ e. e.0) ps)) (children_at_most ps);
    below = λ v w pieces among is. rw (left-sequence more (map (λ e. e.0) ps), left-sequence given (map (λ e. e.0) ps)) (turn_below ps v w pieces (subst (Among w) (ready-sequence fetches given (map (λ e. e.0) ps) v) among) is);
  })
  falls_at (Node-F.Parallel ps) = subst Falls (sym (node.rolls-Parallel (map (λ e. e.0) ps))) (record {
    at_most = rw (left-parallel more (map (λ e. e.0) ps), left-parallel given (map (λ e. e.0) ps)) (children_at_most ps);
    below = λ v w pieces among is. rw (left-parallel more (map (λ e. e.0) ps), left-parallel given (map (λ e. e.0) ps)) (each_below ps v w pieces (subst (Among w) (ready-parallel fetches given (map (λ e. e.0) ps) v) among) is);
  })

  pub falls : (n : Node) → Falls n
  falls = ind-Node Falls (λ x y is. subst (λ z. Falls (roll-Node z)) is (falls_at y))
