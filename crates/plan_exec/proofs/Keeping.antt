-- What is ready and not given now stays ready, in the same order.
use Rattle.std.proofs.Common.{◌≡◌, ℕ, List, [], ◌∷◌, ◌++◌, Option, Some, None, refl, ap, ◌∙◌, sym, subst}
use Rattle.std.specs.Prelude.{map}
use Rattle.json_value.specs.declared.tree.Json.{Json}
use Rattle.json_paths.specs.declared.path.Path.{Path}
use Rattle.plan_tree.specs.declared.plan.Node.{Node, map-Node}
use Rattle.plan_tree.specs.declared.plan.Node.TheVariants as node
use Rattle.plan_tree.specs.declared.plan.Node.TheOpen.{Node-F}
use Rattle.plan_tree.specs.declared.plan.Node.TheViews.{roll-Node}
use Rattle.plan_tree.specs.declared.plan.Node.TheFolds.{ind-Node}
use Rattle.plan_tree.specs.declared.plan.Fetch.{Fetch}
use Rattle.representations.specs.Gather.{Rep}
use Rattle.plan_exec.specs.declared.tasks.Done.{Done}
use Rattle.plan_exec.specs.Exec.{pieces_of, reps_for, exec}
use Rattle.plan_exec.specs.Ready.{Waiting, unless_given, if_any, or_else, ready}
use Rattle.plan_exec.specs.Levels.{first_of, each_of}
use Rattle.plan_exec.specs.Keeping.{unless_pieces, still_open, IsPart, nothing, kept, passed}
use Rattle.plan_exec.proofs.Equations.{ready-fetch, ready-flatten, ready-sequence, ready-parallel}
use Rattle.plan_exec.proofs.Staying.{Extends, finished_stays}

pub none_of : {X : Type 0} (xs : List X) → IsPart [] xs
none_of [] = nothing
none_of (x ∷ xs) = passed x [] xs (none_of xs)

pub beside : {X : Type 0} (a b c d : List X) → IsPart a b → IsPart c d → IsPart (a ++ c) (b ++ d)
beside _ _ c d nothing later = later
beside _ _ c d (kept x part whole here) later = kept x (part ++ c) (whole ++ d) (beside part whole c d here later)
beside _ _ c d (passed x part whole here) later = passed x (part ++ c) (whole ++ d) (beside part whole c d here later)

pub part_left : {X : Type 0} (a b c : List X) → IsPart a b → IsPart a (b ++ c)
part_left _ _ c nothing = none_of c
part_left _ _ c (kept x part whole here) = kept x part (whole ++ c) (part_left part whole c here)
part_left _ _ c (passed x part whole here) = passed x part (whole ++ c) (part_left part whole c here)

still_open-append : (given : List Done) (ws later : List Waiting) → still_open given (ws ++ later) ≡ still_open given ws ++ still_open given later
still_open-append given [] later = refl
still_open-append given (w ∷ ws) later = ap (unless_pieces (pieces_of given w.fetch) w) (still_open-append given ws later) ∙ out_of (pieces_of given w.fetch)
  where
    out_of : (o : Option (List Json)) → unless_pieces o w (still_open given ws ++ still_open given later) ≡ unless_pieces o w (still_open given ws) ++ still_open given later
    out_of None = refl
    out_of (Some pieces) = refl

none_in_none : (ws vs : List Waiting) → IsPart ws vs → vs ≡ [] → ws ≡ []
none_in_none _ _ nothing none = refl
none_in_none _ _ (kept w part whole here) none = cc
none_in_none _ _ (passed w part whole here) none = cc

part_or_else : (ws vs later : List Waiting) → IsPart ws vs → IsPart ws (or_else vs later)
part_or_else ws [] later here = subst (λ us. IsPart us later) (sym (none_in_none ws [] here refl)) (none_of later)
part_or_else ws (v ∷ vs) later here = here

module _ (fetches : List Fetch) (given more : List Done) (ext : Extends given more) where
  abbrev KeepsOrder : Node → Type 0
  KeepsOrder n = (v : Json) → IsPart (still_open more (ready fetches given n v)) (ready fetches more n v)

  one_kept : (fetch : ℕ) (one : Waiting) → one.fetch ≡ fetch → IsPart (still_open more (unless_given (pieces_of given fetch) (one ∷ []))) (unless_given (pieces_of more fetch) (one ∷ []))
  one_kept fetch one its = by_given (pieces_of given fetch) (pieces_of more fetch) refl
    where
      by_given : (o q : Option (List Json)) → pieces_of more fetch ≡ q → IsPart (still_open more (unless_given o (one ∷ []))) (unless_given q (one ∷ []))
      by_given (Some pieces) q is = none_of (unless_given q (one ∷ []))
      by_given None None is = let here : pieces_of more one.fetch ≡ None = ap (pieces_of more) its ∙ is in rw here (kept one [] [] nothing)
      by_given None (Some pieces) is = let here : pieces_of more one.fetch ≡ Some pieces = ap (pieces_of more) its ∙ is in rw here nothing

  fetch_keeps : (fetch : ℕ) → KeepsOrder (node.Fetch fetch)
  fetch_keeps fetch v = subst (λ ws. IsPart (still_open more ws) (ready fetches more (node.Fetch fetch) v)) (sym (ready-fetch fetches given fetch v))
      (subst (λ ws. IsPart (still_open more (unless_given (pieces_of given fetch) (record { fetch = fetch; path = None; start = v } ∷ []))) ws) (sym (ready-fetch fetches more fetch v)) (one_kept fetch (record { fetch = fetch; path = None; start = v }) refl))

  flatten_keeps : (path : Path) (fetch : ℕ) → KeepsOrder (node.Flatten path fetch)
  flatten_keeps path fetch v = subst (λ ws. IsPart (still_open more ws) (ready fetches more (node.Flatten path fetch) v)) (sym (ready-flatten fetches given path fetch v))
      (subst (λ ws. IsPart (still_open more (unless_given (pieces_of given fetch) (if_any (reps_for fetches v path fetch) (record { fetch = fetch; path = Some path; start = v })))) ws) (sym (ready-flatten fetches more path fetch v)) (by_reps (reps_for fetches v path fetch)))
    where
      none_open : (o : Option (List Json)) → still_open more (unless_given o []) ≡ []
      none_open None = refl
      none_open (Some pieces) = refl

      by_reps : (reps : List Rep) → IsPart (still_open more (unless_given (pieces_of given fetch) (if_any reps (record { fetch = fetch; path = Some path; start = v })))) (unless_given (pieces_of more fetch) (if_any reps (record { fetch = fetch; path = Some path; start = v })))
      by_reps [] = subst (λ ws. IsPart ws (unless_given (pieces_of more fetch) [])) (sym (none_open (pieces_of given fetch))) (none_of (unless_given (pieces_of more fetch) []))
      by_reps (rep ∷ reps) = one_kept fetch (record { fetch = fetch; path = Some path; start = v }) refl

  turn_keeps : (ps : List ((n : Node) × KeepsOrder n)) (v : Json) → IsPart (still_open more (first_of fetches given (map (λ e. e.0) ps) v)) (first_of fetches more (map (λ e. e.0) ps) v)
  turn_keeps [] v = nothing
  turn_keeps (p ∷ ps) v = by_ready (ready fetches given p.0 v) refl (turn_keeps ps (exec fetches given p.0 v))
    where
      by_ready : (ws : List Waiting) → ready fetches given p.0 v ≡ ws → IsPart (still_open more (first_of fetches given (map (λ e. e.0) ps) (exec fetches given p.0 v))) (first_of fetches more (map (λ e. e.0) ps) (exec fetches given p.0 v)) →
          IsPart (still_open more (or_else (ready fetches given p.0 v) (first_of fetches given (map (λ e. e.0) ps) (exec fetches given p.0 v)))) (or_else (ready fetches more p.0 v) (first_of fetches more (map (λ e. e.0) ps) (exec fetches more p.0 v)))
      by_ready [] none rest =
          let stays = finished_stays fetches given more ext p.0 v none in
          let now_is : or_else (ready fetches more p.0 v) (first_of fetches more (map (λ e. e.0) ps) (exec fetches more p.0 v)) ≡ first_of fetches more (map (λ e. e.0) ps) (exec fetches given p.0 v) =
          ap (λ us. or_else us (first_of fetches more (map (λ e. e.0) ps) (exec fetches more p.0 v))) stays.none ∙ ap (first_of fetches more (map (λ e. e.0) ps)) stays.value in
          let was : or_else (ready fetches given p.0 v) (first_of fetches given (map (λ e. e.0) ps) (exec fetches given p.0 v)) ≡ first_of fetches given (map (λ e. e.0) ps) (exec fetches given p.0 v) =
          ap (λ us. or_else us (first_of fetches given (map (λ e. e.0) ps) (exec fetches given p.0 v))) none in
          subst (λ us. IsPart (still_open more us) (or_else (ready fetches more p.0 v) (first_of fetches more (map (λ e. e.0) ps) (exec fetches more p.0 v)))) (sym was)
          (subst (λ us. IsPart (still_open more (first_of fetches given (map (λ e. e.0) ps) (exec fetches given p.0 v))) us) (sym now_is) rest)
      by_ready (x ∷ ws) is rest =
          let was : or_else (ready fetches given p.0 v) (first_of fetches given (map (λ e. e.0) ps) (exec fetches given p.0 v)) ≡ ready fetches given p.0 v =
          ap (λ us. or_else us (first_of fetches given (map (λ e. e.0) ps) (exec fetches given p.0 v))) is ∙ sym is in
          subst (λ us. IsPart (still_open more us) (or_else (ready fetches more p.0 v) (first_of fetches more (map (λ e. e.0) ps) (exec fetches more p.0 v)))) (sym was)
          (part_or_else (still_open more (ready fetches given p.0 v)) (ready fetches more p.0 v) (first_of fetches more (map (λ e. e.0) ps) (exec fetches more p.0 v)) (p.1 v))

  each_keeps : (ps : List ((n : Node) × KeepsOrder n)) (v : Json) → IsPart (still_open more (each_of fetches given (map (λ e. e.0) ps) v)) (each_of fetches more (map (λ e. e.0) ps) v)
  each_keeps [] v = nothing
  each_keeps (p ∷ ps) v =
      subst (λ us. IsPart us (ready fetches more p.0 v ++ each_of fetches more (map (λ e. e.0) ps) v)) (sym (still_open-append more (ready fetches given p.0 v) (each_of fetches given (map (λ e. e.0) ps) v)))
      (beside (still_open more (ready fetches given p.0 v)) (ready fetches more p.0 v) (still_open more (each_of fetches given (map (λ e. e.0) ps) v)) (each_of fetches more (map (λ e. e.0) ps) v) (p.1 v) (each_keeps ps v))

  keeps_at : (y : Node-F ((n : Node) × KeepsOrder n)) → KeepsOrder (roll-Node (map-Node ((n : Node) × KeepsOrder n) Node (λ e. e.0) y))
  keeps_at (Node-F.Fetch fetch) = subst KeepsOrder (sym (node.rolls-Fetch fetch)) (fetch_keeps fetch)
  keeps_at (Node-F.Flatten path fetch) = subst KeepsOrder (sym (node.rolls-Flatten path fetch)) (flatten_keeps path fetch)
  keeps_at (Node-F.Sequence ps) = subst KeepsOrder (sym (node.rolls-Sequence (map (λ e. e.0) ps))) (λ v.
      subst (λ us. IsPart (still_open more us) (ready fetches more (node.Sequence (map (λ e. e.0) ps)) v)) (sym (ready-sequence fetches given (map (λ e. e.0) ps) v))
      (subst (λ us. IsPart (still_open more (first_of fetches given (map (λ e. e.0) ps) v)) us) (sym (ready-sequence fetches more (map (λ e. e.0) ps) v)) (turn_keeps ps v)))
  keeps_at (Node-F.Parallel ps) = subst KeepsOrder (sym (node.rolls-Parallel (map (λ e. e.0) ps))) (λ v.
      subst (λ us. IsPart (still_open more us) (ready fetches more (node.Parallel (map (λ e. e.0) ps)) v)) (sym (ready-parallel fetches given (map (λ e. e.0) ps) v))
      (subst (λ us. IsPart (still_open more (each_of fetches given (map (λ e. e.0) ps) v)) us) (sym (ready-parallel fetches more (map (λ e. e.0) ps) v)) (each_keeps ps v)))

  pub order_stays : (n : Node) (v : Json) → IsPart (still_open more (ready fetches given n v)) (ready fetches more n v)
  order_stays = ind-Node KeepsOrder (λ x y is. subst (λ z. KeepsOrder (roll-Node z)) is (keeps_at y))
