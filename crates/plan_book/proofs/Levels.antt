-- The numbers of a node's fetches, and whether they fit, by the node's kind.
use Rattle.std.proofs.Common.{◌≡◌, ℕ, zero, suc, ◌+◌, Bool, List, [], ◌∷◌, ◌++◌, Some, length, refl, sym, ap, ◌∙◌, arith}
use Rattle.std.specs.Prelude.{map, ◌&&◌, slice_get}
use Rattle.json_paths.specs.declared.path.Path.{Path}
use Rattle.plan_tree.specs.declared.plan.Node.{Node}
use Rattle.plan_tree.specs.declared.plan.Node.TheVariants as node
use Rattle.plan_tree.specs.declared.plan.Node.TheOpen.{Node-F}
use Rattle.plan_tree.specs.declared.plan.Node.TheFolds.{fold-Node, fold-roll-Node}
use Rattle.plan_tree.specs.declared.plan.Fetch.{Fetch}
use Rattle.plan_tree.specs.Lawful.{fits_step, is_well_placed, is_some_of, all_true, is_root, is_entity}
use Rattle.plan_tree.specs.Numbers.{joined, numbers_step, numbers, numbers_from}

pub numbers-fetch : (n : ℕ) → numbers (node.Fetch n) ≡ n ∷ []
unfolding numbers
numbers-fetch n = ap (fold-Node (List ℕ) numbers_step) (sym (node.rolls-Fetch n)) ∙ fold-roll-Node (List ℕ) numbers_step (Node-F.Fetch n)

pub numbers-flatten : (path : Path) (n : ℕ) → numbers (node.Flatten path n) ≡ n ∷ []
unfolding numbers
numbers-flatten path n = ap (fold-Node (List ℕ) numbers_step) (sym (node.rolls-Flatten path n)) ∙ fold-roll-Node (List ℕ) numbers_step (Node-F.Flatten path n)

pub numbers-sequence : (ns : List Node) → numbers (node.Sequence ns) ≡ joined (map numbers ns)
unfolding numbers
numbers-sequence ns = ap (fold-Node (List ℕ) numbers_step) (sym (node.rolls-Sequence ns)) ∙ fold-roll-Node (List ℕ) numbers_step (Node-F.Sequence ns)

pub numbers-parallel : (ns : List Node) → numbers (node.Parallel ns) ≡ joined (map numbers ns)
unfolding numbers
numbers-parallel ns = ap (fold-Node (List ℕ) numbers_step) (sym (node.rolls-Parallel ns)) ∙ fold-roll-Node (List ℕ) numbers_step (Node-F.Parallel ns)

some-mapped : {X Y : Type 0} (f : X → Y) (xs : List X) → is_some_of (map f xs) ≡ is_some_of xs
some-mapped f [] = refl
some-mapped f (x ∷ xs) = refl

module _ (fetches : List Fetch) where
  pub fits-fetch : (n : ℕ) → is_well_placed fetches (node.Fetch n) ≡ is_root (slice_get fetches n)
  unfolding is_well_placed
  fits-fetch n = ap (fold-Node Bool (fits_step fetches)) (sym (node.rolls-Fetch n)) ∙ fold-roll-Node Bool (fits_step fetches) (Node-F.Fetch n)

  pub fits-flatten : (path : Path) (n : ℕ) → is_well_placed fetches (node.Flatten path n) ≡ (is_some_of path.steps && is_entity (slice_get fetches n))
  unfolding is_well_placed
  fits-flatten path n = ap (fold-Node Bool (fits_step fetches)) (sym (node.rolls-Flatten path n)) ∙ fold-roll-Node Bool (fits_step fetches) (Node-F.Flatten path n)

  pub fits-sequence : (ns : List Node) → is_well_placed fetches (node.Sequence ns) ≡ (is_some_of ns && all_true (map (is_well_placed fetches) ns))
  unfolding is_well_placed
  fits-sequence ns = ap (fold-Node Bool (fits_step fetches)) (sym (node.rolls-Sequence ns)) ∙ fold-roll-Node Bool (fits_step fetches) (Node-F.Sequence ns)
      ∙ ap (λ (b : Bool). b && all_true (map (fold-Node Bool (fits_step fetches)) ns)) (some-mapped (fold-Node Bool (fits_step fetches)) ns)

  pub fits-parallel : (ns : List Node) → is_well_placed fetches (node.Parallel ns) ≡ (is_some_of ns && all_true (map (is_well_placed fetches) ns))
  unfolding is_well_placed
  fits-parallel ns = ap (fold-Node Bool (fits_step fetches)) (sym (node.rolls-Parallel ns)) ∙ fold-roll-Node Bool (fits_step fetches) (Node-F.Parallel ns)
      ∙ ap (λ (b : Bool). b && all_true (map (fold-Node Bool (fits_step fetches)) ns)) (some-mapped (fold-Node Bool (fits_step fetches)) ns)

pub counted-add : (n m from : ℕ) → numbers_from (n + m) from ≡ numbers_from n from ++ numbers_from m (n + from)
counted-add zero m from = let e : zero + m ≡ m = omega arith in let f : zero + from ≡ from = omega arith in rw (e, f) refl
counted-add (suc n) m from =
    let e : suc n + m ≡ suc (n + m) = omega arith in
    let f : suc n + from ≡ n + suc from = omega arith in
    rw (e, f) (ap (λ (ns : List ℕ). from ∷ ns) (counted-add n m (suc from)))

pub slice_get-at : {X : Type 0} (before : List X) (x : X) (more : List X) → slice_get ((before ++ (x ∷ [])) ++ more) (length before) ≡ Some x
slice_get-at [] x more = refl
slice_get-at (y ∷ before) x more = slice_get-at before x more
