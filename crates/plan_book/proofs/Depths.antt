-- How deep nodes are, by their kinds, and how deep what was read is.
use Rattle.std.proofs.Common.{◌≡◌, ℕ, suc, ◌+◌, max, List, [], ◌∷◌, ap, ◌∙◌, sym, arith}
use Rattle.std.specs.Prelude.{map, ◌++◌}
use Rattle.std.proofs.lemmas.List.{map-append}
use Rattle.json_paths.specs.declared.path.Path.{Path}
use Rattle.plan_tree.specs.declared.plan.Node.{Node}
use Rattle.plan_tree.specs.declared.plan.Node.TheVariants as node
use Rattle.plan_tree.specs.declared.plan.Node.TheOpen.{Node-F}
use Rattle.plan_tree.specs.declared.plan.Node.TheFolds.{fold-Node, fold-roll-Node}
use Rattle.plan_tree.specs.Lawful.{deepest, depth_step, depth}
use Rattle.plan_book.specs.declared.nodes.Draft.{Draft}
use Rattle.plan_book.specs.Drafts.{Deepens, StandsInside}
use Rattle.plan_book.proofs.Each.{deepest-append}

pub depth-fetch : (n : ℕ) → depth (node.Fetch n) ≡ 1
unfolding depth
depth-fetch n = ap (fold-Node ℕ depth_step) (sym (node.rolls-Fetch n)) ∙ fold-roll-Node ℕ depth_step (Node-F.Fetch n)

pub depth-flatten : (path : Path) (n : ℕ) → depth (node.Flatten path n) ≡ 2
unfolding depth
depth-flatten path n = ap (fold-Node ℕ depth_step) (sym (node.rolls-Flatten path n)) ∙ fold-roll-Node ℕ depth_step (Node-F.Flatten path n)

pub depth-sequence : (ns : List Node) → depth (node.Sequence ns) ≡ suc (deepest (map depth ns))
unfolding depth
depth-sequence ns = ap (fold-Node ℕ depth_step) (sym (node.rolls-Sequence ns)) ∙ fold-roll-Node ℕ depth_step (Node-F.Sequence ns)

pub depth-parallel : (ns : List Node) → depth (node.Parallel ns) ≡ suc (deepest (map depth ns))
unfolding depth
depth-parallel ns = ap (fold-Node ℕ depth_step) (sym (node.rolls-Parallel ns)) ∙ fold-roll-Node ℕ depth_step (Node-F.Parallel ns)

pub deepens_as : (old new : Draft) (around d e : ℕ) → e ≡ d → Deepens old new around d → Deepens old new around e
deepens_as old new around d e same h = record { deepest_is = rw same h.deepest_is; longer = h.longer }

-- one part, and then another
pub deepens_twice : (old mid new : Draft) (around d more e both : ℕ) → Deepens old mid around d → Deepens mid new more e → around + both ≡ max (around + d) (more + e) → Deepens old new around both
deepens_twice old mid new around d more e both h k is =
    record { deepest_is = (let a = h.deepest_is in let b = k.deepest_is in omega arith); longer = (let a = h.longer in let b = k.longer in omega arith) }

-- a fetch is added, and no level
pub deepens_still : (old mid new : Draft) (around d : ℕ) → new.levels.items ≡ mid.levels.items → Deepens old mid around d → Deepens old new around d
deepens_still old mid new around d same h = record { deepest_is = rw same h.deepest_is; longer = rw same h.longer }

pub depths_more : (ns : List Node) (n : Node) → deepest (map depth (ns ++ (n ∷ []))) ≡ max (deepest (map depth ns)) (depth n)
depths_more ns n =
    let e : deepest (map depth ns ++ (depth n ∷ [])) ≡ max (deepest (map depth ns)) (max (depth n) 0) = deepest-append (map depth ns) (depth n ∷ []) in
    ap deepest (map-append depth ns (n ∷ [])) ∙ e ∙ omega arith

-- one node more, on the same level
pub deepens_more : (old mid new : Draft) (around : ℕ) (ns more : List Node) (n : Node) → Deepens old mid around (deepest (map depth ns)) → Deepens mid new around (depth n) → more ≡ ns ++ (n ∷ []) →
    Deepens old new around (deepest (map depth more))
deepens_more old mid new around ns more n h k is =
    let e : deepest (map depth more) ≡ max (deepest (map depth ns)) (depth n) = ap (λ (ms : List Node). deepest (map depth ms)) is ∙ depths_more ns n in
    deepens_twice old mid new around (deepest (map depth ns)) around (depth n) (deepest (map depth more)) h k (omega arith)

pub deepens_none : (draft : Draft) (around : ℕ) (ns : List Node) → ns ≡ [] → StandsInside draft around → Deepens draft draft around (deepest (map depth ns))
deepens_none draft around ns none inside =
    let e : deepest (map depth ns) ≡ 0 = ap (λ (ms : List Node). deepest (map depth ms)) none in
    record { deepest_is = (let r = inside.reached in omega arith); longer = omega arith }
