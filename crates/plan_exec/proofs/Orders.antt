-- What the orders of fetches give.
use Rattle.std.proofs.Common.{◌≡◌, ℕ, zero, suc, ◌+◌, ◌<◌, ◌≤◌, List, [], ◌∷◌, ◌++◌, None, Some, inl, inr, refl, ap, ◌∙◌, sym, subst, arith, append_assoc, length, length-append}
use Rattle.std.specs.Prelude.{map, slice_get}
use Rattle.std.proofs.lemmas.List.{append-nil, map-append}
use Rattle.json_value.specs.declared.tree.Json.{Json}
use Rattle.plan_tree.specs.declared.plan.Plan.{Plan}
use Rattle.plan_tree.specs.declared.plan.Node.{Node, map-Node}
use Rattle.plan_tree.specs.declared.plan.Node.TheVariants as node
use Rattle.plan_tree.specs.declared.plan.Node.TheOpen.{Node-F}
use Rattle.plan_tree.specs.declared.plan.Node.TheViews.{roll-Node}
use Rattle.plan_tree.specs.declared.plan.Node.TheFolds.{fold-Node, fold-roll-Node, ind-Node}
use Rattle.json_paths.specs.declared.path.Path.{Path}
use Rattle.plan_tree.specs.Numbers.{joined, numbers_step, numbers, numbers_from}
use Rattle.plan_tree.specs.Lawful.{IsLawful}
use Rattle.plan_exec.specs.declared.tasks.Done.{Done}
use Rattle.plan_exec.specs.declared.tasks.Task.{Task}
use Rattle.plan_exec.specs.Exec.{pieces_of}
use Rattle.plan_exec.specs.Ready.{Waiting}
use Rattle.plan_exec.specs.Tasks.{Progress, waiting, empty, task_of}
use Rattle.plan_exec.specs.Giving.{Among, sum, count_left, fetches_left, count_asked, CanTake}
use Rattle.plan_exec.specs.Order.{giving_more, fetch_of, done_fetch, OneByOne, ended, first, InRounds, no_round, round, GoesTo}
use Rattle.plan_exec.proofs.Staying.{extends-append}
use Rattle.plan_exec.proofs.Fewer.{falls, ready_lacks, left-fetch, left-flatten, left-sequence, left-parallel}
use Rattle.plan_exec.proofs.Rounds.{found_last, asked}

abbrev with_given : Plan → List Done → Progress
with_given plan given = record { plan = plan; given = given }

nothing_more : (p : Progress) → p ≡ giving_more p []
nothing_more p = ap (with_given p.plan) (sym (append-nil p.given))

then_more : (p : Progress) (results later : List Done) → giving_more (giving_more p results) later ≡ giving_more p (results ++ later)
then_more p results later = ap (with_given p.plan) (append_assoc p.given results later)

pub one_goes : (p : Progress) (order : List ℕ) (q : Progress) → OneByOne p order q → GoesTo p order q
one_goes _ _ _ (ended p none) = record { results = []; given_are = nothing_more p; order_is = refl; at_end = none }
one_goes _ _ _ (first p q w others done later is its rest) =
    let h = one_goes (giving_more p (done ∷ [])) later q rest in
    record {
      results = done ∷ h.results;
      given_are = h.given_are ∙ then_more p (done ∷ []) h.results;
      order_is = ap (λ (n : ℕ). n ∷ later) (sym its) ∙ ap (λ (ns : List ℕ). done.fetch ∷ ns) h.order_is;
      at_end = h.at_end;
    }

pub rounds_go : (p : Progress) (order : List ℕ) (q : Progress) → InRounds p order q → GoesTo p order q
rounds_go _ _ _ (no_round p none) = record { results = []; given_are = nothing_more p; order_is = refl; at_end = none }
rounds_go _ _ _ (round p q results later some are rest) =
    let h = rounds_go (giving_more p results) later q rest in
    record {
      results = results ++ h.results;
      given_are = h.given_are ∙ then_more p results h.results;
      order_is = ap (λ (ns : List ℕ). ns ++ later) (sym are) ∙ ap (λ (ns : List ℕ). map done_fetch results ++ ns) h.order_is ∙ sym (map-append done_fetch results h.results);
      at_end = h.at_end;
    }

one_less : (p : Progress) (w : Waiting) (done : Done) → Among w (waiting p) → done.fetch ≡ w.fetch → fetches_left (giving_more p (done ∷ [])) < fetches_left p
one_less p w done is_ready its =
    let lacks : pieces_of p.given done.fetch ≡ None = ap (pieces_of p.given) its ∙ ready_lacks p.plan.fetches p.given p.plan.root empty w is_ready in
    let found : pieces_of (p.given ++ (done ∷ [])) w.fetch ≡ Some done.pieces = ap (pieces_of (p.given ++ (done ∷ []))) (sym its) ∙ found_last p.given done [] lacks in
    (falls p.plan.fetches p.given (p.given ++ (done ∷ [])) (extends-append p.given (done ∷ [])) p.plan.root).below empty w done.pieces is_ready found

pub one_bound : (p : Progress) (order : List ℕ) (q : Progress) → OneByOne p order q → length order + fetches_left q ≤ fetches_left p
one_bound _ _ _ (ended p none) = omega arith
one_bound _ _ _ (first p q w others done later is its rest) =
    let h : length later + fetches_left q ≤ fetches_left (giving_more p (done ∷ [])) = one_bound (giving_more p (done ∷ [])) later q rest in
    let less : fetches_left (giving_more p (done ∷ [])) < fetches_left p = one_less p w done (subst (Among w) (sym is) (inl refl)) its in
    omega arith

-- what is asked was not given
pub fresh : (plan : Plan) (given : List Done) (t : Task) → Among t (map (task_of plan.fetches) (waiting (with_given plan given))) → pieces_of given t.fetch ≡ None
fresh plan given t among =
    let h = asked plan.fetches (waiting (with_given plan given)) t among in
    ap (pieces_of given) (sym h.is_its) ∙ ready_lacks plan.fetches given plan.root empty h.one h.is_ready

-- ---- at the start all fetches are count_left

pub numbers-fetch : (fetch : ℕ) → numbers (node.Fetch fetch) ≡ fetch ∷ []
unfolding numbers
numbers-fetch fetch = ap (fold-Node (List ℕ) numbers_step) (sym (node.rolls-Fetch fetch)) ∙ fold-roll-Node (List ℕ) numbers_step (Node-F.Fetch fetch)

pub numbers-flatten : (path : Path) (fetch : ℕ) → numbers (node.Flatten path fetch) ≡ fetch ∷ []
unfolding numbers
numbers-flatten path fetch = ap (fold-Node (List ℕ) numbers_step) (sym (node.rolls-Flatten path fetch)) ∙ fold-roll-Node (List ℕ) numbers_step (Node-F.Flatten path fetch)

pub numbers-sequence : (nodes : List Node) → numbers (node.Sequence nodes) ≡ joined (map numbers nodes)
unfolding numbers
numbers-sequence nodes = ap (fold-Node (List ℕ) numbers_step) (sym (node.rolls-Sequence nodes)) ∙ fold-roll-Node (List ℕ) numbers_step (Node-F.Sequence nodes)

pub numbers-parallel : (nodes : List Node) → numbers (node.Parallel nodes) ≡ joined (map numbers nodes)
unfolding numbers
numbers-parallel nodes = ap (fold-Node (List ℕ) numbers_step) (sym (node.rolls-Parallel nodes)) ∙ fold-roll-Node (List ℕ) numbers_step (Node-F.Parallel nodes)

abbrev IsCounted : Node → Type 0
IsCounted n = count_left [] n ≡ length (numbers n)

children_counted : (ps : List ((n : Node) × IsCounted n)) → sum (map (count_left []) (map (λ e. e.0) ps)) ≡ length (joined (map numbers (map (λ e. e.0) ps)))
children_counted [] = refl
children_counted (p ∷ ps) = ap (λ (n : ℕ). n + sum (map (count_left []) (map (λ e. e.0) ps))) p.1 ∙ ap (λ (n : ℕ). length (numbers p.0) + n) (children_counted ps) ∙ sym (length-append (numbers p.0) (joined (map numbers (map (λ e. e.0) ps))))

counted_at : (y : Node-F ((n : Node) × IsCounted n)) → IsCounted (roll-Node (map-Node ((n : Node) × IsCounted n) Node (λ e. e.0) y))
counted_at (Node-F.Fetch fetch) = subst IsCounted (sym (node.rolls-Fetch fetch)) (left-fetch [] fetch ∙ sym (ap length (numbers-fetch fetch)))
counted_at (Node-F.Flatten path fetch) = subst IsCounted (sym (node.rolls-Flatten path fetch)) (left-flatten [] path fetch ∙ sym (ap length (numbers-flatten path fetch)))
counted_at (Node-F.Sequence ps) = subst IsCounted (sym (node.rolls-Sequence (map (λ e. e.0) ps))) (left-sequence [] (map (λ e. e.0) ps) ∙ children_counted ps ∙ sym (ap length (numbers-sequence (map (λ e. e.0) ps))))
counted_at (Node-F.Parallel ps) = subst IsCounted (sym (node.rolls-Parallel (map (λ e. e.0) ps))) (left-parallel [] (map (λ e. e.0) ps) ∙ children_counted ps ∙ sym (ap length (numbers-parallel (map (λ e. e.0) ps))))

pub all_left : (n : Node) → count_left [] n ≡ length (numbers n)
all_left = ind-Node IsCounted (λ x y is. subst (λ z. IsCounted (roll-Node z)) is (counted_at y))

length-counted : (n from : ℕ) → length (numbers_from n from) ≡ n
length-counted zero from = refl
length-counted (suc n) from = ap suc (length-counted n (suc from))

pub all_numbered : (plan : Plan) → IsLawful plan → length (numbers plan.root) ≡ length plan.fetches
all_numbered plan lawful = ap length lawful.numbered ∙ length-counted (length plan.fetches) 0

-- one of the tasks alone may be given
pub one_taken : (plan : Plan) (given : List Done) (tasks : List Task) (task : Task) (which : ℕ) (done : Done) → tasks ≡ map (task_of plan.fetches) (waiting (with_given plan given)) → slice_get tasks which ≡ Some task →
    done.fetch ≡ task.fetch → length done.pieces ≡ count_asked task.asked → CanTake (with_given plan given) (done ∷ [])
one_taken plan given tasks task which done are is its count = record {
  some = λ none. (cc);
  answers = (record { task = task; is_asked = subst (Among task) are (stands_among tasks which task is); is_its = sym its; count = count }, tt);
  apart = (refl, tt);
}
  where
    stands_among : (ts : List Task) (i : ℕ) (t : Task) → slice_get ts i ≡ Some t → Among t ts
    stands_among [] i t is = cc
    stands_among (x ∷ ts) zero t is = let same : x ≡ t = cc in inl same
    stands_among (x ∷ ts) (suc i) t is = inr (stands_among ts i t is)
