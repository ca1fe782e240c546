-- Tasks that are appended where they are asked for.
use Rattle.std.proofs.Common.{◌≡◌, ℕ, suc, ◌+◌, ◌<◌, ◌≤◌, Bool, true, false, List, [], ◌∷◌, ◌++◌, ◌⊎◌, inl, inr, refl, ap, ◌∙◌, sym, arith, append_assoc, length, length-append, true≢false, drop, get_or, add-one}
use Rattle.std.specs.Prelude.{map, ◌==◌, ◌&&◌}
use Rattle.std.proofs.lemmas.List.{append-nil, map-append}
use Rattle.std.proofs.lemmas.Bool.{eq-eqb, eqb-true}
use Rattle.plan_exec.specs.declared.tasks.Task.{Task}
use Rattle.json_value.specs.declared.tree.Json.{Json}
use Rattle.plan_tree.specs.declared.plan.Node.{Node}
use Rattle.plan_tree.specs.declared.plan.Fetch.{Fetch}
use Rattle.plan_exec.specs.declared.tasks.Done.{Done}
use Rattle.merge_paths.specs.Merge.{merge}
use Rattle.plan_exec.specs.Exec.{exec, one_by_one, side_by_side}
use Rattle.plan_exec.specs.Ready.{Waiting, or_else, ready}
use Rattle.plan_exec.specs.Levels.{first_of, each_of}
use Rattle.plan_exec.specs.Tasks.{task_of, asked_if}
use Rattle.std.proofs.Math.Seq.{drop-cons}

either : (b : Bool) → (b ≡ true) ⊎ (b ≡ false)
either true = inl refl
either false = inr refl

asked_if-nil : (b : Bool) → asked_if b [] ≡ []
asked_if-nil true = refl
asked_if-nil false = refl

pub nothing_more : (b : Bool) (tasks : List Task) → tasks ++ asked_if b [] ≡ tasks
nothing_more b tasks = ap (λ (ts : List Task). tasks ++ ts) (asked_if-nil b) ∙ append-nil tasks

-- at the start nothing was appended yet
pub at_start : (asking : Bool) (before : ℕ) (tasks more : List Task) → before ≡ length tasks → tasks ++ asked_if (asking && (length tasks == before)) more ≡ tasks ++ asked_if asking more
at_start true before tasks more is = rw (eq-eqb (length tasks) before (sym is)) refl
at_start false before tasks more is = refl

and-true : (a b : Bool) → (a && b) ≡ true → (a ≡ true) × (b ≡ true)
and-true true b is = (refl, is)
and-true false b is = absurd (true≢false (sym is))

longer : (before n : ℕ) (now : List Task) → length now ≡ before + suc n → (length now == before) ≡ false
longer before n now long = by_test (either (length now == before))
  where
    by_test : ((length now == before) ≡ true) ⊎ ((length now == before) ≡ false) → (length now == before) ≡ false
    by_test (inl e) = let same : length now ≡ before = eqb-true (length now) before e in absurd (omega arith)
    by_test (inr e) = e

and-false : (a : Bool) → (a && false) ≡ false
and-false true = refl
and-false false = refl

-- one node after the others: once one is ready, those after it are not asked for
pub turn_asked : (f : Waiting → Task) (rs ls : List Waiting) (asking : Bool) (before : ℕ) (old now : List Task) → now ≡ old ++ asked_if (asking && (length old == before)) (map f rs) →
    now ++ asked_if (asking && (length now == before)) (map f ls) ≡ old ++ asked_if (asking && (length old == before)) (map f (or_else rs ls))
turn_asked f rs ls asking before old now is = by_still (either (asking && (length old == before))) rs is
  where
    by_still : ((asking && (length old == before)) ≡ true) ⊎ ((asking && (length old == before)) ≡ false) → (rs : List Waiting) → now ≡ old ++ asked_if (asking && (length old == before)) (map f rs) →
        now ++ asked_if (asking && (length now == before)) (map f ls) ≡ old ++ asked_if (asking && (length old == before)) (map f (or_else rs ls))
    by_still (inr e) rs is =
        let same : now ≡ old = (rw e at is) ∙ append-nil old in
        rw (same, e) refl
    by_still (inl e) [] is =
        let same : now ≡ old = (rw e at is) ∙ append-nil old in
        rw same refl
    by_still (inl e) (r ∷ rs) is =
        let more : now ≡ old ++ map f (r ∷ rs) = rw e at is in
        let was : length old ≡ before = eqb-true (length old) before (and-true asking (length old == before) e).1 in
        let long : length now ≡ before + suc (length (map f rs)) = ap length more ∙ length-append old (map f (r ∷ rs)) ∙ ap (λ (n : ℕ). n + suc (length (map f rs))) was in
        let over : (asking && (length now == before)) ≡ false = ap (λ (b : Bool). asking && b) (longer before (length (map f rs)) now long) ∙ and-false asking in
        rw (over, e) (append-nil now ∙ more)

-- one node more side by side
pub each_asked : (f : Waiting → Task) (rs ls : List Waiting) (asking : Bool) (old now : List Task) → now ≡ old ++ asked_if asking (map f rs) → now ++ asked_if asking (map f ls) ≡ old ++ asked_if asking (map f (rs ++ ls))
each_asked f rs ls true old now is = rw (is, append_assoc) (ap (λ (ts : List Task). old ++ ts) (sym (map-append f rs ls)))
each_asked f rs ls false old now is = rw is (append-nil (old ++ []))

-- ---- steps of the loops

module _ (fetches : List Fetch) (given : List Done) where
  here : (nodes : List Node) (i : ℕ) (n : Node) → i < length nodes → n ≡ get_or nodes i n → drop i nodes ≡ n ∷ drop (i + 1) nodes
  here nodes i n short is = drop-cons nodes i n short ∙ ap (λ (m : Node). m ∷ drop (suc i) nodes) (sym is) ∙ ap (λ (k : ℕ). n ∷ drop k nodes) (sym (add-one i))

  pub turn_value : (nodes : List Node) (i : ℕ) (n : Node) (v made whole : Json) → i < length nodes → n ≡ get_or nodes i n → made ≡ exec fetches given n v →
      one_by_one (map (exec fetches given) (drop i nodes)) v ≡ whole → one_by_one (map (exec fetches given) (drop (i + 1) nodes)) made ≡ whole
  turn_value nodes i n v made whole short is made_is was =
      ap (one_by_one (map (exec fetches given) (drop (i + 1) nodes))) made_is ∙ sym (ap (λ (ns : List Node). one_by_one (map (exec fetches given) ns) v) (here nodes i n short is)) ∙ was

  pub turn_step : (nodes : List Node) (i : ℕ) (n : Node) (v made : Json) (asking : Bool) (before : ℕ) (old now whole : List Task) → i < length nodes → n ≡ get_or nodes i n → made ≡ exec fetches given n v →
      now ≡ old ++ asked_if (asking && (length old == before)) (map (task_of fetches) (ready fetches given n v)) →
      old ++ asked_if (asking && (length old == before)) (map (task_of fetches) (first_of fetches given (drop i nodes) v)) ≡ whole →
      now ++ asked_if (asking && (length now == before)) (map (task_of fetches) (first_of fetches given (drop (i + 1) nodes) made)) ≡ whole
  turn_step nodes i n v made asking before old now whole short is made_is now_is was =
      ap (λ (r : Json). now ++ asked_if (asking && (length now == before)) (map (task_of fetches) (first_of fetches given (drop (i + 1) nodes) r))) made_is
      ∙ turn_asked (task_of fetches) (ready fetches given n v) (first_of fetches given (drop (i + 1) nodes) (exec fetches given n v)) asking before old now now_is
      ∙ sym (ap (λ (ns : List Node). old ++ asked_if (asking && (length old == before)) (map (task_of fetches) (first_of fetches given ns v))) (here nodes i n short is)) ∙ was

  pub each_value : (nodes : List Node) (i : ℕ) (n : Node) (start copied v other made whole : Json) → i < length nodes → n ≡ get_or nodes i n → copied ≡ start → other ≡ exec fetches given n copied → made ≡ merge v other →
      side_by_side (map (exec fetches given) (drop i nodes)) start v ≡ whole → side_by_side (map (exec fetches given) (drop (i + 1) nodes)) start made ≡ whole
  each_value nodes i n start copied v other made whole short is copy_is other_is made_is was =
      ap (side_by_side (map (exec fetches given) (drop (i + 1) nodes)) start) (made_is ∙ ap (merge v) (other_is ∙ ap (exec fetches given n) copy_is))
      ∙ sym (ap (λ (ns : List Node). side_by_side (map (exec fetches given) ns) start v) (here nodes i n short is)) ∙ was

  pub each_step : (nodes : List Node) (i : ℕ) (n : Node) (start copied : Json) (asking : Bool) (old now whole : List Task) → i < length nodes → n ≡ get_or nodes i n → copied ≡ start →
      now ≡ old ++ asked_if asking (map (task_of fetches) (ready fetches given n copied)) →
      old ++ asked_if asking (map (task_of fetches) (each_of fetches given (drop i nodes) start)) ≡ whole →
      now ++ asked_if asking (map (task_of fetches) (each_of fetches given (drop (i + 1) nodes) start)) ≡ whole
  each_step nodes i n start copied asking old now whole short is copy_is now_is was =
      each_asked (task_of fetches) (ready fetches given n start) (each_of fetches given (drop (i + 1) nodes) start) asking old now
      (now_is ∙ ap (λ (r : Json). old ++ asked_if asking (map (task_of fetches) (ready fetches given n r))) copy_is)
      ∙ sym (ap (λ (ns : List Node). old ++ asked_if asking (map (task_of fetches) (each_of fetches given ns start))) (here nodes i n short is)) ∙ was
