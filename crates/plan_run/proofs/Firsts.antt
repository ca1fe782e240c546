-- The fetches of a plan, one at a time.
use Rattle.std.proofs.Common.{◌≡◌, ℕ, zero, suc, ◌+◌, ◌<◌, Bool, List, [], ◌∷◌, ◌++◌, length, Option, Some, None, refl, ap, sym, ◌∙◌, subst, inl, inr, arith}
use Rattle.std.specs.Prelude.{map, slice_get, option_and_then, IsSome, Result, Ok, Err, OnOk, OnErr}
use Rattle.json_value.specs.declared.tree.Json.{Json}
use Rattle.json_value.proofs.Elements.{element_of}
use Rattle.json_print.specs.Print.{print}
use Rattle.json_paths.specs.declared.path.Place.{Place}
use Rattle.cache_terms.specs.declared.keys.Key.{Key}
use Rattle.plan_tree.specs.declared.plan.Plan.{Plan}
use Rattle.plan_tree.specs.declared.plan.Fetch.{Fetch}
use Rattle.plan_tree.specs.Numbers.{numbers, numbers_from}
use Rattle.plan_tree.specs.Lawful.{IsLawful}
use Rattle.plan_exec.specs.declared.tasks.Asked.{Asked}
use Rattle.plan_exec.specs.declared.tasks.Asked.TheVariants as kind
use Rattle.plan_exec.specs.declared.tasks.Task as exec
use Rattle.plan_exec.specs.declared.tasks.Done.{Done}
use Rattle.plan_exec.specs.Ready.{Waiting}
use Rattle.plan_exec.specs.Tasks.{Progress, waiting, empty, task_of}
use Rattle.plan_exec.specs.Order.{giving_more, fetch_of}
use Rattle.plan_exec.specs.Giving.{Among, CanTake, count_asked, fetches_left}
use Rattle.plan_exec.specs.Keeping.{IsPart, nothing, kept, passed}
use Rattle.plan_exec.proofs.InOrder.{stands_in_order}
use Rattle.fetch_asks.specs.declared.ask.Ask.{Ask}
use Rattle.fetch_asks.specs.Asks.{ask_of, keys_of, key_of}
use Rattle.plan_run.specs.declared.subgraphs.Subgraph.{Subgraph}
use Rattle.plan_run.specs.Plans.{Wanted, IsOf}
use Rattle.plan_run.specs.Subgraphs.{found_by, AreFrom}
use Rattle.plan_run.specs.Fetches.{Execution, places_of, wanted_by, wanted_at, first_wanted, first_done, progress_from, progress_of, next_of, given_pieces, StandsAt, IsRunSound}

-- ---- the progress

pub progress-none : (p : Progress) → progress_from p [] ≡ p
unfolding progress_from
progress-none p = refl

pub progress-append : (p : Progress) (given : List (List Json)) (pieces : List Json) →
    progress_from p (given ++ (pieces ∷ [])) ≡ giving_more (progress_from p given) (first_done (waiting (progress_from p given)) pieces)
unfolding progress_from
progress-append p [] pieces = refl
progress-append p (first ∷ given) pieces = progress-append (giving_more p (first_done (waiting p) first)) given pieces

pub progress-plan : (p : Progress) (given : List (List Json)) → (progress_from p given).plan ≡ p.plan
unfolding progress_from
progress-plan p [] = refl
progress-plan p (first ∷ given) = progress-plan (giving_more p (first_done (waiting p) first)) given

pub at-plan : (plan : Plan) (q : Progress) → StandsAt plan q → q.plan ≡ plan
at-plan plan q at = ap (λ (p : Progress). p.plan) at ∙ progress-plan (record { plan = plan; given = [] }) (map given_pieces q.given)

-- ---- what comes next

pub next-is : (plan : Plan) (subgraphs : List Subgraph) (variables : Json) (q : Progress) (tasks : List exec.Task) → StandsAt plan q →
    tasks ≡ map (task_of q.plan.fetches) (waiting q) → next_of plan subgraphs variables (map given_pieces q.given) ≡ first_wanted plan.fetches subgraphs variables tasks
unfolding next_of
next-is plan subgraphs variables q tasks at are =
    ap (first_wanted plan.fetches subgraphs variables)
    (ap (λ (p : Progress). map (task_of plan.fetches) (waiting p)) (sym at) ∙ ap (λ (p : Plan). map (task_of p.fetches) (waiting q)) (sym (at-plan plan q at)) ∙ sym are)

pub no-fetch : (fetches : List Fetch) (subgraphs : List Subgraph) (variables : Json) (task : exec.Task) → None ≡ slice_get fetches task.fetch → wanted_at fetches subgraphs variables task ≡ None
no-fetch fetches subgraphs variables task none =
    ap (option_and_then (λ (fetch : Fetch). option_and_then (λ (found : ℕ × Bool). Some (wanted_by variables task fetch found)) (found_by subgraphs fetch.sub))) (sym none)

pub no-subgraph : (fetches : List Fetch) (subgraphs : List Subgraph) (variables : Json) (task : exec.Task) (fetch : Fetch) → Some fetch ≡ slice_get fetches task.fetch →
    None ≡ found_by subgraphs fetch.sub → wanted_at fetches subgraphs variables task ≡ None
no-subgraph fetches subgraphs variables task fetch is none =
    ap (option_and_then (λ (fetch : Fetch). option_and_then (λ (found : ℕ × Bool). Some (wanted_by variables task fetch found)) (found_by subgraphs fetch.sub))) (sym is)
    ∙ ap (option_and_then (λ (found : ℕ × Bool). Some (wanted_by variables task fetch found))) (sym none)

pub one-wanted : (fetches : List Fetch) (subgraphs : List Subgraph) (variables : Json) (task : exec.Task) (fetch : Fetch) (found : ℕ × Bool) → Some fetch ≡ slice_get fetches task.fetch →
    Some found ≡ found_by subgraphs fetch.sub → wanted_at fetches subgraphs variables task ≡ Some (wanted_by variables task fetch found)
one-wanted fetches subgraphs variables task fetch found is by =
    ap (option_and_then (λ (fetch : Fetch). option_and_then (λ (found : ℕ × Bool). Some (wanted_by variables task fetch found)) (found_by subgraphs fetch.sub))) (sym is)
    ∙ ap (option_and_then (λ (found : ℕ × Bool). Some (wanted_by variables task fetch found))) (sym by)

pub none-first : (fetches : List Fetch) (subgraphs : List Subgraph) (variables : Json) (tasks : List exec.Task) → None ≡ slice_get tasks 0 → first_wanted fetches subgraphs variables tasks ≡ None
none-first fetches subgraphs variables [] is = refl
none-first fetches subgraphs variables (t ∷ tasks) is = absurd cc

pub some-first : (fetches : List Fetch) (subgraphs : List Subgraph) (variables : Json) (tasks : List exec.Task) (task : exec.Task) → Some task ≡ slice_get tasks 0 →
    first_wanted fetches subgraphs variables tasks ≡ wanted_at fetches subgraphs variables task
some-first fetches subgraphs variables [] task is = absurd cc
some-first fetches subgraphs variables (t ∷ tasks) task is =
    let same : t ≡ task = cc in ap (wanted_at fetches subgraphs variables) same

pub wanted_same : (variables : Json) (task : exec.Task) (f : Fetch) (found : ℕ × Bool) (ask : Ask) (keys : List Key) (places : List (List Place)) →
    ask ≡ ask_of found.0 found.1 f task.asked variables → keys ≡ keys_of f task.asked variables → places ≡ places_of task.asked →
    wanted_by variables task f found ≡ record { fetch = task.fetch; ask = ask; keys = keys; places = places }
wanted_same variables task f found ask keys places ask_is keys_are places_are =
    let with_ask : Ask → Wanted = λ a. record { fetch = task.fetch; ask = a; keys = keys_of f task.asked variables; places = places_of task.asked } in
    let with_keys : List Key → Wanted = λ ks. record { fetch = task.fetch; ask = ask; keys = ks; places = places_of task.asked } in
    let with_places : List (List Place) → Wanted = λ ps. record { fetch = task.fetch; ask = ask; keys = keys; places = ps } in
    ap with_ask (sym ask_is) ∙ ap with_keys (sym keys_are) ∙ ap with_places (sym places_are)

-- what comes next of a plan that is run
pub next-run : (plan : Plan) (subgraphs : List Subgraph) (variables : Json) (q : Progress) (tasks : List exec.Task) (self : Execution) (o : Option Wanted) → IsRunSound plan subgraphs q →
    record { plan = plan; subgraphs = subgraphs; variables = variables; given = map given_pieces q.given } ≡ self →
    tasks ≡ map (task_of q.plan.fetches) (waiting q) → first_wanted plan.fetches subgraphs variables tasks ≡ o →
    o ≡ next_of self.plan self.subgraphs self.variables self.given
next-run plan subgraphs variables q tasks self o s view are is =
    sym is ∙ sym (next-is plan subgraphs variables q tasks s.at are)
    ∙ ap (λ (f : Execution). next_of f.plan f.subgraphs f.variables f.given) view

-- ---- what may be given

length-map : {A B : Type 0} (f : A → B) (xs : List A) → length (map f xs) ≡ length xs
length-map f [] = refl
length-map f (x ∷ xs) = ap suc (length-map f xs)

keys_count : (fetch : Fetch) (asked : Asked) (variables : Json) → length (keys_of fetch asked variables) ≡ count_asked asked
keys_count fetch kind.Root variables = refl
keys_count fetch (kind.Entities distinct used_by) variables = length-map (key_of fetch (kind.Entities distinct used_by) variables) (map print distinct) ∙ length-map print distinct

-- these pieces are those of the first fetch that is ready
pub record IsFirst (ws : List Waiting) (fetches : List Fetch) (fetch : ℕ) (pieces : List Json) : Type 0 where
  pub one : Waiting
  pub others : List Waiting
  pub are : ws ≡ one ∷ others
  pub its : one.fetch ≡ fetch
  pub count : length pieces ≡ count_asked (task_of fetches one).asked

is_first : (fetches : List Fetch) (subgraphs : List Subgraph) (variables : Json) (ws : List Waiting) (fetch : ℕ) (pieces : List Json) →
    IsOf (first_wanted fetches subgraphs variables (map (task_of fetches) ws)) fetch (length pieces) → IsFirst ws fetches fetch pieces
is_first fetches subgraphs variables [] fetch pieces is = absurd is
is_first fetches subgraphs variables (w ∷ ws) fetch pieces is = by_fetch (slice_get fetches w.fetch) is
  where
    by_subgraph : (f : Fetch) (o : Option (ℕ × Bool)) → IsOf (option_and_then (λ (found : ℕ × Bool). Some (wanted_by variables (task_of fetches w) f found)) o) fetch (length pieces) → IsFirst (w ∷ ws) fetches fetch pieces
    by_subgraph f None h = absurd h
    by_subgraph f (Some found) h = record { one = w; others = ws; are = refl; its = h.0; count = sym h.1 ∙ keys_count f (task_of fetches w).asked variables }

    by_fetch : (o : Option Fetch) → IsOf (option_and_then (λ (f : Fetch). option_and_then (λ (found : ℕ × Bool). Some (wanted_by variables (task_of fetches w) f found)) (found_by subgraphs f.sub)) o) fetch (length pieces) → IsFirst (w ∷ ws) fetches fetch pieces
    by_fetch None h = absurd h
    by_fetch (Some f) h = by_subgraph f (found_by subgraphs f.sub) h

pub next_first : (plan : Plan) (subgraphs : List Subgraph) (variables : Json) (q : Progress) (fetch : ℕ) (pieces : List Json) → StandsAt plan q →
    IsOf (next_of plan subgraphs variables (map given_pieces q.given)) fetch (length pieces) → IsFirst (waiting q) q.plan.fetches fetch pieces
next_first plan subgraphs variables q fetch pieces at is =
    let next = next-is plan subgraphs variables q (map (task_of q.plan.fetches) (waiting q)) at refl in
    let here : IsOf (first_wanted plan.fetches subgraphs variables (map (task_of q.plan.fetches) (waiting q))) fetch (length pieces) = subst (λ (o : Option Wanted). IsOf o fetch (length pieces)) next is in
    is_first q.plan.fetches subgraphs variables (waiting q) fetch pieces
    (subst (λ (p : Plan). IsOf (first_wanted p.fetches subgraphs variables (map (task_of q.plan.fetches) (waiting q))) fetch (length pieces)) (sym (at-plan plan q at)) here)

pub can_take : (q : Progress) (fetch : ℕ) (pieces : List Json) → IsFirst (waiting q) q.plan.fetches fetch pieces → CanTake q (record { fetch = fetch; pieces = pieces } ∷ [])
can_take q fetch pieces h = record {
  some = λ none. cc;
  answers = (
    record {
      task = task_of q.plan.fetches h.one;
      is_asked = subst (λ (ws : List Waiting). Among (task_of q.plan.fetches h.one) (map (task_of q.plan.fetches) ws)) (sym h.are) (inl refl);
      is_its = h.its;
      count = h.count;
    },
    tt,
  );
  apart = (refl, tt);
}

pub first-done : (q : Progress) (fetch : ℕ) (pieces : List Json) → IsFirst (waiting q) q.plan.fetches fetch pieces → first_done (waiting q) pieces ≡ record { fetch = fetch; pieces = pieces } ∷ []
first-done q fetch pieces h =
    ap (λ (ws : List Waiting). first_done ws pieces) h.are ∙ ap (λ (n : ℕ). record { fetch = n; pieces = pieces } ∷ []) h.its

map-append : {A B : Type 0} (f : A → B) (xs : List A) (y : A) → map f (xs ++ (y ∷ [])) ≡ map f xs ++ (f y ∷ [])
map-append f [] y = refl
map-append {A} {B} f (x ∷ xs) y = ap (λ (l : List B). f x ∷ l) (map-append f xs y)

pub given_more : (given : List Done) (fetch : ℕ) (pieces : List Json) → map given_pieces (given ++ (record { fetch = fetch; pieces = pieces } ∷ [])) ≡ map given_pieces given ++ (pieces ∷ [])
given_more given fetch pieces = map-append given_pieces given (record { fetch = fetch; pieces = pieces })

-- the machine stays at what it makes of the pieces
pub at_more : (plan : Plan) (q : Progress) (fetch : ℕ) (pieces : List Json) → StandsAt plan q → IsFirst (waiting q) q.plan.fetches fetch pieces →
    StandsAt plan (giving_more q (record { fetch = fetch; pieces = pieces } ∷ []))
at_more plan q fetch pieces at h =
    let start : Progress = record { plan = plan; given = [] } in
    ap (λ (ds : List Done). giving_more q ds) (sym (first-done q fetch pieces h))
    ∙ ap (λ (p : Progress). giving_more p (first_done (waiting p) pieces)) at
    ∙ sym (progress-append start (map given_pieces q.given) pieces)
    ∙ ap (progress_from start) (sym (given_more q.given fetch pieces))

-- ---- what was given

wanted-fetch : (fetches : List Fetch) (subgraphs : List Subgraph) (variables : Json) (task : exec.Task) (w : Wanted) → wanted_at fetches subgraphs variables task ≡ Some w → task.fetch ≡ w.fetch
wanted-fetch fetches subgraphs variables task w is = by_fetch (slice_get fetches task.fetch) is
  where
    by_subgraph : (f : Fetch) (o : Option (ℕ × Bool)) → option_and_then (λ (found : ℕ × Bool). Some (wanted_by variables task f found)) o ≡ Some w → task.fetch ≡ w.fetch
    by_subgraph f None h = absurd cc
    by_subgraph f (Some found) h = let same : wanted_by variables task f found ≡ w = cc in ap (λ (x : Wanted). x.fetch) same

    by_fetch : (o : Option Fetch) → option_and_then (λ (f : Fetch). option_and_then (λ (found : ℕ × Bool). Some (wanted_by variables task f found)) (found_by subgraphs f.sub)) o ≡ Some w → task.fetch ≡ w.fetch
    by_fetch None h = absurd cc
    by_fetch (Some f) h = by_subgraph f (found_by subgraphs f.sub) h

first-done-wanted : (plan : Plan) (subgraphs : List Subgraph) (variables : Json) (ws : List Waiting) (w : Wanted) (pieces : List Json) →
    first_wanted plan.fetches subgraphs variables (map (task_of plan.fetches) ws) ≡ Some w → first_done ws pieces ≡ record { fetch = w.fetch; pieces = pieces } ∷ []
first-done-wanted plan subgraphs variables [] w pieces is = absurd cc
first-done-wanted plan subgraphs variables (one ∷ ws) w pieces is =
    ap (λ (n : ℕ). record { fetch = n; pieces = pieces } ∷ []) (wanted-fetch plan.fetches subgraphs variables (task_of plan.fetches one) w is)

pub next-done : (plan : Plan) (subgraphs : List Subgraph) (variables : Json) (given : List (List Json)) (w : Wanted) (pieces : List Json) →
    next_of plan subgraphs variables given ≡ Some w → progress_of plan (given ++ (pieces ∷ [])) ≡ giving_more (progress_of plan given) (record { fetch = w.fetch; pieces = pieces } ∷ [])
unfolding next_of
next-done plan subgraphs variables given w pieces is =
    progress-append (record { plan = plan; given = [] }) given pieces
    ∙ ap (giving_more (progress_of plan given)) (first-done-wanted plan subgraphs variables (waiting (progress_of plan given)) w pieces is)

-- ---- nothing comes next

among_counted : (n from k : ℕ) → Among k (numbers_from n from) → k < from + n
among_counted zero from k h = absurd h
among_counted (suc n) from k (inl e) = omega arith
among_counted (suc n) from k (inr h) = let below : k < suc from + n = among_counted n (suc from) k h in omega arith

among_part : {X : Type 0} (part whole : List X) (x : X) → IsPart part whole → Among x part → Among x whole
among_part _ _ x nothing h = absurd h
among_part _ _ x (kept y part whole is) (inl e) = inl e
among_part _ _ x (kept y part whole is) (inr h) = inr (among_part part whole x is h)
among_part _ _ x (passed y part whole is) h = inr (among_part part whole x is h)

is_some_of : {X : Type 0} (o : Option X) → IsSome o → (x : X) × (o ≡ Some x)
is_some_of None h = absurd cc
is_some_of (Some x) h = (x, refl)

some_there : (fetches : List Fetch) (k : ℕ) → k < length fetches → (f : Fetch) × (slice_get fetches k ≡ Some f)
some_there [] k lt = absurd (omega arith)
some_there (f ∷ fetches) zero lt = (f, refl)
some_there (f ∷ fetches) (suc k) lt = some_there fetches k (omega arith)

never_none : (fetches : List Fetch) (subgraphs : List Subgraph) (variables : Json) (task : exec.Task) → task.fetch < length fetches → AreFrom subgraphs fetches →
    first_wanted fetches subgraphs variables (task ∷ []) ≡ None → ⊥
never_none fetches subgraphs variables task lt known none =
    let there = some_there fetches task.fetch lt in
    let f : Fetch = there.0 in
    let here : IsSome (found_by subgraphs f.sub) = subst (λ (x : Fetch). IsSome (found_by subgraphs x.sub)) (element_of fetches task.fetch f f there.1) (known task.fetch f lt) in
    let found = is_some_of (found_by subgraphs f.sub) here in
    let some : wanted_at fetches subgraphs variables task ≡ Some (wanted_by variables task f found.0) = one-wanted fetches subgraphs variables task f found.0 (sym there.1) (sym found.1) in
    let both : None ≡ Some (wanted_by variables task f found.0) = sym none ∙ some in
    cc

-- where each fetch is from one of the subgraphs, none comes next only where none is ready
pub at_end : (plan : Plan) (subgraphs : List Subgraph) (variables : Json) (given : List (List Json)) → IsLawful plan → AreFrom subgraphs plan.fetches →
    next_of plan subgraphs variables given ≡ None → waiting (progress_of plan given) ≡ []
unfolding next_of
at_end plan subgraphs variables given lawful known none = by_ready (waiting (progress_of plan given)) order none
  where
    order : IsPart (map fetch_of (waiting (progress_of plan given))) (numbers plan.root)
    order = subst (λ (p : Plan). IsPart (map fetch_of (waiting (progress_of plan given))) (numbers p.root)) (progress-plan (record { plan = plan; given = [] }) given)
        (stands_in_order (progress_of plan given).plan.fetches (progress_of plan given).given (progress_of plan given).plan.root empty)

    by_ready : (ws : List Waiting) → IsPart (map fetch_of ws) (numbers plan.root) → first_wanted plan.fetches subgraphs variables (map (task_of plan.fetches) ws) ≡ None → ws ≡ []
    by_ready [] part is = refl
    by_ready (w ∷ ws) part is =
        let among : Among w.fetch (numbers plan.root) = among_part (w.fetch ∷ map fetch_of ws) (numbers plan.root) w.fetch part (inl refl) in
        let below : w.fetch < 0 + length plan.fetches = among_counted (length plan.fetches) 0 w.fetch (subst (Among w.fetch) lawful.numbered among) in
        absurd (never_none plan.fetches subgraphs variables (task_of plan.fetches w) (omega arith) known is)

-- ---- a plan that is run

pub at-start : (plan : Plan) (q : Progress) → q ≡ record { plan = plan; given = [] } → StandsAt plan q
at-start plan q is = subst (StandsAt plan) (sym is) (sym (progress-none (record { plan = plan; given = [] })))

pub finished : (plan : Plan) (subgraphs : List Subgraph) (variables : Json) (q : Progress) → IsRunSound plan subgraphs q →
    next_of plan subgraphs variables (map given_pieces q.given) ≡ None → waiting q ≡ []
finished plan subgraphs variables q s none = ap waiting s.at ∙ at_end plan subgraphs variables (map given_pieces q.given) s.lawful s.known none

pub sound_more : (plan : Plan) (subgraphs : List Subgraph) (q : Progress) (fetch : ℕ) (pieces : List Json) → IsRunSound plan subgraphs q → IsFirst (waiting q) q.plan.fetches fetch pieces →
    IsRunSound plan subgraphs (giving_more q (record { fetch = fetch; pieces = pieces } ∷ []))
sound_more plan subgraphs q fetch pieces s h = record { at = at_more plan q fetch pieces s.at h; lawful = s.lawful; known = s.known }

-- after pieces were given, or memory ran out
pub sound_after : {X Y : Type 0} (plan : Plan) (subgraphs : List Subgraph) (q new : Progress) (results : List Done) (r : Result X Y) → OnOk r (new ≡ giving_more q results) → OnErr r (new ≡ q) →
    IsRunSound plan subgraphs q → IsRunSound plan subgraphs (giving_more q results) → IsRunSound plan subgraphs new
sound_after plan subgraphs q new results (Ok x) ok err old more = subst (IsRunSound plan subgraphs) (sym ok) more
sound_after plan subgraphs q new results (Err e) ok err old more = subst (IsRunSound plan subgraphs) (sym err) old

pub fewer_after : {X Y : Type 0} (plan : Plan) (q new : Progress) (left : ℕ) (r : Result X Y) → StandsAt plan new → fetches_left q ≡ left → OnOk r (fetches_left new < fetches_left q) →
    OnOk r (fetches_left (progress_of plan (map given_pieces new.given)) < left)
fewer_after plan q new left (Ok x) at is fewer =
    subst (λ (n : ℕ). n < left) (ap fetches_left at) (subst (λ (n : ℕ). fetches_left new < n) is fewer)
fewer_after plan q new left (Err e) at is fewer = tt
