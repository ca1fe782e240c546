-- In which order fetches are done.
use Rattle.std.specs.Prelude.{◌≡◌, ℕ, List, [], ◌∷◌, ◌++◌, map}
use Rattle.plan_exec.specs.declared.tasks.Done.{Done}
use Rattle.plan_exec.specs.Ready.{Waiting}
use Rattle.plan_exec.specs.Tasks.{Progress, waiting}

abbrev pub giving_more : Progress → List Done → Progress
giving_more p results = record { plan = p.plan; given = p.given ++ results }

abbrev pub fetch_of : Waiting → ℕ
fetch_of waiting = waiting.fetch

abbrev pub done_fetch : Done → ℕ
done_fetch done = done.fetch

-- one at a time: always the first that is ready, to the end
pub data OneByOne : Progress → List ℕ → Progress → Type 0 where
  ended : (p : Progress) → waiting p ≡ [] → OneByOne p [] p
  first : (p q : Progress) (w : Waiting) (others : List Waiting) (done : Done) (later : List ℕ) → waiting p ≡ w ∷ others → done.fetch ≡ w.fetch →
      OneByOne (giving_more p (done ∷ [])) later q → OneByOne p (w.fetch ∷ later) q

-- in rounds: all that are ready, to the end
pub data InRounds : Progress → List ℕ → Progress → Type 0 where
  no_round : (p : Progress) → waiting p ≡ [] → InRounds p [] p
  round : (p q : Progress) (results : List Done) (later : List ℕ) → (waiting p ≡ [] → ⊥) → map done_fetch results ≡ map fetch_of (waiting p) →
      InRounds (giving_more p results) later q → InRounds p (map fetch_of (waiting p) ++ later) q

-- from one state of a plan to its end: the fetches of this order are given, in it, and no others
pub record GoesTo (p : Progress) (order : List ℕ) (q : Progress) : Type 0 where
  pub results : List Done
  pub given_are : q ≡ giving_more p results
  pub order_is : order ≡ map done_fetch results
  pub at_end : waiting q ≡ []
