-- What the rules allow, laxer rules allow.
use Rattle.std.proofs.Common.{◌≡◌, ℕ, ◌+◌, ◌≤◌, Bool, true, false, cond, List, [], ◌∷◌, Result, Ok, Err, refl, ap, subst, ◌∙◌, arith}
use Rattle.std.specs.Prelude.{◌&&◌}
use Rattle.std.proofs.lemmas.Bool.Decides.{nat_tests}
use Rattle.json_machine.specs.Refusal.{Refusal}
use Rattle.json_machine.specs.Refusal as e
use Rattle.json_machine.specs.Mode.{Mode}
use Rattle.json_machine.specs.Mode as m
use Rattle.json_machine.specs.Part.{Part}
use Rattle.json_machine.specs.Progress as s
use Rattle.json_value.specs.Grammar.{Rules, has}
use Rattle.json_machine.specs.Scan.{Scanned, scan}
use Rattle.json_faults.specs.Faults.{lone, deeper, any_names}
use Rattle.exact_read.specs.Steps.{run, on_step}
use Rattle.json_machine.specs.Machine.{Frames, Pairs, ReaderState, Stepped, to, open_by, begin, value_step, first_step, str_by, named, naming_by, step_by, step}

-- the second rules allow whatever the first do
pub record Laxer (a b : Rules) : Type 0 where
  pub deeper : a.depth ≤ b.depth
  pub names : (x : Bool) → (a.distinct && x) ≡ false → (b.distinct && x) ≡ false
  pub same_cut : a.cut ≡ b.cut

-- where the first outcome goes on, the second does so
abbrev pub Agrees : {A : Type 0} → Result A Refusal → Result A Refusal → Type 0
Agrees (Ok x) other = other ≡ Ok x
Agrees (Err why) other = Unit {0}

same : {A : Type 0} (o : Result A Refusal) → Agrees o o
same (Ok x) = refl
same (Err why) = tt

scan_agrees : (l l' : Bool) (at : ℕ) (part : Part) (text : List ℕ) (b : ℕ) → l ≡ l' → Agrees (scan l at part text b) (scan l' at part text b)
scan_agrees l l' at part text b is = subst (λ (k : Bool). Agrees (scan l at part text b) (scan k at part text b)) is (same (scan l at part text b))

str_agrees : (fs : Frames) (o o' : Scanned) → Agrees o o' → Agrees (str_by fs o) (str_by fs o')
str_agrees fs o o' h = grind (arith, nat_tests)

naming_agrees : (a b : Rules) (fs : Frames) (ms : Pairs) (place : ℕ) (o o' : Scanned) → Laxer a b → Agrees o o' → Agrees (naming_by a.distinct fs ms place o) (naming_by b.distinct fs ms place o')
unfolding named
naming_agrees a b fs ms place (Ok (s.Done name)) o' laxer h = by_test (a.distinct && has ms name) refl
  where
    by_test : (t : Bool) → (a.distinct && has ms name) ≡ t → Agrees (cond t (Err (e.Twice place)) (to (m.Colon ms name) fs)) (naming_by b.distinct fs ms place o')
    by_test true is = tt
    by_test false is = ap (naming_by b.distinct fs ms place) h ∙ rw (laxer.names (has ms name) is) refl
naming_agrees a b fs ms place (Ok (s.More part text)) o' laxer h = ap (naming_by b.distinct fs ms place) h
naming_agrees a b fs ms place (Err why) o' laxer h = tt

step_by_agrees : (a b : Rules) (at : ℕ) (mode : Mode) (fs : Frames) (t : ℕ) → Laxer a b → Agrees (step_by a at mode fs t) (step_by b at mode fs t)
unfolding value_step first_step begin open_by
step_by_agrees a b at m.Value fs t laxer = grind (arith, nat_tests)
step_by_agrees a b at m.First fs t laxer = grind (arith, nat_tests)
step_by_agrees a b at (m.Str part text) fs t laxer = str_agrees fs _ _ (scan_agrees a.cut b.cut at part text t laxer.same_cut)
step_by_agrees a b at (m.Naming ms place part text) fs t laxer = naming_agrees a b fs ms place _ _ laxer (scan_agrees a.cut b.cut at part text t laxer.same_cut)
step_by_agrees a b at _ fs t laxer = same _

pub step_agrees : (a b : Rules) (at : ℕ) (x : ReaderState) (t : ℕ) → Laxer a b → Agrees (step a at x t) (step b at x t)
unfolding step
step_agrees a b at x t laxer = step_by_agrees a b at x.mode x.frames t laxer

-- laxer rules run as far
pub run_agrees : (a b : Rules) → Laxer a b → (ts : List ℕ) (at : ℕ) (x y : ReaderState) → run (step a) ts at x ≡ Ok y → run (step b) ts at x ≡ Ok y
unfolding run
run_agrees a b laxer [] at x y is = is
run_agrees a b laxer (t ∷ ts) at x y is = go (step a at x t) refl (step_agrees a b at x t laxer) (λ mid h. run_agrees a b laxer ts (at + 1) mid y h) is
  where
    go : (o : Stepped) → step a at x t ≡ o → Agrees o (step b at x t) → ((mid : ReaderState) → run (step a) ts (at + 1) mid ≡ Ok y → run (step b) ts (at + 1) mid ≡ Ok y)
        → on_step (step a) at o (run (step a) ts (at + 1)) ≡ Ok y → on_step (step b) at (step b at x t) (run (step b) ts (at + 1)) ≡ Ok y
    go (Ok mid) same agrees tail is = rw agrees (tail mid is)
    go (Err why) same agrees tail is = absurd cc

pub lone_deeper : Laxer lone deeper
lone_deeper = record { deeper = omega arith; names = λ x h. h; same_cut = refl }

pub lone_any_names : Laxer lone any_names
lone_any_names = record { deeper = omega arith; names = λ x h. refl; same_cut = refl }
