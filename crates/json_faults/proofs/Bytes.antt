-- On bytes, an unfinished escape of a low surrogate makes no difference.
use Rattle.std.proofs.Common.{◌≡◌, ℕ, suc, ◌+◌, ◌<◌, true, false, List, [], ◌∷◌, get_or, Fits, w8, Result, Ok, Err, refl, sym, ap, ◌∙◌, arith}
use Rattle.std.specs.Prelude.{◌==◌, ◌&&◌}
use Rattle.std.proofs.lemmas.Bool.{cond-false, ne_eqb, and_left}
use Rattle.std.proofs.Math.Facts.{Fits-lt-pow}
use Rattle.json_machine.specs.Refusal.{Refusal}
use Rattle.json_machine.specs.Mode.{Mode}
use Rattle.json_machine.specs.Mode as m
use Rattle.json_machine.specs.Part.{Part}
use Rattle.json_machine.specs.Part as p
use Rattle.json_value.specs.Grammar.{strict}
use Rattle.json_faults.specs.Faults.{lone}
use Rattle.json_machine.specs.Scan.{is_cut, hex_scan, scan}
use Rattle.exact_read.specs.Steps.{run, on_step}
use Rattle.json_machine.specs.Machine.{ReaderState, str_by, naming_by, step_by, step}

abbrev pub AreBytes : List ℕ → Type 0
AreBytes [] = Unit {0}
AreBytes (b ∷ bs) = (b < 256) × AreBytes bs

scan_same : (at : ℕ) (part : Part) (text : List ℕ) (b : ℕ) → b < 256 → scan false at part text b ≡ scan true at part text b
unfolding scan hex_scan
scan_same at (p.Hex place quad) text b lt = sym (cond-false (b == 256 && is_cut quad) _ _ (and_left (b == 256) (is_cut quad) (ne_eqb b 256 (λ same. omega arith))))
scan_same at _ text b lt = refl

step_same : (at : ℕ) (x : ReaderState) (b : ℕ) → b < 256 → step strict at x b ≡ step lone at x b
unfolding step
step_same at x b lt = by_mode x.mode
  where
    by_mode : (mode : Mode) → step_by strict at mode x.frames b ≡ step_by lone at mode x.frames b
    by_mode (m.Str part text) = ap (str_by x.frames) (scan_same at part text b lt)
    by_mode (m.Naming ms place part text) = ap (naming_by true x.frames ms place) (scan_same at part text b lt)
    by_mode _ = refl

pub run_same : (ts : List ℕ) (at : ℕ) (x : ReaderState) → AreBytes ts → run (step strict) ts at x ≡ run (step lone) ts at x
unfolding run
run_same [] at x are = refl
run_same (t ∷ ts) at x are = ap (λ (o : Result ReaderState Refusal). on_step (step strict) at o (run (step strict) ts (at + 1))) (step_same at x t are.0) ∙ go (step lone at x t) (λ mid. run_same ts (at + 1) mid are.1)
  where
    go : (o : Result ReaderState Refusal) → ((mid : ReaderState) → run (step strict) ts (at + 1) mid ≡ run (step lone) ts (at + 1) mid)
        → on_step (step strict) at o (run (step strict) ts (at + 1)) ≡ on_step (step lone) at o (run (step lone) ts (at + 1))
    go (Ok mid) tail = tail mid
    go (Err why) tail = refl

pub are_bytes : (bs : List ℕ) → ((i : ℕ) → Fits w8 (get_or bs i 0)) → AreBytes bs
are_bytes [] fits = tt
are_bytes (b ∷ bs) fits = (Fits-lt-pow (fits 0), are_bytes bs (λ i. fits (suc i)))
