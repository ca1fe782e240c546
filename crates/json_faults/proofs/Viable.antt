-- Bytes that some text continues are those that the reader reads.
use Rattle.std.proofs.Common.{◌≡◌, ℕ, true, List, ◌++◌, length, Ok, sym, ap, ◌∙◌, arith}
use Rattle.json_value.specs.Grammar.{Rules, IsViable}
use Rattle.exact_read.specs.Steps.{run}
use Rattle.json_machine.specs.Machine.{ReaderState, step, start}
use Rattle.json_machine.proofs.Frames.{Left}
use Rattle.json_machine.proofs.Whole.{Valid, sound, goes, keeps, ends, start_text, text_start}
use Rattle.exact_read.proofs.Machines.{ok_is, run_goes, run_keeps, reached_is_viable, run_split, run_both}

pub viable_runs : (r : Rules) (front : List ℕ) → IsViable r front → (s : ReaderState) × (run (step r) front 0 start ≡ Ok s)
viable_runs r front (w, v, text) =
    let k = run_goes (step r) Valid (Left r) (sound r) (goes r) (keeps r) front 0 start w v tt (text_start r v (front ++ w) text) in
    (k.0, k.1)

pub runs_viable : (r : Rules) (front : List ℕ) (s : ReaderState) → r.cut ≡ true → run (step r) front 0 start ≡ Ok s → IsViable r front
runs_viable r front s on is =
    let h = reached_is_viable (step r) Valid (Left r) (sound r) (goes r) (keeps r) (ends r on) front 0 start s tt is in
    (h.0, h.1, start_text r h.1 (front ++ h.0) h.2)

pub runs_valid : (r : Rules) (front : List ℕ) (s : ReaderState) → run (step r) front 0 start ≡ Ok s → Valid s
runs_valid r front s is = run_keeps (step r) Valid (Left r) (sound r) (goes r) (keeps r) front 0 start s tt is

-- what may follow these bytes is read from the state that they reach
pub viable_after : (r : Rules) (front more : List ℕ) (s : ReaderState) → run (step r) front 0 start ≡ Ok s → IsViable r (front ++ more) → (z : ReaderState) × (run (step r) more (length front) s ≡ Ok z)
viable_after r front more s is viable =
    let whole = viable_runs r (front ++ more) viable in
    let parts = run_split (step r) front more 0 start whole.0 whole.1 in
    let same : parts.0 ≡ s = ok_is parts.0 s (sym parts.1 ∙ is) in
    let here : run (step r) more (length front) parts.0 ≡ Ok whole.0 = ap (λ (n : ℕ). run (step r) more n parts.0) (omega arith) ∙ parts.2 in
    (whole.0, ap (λ (k : ReaderState). run (step r) more (length front) k) (sym same) ∙ here)

-- and the reverse
pub after_viable : (r : Rules) (front more : List ℕ) (s z : ReaderState) → r.cut ≡ true → run (step r) front 0 start ≡ Ok s → run (step r) more (length front) s ≡ Ok z → IsViable r (front ++ more)
after_viable r front more s z on is then = runs_viable r (front ++ more) z on (run_both (step r) front more 0 start s is ∙ (ap (λ (n : ℕ). run (step r) more n s) (omega arith) ∙ then))
