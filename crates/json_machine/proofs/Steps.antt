-- Reading on from a place, by one byte and by many.
use Rattle.std.proofs.Common.{◌≡◌, ℕ, ◌+◌, ◌-◌, ◌<◌, ◌≤◌, false, List, [], ◌∷◌, ◌++◌, length, take, drop, get_or, add-one, Ok, Err, refl, sym, ap, ◌∙◌, arith}
use Rattle.std.proofs.lemmas.List.{drop_all, drop-drop, length-take-le, length-drop, take-append-drop}
use Rattle.std.proofs.Math.Seq.{take-add, drop-cons}
use Rattle.json_value.specs.Grammar.{strict}
use Rattle.exact_read.specs.Steps.{run}
use Rattle.exact_read.proofs.Machines.{run_both}
use Rattle.json_machine.specs.Refusal.{Refusal}
use Rattle.json_machine.specs.Mode.{Mode}
use Rattle.json_machine.specs.Part.{Part}
use Rattle.json_machine.specs.Part as p
use Rattle.json_machine.specs.Progress as s
use Rattle.json_machine.specs.Scan.{scan, Unescaped}
use Rattle.json_machine.specs.Machine.{Frames, to, step, placed, whole, finish, finish_by}
use Rattle.json_machine.specs.Onward.{read_from, cut, Open, Closed, Failed, reading, text_from}
use Rattle.json_machine.proofs.PlainRuns.{unescaped_reading}

pub here : (bytes : List ℕ) (at : ℕ) → at < length bytes → drop at bytes ≡ get_or bytes at 0 ∷ drop (at + 1) bytes
here bytes at lt = rw add-one (drop-cons bytes at 0 lt)

-- ---- the machine

pub steps : (bytes : List ℕ) (at b : ℕ) (x y : Mode) (fs gs : Frames) → at < length bytes → get_or bytes at 0 ≡ b → step strict at (record { mode = x; frames = fs }) b ≡ to y gs → read_from bytes at x fs ≡ read_from bytes (at + 1) y gs
unfolding read_from run
steps bytes at b x y fs gs lt is stepped = rw (here bytes at lt, is, stepped) refl

pub refuses : (bytes : List ℕ) (at b : ℕ) (x : Mode) (fs : Frames) (why : Refusal) → at < length bytes → get_or bytes at 0 ≡ b → step strict at (record { mode = x; frames = fs }) b ≡ Err why → read_from bytes at x fs ≡ Err (placed why at)
unfolding read_from run
refuses bytes at b x fs why lt is stepped = rw (here bytes at lt, is, stepped) refl

pub same_step : (bytes : List ℕ) (at : ℕ) (x y : Mode) (fs gs : Frames) → at < length bytes → step strict at (record { mode = x; frames = fs }) (get_or bytes at 0) ≡ step strict at (record { mode = y; frames = gs }) (get_or bytes at 0)
    → read_from bytes at x fs ≡ read_from bytes at y gs
unfolding read_from run
same_step bytes at x y fs gs lt same = rw (here bytes at lt, same) refl

pub ends : (bytes : List ℕ) (at : ℕ) (x : Mode) (fs : Frames) → length bytes ≤ at → read_from bytes at x fs ≡ finish_by x fs
unfolding read_from run finish
ends bytes at x fs le = rw (drop_all at bytes le) refl

-- ---- slices

pub cut_none : (bytes : List ℕ) (at : ℕ) → cut bytes at at ≡ []
cut_none bytes at = ap (λ (n : ℕ). take n (drop at bytes)) (let none : at - at ≡ 0 = omega arith in none)

pub cut_one : (bytes : List ℕ) (at : ℕ) → at < length bytes → cut bytes at (at + 1) ≡ get_or bytes at 0 ∷ []
cut_one bytes at lt = rw (here bytes at lt) (ap (λ (n : ℕ). take n (get_or bytes at 0 ∷ drop (at + 1) bytes)) (let one : at + 1 - at ≡ 1 = omega arith in one))

pub cut_join : (bytes : List ℕ) (at i j : ℕ) → at ≤ i → i ≤ j → cut bytes at j ≡ cut bytes at i ++ cut bytes i j
cut_join bytes at i j le after =
    ap (λ (n : ℕ). take n (drop at bytes)) (let parts : j - at ≡ i - at + (j - i) = omega arith in parts)
    ∙ (take-add (i - at) (j - i) (drop at bytes)
    ∙ ap (λ (w : List ℕ). cut bytes at i ++ take (j - i) w) (drop-drop (i - at) at bytes ∙ ap (λ (n : ℕ). drop n bytes) (let there : at + (i - at) ≡ i = omega arith in there)))

pub cut_rest : (bytes : List ℕ) (at i : ℕ) → at ≤ i → drop at bytes ≡ cut bytes at i ++ drop i bytes
cut_rest bytes at i le =
    sym (take-append-drop (i - at) (drop at bytes))
    ∙ ap (λ (w : List ℕ). cut bytes at i ++ w) (drop-drop (i - at) at bytes ∙ ap (λ (n : ℕ). drop n bytes) (let there : at + (i - at) ≡ i = omega arith in there))

pub cut_length : (bytes : List ℕ) (at i : ℕ) → at ≤ i → i ≤ length bytes → at + length (cut bytes at i) ≡ i
cut_length bytes at i le within =
    let long : length (cut bytes at i) ≡ i - at = length-take-le (i - at) (drop at bytes) (omega (arith, length-drop at bytes)) in
    omega (arith, long)

pub runs_on : (bytes : List ℕ) (i j : ℕ) (x y : Mode) (fs gs : Frames) → i ≤ j → j ≤ length bytes → run (step strict) (cut bytes i j) i (record { mode = x; frames = fs }) ≡ Ok (record { mode = y; frames = gs }) → read_from bytes i x fs ≡ read_from bytes j y gs
unfolding read_from
runs_on bytes i j x y fs gs le within is =
    ap (λ (w : List ℕ). whole (run (step strict) w i (record { mode = x; frames = fs }))) (cut_rest bytes i j le)
    ∙ (ap whole (run_both (step strict) (cut bytes i j) (drop j bytes) i _ _ is)
    ∙ ap (λ (n : ℕ). whole (run (step strict) (drop j bytes) n (record { mode = y; frames = gs }))) (cut_length bytes i j le within))

-- ---- strings

pub scans : (bytes : List ℕ) (at b : ℕ) (part next : Part) (text more : List ℕ) → at < length bytes → get_or bytes at 0 ≡ b → scan false at part text b ≡ Ok (s.More next more) → text_from bytes at part text ≡ text_from bytes (at + 1) next more
unfolding text_from reading
scans bytes at b part next text more lt is scanned = rw (here bytes at lt, is, scanned) refl

pub scan_done : (bytes : List ℕ) (at b : ℕ) (part : Part) (text made : List ℕ) → at < length bytes → get_or bytes at 0 ≡ b → scan false at part text b ≡ Ok (s.Done made) → text_from bytes at part text ≡ Closed made (drop (at + 1) bytes) at
unfolding text_from reading
scan_done bytes at b part text made lt is scanned = rw (here bytes at lt, is, scanned) refl

pub scan_fails : (bytes : List ℕ) (at b : ℕ) (part : Part) (text : List ℕ) (why : Refusal) → at < length bytes → get_or bytes at 0 ≡ b → scan false at part text b ≡ Err why → text_from bytes at part text ≡ Failed why at
unfolding text_from reading
scan_fails bytes at b part text why lt is scanned = rw (here bytes at lt, is, scanned) refl

pub scan_ends : (bytes : List ℕ) (at : ℕ) (part : Part) (text : List ℕ) → length bytes ≤ at → text_from bytes at part text ≡ Open part text
unfolding text_from reading
scan_ends bytes at part text le = rw (drop_all at bytes le) refl

pub unescaped_on : (bytes : List ℕ) (i j : ℕ) (text : List ℕ) → i ≤ j → j ≤ length bytes → Unescaped (cut bytes i j) → text_from bytes i p.Plain text ≡ text_from bytes j p.Plain (text ++ cut bytes i j)
unfolding text_from
unescaped_on bytes i j text le within all =
    ap (λ (w : List ℕ). reading w i p.Plain text) (cut_rest bytes i j le) ∙ unescaped_reading (cut bytes i j) (drop j bytes) i j text all (sym (cut_length bytes i j le within))
