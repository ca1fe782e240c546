-- Which rule refuses a byte.
use Rattle.std.proofs.Common.{◌≡◌, ℕ, ◌<◌, ◌≤◌, Bool, true, false, cond, List, [], ◌∷◌, length, Ok, Err, refl, arith}
use Rattle.std.specs.Prelude.{nat_lt, ◌==◌}
use Rattle.std.proofs.lemmas.Bool.{lt-ltb}
use Rattle.std.proofs.lemmas.Bool.Decides.{nat_tests}
use Rattle.json_value.specs.declared.tree.Json.TheVariants as j
use Rattle.json_machine.specs.Refusal as e
use Rattle.json_machine.specs.declared.begun.Word.TheVariants as w
use Rattle.json_machine.specs.Mode.{Mode}
use Rattle.json_machine.specs.Mode as m
use Rattle.json_machine.specs.Frame as f
use Rattle.json_machine.specs.Part.{Part}
use Rattle.json_machine.specs.Part as p
use Rattle.json_machine.specs.Progress as s
use Rattle.json_machine.specs.Numbers.{number_start}
use Rattle.json_value.specs.Grammar.{Rules, is_blank, has}
use Rattle.json_faults.specs.Faults.{lone, deeper, any_names}
use Rattle.json_machine.specs.Scan.{Scanned, plain_scan, escape_scan, unit_scan, hex_scan, slash_scan, letter_scan, pair_scan, low_scan, wide_scan, scan}
use Rattle.json_machine.specs.Machine.{Frames, Pairs, ReaderState, Stepped, to, pick, number_by, open_by, begin, value_step, first_step, after_step, word_step, number_step, str_by, first_name_step, next_name_step, named, naming_by, colon_step, step_by}

-- ---- how deep each state may be

abbrev pub Fits : Mode → Frames → Type 0
Fits m.First fs = length fs < 64
Fits m.FirstName fs = length fs < 64
Fits (m.NextName ms) fs = length fs < 64
Fits (m.Naming ms place part text) fs = length fs < 64
Fits (m.Colon ms n) fs = length fs < 64
Fits _ fs = length fs ≤ 64

abbrev pub StillFits : Stepped → Type 0
StillFits (Ok next) = Fits next.mode next.frames
StillFits (Err why) = Unit {0}

-- ---- what each outcome says under laxer rules

abbrev pub GoesOn : Stepped → Type 0
GoesOn o = (next : ReaderState) × (o ≡ Ok next)

abbrev pub Judged : (Rules → Stepped) → Stepped → Type 0
Judged by (Ok next) = Unit {0}
Judged by (Err e.Deep) = GoesOn (by deeper) × (by any_names ≡ Err e.Deep)
Judged by (Err (e.Twice place)) = GoesOn (by any_names) × (by deeper ≡ Err (e.Twice place))
Judged by (Err why) = (by deeper ≡ Err why) × (by any_names ≡ Err why)

-- an outcome that no rule decides
abbrev pub Only : Stepped → Type 0
Only (Err e.Deep) = ⊥
Only (Err (e.Twice place)) = ⊥
Only _ = Unit {0}

only_judged : (o : Stepped) → Only o → Judged (λ r. o) o
only_judged (Ok next) h = tt
only_judged (Err e.Deep) h = absurd h
only_judged (Err (e.Twice place)) h = absurd h
only_judged (Err _) h = (refl, refl)

branch : (t : Bool) (x y : Rules → Stepped) → Judged x (x lone) → Judged y (y lone) → Judged (λ r. cond t (x r) (y r)) (cond t (x lone) (y lone))
branch true x y h k = h
branch false x y h k = k

open_judged : (mode : Mode) (fs : Frames) → length fs ≤ 64 → Judged (λ r. open_by r.depth mode fs) (open_by 64 mode fs)
unfolding open_by
open_judged mode fs le = by_test (nat_lt (length fs) 64) refl
  where
    by_test : (t : Bool) → nat_lt (length fs) 64 ≡ t → Judged (λ r. cond (nat_lt (length fs) r.depth) (to mode fs) (Err e.Deep)) (cond t (to mode fs) (Err e.Deep))
    by_test true is = tt
    by_test false is = ((record { mode = mode; frames = fs }, rw (lt-ltb (length fs) 65 (omega arith)) refl), rw is refl)

abbrev others : Frames → List (ℕ × Stepped)
others fs = (34, to (m.Str p.Plain []) fs) ∷ ((110, to (m.Word w.Null 1) fs) ∷ ((116, to (m.Word w.True 1) fs) ∷ ((102, to (m.Word w.False 1) fs) ∷ [])))

begin_judged : (fs : Frames) (t : ℕ) → length fs ≤ 64 → Judged (λ r. begin r.depth fs t) (begin 64 fs t)
unfolding begin
begin_judged fs t le =
    let rest : Stepped = pick t (others fs) (number_by fs t (number_start t)) in
    branch (t == 91) (λ r. open_by r.depth m.First fs) (λ r. cond (t == 123) (open_by r.depth m.FirstName fs) rest) (open_judged m.First fs le)
    (branch (t == 123) (λ r. open_by r.depth m.FirstName fs) (λ r. rest) (open_judged m.FirstName fs le)
    (only_judged rest (grind (arith, nat_tests))))

-- ---- strings

-- a scan never refuses by a rule
abbrev pub ScanOnly : Scanned → Type 0
ScanOnly (Err e.Deep) = ⊥
ScanOnly (Err (e.Twice place)) = ⊥
ScanOnly _ = Unit {0}

pub scan_only : (at : ℕ) (part : Part) (text : List ℕ) (b : ℕ) → ScanOnly (scan true at part text b)
unfolding scan plain_scan escape_scan hex_scan unit_scan slash_scan letter_scan low_scan pair_scan wide_scan
scan_only at p.Plain text b = grind (arith, nat_tests)
scan_only at _ text b = grind (arith, nat_tests)

str_only : (fs : Frames) (o : Scanned) → ScanOnly o → Only (str_by fs o)
str_only fs o h = grind (arith, nat_tests)

naming_judged : (fs : Frames) (ms : Pairs) (place : ℕ) (o : Scanned) → ScanOnly o → Judged (λ r. naming_by r.distinct fs ms place o) (naming_by true fs ms place o)
unfolding named
naming_judged fs ms place (Ok (s.Done name)) h = by_test (has ms name) refl
  where
    by_test : (t : Bool) → has ms name ≡ t → Judged (λ r. naming_by r.distinct fs ms place (Ok (s.Done name))) (cond t (Err (e.Twice place)) (to (m.Colon ms name) fs))
    by_test false is = tt
    by_test true is = ((record { mode = m.Colon ms name; frames = fs }, refl), rw is refl)
naming_judged fs ms place (Ok (s.More part text)) h = tt
naming_judged fs ms place (Err e.Deep) h = absurd h
naming_judged fs ms place (Err (e.Twice at)) h = absurd h
naming_judged fs ms place (Err _) h = (refl, refl)

pub step_by_judged : (at : ℕ) (mode : Mode) (fs : Frames) (t : ℕ) → Fits mode fs → Judged (λ r. step_by r at mode fs t) (step_by lone at mode fs t)
unfolding value_step first_step after_step word_step number_step first_name_step next_name_step colon_step
step_by_judged at m.Value fs t fits = branch (is_blank t) (λ r. to m.Value fs) (λ r. begin r.depth fs t) tt (begin_judged fs t fits)
step_by_judged at m.First fs t fits =
    branch (is_blank t) (λ r. to m.First fs) (λ r. cond (t == 93) (to (m.After (j.List [])) fs) (begin r.depth (f.Items [] ∷ fs) t)) tt
    (branch (t == 93) (λ r. to (m.After (j.List [])) fs) (λ r. begin r.depth (f.Items [] ∷ fs) t) tt (begin_judged (f.Items [] ∷ fs) t fits))
step_by_judged at (m.Str part text) fs t fits = only_judged (str_by fs (scan true at part text t)) (str_only fs (scan true at part text t) (scan_only at part text t))
step_by_judged at (m.Naming ms place part text) fs t fits = naming_judged fs ms place (scan true at part text t) (scan_only at part text t)
step_by_judged at (m.After x) fs t fits = only_judged (after_step fs x t) (grind (arith, nat_tests))
step_by_judged at (m.Word word read) fs t fits = only_judged (word_step fs word read t) (grind (arith, nat_tests))
step_by_judged at (m.Number part text) fs t fits = only_judged (number_step fs part text t) (grind (arith, nat_tests))
step_by_judged at m.FirstName fs t fits = only_judged (first_name_step fs at t) (grind (arith, nat_tests))
step_by_judged at (m.NextName ms) fs t fits = only_judged (next_name_step fs at ms t) (grind (arith, nat_tests))
step_by_judged at (m.Colon ms n) fs t fits = only_judged (colon_step fs ms n t) (grind (arith, nat_tests))

-- ---- a step keeps within the depth

str_fits : (fs : Frames) (o : Scanned) → length fs ≤ 64 → StillFits (str_by fs o)
str_fits fs o le = grind (arith, nat_tests)

naming_fits : (fs : Frames) (ms : Pairs) (place : ℕ) (o : Scanned) → length fs < 64 → StillFits (naming_by true fs ms place o)
unfolding named
naming_fits fs ms place o lt = grind (arith, nat_tests)

pub step_by_fits : (at : ℕ) (mode : Mode) (fs : Frames) (t : ℕ) → Fits mode fs → StillFits (step_by lone at mode fs t)
unfolding value_step first_step begin open_by after_step word_step number_step first_name_step next_name_step colon_step
step_by_fits at (m.Str part text) fs t fits = str_fits fs (scan true at part text t) fits
step_by_fits at (m.Naming ms place part text) fs t fits = naming_fits fs ms place (scan true at part text t) fits
step_by_fits at _ fs t fits = grind (arith, nat_tests)
