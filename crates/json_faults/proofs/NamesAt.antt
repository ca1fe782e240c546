-- From what stands in a text before a name follows that the reader reads that name.
use Rattle.std.proofs.Common.{◌≡◌, ℕ, ◌+◌, true, List, [], ◌∷◌, ◌++◌, length, Ok, Err, refl, sym, ap, subst, ◌∙◌, arith, append_assoc, inl, inr}
use Rattle.std.specs.Prelude.{codes}
use Rattle.std.proofs.lemmas.Bool.Decides.{nat_tests}
use Rattle.json_machine.specs.Refusal.{Refusal}
use Rattle.json_machine.specs.Refusal as e
use Rattle.json_machine.specs.Mode.{Mode}
use Rattle.json_machine.specs.Mode as m
use Rattle.json_machine.specs.Part.{Part}
use Rattle.json_machine.specs.Part as p
use Rattle.json_machine.specs.Progress as s
use Rattle.json_value.specs.Strings.{Chars}
use Rattle.json_value.specs.Grammar.{Rules}
use Rattle.json_faults.specs.Faults.{lone, any_names, NameAt}
use Rattle.json_machine.specs.Left.{TextLeft}
use Rattle.json_machine.specs.Scan.{Scanned, scan, plain_scan, escape_scan, hex_scan, slash_scan, letter_scan, low_scan, wide_scan}
use Rattle.exact_read.specs.Steps.{run}
use Rattle.json_machine.specs.Machine.{Frames, Pairs, ReaderState, open_by, begin, value_step, first_step, after_step, word_step, number_step, first_name_step, next_name_step, named, naming_by, colon_step, step_by, step, start}
use Rattle.exact_read.proofs.Machines.{ok_is, run_one, run_split}
use Rattle.json_faults.proofs.Viable.{runs_valid, viable_after}
use Rattle.json_machine.proofs.TextsGo.{IsPart, ScanGoes, scan_goes}
use Rattle.json_machine.proofs.Complete.{IsValid}
use Rattle.json_machine.proofs.TextsEnd.{text_not_empty}
use Rattle.json_faults.proofs.Laxer.{lone_any_names, run_agrees}
use Rattle.json_faults.proofs.Judged.{ScanOnly, scan_only}
use Rattle.json_faults.proofs.Escapes.{last_is, no_end, nothing_read}

-- a name may begin here, after these members
abbrev Due : Mode → Type 0
Due m.FirstName = Unit {0}
Due (m.NextName ms) = Unit {0}
Due _ = ⊥

-- the four bytes that show it: a blank, two quotes and a colon
abbrev Shows : Mode → Frames → Type 0
Shows mode fs = (at : ℕ) × (a : ReaderState) × (b : ReaderState) × (c : ReaderState) × (z : ReaderState) × (step_by any_names at mode fs 32 ≡ Ok a) × (step any_names (at + 1) a 34 ≡ Ok b) × (step any_names (at + 1 + 1) b 34 ≡ Ok c) × (step any_names (at + 1 + 1 + 1) c 58 ≡ Ok z)

-- a string that is read, or a value that follows it, leaves no room for them
due : (mode : Mode) (fs : Frames) → IsValid mode → Shows mode fs → Due mode
unfolding step value_step first_step begin open_by after_step word_step number_step first_name_step next_name_step named colon_step scan plain_scan escape_scan hex_scan slash_scan letter_scan low_scan wide_scan
due m.FirstName fs valid shows = tt
due (m.NextName ms) fs valid shows = tt
due _ fs valid (at, a, b, c, z, blank, one, two, colon) = absurd (grind (arith, nat_tests))

-- ---- the name is read

-- the reader stands in the name that began at the place
pub record Naming (place : ℕ) (x : ReaderState) : Type 0 where
  pub members : Pairs
  pub part : Part
  pub text : List ℕ
  pub is : x.mode ≡ m.Naming members place part text

naming_step : (at place : ℕ) (ms : Pairs) (part part' : Part) (text text' : List ℕ) (fs : Frames) (b : ℕ) → scan true at part text b ≡ Ok (s.More part' text') → step lone at (record { mode = m.Naming ms place part text; frames = fs }) b ≡ Ok (record { mode = m.Naming ms place part' text'; frames = fs })
unfolding step
naming_step at place ms part part' text text' fs b is = ap (naming_by true fs ms place) is

stays_naming : (l : List ℕ) (last at place : ℕ) (ms : Pairs) (part : Part) (text f : List ℕ) (fs : Frames) (z : ReaderState) → IsPart part → TextLeft true part text (l ++ (last ∷ [])) f
    → run (step lone) l at (record { mode = m.Naming ms place part text; frames = fs }) ≡ Ok z → Naming place z
stays_naming [] last at place ms part text f fs z valid left runs = record { members = ms; part = part; text = text; is = ap (λ (k : ReaderState). k.mode) (sym (nothing_read at (record { mode = m.Naming ms place part text; frames = fs }) z runs)) }
stays_naming (b ∷ l) last at place ms part text f fs z valid left runs =
    by_scan (scan_goes true at part text b (l ++ (last ∷ [])) f valid left) (λ part' text' h k r. stays_naming l last (at + 1) place ms part' text' f fs z h k r)
  where
    by_scan : ScanGoes true (scan true at part text b) (l ++ (last ∷ [])) f
        → ((part' : Part) (text' : List ℕ) → IsPart part' → TextLeft true part' text' (l ++ (last ∷ [])) f → run (step lone) l (at + 1) (record { mode = m.Naming ms place part' text'; frames = fs }) ≡ Ok z → Naming place z) → Naming place z
    by_scan (inl on) tail =
        let one = run_one (step lone) b l at (record { mode = m.Naming ms place part text; frames = fs }) z runs in
        let next = ok_is one.0 (record { mode = m.Naming ms place on.part on.text; frames = fs }) (sym one.1 ∙ naming_step at place ms part on.part text on.text fs b on.steps) in
        tail on.part on.text on.valid on.left (ap (λ (k : ReaderState). run (step lone) l (at + 1) k) (sym next) ∙ one.2)
    by_scan (inr over) tail = absurd (no_end l last over.nothing)

-- the quote that begins it
quote_read : (r : Rules) (at : ℕ) (mode : Mode) (fs : Frames) (y : ReaderState) → Due mode → step_by r at mode fs 34 ≡ Ok y → (ms : Pairs) × (y ≡ record { mode = m.Naming ms at p.Plain []; frames = fs })
unfolding first_name_step next_name_step
quote_read r at m.FirstName fs y is_due stepped = ([], ok_is y (record { mode = m.Naming [] at p.Plain []; frames = fs }) (sym stepped))
quote_read r at (m.NextName ms) fs y is_due stepped = (ms, ok_is y (record { mode = m.Naming ms at p.Plain []; frames = fs }) (sym stepped))
quote_read r at _ fs y is_due stepped = absurd is_due

last_of : (x : ℕ) (xs : List ℕ) → (l : List ℕ) × (last : ℕ) × (x ∷ xs ≡ l ++ (last ∷ []))
last_of x [] = ([], x, refl)
last_of x (y ∷ ys) =
    let k = last_of y ys in
    (x ∷ k.0, k.1, ap (λ (q : List ℕ). x ∷ q) k.2)

pub name_standing : (place : ℕ) (front : List ℕ) (b : ℕ) (x : ReaderState) → NameAt place (front ++ (b ∷ [])) → run (step lone) front 0 start ≡ Ok x → Naming place x
unfolding step
name_standing place front b x at runs = by_spelled at.spelled refl
  where
    by_spelled : (w : List ℕ) → at.spelled ≡ w → Naming place x
    by_spelled [] is = absurd (text_not_empty true p.Plain [] at.name tt (at.name, subst (λ (k : List ℕ). Chars true at.name k) is at.is_name, refl))
    by_spelled (t ∷ ts) is =
        let l = last_of t ts in
        let ends : at.spelled ≡ l.0 ++ (l.1 ∷ []) = is ∙ l.2 in
        let cut : front ++ (b ∷ []) ≡ (at.before ++ (34 ∷ l.0)) ++ (l.1 ∷ []) = at.parts ∙ (ap (λ (k : List ℕ). at.before ++ (34 ∷ k)) ends ∙ sym (append_assoc at.before (34 ∷ l.0) (l.1 ∷ []))) in
        let last = last_is front (at.before ++ (34 ∷ l.0)) b l.1 cut in
        let parts = run_split (step lone) at.before (34 ∷ l.0) 0 start x (ap (λ (k : List ℕ). run (step lone) k 0 start) (sym last.0) ∙ runs) in
        let one = run_one (step lone) 34 l.0 (0 + length at.before) parts.0 x parts.2 in
        let n : ℕ = length at.before in
        let after = viable_after any_names at.before (codes " \"\":") parts.0 (run_agrees lone any_names lone_any_names at.before 0 start parts.0 parts.1) at.at_name in
        let a = run_one (step any_names) 32 (34 ∷ (34 ∷ (58 ∷ []))) n parts.0 after.0 after.1 in
        let c = run_one (step any_names) 34 (34 ∷ (58 ∷ [])) (n + 1) a.0 after.0 a.2 in
        let d = run_one (step any_names) 34 (58 ∷ []) (n + 1 + 1) c.0 after.0 c.2 in
        let g = run_one (step any_names) 58 [] (n + 1 + 1 + 1) d.0 after.0 d.2 in
        let is_due = due parts.0.mode parts.0.frames (runs_valid lone at.before parts.0 parts.1) (n, a.0, c.0, d.0, g.0, a.1, c.1, d.1, g.1) in
        let quote = quote_read lone (0 + n) parts.0.mode parts.0.frames one.0 is_due one.1 in
        let whole : TextLeft true p.Plain [] (l.0 ++ (l.1 ∷ [])) at.name = (at.name, subst (λ (k : List ℕ). Chars true at.name k) ends at.is_name, refl) in
        let there = stays_naming l.0 l.1 (0 + n + 1) (0 + n) quote.0 p.Plain [] at.name parts.0.frames x tt whole (ap (λ (k : ReaderState). run (step lone) l.0 (0 + n + 1) k) (sym quote.1) ∙ one.2) in
        subst (λ (k : ℕ). Naming k x) (omega (arith, at.place_is)) there

twice_here : (fs : Frames) (ms : Pairs) (place place' : ℕ) (o : Scanned) → ScanOnly o → naming_by true fs ms place o ≡ Err (e.Twice place') → place' ≡ place
unfolding named
twice_here fs ms place place' o only is = grind (arith, nat_tests)

-- a name that is there twice is refused at its place
pub twice_refusal : (place at : ℕ) (x : ReaderState) (b place' : ℕ) → Naming place x → step lone at x b ≡ Err (e.Twice place') → place' ≡ place
unfolding step
twice_refusal place at x b place' k stepped =
    twice_here x.frames k.members place place' (scan true at k.part k.text b) (scan_only at k.part k.text b) (sym (ap (λ (m : Mode). step_by lone at m x.frames b) k.is) ∙ stepped)
