-- What stands in a text says how the reader stands: where a string is read, and in which part of it.
use Rattle.std.proofs.Common.{◌≡◌, ℕ, ◌≤◌, true, false, List, Ok, Err, refl, sym, ap, ◌∙◌, arith, ◌⊎◌}
use Rattle.std.specs.Prelude.{◌==◌, slice_index}
use Rattle.std.proofs.lemmas.Bool.Decides.{nat_tests}
use Rattle.json_machine.specs.Refusal.{Refusal}
use Rattle.json_machine.specs.declared.begun.Word.{Word}
use Rattle.json_machine.specs.Mode.{Mode}
use Rattle.json_machine.specs.Mode as m
use Rattle.json_machine.specs.Part.{Part}
use Rattle.json_machine.specs.Progress as s
use Rattle.json_faults.specs.Faults.{lone}
use Rattle.json_machine.specs.Scan.{Scanned, scan}
use Rattle.json_machine.specs.Machine.{Frames, Pairs, ReaderState, Stepped, letters, begin, open_by, value_step, first_step, after_step, word_step, number_step, str_by, first_name_step, next_name_step, naming_by, colon_step, step_by, step}
use Rattle.exact_read.proofs.Machines.{err}

-- whose string is read
pub data Inner : Type 0 where
  value : Inner
  name : Pairs → ℕ → Inner

abbrev pub inside : Inner → Part → List ℕ → Mode
inside value part text = m.Str part text
inside (name ms place) part text = m.Naming ms place part text

-- a state in a string
pub record InPart (mode : Mode) : Type 0 where
  pub inner : Inner
  pub part : Part
  pub text : List ℕ
  pub is : mode ≡ inside inner part text

-- a byte that stands nowhere outside of strings
abbrev pub Alien : ℕ → Type 0
Alien b = (194 ≤ b) ⊎ (b ≡ 92)

no_letter : (b : ℕ) → Alien b → (word : Word) (read : ℕ) → (b == slice_index (letters word) read) ≡ false
no_letter b a word read = grind (arith, nat_tests)

-- such a byte is read in a string alone
pub in_string : (b : ℕ) → Alien b → (at : ℕ) (mode : Mode) (fs : Frames) (next : ReaderState) → step_by lone at mode fs b ≡ Ok next → InPart mode
unfolding value_step first_step begin open_by after_step word_step number_step first_name_step next_name_step colon_step
in_string b a at (m.Str part text) fs next is = record { inner = value; part = part; text = text; is = refl }
in_string b a at (m.Naming ms place part text) fs next is = record { inner = name ms place; part = part; text = text; is = refl }
in_string b a at (m.Word word read) fs next is =
    let other = no_letter b a word read in
    absurd (grind (arith, nat_tests))
in_string b a at _ fs next is = absurd (grind (arith, nat_tests))

-- ---- in a string

-- what a step in a string makes of its scan
abbrev pub in_by : Inner → Frames → Scanned → Stepped
in_by value fs o = str_by fs o
in_by (name ms place) fs o = naming_by true fs ms place o

pub inside_is : (inner : Inner) (at : ℕ) (part : Part) (text : List ℕ) (fs : Frames) (b : ℕ) → step_by lone at (inside inner part text) fs b ≡ in_by inner fs (scan true at part text b)
inside_is value at part text fs b = refl
inside_is (name ms place) at part text fs b = refl

pub goes_inside : (inner : Inner) (fs : Frames) (part : Part) (text : List ℕ) → in_by inner fs (Ok (s.More part text)) ≡ Ok (record { mode = inside inner part text; frames = fs })
goes_inside value fs part text = refl
goes_inside (name ms place) fs part text = refl

pub refused_inside : (inner : Inner) (fs : Frames) (why : Refusal) → in_by inner fs (Err why) ≡ Err why
refused_inside value fs why = refl
refused_inside (name ms place) fs why = refl

pub never : (why : Refusal) (inner : Inner) (fs : Frames) (o : Scanned) (next : ReaderState) → o ≡ Err why → in_by inner fs o ≡ Ok next → ⊥
never why inner fs o next is ok = differ (sym (ap (in_by inner fs) is ∙ refused_inside inner fs why) ∙ ok)
  where
    differ : err {S = ReaderState} why ≡ Ok next → ⊥
    differ e = cc

pub step_inside : (inner : Inner) (at : ℕ) (part : Part) (text : List ℕ) (fs : Frames) (b : ℕ) → step lone at (record { mode = inside inner part text; frames = fs }) b ≡ in_by inner fs (scan true at part text b)
unfolding step
step_inside inner at part text fs b = inside_is inner at part text fs b
