-- White space, words and numbers.
use Rattle.std.proofs.Common.{◌≡◌, ℕ, ◌+◌, ◌<◌, ◌≤◌, Bool, true, false, List, [], ◌∷◌, ◌++◌, length, get_or, Option, Some, None, Ok, Err, refl, sym, ap, subst, ◌∙◌, arith, append_assoc, ◌⊎◌, inl, inr}
use Rattle.std.specs.Prelude.{slice_index, IsUtf8}
use Rattle.std.proofs.lemmas.List.{append-nil}
use Rattle.std.proofs.lemmas.Bool.{cond-true, cond-false, cases_lt}
use Rattle.std.proofs.lemmas.Bool.Decides.{nat_tests}
use Rattle.json_value.specs.declared.tree.Json.TheVariants as j
use Rattle.json_value.specs.declared.fault.JsonFault.TheVariants as faults
use Rattle.json_value.specs.Grammar.{strict, is_blank}
use Rattle.exact_read.specs.Steps.{run, on_step}
use Rattle.json_machine.specs.declared.begun.Word.{Word}
use Rattle.json_machine.specs.declared.begun.Digit.{Digit}
use Rattle.json_machine.specs.Refusal as e
use Rattle.json_machine.specs.Mode.{Mode}
use Rattle.json_machine.specs.Mode as m
use Rattle.json_machine.specs.Numbers.{number_start, number_next, may_end}
use Rattle.json_machine.specs.Left.{CompletesNumber}
use Rattle.json_machine.specs.Machine.{Frames, to, step, letters, word_step, number_go, number_step, value_step, finish_by, number_end}
use Rattle.json_machine.specs.Onward.{Skips, read_from, cut}
use Rattle.json_read.specs.Reading.{ReadsOn, Anywhere, worded, NumberFollows}
use Rattle.json_machine.proofs.Complete.{number_begins, number_not_blank}
use Rattle.json_machine.proofs.Utf8.{number_holds}
use Rattle.json_machine.proofs.Steps.{steps, same_step, refuses, ends, cut_none, cut_one, cut_join, runs_on}

-- blanks
abbrev pub Blank : List ℕ → ℕ → ℕ → Type 0
Blank bytes at i = (mode : Mode) (fs : Frames) → Skips mode → read_from bytes at mode fs ≡ read_from bytes i mode fs

pub blank_more : (bytes : List ℕ) (at i : ℕ) → i < length bytes → is_blank (get_or bytes i 0) ≡ true → Blank bytes at i → Blank bytes at (i + 1)
blank_more bytes at i lt blank so_far mode fs skips = so_far mode fs skips ∙ steps bytes i (get_or bytes i 0) mode mode fs fs lt refl (skips i (get_or bytes i 0) fs blank)

-- words
abbrev pub Spelled : List ℕ → ℕ → Word → ℕ → ℕ → Type 0
Spelled bytes at word i read = (fs : Frames) → read_from bytes at (m.Word word 1) fs ≡ read_from bytes i (worded word read) fs

letter_steps : (word : Word) (read b at : ℕ) (fs : Frames) → read < length (letters word) → b ≡ slice_index (letters word) read → step strict at (record { mode = m.Word word read; frames = fs }) b ≡ to (worded word (read + 1)) fs
unfolding step word_step
letter_steps word read b at fs lt is = grind (arith, nat_tests)

letter_refused : (word : Word) (read b at : ℕ) (fs : Frames) → (b ≡ slice_index (letters word) read → ⊥) → step strict at (record { mode = m.Word word read; frames = fs }) b ≡ Err e.Syntax
unfolding step word_step
letter_refused word read b at fs not = grind (arith, nat_tests)

in_word : (word : Word) (read : ℕ) → read < length (letters word) → worded word read ≡ m.Word word read
in_word word read lt = grind (arith, nat_tests)

pub word_more : (bytes : List ℕ) (at i : ℕ) (word : Word) (read : ℕ) → i < length bytes → read < length (letters word) → get_or bytes i 0 ≡ slice_index (letters word) read → Spelled bytes at word i read → Spelled bytes at word (i + 1) (read + 1)
word_more bytes at i word read lt within is so_far fs =
    so_far fs ∙ (ap (λ (x : Mode). read_from bytes i x fs) (in_word word read within)
    ∙ steps bytes i (get_or bytes i 0) (m.Word word read) (worded word (read + 1)) fs fs lt refl (letter_steps word read (get_or bytes i 0) i fs within is))

pub word_ended : (bytes : List ℕ) (at i : ℕ) (word : Word) (read : ℕ) → length bytes ≤ i → read < length (letters word) → Spelled bytes at word i read → ReadsOn Anywhere bytes at (m.Word word 1) (Err faults.Ended)
word_ended bytes at i word read le within so_far _ fs _ = so_far fs ∙ (ap (λ (x : Mode). read_from bytes i x fs) (in_word word read within) ∙ ends bytes i (m.Word word read) fs le)

pub word_bad : (bytes : List ℕ) (at i : ℕ) (word : Word) (read : ℕ) → i < length bytes → read < length (letters word) → (get_or bytes i 0 ≡ slice_index (letters word) read → ⊥) → Spelled bytes at word i read → ReadsOn Anywhere bytes at (m.Word word 1) (Err (faults.Syntax i))
word_bad bytes at i word read lt within not so_far _ fs _ =
    so_far fs ∙ (ap (λ (x : Mode). read_from bytes i x fs) (in_word word read within) ∙ refuses bytes i (get_or bytes i 0) (m.Word word read) fs e.Syntax lt refl (letter_refused word read (get_or bytes i 0) i fs not))

-- numbers
number_runs : (bs : List ℕ) (at : ℕ) (part last : Digit) (text : List ℕ) (fs : Frames) → NumberFollows part bs last
    → run (step strict) bs at (record { mode = m.Number part text; frames = fs }) ≡ Ok (record { mode = m.Number last (text ++ bs); frames = fs })
unfolding run step number_step
number_runs [] at part last text fs is = ap (λ (k : Digit). Ok (record { mode = m.Number k text; frames = fs })) is ∙ ap (λ (k : List ℕ). Ok (record { mode = m.Number last k; frames = fs })) (sym (append-nil text))
number_runs (b ∷ bs) at part last text fs (next, is, more) =
    ap (λ (o : Option Digit). on_step (step strict) at (number_go fs part text b o) (run (step strict) bs (at + 1))) is
    ∙ (number_runs bs (at + 1) next last (text ++ (b ∷ [])) fs more ∙ ap (λ (k : List ℕ). Ok (record { mode = m.Number last k; frames = fs })) (append_assoc text (b ∷ []) bs))

follows_and : (xs : List ℕ) (b : ℕ) (start part next : Digit) → NumberFollows start xs part → number_next part b ≡ Some next → NumberFollows start (xs ++ (b ∷ [])) next
follows_and [] b start part next same is = (next, ap (λ (k : Digit). number_next k b) same ∙ is, refl)
follows_and (x ∷ xs) b start part next (mid, first, more) is = (mid, first, follows_and xs b mid part next more is)

pub follows_none : (bytes : List ℕ) (at : ℕ) (start : Digit) → NumberFollows start (cut bytes at at) start
follows_none bytes at start = subst (λ (w : List ℕ). NumberFollows start w start) (sym (cut_none bytes at)) refl

pub follows_more : (bytes : List ℕ) (at i : ℕ) (start part next : Digit) → at ≤ i → i < length bytes → NumberFollows start (cut bytes at i) part → number_next part (get_or bytes i 0) ≡ Some next → NumberFollows start (cut bytes at (i + 1)) next
follows_more bytes at i start part next le lt so_far is =
    subst (λ (w : List ℕ). NumberFollows start w next) (sym (cut_join bytes at i (i + 1) le (omega arith) ∙ ap (λ (w : List ℕ). cut bytes at i ++ w) (cut_one bytes i lt))) (follows_and (cut bytes at i) (get_or bytes i 0) start part next so_far is)

completes : (bs : List ℕ) (start last : Digit) → NumberFollows start bs last → may_end last ≡ true → CompletesNumber start bs
completes [] start last same may = ap may_end same ∙ may
completes (b ∷ bs) start last (next, is, more) may = (next, is, completes bs next last more may)

-- the whole number is its first byte and those that go on with it
begun : (bytes : List ℕ) (at end : ℕ) → at < length bytes → at + 1 ≤ end → cut bytes at end ≡ get_or bytes at 0 ∷ cut bytes (at + 1) end
begun bytes at end lt le = cut_join bytes at (at + 1) end (omega arith) le ∙ ap (λ (w : List ℕ). w ++ cut bytes (at + 1) end) (cut_one bytes at lt)

pub number_utf8 : (bytes : List ℕ) (at end : ℕ) (start last : Digit) → at < length bytes → at + 1 ≤ end → number_start (get_or bytes at 0) ≡ Some start → NumberFollows start (cut bytes (at + 1) end) last → may_end last ≡ true → IsUtf8 (cut bytes at end)
number_utf8 bytes at end start last lt le starts follows may = subst IsUtf8 (sym (begun bytes at end lt le)) (number_holds (get_or bytes at 0) start starts (cut bytes (at + 1) end) (completes (cut bytes (at + 1) end) start last follows may))

number_starts : (at b : ℕ) (start : Digit) (fs : Frames) → number_start b ≡ Some start → step strict at (record { mode = m.Value; frames = fs }) b ≡ to (m.Number start (b ∷ [])) fs
unfolding step value_step
number_starts at b start fs starts = cond-false (is_blank b) _ _ (number_not_blank b start starts) ∙ number_begins 64 fs b start starts

read_number : (bytes : List ℕ) (at end : ℕ) (start last : Digit) (fs : Frames) → at < length bytes → at + 1 ≤ end → end ≤ length bytes → number_start (get_or bytes at 0) ≡ Some start → NumberFollows start (cut bytes (at + 1) end) last
    → read_from bytes at m.Value fs ≡ read_from bytes end (m.Number last (cut bytes at end)) fs
read_number bytes at end start last fs lt le within starts follows =
    let b : ℕ = get_or bytes at 0 in
    steps bytes at b m.Value (m.Number start (b ∷ [])) fs fs lt refl (number_starts at b start fs starts)
    ∙ (runs_on bytes (at + 1) end (m.Number start (b ∷ [])) (m.Number last (b ∷ cut bytes (at + 1) end)) fs fs le within (number_runs (cut bytes (at + 1) end) (at + 1) start last (b ∷ []) fs follows)
    ∙ ap (λ (w : List ℕ). read_from bytes end (m.Number last w) fs) (sym (begun bytes at end lt le)))

-- what follows a number follows its value
next_as_value : (end b : ℕ) (last : Digit) (text : List ℕ) (fs : Frames) → may_end last ≡ true → number_next last b ≡ None → step strict end (record { mode = m.Number last text; frames = fs }) b ≡ step strict end (record { mode = m.After (j.Number text); frames = fs }) b
unfolding step number_step
next_as_value end b last text fs may stops = ap (number_go fs last text b) stops ∙ cond-true (may_end last) _ _ may

next_refused : (end b : ℕ) (last : Digit) (text : List ℕ) (fs : Frames) → may_end last ≡ false → number_next last b ≡ None → step strict end (record { mode = m.Number last text; frames = fs }) b ≡ Err e.Syntax
unfolding step number_step
next_refused end b last text fs may stops = ap (number_go fs last text b) stops ∙ cond-false (may_end last) _ _ may

as_value : (bytes : List ℕ) (end : ℕ) (last : Digit) (text : List ℕ) (fs : Frames) → may_end last ≡ true → (end < length bytes → number_next last (get_or bytes end 0) ≡ None) → read_from bytes end (m.Number last text) fs ≡ read_from bytes end (m.After (j.Number text)) fs
as_value bytes end last text fs may stops = by_case (cases_lt end (length bytes))
  where
    at_end : (gs : Frames) → finish_by (m.Number last text) gs ≡ finish_by (m.After (j.Number text)) gs
    at_end [] = ap (λ (t : Bool). number_end t text) may
    at_end (g ∷ gs) = refl

    by_case : (end < length bytes) ⊎ (length bytes ≤ end) → read_from bytes end (m.Number last text) fs ≡ read_from bytes end (m.After (j.Number text)) fs
    by_case (inl lt) = same_step bytes end _ _ fs fs lt (next_as_value end (get_or bytes end 0) last text fs may (stops lt))
    by_case (inr le) = ends bytes end (m.Number last text) fs le ∙ (at_end fs ∙ sym (ends bytes end (m.After (j.Number text)) fs le))

pub number_ok : (bytes : List ℕ) (at end : ℕ) (start last : Digit) (text : List ℕ) → at < length bytes → at + 1 ≤ end → end ≤ length bytes → number_start (get_or bytes at 0) ≡ Some start → NumberFollows start (cut bytes (at + 1) end) last
    → may_end last ≡ true → (end < length bytes → number_next last (get_or bytes end 0) ≡ None) → text ≡ cut bytes at end → ReadsOn Anywhere bytes at m.Value (Ok (j.Number text, end))
number_ok bytes at end start last text lt le within starts follows may stops is = (
  omega arith,
  within,
  λ fs _. read_number bytes at end start last fs lt le within starts follows
      ∙ (as_value bytes end last (cut bytes at end) fs may stops ∙ ap (λ (w : List ℕ). read_from bytes end (m.After (j.Number w)) fs) (sym is)),
)

pub number_bad : (bytes : List ℕ) (at end : ℕ) (start last : Digit) → at < length bytes → at + 1 ≤ end → end < length bytes → number_start (get_or bytes at 0) ≡ Some start → NumberFollows start (cut bytes (at + 1) end) last
    → may_end last ≡ false → number_next last (get_or bytes end 0) ≡ None → ReadsOn Anywhere bytes at m.Value (Err (faults.Syntax end))
number_bad bytes at end start last lt le within starts follows may stops _ fs _ =
    read_number bytes at end start last fs lt le (omega arith) starts follows ∙ refuses bytes end (get_or bytes end 0) (m.Number last (cut bytes at end)) fs e.Syntax within refl (next_refused end (get_or bytes end 0) last (cut bytes at end) fs may stops)

pub number_ended : (bytes : List ℕ) (at end : ℕ) (start last : Digit) → at < length bytes → at + 1 ≤ end → end ≤ length bytes → length bytes ≤ end → number_start (get_or bytes at 0) ≡ Some start → NumberFollows start (cut bytes (at + 1) end) last
    → may_end last ≡ false → ReadsOn Anywhere bytes at m.Value (Err faults.Ended)
number_ended bytes at end start last lt le within all starts follows may _ fs _ =
    read_number bytes at end start last fs lt le within starts follows ∙ (ends bytes end (m.Number last (cut bytes at end)) fs all ∙ open_number fs)
  where
    open_number : (gs : Frames) → finish_by (m.Number last (cut bytes at end)) gs ≡ Err faults.Ended
    open_number [] = ap (λ (t : Bool). number_end t (cut bytes at end)) may
    open_number (g ∷ gs) = refl
