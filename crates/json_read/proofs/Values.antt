-- Values, lists and objects.
use Rattle.std.proofs.Common.{◌≡◌, ◌≢◌, ℕ, ◌+◌, ◌-◌, ◌<◌, ◌≤◌, Bool, true, false, List, [], ◌∷◌, ◌++◌, length, drop, get_or, None, Result, Ok, Err, refl, sym, ap, subst, ◌∙◌, arith, ◌⊎◌, inl, inr}
use Rattle.std.specs.Prelude.{nat_lt, ◌==◌, if◌then◌else◌}
use Rattle.std.proofs.lemmas.Bool.{cond-true, cond-false, lt-ltb, le-ltb, ne_eqb, cases_lt}
use Rattle.json_value.specs.declared.tree.Json.{Json}
use Rattle.json_value.specs.declared.tree.Json.TheVariants as j
use Rattle.json_value.specs.declared.fault.JsonFault.{JsonFault}
use Rattle.json_value.specs.declared.fault.JsonFault.TheVariants as faults
use Rattle.json_value.specs.Grammar.{strict, is_blank, has}
use Rattle.json_machine.specs.declared.begun.Word.TheVariants as w
use Rattle.json_machine.specs.Refusal as e
use Rattle.json_machine.specs.Part.{Part}
use Rattle.json_machine.specs.Part as p
use Rattle.json_machine.specs.Frame.{Frame}
use Rattle.json_machine.specs.Frame as f
use Rattle.json_machine.specs.Mode.{Mode}
use Rattle.json_machine.specs.Mode as m
use Rattle.json_machine.specs.Numbers.{number_start}
use Rattle.json_machine.specs.Machine.{Frames, Pairs, to, step, whole, finish, number_by, open_by, begin, value_step, first_step, after_step, first_name_step, next_name_step, named, colon_step, read_of, Reads}
use Rattle.json_machine.specs.Onward.{read_from, Reading, Open, Closed, Failed, text_from}
use Rattle.json_read.specs.Reading.{ReadsOn, Anywhere, HasRoom, ReadsName, ClosedBy, ReadsMark, Fails, ReadsText}
use Rattle.json_machine.proofs.PlainRuns.{str_after, str_run, name_after, name_run}
use Rattle.json_machine.proofs.Steps.{steps, same_step, refuses, ends}
use Rattle.json_read.proofs.Tokens.{Blank}
use Rattle.json_machine.proofs.Skips.{first_skips, after_skips, first_name_skips, next_name_skips, colon_skips}

-- ---- composing

pub later_value : (K : Frames → Type 0) (bytes : List ℕ) (at next : ℕ) (x y : Mode) (r : Result (Json × ℕ) JsonFault) → at ≤ next → ((fs : Frames) → read_from bytes at x fs ≡ read_from bytes next y fs) → ReadsOn K bytes next y r → ReadsOn K bytes at x r
later_value K bytes at next x y (Ok k) le same (after, within, reads) = (omega arith, within, λ fs h. same fs ∙ reads fs h)
later_value K bytes at next x y (Err fault) le same fails = λ not fs h. same fs ∙ fails not fs h

pub with_room : (room : ℕ) (bytes : List ℕ) (at : ℕ) (x : Mode) (r : Result (Json × ℕ) JsonFault) → ReadsOn Anywhere bytes at x r → ReadsOn (HasRoom room) bytes at x r
with_room room bytes at x (Ok k) (after, within, reads) = (after, within, λ fs _. reads fs tt)
with_room room bytes at x (Err fault) fails = λ not fs _. fails not fs tt

pub value_ended : (K : Frames → Type 0) (bytes : List ℕ) (at next : ℕ) → ((fs : Frames) → read_from bytes at m.Value fs ≡ read_from bytes next m.Value fs) → length bytes ≤ next → ReadsOn K bytes at m.Value (Err faults.Ended)
value_ended K bytes at next same le _ fs _ = same fs ∙ ends bytes next m.Value fs le

-- ---- strings

fails_str : (r : Reading) (fs : Frames) (fault : JsonFault) → Fails r fault → whole (str_after fs r) ≡ Err fault
unfolding str_after finish
fails_str (Open part text) fs fault h = ap (λ k. Err k) (sym h)
fails_str (Closed text rest at) fs fault h = absurd h
fails_str (Failed why at) fs fault h = ap (λ k. Err k) (sym h)

str_from : (bytes : List ℕ) (at : ℕ) (fs : Frames) → read_from bytes at (m.Str p.Plain []) fs ≡ whole (str_after fs (text_from bytes at p.Plain []))
unfolding read_from text_from
str_from bytes at fs = ap whole (str_run (drop at bytes) at p.Plain [] fs)

str_closed : (bytes : List ℕ) (text : List ℕ) (end : ℕ) (fs : Frames) → whole (str_after fs (Closed text (drop (end + 1) bytes) end)) ≡ read_from bytes (end + 1) (m.After (j.Str text)) fs
unfolding read_from str_after
str_closed bytes text end fs = refl

quote_steps : (bytes : List ℕ) (at : ℕ) (fs : Frames) → at < length bytes → get_or bytes at 0 ≡ 34 → read_from bytes at m.Value fs ≡ read_from bytes (at + 1) (m.Str p.Plain []) fs
unfolding step value_step begin
quote_steps bytes at fs lt is = steps bytes at 34 m.Value (m.Str p.Plain []) fs fs lt is refl

pub str_ok : (bytes : List ℕ) (at end : ℕ) (text : List ℕ) → at < length bytes → get_or bytes at 0 ≡ 34 → ReadsText bytes (at + 1) (Ok (text, end)) → ReadsOn Anywhere bytes at m.Value (Ok (j.Str text, end + 1))
str_ok bytes at end text lt is (after, within, reads) =
    (omega arith, omega arith, λ fs _. quote_steps bytes at fs lt is ∙ (str_from bytes (at + 1) fs ∙ (ap (λ (r : Reading). whole (str_after fs r)) reads ∙ str_closed bytes text end fs)))

pub str_err : (bytes : List ℕ) (at : ℕ) (fault : JsonFault) → at < length bytes → get_or bytes at 0 ≡ 34 → ReadsText bytes (at + 1) (Err fault) → ReadsOn Anywhere bytes at m.Value (Err fault)
str_err bytes at fault lt is fails not fs _ = quote_steps bytes at fs lt is ∙ (str_from bytes (at + 1) fs ∙ fails_str (text_from bytes (at + 1) p.Plain []) fs fault (fails not))

-- ---- words, and what begins no value

pub null_read : (bytes : List ℕ) (at : ℕ) (r : Result (Json × ℕ) JsonFault) → at < length bytes → get_or bytes at 0 ≡ 110 → ReadsOn Anywhere bytes (at + 1) (m.Word w.Null 1) r → ReadsOn Anywhere bytes at m.Value r
unfolding step value_step begin
null_read bytes at r lt is reads = later_value Anywhere bytes at (at + 1) m.Value (m.Word w.Null 1) r (omega arith) (λ fs. steps bytes at 110 m.Value (m.Word w.Null 1) fs fs lt is refl) reads

pub true_read : (bytes : List ℕ) (at : ℕ) (r : Result (Json × ℕ) JsonFault) → at < length bytes → get_or bytes at 0 ≡ 116 → ReadsOn Anywhere bytes (at + 1) (m.Word w.True 1) r → ReadsOn Anywhere bytes at m.Value r
unfolding step value_step begin
true_read bytes at r lt is reads = later_value Anywhere bytes at (at + 1) m.Value (m.Word w.True 1) r (omega arith) (λ fs. steps bytes at 116 m.Value (m.Word w.True 1) fs fs lt is refl) reads

pub false_read : (bytes : List ℕ) (at : ℕ) (r : Result (Json × ℕ) JsonFault) → at < length bytes → get_or bytes at 0 ≡ 102 → ReadsOn Anywhere bytes (at + 1) (m.Word w.False 1) r → ReadsOn Anywhere bytes at m.Value r
unfolding step value_step begin
false_read bytes at r lt is reads = later_value Anywhere bytes at (at + 1) m.Value (m.Word w.False 1) r (omega arith) (λ fs. steps bytes at 102 m.Value (m.Word w.False 1) fs fs lt is refl) reads

begins_nothing : (b at : ℕ) (fs : Frames) → is_blank b ≡ false → b ≢ 91 → b ≢ 123 → b ≢ 34 → b ≢ 110 → b ≢ 116 → b ≢ 102 → number_start b ≡ None → step strict at (record { mode = m.Value; frames = fs }) b ≡ Err e.Syntax
unfolding step value_step begin
begins_nothing b at fs blank list object quote null yes_ no_ number =
    cond-false (is_blank b) _ _ blank ∙ rw (ne_eqb b 91 list, ne_eqb b 123 object, ne_eqb b 34 quote, ne_eqb b 110 null, ne_eqb b 116 yes_, ne_eqb b 102 no_) (ap (number_by fs b) number)

pub value_bad : (bytes : List ℕ) (at : ℕ) → at < length bytes → is_blank (get_or bytes at 0) ≡ false → get_or bytes at 0 ≢ 91 → get_or bytes at 0 ≢ 123 → get_or bytes at 0 ≢ 34 → get_or bytes at 0 ≢ 110 → get_or bytes at 0 ≢ 116 → get_or bytes at 0 ≢ 102
    → number_start (get_or bytes at 0) ≡ None → ReadsOn Anywhere bytes at m.Value (Err (faults.Syntax at))
value_bad bytes at lt blank list object quote null yes_ no_ number _ fs _ = refuses bytes at (get_or bytes at 0) m.Value fs e.Syntax lt refl (begins_nothing (get_or bytes at 0) at fs blank list object quote null yes_ no_ number)

-- ---- after a value

pub mark_read : (bytes : List ℕ) (at found bracket : ℕ) (more : Bool) → at ≤ found → found < length bytes → Blank bytes at found
    → get_or bytes found 0 ≡ (if more then 44 else bracket) → ReadsMark bytes at bracket (Ok (more, found))
mark_read bytes at found bracket more le lt skips is = (le, lt, is, λ v fs. skips (m.After v) fs (after_skips v))

pub mark_ended : (bytes : List ℕ) (at found bracket : ℕ) → length bytes ≤ found → Blank bytes at found → ReadsMark bytes at bracket (Err faults.Ended)
mark_ended bytes at found bracket le skips v frame fs _ = skips (m.After v) (frame ∷ fs) (after_skips v) ∙ ends bytes found (m.After v) (frame ∷ fs) le

after_refused : (v : Json) (frame : Frame) (fs : Frames) (b at bracket : ℕ) → is_blank b ≡ false → b ≢ 44 → b ≢ bracket → ClosedBy bracket frame → step strict at (record { mode = m.After v; frames = frame ∷ fs }) b ≡ Err e.Syntax
unfolding step after_step
after_refused v frame fs b at bracket blank comma close only = cond-false (is_blank b) _ _ blank ∙ only v fs b comma close

pub mark_bad : (bytes : List ℕ) (at found bracket : ℕ) → found < length bytes → is_blank (get_or bytes found 0) ≡ false → get_or bytes found 0 ≢ 44 → get_or bytes found 0 ≢ bracket
    → Blank bytes at found → ReadsMark bytes at bracket (Err (faults.Syntax found))
mark_bad bytes at found bracket lt blank comma close skips v frame fs only =
    skips (m.After v) (frame ∷ fs) (after_skips v) ∙ refuses bytes found (get_or bytes found 0) (m.After v) (frame ∷ fs) e.Syntax lt refl (after_refused v frame fs (get_or bytes found 0) found bracket blank comma close only)

-- ---- lists

item_comma : (bytes : List ℕ) (at : ℕ) (v : Json) (xs : List Json) (fs : Frames) → at < length bytes → get_or bytes at 0 ≡ 44 → read_from bytes at (m.After v) (f.Items xs ∷ fs) ≡ read_from bytes (at + 1) m.Value (f.Items (xs ++ (v ∷ [])) ∷ fs)
unfolding step after_step
item_comma bytes at v xs fs lt is = steps bytes at 44 (m.After v) m.Value (f.Items xs ∷ fs) (f.Items (xs ++ (v ∷ [])) ∷ fs) lt is refl

items_close : (bytes : List ℕ) (at : ℕ) (v : Json) (xs : List Json) (fs : Frames) → at < length bytes → get_or bytes at 0 ≡ 93 → read_from bytes at (m.After v) (f.Items xs ∷ fs) ≡ read_from bytes (at + 1) (m.After (j.List (xs ++ (v ∷ [])))) fs
unfolding step after_step
items_close bytes at v xs fs lt is = steps bytes at 93 (m.After v) (m.After (j.List (xs ++ (v ∷ [])))) (f.Items xs ∷ fs) fs lt is refl

-- the items so far
pub record Listed (bytes : List ℕ) (at room from : ℕ) (xs : List Json) : Type 0 where
  pub after : at ≤ from
  pub within : from ≤ length bytes
  pub reads : (fs : Frames) → HasRoom (room + 1) fs → read_from bytes at m.First fs ≡ read_from bytes from m.Value (f.Items xs ∷ fs)

first_as_value : (b at : ℕ) (fs : Frames) → is_blank b ≡ false → b ≢ 93 → step strict at (record { mode = m.First; frames = fs }) b ≡ step strict at (record { mode = m.Value; frames = f.Items [] ∷ fs }) b
unfolding step first_step value_step
first_as_value b at fs blank not =
    cond-false (is_blank b) _ _ blank ∙ (cond-false (b == 93) _ _ (ne_eqb b 93 not) ∙ sym (cond-false (is_blank b) _ _ blank))

pub listing : (bytes : List ℕ) (at room : ℕ) → at ≤ length bytes → (at < length bytes → get_or bytes at 0 ≢ 93) → (at < length bytes → is_blank (get_or bytes at 0) ≡ false) → Listed bytes at room at []
listing bytes at room le not blank = record { after = omega arith; within = le; reads = λ fs _. by_case fs (cases_lt at (length bytes)) }
  where
    by_case : (fs : Frames) → (at < length bytes) ⊎ (length bytes ≤ at) → read_from bytes at m.First fs ≡ read_from bytes at m.Value (f.Items [] ∷ fs)
    by_case fs (inl lt) = same_step bytes at m.First m.Value fs (f.Items [] ∷ fs) lt (first_as_value (get_or bytes at 0) at fs (blank lt) (not lt))
    by_case fs (inr le) = ends bytes at m.First fs le ∙ sym (ends bytes at m.Value (f.Items [] ∷ fs) le)

-- one frame more leaves one level less
less_room : (room : ℕ) (frame : Frame) (fs : Frames) → HasRoom (room + 1) fs → HasRoom room (frame ∷ fs)
less_room room frame fs h = omega (arith, h)

item_there : (bytes : List ℕ) (at room from end : ℕ) (xs : List Json) (v : Json) (fs : Frames) → Listed bytes at room from xs → ReadsOn (HasRoom room) bytes from m.Value (Ok (v, end)) → HasRoom (room + 1) fs → read_from bytes at m.First fs ≡ read_from bytes end (m.After v) (f.Items xs ∷ fs)
item_there bytes at room from end xs v fs so_far read h = so_far.reads fs h ∙ read.2 (f.Items xs ∷ fs) (less_room room (f.Items xs) fs h)

pub item_more : (bytes : List ℕ) (at room from end place : ℕ) (xs ys : List Json) (v : Json) → Listed bytes at room from xs → ReadsOn (HasRoom room) bytes from m.Value (Ok (v, end)) → ReadsMark bytes end 93 (Ok (true, place)) → ys ≡ xs ++ (v ∷ []) → Listed bytes at room (place + 1) ys
item_more bytes at room from end place xs ys v so_far read (le, lt, is, marks) grown = record {
  after = omega (arith, so_far.after, read.0);
  within = omega arith;
  reads = λ fs h. item_there bytes at room from end xs v fs so_far read h ∙ (marks v (f.Items xs ∷ fs) ∙ (item_comma bytes place v xs fs lt is ∙ ap (λ (k : List Json). read_from bytes (place + 1) m.Value (f.Items k ∷ fs)) (sym grown)));
}

pub items_read : (bytes : List ℕ) (at room from end place : ℕ) (xs ys : List Json) (v : Json) → Listed bytes at room from xs → ReadsOn (HasRoom room) bytes from m.Value (Ok (v, end)) → ReadsMark bytes end 93 (Ok (false, place)) → ys ≡ xs ++ (v ∷ [])
    → ReadsOn (HasRoom (room + 1)) bytes at m.First (Ok (j.List ys, place + 1))
items_read bytes at room from end place xs ys v so_far read (le, lt, is, marks) grown =
    (omega (arith, so_far.after, read.0), omega arith, λ fs h. item_there bytes at room from end xs v fs so_far read h ∙ (marks v (f.Items xs ∷ fs) ∙ (items_close bytes place v xs fs lt is ∙ ap (λ (k : List Json). read_from bytes (place + 1) (m.After (j.List k)) fs) (sym grown))))

-- brackets
opens : (mode : Mode) (fs : Frames) → length fs < 64 → open_by 64 mode fs ≡ to mode fs
unfolding open_by
opens mode fs lt = cond-true (nat_lt (length fs) 64) _ _ (lt-ltb (length fs) 64 lt)

too_deep : (mode : Mode) (fs : Frames) → 64 ≤ length fs → open_by 64 mode fs ≡ Err e.Deep
unfolding open_by
too_deep mode fs le = cond-false (nat_lt (length fs) 64) _ _ (le-ltb (length fs) 64 le)

list_steps : (at : ℕ) (fs : Frames) → step strict at (record { mode = m.Value; frames = fs }) 91 ≡ open_by 64 m.First fs
unfolding step value_step begin
list_steps at fs = refl

object_steps : (at : ℕ) (fs : Frames) → step strict at (record { mode = m.Value; frames = fs }) 123 ≡ open_by 64 m.FirstName fs
unfolding step value_step begin
object_steps at fs = refl

pub list_deep : (bytes : List ℕ) (at room : ℕ) → at < length bytes → get_or bytes at 0 ≡ 91 → room ≡ 0 → ReadsOn (HasRoom room) bytes at m.Value (Err (faults.Deep at))
list_deep bytes at room lt is no_room _ fs h = refuses bytes at 91 m.Value fs e.Deep lt is (list_steps at fs ∙ too_deep m.First fs (omega (arith, h)))

pub object_deep : (bytes : List ℕ) (at room : ℕ) → at < length bytes → get_or bytes at 0 ≡ 123 → room ≡ 0 → ReadsOn (HasRoom room) bytes at m.Value (Err (faults.Deep at))
object_deep bytes at room lt is no_room _ fs h = refuses bytes at 123 m.Value fs e.Deep lt is (object_steps at fs ∙ too_deep m.FirstName fs (omega (arith, h)))

list_opens : (bytes : List ℕ) (at first room : ℕ) (fs : Frames) → at < length bytes → get_or bytes at 0 ≡ 91 → 0 < room → Blank bytes (at + 1) first → HasRoom room fs → read_from bytes at m.Value fs ≡ read_from bytes first m.First fs
list_opens bytes at first room fs lt is some skips h = steps bytes at 91 m.Value m.First fs fs lt is (list_steps at fs ∙ opens m.First fs (omega (arith, h))) ∙ skips m.First fs first_skips

object_opens : (bytes : List ℕ) (at first room : ℕ) (fs : Frames) → at < length bytes → get_or bytes at 0 ≡ 123 → 0 < room → Blank bytes (at + 1) first → HasRoom room fs → read_from bytes at m.Value fs ≡ read_from bytes first m.FirstName fs
object_opens bytes at first room fs lt is some skips h = steps bytes at 123 m.Value m.FirstName fs fs lt is (object_steps at fs ∙ opens m.FirstName fs (omega (arith, h))) ∙ skips m.FirstName fs first_name_skips

empty_closes : (bytes : List ℕ) (at : ℕ) (fs : Frames) → at < length bytes → get_or bytes at 0 ≡ 93 → read_from bytes at m.First fs ≡ read_from bytes (at + 1) (m.After (j.List [])) fs
unfolding step first_step
empty_closes bytes at fs lt is = steps bytes at 93 m.First (m.After (j.List [])) fs fs lt is refl

bare_closes : (bytes : List ℕ) (at : ℕ) (fs : Frames) → at < length bytes → get_or bytes at 0 ≡ 125 → read_from bytes at m.FirstName fs ≡ read_from bytes (at + 1) (m.After (j.Object [])) fs
unfolding step first_name_step
bare_closes bytes at fs lt is = steps bytes at 125 m.FirstName (m.After (j.Object [])) fs fs lt is refl

pub empty_list : (bytes : List ℕ) (at first room : ℕ) (xs : List Json) → at < length bytes → get_or bytes at 0 ≡ 91 → 0 < room → at + 1 ≤ first → Blank bytes (at + 1) first
    → first < length bytes → get_or bytes first 0 ≡ 93 → xs ≡ [] → ReadsOn (HasRoom room) bytes at m.Value (Ok (j.List xs, first + 1))
empty_list bytes at first room xs lt is some le skips within close none =
    (omega arith, omega arith, λ fs h. list_opens bytes at first room fs lt is some skips h ∙ (empty_closes bytes first fs within close ∙ ap (λ (k : List Json). read_from bytes (first + 1) (m.After (j.List k)) fs) (sym none)))

pub bare_object : (bytes : List ℕ) (at first room : ℕ) (ms : Pairs) → at < length bytes → get_or bytes at 0 ≡ 123 → 0 < room → at + 1 ≤ first → Blank bytes (at + 1) first
    → first < length bytes → get_or bytes first 0 ≡ 125 → ms ≡ [] → ReadsOn (HasRoom room) bytes at m.Value (Ok (j.Object ms, first + 1))
bare_object bytes at first room ms lt is some le skips within close none =
    (omega arith, omega arith, λ fs h. object_opens bytes at first room fs lt is some skips h ∙ (bare_closes bytes first fs within close ∙ ap (λ (k : Pairs). read_from bytes (first + 1) (m.After (j.Object k)) fs) (sym none)))

opened : (room : ℕ) (bytes : List ℕ) (at first : ℕ) (y : Mode) (r : Result (Json × ℕ) JsonFault) → at ≤ first → 0 < room → ((fs : Frames) → HasRoom room fs → read_from bytes at m.Value fs ≡ read_from bytes first y fs) → ReadsOn (HasRoom (room - 1 + 1)) bytes first y r → ReadsOn (HasRoom room) bytes at m.Value r
opened room bytes at first y (Ok k) le some same (after, within, reads) = (omega arith, within, λ fs h. same fs h ∙ reads fs (omega (arith, h)))
opened room bytes at first y (Err fault) le some same fails = λ not fs h. same fs h ∙ fails not fs (omega (arith, h))

pub list_read : (bytes : List ℕ) (at first room : ℕ) (r : Result (Json × ℕ) JsonFault) → at < length bytes → get_or bytes at 0 ≡ 91 → 0 < room → at + 1 ≤ first → Blank bytes (at + 1) first
    → ReadsOn (HasRoom (room - 1 + 1)) bytes first m.First r → ReadsOn (HasRoom room) bytes at m.Value r
list_read bytes at first room r lt is some le skips read = opened room bytes at first m.First r (omega arith) some (λ fs h. list_opens bytes at first room fs lt is some skips h) read

-- ---- objects

name_as_first : (b at : ℕ) (fs : Frames) → is_blank b ≡ false → b ≢ 125 → step strict at (record { mode = m.FirstName; frames = fs }) b ≡ step strict at (record { mode = m.NextName []; frames = fs }) b
unfolding step first_name_step next_name_step
name_as_first b at fs blank not = cond-false (is_blank b) _ _ blank ∙ (rw (ne_eqb b 125 not) refl ∙ sym (cond-false (is_blank b) _ _ blank))

pub object_read : (bytes : List ℕ) (at first room : ℕ) (r : Result (Json × ℕ) JsonFault) → at < length bytes → get_or bytes at 0 ≡ 123 → 0 < room → at + 1 ≤ first → Blank bytes (at + 1) first
    → ReadsOn (HasRoom (room - 1 + 1)) bytes first m.FirstName r → ReadsOn (HasRoom room) bytes at m.Value r
object_read bytes at first room r lt is some le skips read = opened room bytes at first m.FirstName r (omega arith) some (λ fs h. object_opens bytes at first room fs lt is some skips h) read

-- names
fails_name : (r : Reading) (fs : Frames) (ms : Pairs) (place : ℕ) (fault : JsonFault) → Fails r fault → whole (name_after fs ms place r) ≡ Err fault
unfolding name_after finish
fails_name (Open part text) fs ms place fault h = ap (λ k. Err k) (sym h)
fails_name (Closed text rest at) fs ms place fault h = absurd h
fails_name (Failed why at) fs ms place fault h = ap (λ k. Err k) (sym h)

name_from : (bytes : List ℕ) (at place : ℕ) (ms : Pairs) (fs : Frames) → read_from bytes at (m.Naming ms place p.Plain []) fs ≡ whole (name_after fs ms place (text_from bytes at p.Plain []))
unfolding read_from text_from
name_from bytes at place ms fs = ap whole (name_run (drop at bytes) at ms place p.Plain [] fs)

name_new : (bytes : List ℕ) (name : List ℕ) (place end : ℕ) (ms : Pairs) (fs : Frames) → has ms name ≡ false → whole (name_after fs ms place (Closed name (drop (end + 1) bytes) end)) ≡ read_from bytes (end + 1) (m.Colon ms name) fs
unfolding read_from name_after named
name_new bytes name place end ms fs is = rw is refl

name_old : (rest name : List ℕ) (place end : ℕ) (ms : Pairs) (fs : Frames) → has ms name ≡ true → whole (name_after fs ms place (Closed name rest end)) ≡ Err (faults.Twice place)
unfolding name_after named
name_old rest name place end ms fs is = rw is refl

name_quote : (bytes : List ℕ) (at quote : ℕ) (ms : Pairs) (fs : Frames) → quote < length bytes → get_or bytes quote 0 ≡ 34 → Blank bytes at quote → read_from bytes at (m.NextName ms) fs ≡ whole (name_after fs ms quote (text_from bytes (quote + 1) p.Plain []))
unfolding step next_name_step
name_quote bytes at quote ms fs lt is skips = skips (m.NextName ms) fs (next_name_skips ms) ∙ (steps bytes quote 34 (m.NextName ms) (m.Naming ms quote p.Plain []) fs fs lt is refl ∙ name_from bytes (quote + 1) quote ms fs)

pub name_ended : (bytes : List ℕ) (at quote : ℕ) (ms : Pairs) → length bytes ≤ quote → Blank bytes at quote → ReadsName bytes at ms (Err faults.Ended)
name_ended bytes at quote ms le skips _ fs = skips (m.NextName ms) fs (next_name_skips ms) ∙ ends bytes quote (m.NextName ms) fs le

no_name : (b at : ℕ) (ms : Pairs) (fs : Frames) → is_blank b ≡ false → b ≢ 34 → step strict at (record { mode = m.NextName ms; frames = fs }) b ≡ Err e.Syntax
unfolding step next_name_step
no_name b at ms fs blank not = cond-false (is_blank b) _ _ blank ∙ cond-false (b == 34) _ _ (ne_eqb b 34 not)

pub name_bad : (bytes : List ℕ) (at quote : ℕ) (ms : Pairs) → quote < length bytes → is_blank (get_or bytes quote 0) ≡ false → get_or bytes quote 0 ≢ 34 → Blank bytes at quote
    → ReadsName bytes at ms (Err (faults.Syntax quote))
name_bad bytes at quote ms lt blank not skips _ fs = skips (m.NextName ms) fs (next_name_skips ms) ∙ refuses bytes quote (get_or bytes quote 0) (m.NextName ms) fs e.Syntax lt refl (no_name (get_or bytes quote 0) quote ms fs blank not)

pub name_text_fails : (bytes : List ℕ) (at quote : ℕ) (ms : Pairs) (fault : JsonFault) → quote < length bytes → get_or bytes quote 0 ≡ 34 → Blank bytes at quote
    → ReadsText bytes (quote + 1) (Err fault) → ReadsName bytes at ms (Err fault)
name_text_fails bytes at quote ms fault lt is skips fails not fs = name_quote bytes at quote ms fs lt is skips ∙ fails_name (text_from bytes (quote + 1) p.Plain []) fs ms quote fault (fails not)

pub name_twice : (bytes : List ℕ) (at quote end : ℕ) (name : List ℕ) (ms : Pairs) → quote < length bytes → get_or bytes quote 0 ≡ 34 → Blank bytes at quote
    → ReadsText bytes (quote + 1) (Ok (name, end)) → has ms name ≡ true → ReadsName bytes at ms (Err (faults.Twice quote))
name_twice bytes at quote end name ms lt is skips read old _ fs =
    name_quote bytes at quote ms fs lt is skips ∙ (ap (λ (r : Reading). whole (name_after fs ms quote r)) read.2 ∙ name_old (drop (end + 1) bytes) name quote end ms fs old)

-- the name is read, and what follows it
to_colon : (bytes : List ℕ) (at quote end colon : ℕ) (name : List ℕ) (ms : Pairs) (fs : Frames) → quote < length bytes → get_or bytes quote 0 ≡ 34 → Blank bytes at quote → ReadsText bytes (quote + 1) (Ok (name, end)) → has ms name ≡ false → Blank bytes (end + 1) colon
    → read_from bytes at (m.NextName ms) fs ≡ read_from bytes colon (m.Colon ms name) fs
to_colon bytes at quote end colon name ms fs lt is skips read new skips' =
    name_quote bytes at quote ms fs lt is skips ∙ (ap (λ (r : Reading). whole (name_after fs ms quote r)) read.2 ∙ (name_new bytes name quote end ms fs new ∙ skips' (m.Colon ms name) fs (colon_skips ms name)))

pub colon_ended : (bytes : List ℕ) (at quote end colon : ℕ) (name : List ℕ) (ms : Pairs) → quote < length bytes → get_or bytes quote 0 ≡ 34 → Blank bytes at quote
    → ReadsText bytes (quote + 1) (Ok (name, end)) → has ms name ≡ false → Blank bytes (end + 1) colon → length bytes ≤ colon → ReadsName bytes at ms (Err faults.Ended)
colon_ended bytes at quote end colon name ms lt is skips read new skips' le _ fs = to_colon bytes at quote end colon name ms fs lt is skips read new skips' ∙ ends bytes colon (m.Colon ms name) fs le

no_colon : (b at : ℕ) (ms : Pairs) (name : List ℕ) (fs : Frames) → is_blank b ≡ false → b ≢ 58 → step strict at (record { mode = m.Colon ms name; frames = fs }) b ≡ Err e.Syntax
unfolding step colon_step
no_colon b at ms name fs blank not = cond-false (is_blank b) _ _ blank ∙ cond-false (b == 58) _ _ (ne_eqb b 58 not)

pub colon_bad : (bytes : List ℕ) (at quote end colon : ℕ) (name : List ℕ) (ms : Pairs) → quote < length bytes → get_or bytes quote 0 ≡ 34 → Blank bytes at quote
    → ReadsText bytes (quote + 1) (Ok (name, end)) → has ms name ≡ false → Blank bytes (end + 1) colon → colon < length bytes → is_blank (get_or bytes colon 0) ≡ false → get_or bytes colon 0 ≢ 58
    → ReadsName bytes at ms (Err (faults.Syntax colon))
colon_bad bytes at quote end colon name ms lt is skips read new skips' lt' blank not _ fs =
    to_colon bytes at quote end colon name ms fs lt is skips read new skips' ∙ refuses bytes colon (get_or bytes colon 0) (m.Colon ms name) fs e.Syntax lt' refl (no_colon (get_or bytes colon 0) colon ms name fs blank not)

colon_steps : (bytes : List ℕ) (at : ℕ) (ms : Pairs) (name : List ℕ) (fs : Frames) → at < length bytes → get_or bytes at 0 ≡ 58 → read_from bytes at (m.Colon ms name) fs ≡ read_from bytes (at + 1) m.Value (f.Member ms name ∷ fs)
unfolding step colon_step
colon_steps bytes at ms name fs lt is = steps bytes at 58 (m.Colon ms name) m.Value fs (f.Member ms name ∷ fs) lt is refl

pub name_read : (bytes : List ℕ) (at quote end colon : ℕ) (name : List ℕ) (ms : Pairs) → at ≤ quote → quote < length bytes → get_or bytes quote 0 ≡ 34 → Blank bytes at quote
    → ReadsText bytes (quote + 1) (Ok (name, end)) → has ms name ≡ false → Blank bytes (end + 1) colon → end + 1 ≤ colon → colon < length bytes → get_or bytes colon 0 ≡ 58
    → ReadsName bytes at ms (Ok (name, colon + 1))
name_read bytes at quote end colon name ms le lt is skips read new skips' le' lt' there =
    (omega (arith, read.0), omega arith, λ fs. to_colon bytes at quote end colon name ms fs lt is skips read new skips' ∙ colon_steps bytes colon ms name fs lt' there)

-- members
member_comma : (bytes : List ℕ) (at : ℕ) (v : Json) (ms : Pairs) (name : List ℕ) (fs : Frames) → at < length bytes → get_or bytes at 0 ≡ 44 → read_from bytes at (m.After v) (f.Member ms name ∷ fs) ≡ read_from bytes (at + 1) (m.NextName (ms ++ ((name, v) ∷ []))) fs
unfolding step after_step
member_comma bytes at v ms name fs lt is = steps bytes at 44 (m.After v) (m.NextName (ms ++ ((name, v) ∷ []))) (f.Member ms name ∷ fs) fs lt is refl

members_close : (bytes : List ℕ) (at : ℕ) (v : Json) (ms : Pairs) (name : List ℕ) (fs : Frames) → at < length bytes → get_or bytes at 0 ≡ 125 → read_from bytes at (m.After v) (f.Member ms name ∷ fs) ≡ read_from bytes (at + 1) (m.After (j.Object (ms ++ ((name, v) ∷ [])))) fs
unfolding step after_step
members_close bytes at v ms name fs lt is = steps bytes at 125 (m.After v) (m.After (j.Object (ms ++ ((name, v) ∷ [])))) (f.Member ms name ∷ fs) fs lt is refl

-- the members so far
pub record Named (bytes : List ℕ) (at room from : ℕ) (ms : Pairs) : Type 0 where
  pub after : at ≤ from
  pub within : from ≤ length bytes
  pub reads : (fs : Frames) → HasRoom (room + 1) fs → read_from bytes at m.FirstName fs ≡ read_from bytes from (m.NextName ms) fs

pub naming : (bytes : List ℕ) (at room : ℕ) → at ≤ length bytes → (at < length bytes → get_or bytes at 0 ≢ 125) → (at < length bytes → is_blank (get_or bytes at 0) ≡ false) → Named bytes at room at []
naming bytes at room le not blank = record { after = omega arith; within = le; reads = λ fs _. by_case fs (cases_lt at (length bytes)) }
  where
    by_case : (fs : Frames) → (at < length bytes) ⊎ (length bytes ≤ at) → read_from bytes at m.FirstName fs ≡ read_from bytes at (m.NextName []) fs
    by_case fs (inl lt) = same_step bytes at m.FirstName (m.NextName []) fs fs lt (name_as_first (get_or bytes at 0) at fs (blank lt) (not lt))
    by_case fs (inr le) = ends bytes at m.FirstName fs le ∙ sym (ends bytes at (m.NextName []) fs le)

member_there : (bytes : List ℕ) (at room from begins end : ℕ) (ms : Pairs) (name : List ℕ) (v : Json) (fs : Frames) → Named bytes at room from ms → ReadsName bytes from ms (Ok (name, begins)) → ReadsOn (HasRoom room) bytes begins m.Value (Ok (v, end)) → HasRoom (room + 1) fs
    → read_from bytes at m.FirstName fs ≡ read_from bytes end (m.After v) (f.Member ms name ∷ fs)
member_there bytes at room from begins end ms name v fs so_far named read h = so_far.reads fs h ∙ (named.2 fs ∙ read.2 (f.Member ms name ∷ fs) (less_room room (f.Member ms name) fs h))

pub member_more : (bytes : List ℕ) (at room from begins end place : ℕ) (ms kept new : Pairs) (name : List ℕ) (v : Json) → Named bytes at room from ms → ReadsName bytes from ms (Ok (name, begins)) → ReadsOn (HasRoom room) bytes begins m.Value (Ok (v, end))
    → ReadsMark bytes end 125 (Ok (true, place)) → kept ≡ ms → new ≡ kept ++ ((name, v) ∷ []) → Named bytes at room (place + 1) new
member_more bytes at room from begins end place ms kept new name v so_far named read (le, lt, is, marks) same grown = record {
  after = omega (arith, so_far.after, named.0, read.0);
  within = omega arith;
  reads = λ fs h. member_there bytes at room from begins end ms name v fs so_far named read h ∙ (marks v (f.Member ms name ∷ fs) ∙ (member_comma bytes place v ms name fs lt is
      ∙ ap (λ (k : Pairs). read_from bytes (place + 1) (m.NextName k) fs) (ap (λ (k : Pairs). k ++ ((name, v) ∷ [])) (sym same) ∙ sym grown)));
}

pub members_read : (bytes : List ℕ) (at room from begins end place : ℕ) (ms kept : Pairs) (made : Json) (name : List ℕ) (v : Json) → Named bytes at room from ms → ReadsName bytes from ms (Ok (name, begins)) → ReadsOn (HasRoom room) bytes begins m.Value (Ok (v, end))
    → ReadsMark bytes end 125 (Ok (false, place)) → kept ≡ ms → made ≡ j.Object (kept ++ ((name, v) ∷ [])) → ReadsOn (HasRoom (room + 1)) bytes at m.FirstName (Ok (made, place + 1))
members_read bytes at room from begins end place ms kept made name v so_far named read (le, lt, is, marks) same whole_ = (
  omega (arith, so_far.after, named.0, read.0),
  omega arith,
  λ fs h. member_there bytes at room from begins end ms name v fs so_far named read h
      ∙ (marks v (f.Member ms name ∷ fs) ∙ (members_close bytes place v ms name fs lt is
      ∙ ap (λ (k : Json). read_from bytes (place + 1) (m.After k) fs) (ap (λ (k : Pairs). j.Object (k ++ ((name, v) ∷ []))) (sym same) ∙ sym whole_))),
)

-- which mark was read
pub mark_is : (bytes : List ℕ) (at bracket place : ℕ) (more b : Bool) → more ≡ b → ReadsMark bytes at bracket (Ok (more, place)) → ReadsMark bytes at bracket (Ok (b, place))
mark_is bytes at bracket place more b is h = subst (λ (t : Bool). ReadsMark bytes at bracket (Ok (t, place))) is h

pub some_room : (room : ℕ) → room ≢ 0 → 0 < room
some_room room not = omega (arith, not)

-- ---- whole texts

from_start : (bytes : List ℕ) → read_of strict bytes ≡ read_from bytes 0 m.Value []
unfolding read_of read_from
from_start bytes = refl

pub whole_fails : (bytes : List ℕ) (fault : JsonFault) → ReadsOn (HasRoom 64) bytes 0 m.Value (Err fault) → Reads (read_of strict bytes) (Err fault)
whole_fails bytes fault fails not = from_start bytes ∙ fails not [] (omega arith)

pub whole_read : (bytes : List ℕ) (v : Json) (after end : ℕ) → ReadsOn (HasRoom 64) bytes 0 m.Value (Ok (v, after)) → Blank bytes after end → length bytes ≤ end → Reads (read_of strict bytes) (Ok v)
whole_read bytes v after end read skips le = from_start bytes ∙ (read.2 [] (omega arith) ∙ (skips (m.After v) [] (after_skips v) ∙ ends bytes end (m.After v) [] le))

nothing_after : (v : Json) (b at : ℕ) → is_blank b ≡ false → step strict at (record { mode = m.After v; frames = [] }) b ≡ Err e.Syntax
unfolding step after_step
nothing_after v b at blank = cond-false (is_blank b) _ _ blank

pub whole_more : (bytes : List ℕ) (v : Json) (after end : ℕ) → ReadsOn (HasRoom 64) bytes 0 m.Value (Ok (v, after)) → Blank bytes after end → end < length bytes → is_blank (get_or bytes end 0) ≡ false
    → Reads (read_of strict bytes) (Err (faults.Syntax end))
whole_more bytes v after end read skips lt blank _ =
    from_start bytes ∙ (read.2 [] (omega arith) ∙ (skips (m.After v) [] (after_skips v) ∙ refuses bytes end (get_or bytes end 0) (m.After v) [] e.Syntax lt refl (nothing_after v (get_or bytes end 0) end blank)))
