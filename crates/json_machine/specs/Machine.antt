-- Reading byte by byte: what is open, and what may come next.
use Rattle.std.specs.Prelude.{◌≡◌, ◌≢◌, ℕ, ◌+◌, Bool, true, false, ◌==◌, ◌&&◌, nat_lt, if◌then◌else◌, List, [], ◌∷◌, ◌++◌, length, slice_index, Option, Some, None, Result, Ok, Err, codes}
use Rattle.json_value.specs.declared.tree.Json.{Json}
use Rattle.json_value.specs.declared.tree.Json.TheVariants as j
use Rattle.json_machine.specs.Refusal.{Refusal}
use Rattle.json_machine.specs.Refusal as e
use Rattle.json_value.specs.declared.fault.JsonFault.{JsonFault}
use Rattle.json_value.specs.declared.fault.JsonFault.TheVariants as faults
use Rattle.json_machine.specs.declared.begun.Word.{Word}
use Rattle.json_machine.specs.declared.begun.Word.TheVariants as w
use Rattle.json_machine.specs.Mode.{Mode}
use Rattle.json_machine.specs.Mode as m
use Rattle.json_machine.specs.Frame.{Frame}
use Rattle.json_machine.specs.Frame as f
use Rattle.json_machine.specs.declared.begun.Digit.{Digit}
use Rattle.json_machine.specs.Part as p
use Rattle.json_machine.specs.Progress.{StringProgress}
use Rattle.json_machine.specs.Progress as s
use Rattle.json_value.specs.Grammar.{Rules, is_blank, has}
use Rattle.json_machine.specs.Numbers.{number_start, number_next, may_end}
use Rattle.json_machine.specs.Scan.{scan}
use Rattle.exact_read.specs.Steps.{run}

abbrev pub Frames : Type 0
Frames = List Frame

pub record ReaderState : Type 0 where
  pub mode : Mode
  -- the lists and objects that are open, the innermost first
  pub frames : Frames

abbrev pub letters : Word → List ℕ
letters w.Null = codes "null"
letters w.True = codes "true"
letters w.False = codes "false"

abbrev pub meant : Word → Json
meant w.Null = j.Null
meant w.True = j.Bool true
meant w.False = j.Bool false

abbrev pub Stepped : Type 0
Stepped = Result ReaderState Refusal

abbrev pub to : Mode → Frames → Stepped
to mode frames = Ok (record { mode = mode; frames = frames })

-- a bracket opens, where the depth allows it
unfoldable pub open_by : ℕ → Mode → Frames → Stepped
open_by depth mode frames = if nat_lt (length frames) depth then to mode frames else Err e.Deep

-- the outcome that stands beside the byte
abbrev pub pick : ℕ → List (ℕ × Stepped) → Stepped → Stepped
pick b [] other = other
pick b (x ∷ xs) other = if b == x.0 then x.1 else pick b xs other

abbrev pub unless_blank : ℕ → Mode → Frames → Stepped → Stepped
unless_blank b mode frames other = if is_blank b then to mode frames else other

abbrev pub number_by : Frames → ℕ → Option Digit → Stepped
number_by frames b (Some part) = to (m.Number part (b ∷ [])) frames
number_by frames b None = Err e.Syntax

abbrev pub beginnings : ℕ → Frames → List (ℕ × Stepped)
beginnings depth frames = (91, open_by depth m.First frames) ∷ ((123, open_by depth m.FirstName frames) ∷ ((34, to (m.Str p.Plain []) frames)
    ∷ ((110, to (m.Word w.Null 1) frames) ∷ ((116, to (m.Word w.True 1) frames) ∷ ((102, to (m.Word w.False 1) frames) ∷ [])))))

unfoldable pub begin : ℕ → Frames → ℕ → Stepped
begin depth frames b = pick b (beginnings depth frames) (number_by frames b (number_start b))

unfoldable pub value_step : ℕ → Frames → ℕ → Stepped
value_step depth frames b = unless_blank b m.Value frames (begin depth frames b)

unfoldable pub first_step : ℕ → Frames → ℕ → Stepped
first_step depth frames b = unless_blank b m.First frames (if b == 93 then to (m.After (j.List [])) frames else begin depth (f.Items [] ∷ frames) b)

abbrev pub after_by : Frames → Json → ℕ → Stepped
after_by [] x b = Err e.Syntax
after_by (f.Items xs ∷ fs) x b = pick b ((44, to m.Value (f.Items (xs ++ x ∷ []) ∷ fs)) ∷ ((93, to (m.After (j.List (xs ++ x ∷ []))) fs) ∷ [])) (Err e.Syntax)
after_by (f.Member ms n ∷ fs) x b = pick b ((44, to (m.NextName (ms ++ (n, x) ∷ [])) fs) ∷ ((125, to (m.After (j.Object (ms ++ (n, x) ∷ []))) fs) ∷ [])) (Err e.Syntax)

unfoldable pub after_step : Frames → Json → ℕ → Stepped
after_step frames x b = unless_blank b (m.After x) frames (after_by frames x b)

unfoldable pub word_step : Frames → Word → ℕ → ℕ → Stepped
word_step frames word read b = if nat_lt read (length (letters word)) && b == slice_index (letters word) read
    then (if nat_lt (read + 1) (length (letters word)) then to (m.Word word (read + 1)) frames else to (m.After (meant word)) frames)
    else Err e.Syntax

abbrev pub number_go : Frames → Digit → List ℕ → ℕ → Option Digit → Stepped
number_go frames part text b (Some next) = to (m.Number next (text ++ b ∷ [])) frames
number_go frames part text b None = if may_end part then after_step frames (j.Number text) b else Err e.Syntax

unfoldable pub number_step : Frames → Digit → List ℕ → ℕ → Stepped
number_step frames part text b = number_go frames part text b (number_next part b)

abbrev pub str_by : Frames → Result StringProgress Refusal → Stepped
str_by frames (Ok (s.Done text)) = to (m.After (j.Str text)) frames
str_by frames (Ok (s.More part text)) = to (m.Str part text) frames
str_by frames (Err why) = Err why

abbrev pub Pairs : Type 0
Pairs = List (List ℕ × Json)

unfoldable pub first_name_step : Frames → ℕ → ℕ → Stepped
first_name_step frames at b = unless_blank b m.FirstName frames
    (pick b ((125, to (m.After (j.Object [])) frames) ∷ ((34, to (m.Naming [] at p.Plain []) frames) ∷ [])) (Err e.Syntax))

unfoldable pub next_name_step : Frames → ℕ → Pairs → ℕ → Stepped
next_name_step frames at ms b = unless_blank b (m.NextName ms) frames (pick b ((34, to (m.Naming ms at p.Plain []) frames) ∷ []) (Err e.Syntax))

unfoldable pub named : Bool → Frames → Pairs → ℕ → List ℕ → Stepped
named distinct frames ms place name = if distinct && has ms name then Err (e.Twice place) else to (m.Colon ms name) frames

abbrev pub naming_by : Bool → Frames → Pairs → ℕ → Result StringProgress Refusal → Stepped
naming_by distinct frames ms place (Ok (s.Done name)) = named distinct frames ms place name
naming_by distinct frames ms place (Ok (s.More part text)) = to (m.Naming ms place part text) frames
naming_by distinct frames ms place (Err why) = Err why

unfoldable pub colon_step : Frames → Pairs → List ℕ → ℕ → Stepped
colon_step frames ms name b = unless_blank b (m.Colon ms name) frames (if b == 58 then to m.Value (f.Member ms name ∷ frames) else Err e.Syntax)

abbrev pub step_by : Rules → ℕ → Mode → Frames → ℕ → Stepped
step_by r at m.Value frames b = value_step r.depth frames b
step_by r at m.First frames b = first_step r.depth frames b
step_by r at (m.After x) frames b = after_step frames x b
step_by r at (m.Word word read) frames b = word_step frames word read b
step_by r at (m.Number part text) frames b = number_step frames part text b
step_by r at (m.Str part text) frames b = str_by frames (scan r.cut at part text b)
step_by r at m.FirstName frames b = first_name_step frames at b
step_by r at (m.NextName ms) frames b = next_name_step frames at ms b
step_by r at (m.Naming ms place part text) frames b = naming_by r.distinct frames ms place (scan r.cut at part text b)
step_by r at (m.Colon ms name) frames b = colon_step frames ms name b

unfoldable pub step : Rules → ℕ → ReaderState → ℕ → Stepped
step r at s b = step_by r at s.mode s.frames b

abbrev pub placed : Refusal → ℕ → JsonFault
placed e.Syntax at = faults.Syntax at
placed e.Deep at = faults.Deep at
placed (e.Malformed place) at = faults.Syntax place
placed (e.Surrogate place) at = faults.Surrogate place
placed (e.Twice place) at = faults.Twice place

abbrev pub number_end : Bool → List ℕ → Result Json JsonFault
number_end true text = Ok (j.Number text)
number_end false text = Err faults.Ended

abbrev pub finish_by : Mode → Frames → Result Json JsonFault
finish_by (m.After x) [] = Ok x
finish_by (m.After x) (f ∷ fs) = Err faults.Ended
finish_by (m.Number part text) [] = number_end (may_end part) text
finish_by (m.Number part text) (f ∷ fs) = Err faults.Ended
finish_by _ _ = Err faults.Ended

unfoldable pub finish : ReaderState → Result Json JsonFault
finish s = finish_by s.mode s.frames

abbrev pub start : ReaderState
start = record { mode = m.Value; frames = [] }

abbrev pub whole : Result ReaderState (Refusal × ℕ) → Result Json JsonFault
whole (Ok s) = finish s
whole (Err x) = Err (placed x.0 x.1)

unfoldable pub read_of : Rules → List ℕ → Result Json JsonFault
read_of r bytes = whole (run (step r) bytes 0 start)

-- what reading ensures: the outcome, unless memory fails
abbrev pub Reads : Result Json JsonFault → Result Json JsonFault → Type 0
Reads outcome (Ok v) = outcome ≡ Ok v
Reads outcome (Err x) = x ≢ faults.Memory → outcome ≡ Err x
