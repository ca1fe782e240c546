-- The reader reads exactly the texts of the grammar.
use Rattle.std.proofs.Common.{◌≡◌, ℕ, suc, ◌+◌, ◌<◌, ◌≤◌, Bool, true, false, List, [], ◌∷◌, ◌++◌, length, drop, get_or, Result, Ok, Err, refl, sym, ap, subst, ◌∙◌, arith, inl, inr, length-append}
use Rattle.std.specs.Prelude.{codes, IfOk, MatchResult}
use Rattle.std.specs.Str.{bytes_eq}
use Rattle.std.proofs.Math.Seq.{drop-cons}
use Rattle.std.proofs.lemmas.Bool.{and_right, or_from, false_from_ne_true}
use Rattle.std.proofs.lemmas.List.{append-nil}
use Rattle.std.proofs.lemmas.Slice.Eq.{bytes_eq-Decides}
use Rattle.std.proofs.lemmas.Bool.Decides.{nat_tests}
use Rattle.json_value.specs.declared.tree.Json.{Json}
use Rattle.json_value.specs.declared.tree.Json.TheVariants as j
use Rattle.json_machine.specs.Refusal.{Refusal}
use Rattle.json_value.specs.declared.fault.JsonFault.{JsonFault}
use Rattle.json_value.specs.declared.fault.JsonFault.TheVariants as faults
use Rattle.json_machine.specs.Mode.{Mode}
use Rattle.json_machine.specs.Mode as m
use Rattle.json_machine.specs.Frame.{Frame}
use Rattle.json_machine.specs.Frame as f
use Rattle.json_machine.specs.declared.begun.Digit.{Digit}
use Rattle.json_machine.specs.declared.begun.Digit.TheVariants as dg
use Rattle.json_machine.specs.Part.{Part}
use Rattle.json_machine.specs.Part as p
use Rattle.json_machine.specs.Numbers.{may_end}
use Rattle.json_value.specs.Grammar.{Rules, strict, has, Spells, null, number, Rest, close, more, Members, shut, another, IsText}
use Rattle.json_machine.specs.Scan.{Scanned, scan}
use Rattle.exact_read.specs.Steps.{run}
use Rattle.json_machine.specs.Machine.{Frames, Pairs, ReaderState, Stepped, letters, meant, open_by, begin, value_step, first_step, after_step, word_step, number_step, str_by, first_name_step, next_name_step, named, naming_by, colon_step, step_by, step, start, finish, finish_by, number_end, whole, read_of, Reads}
use Rattle.json_machine.specs.Left.{CompletesNumber, TextLeft}
use Rattle.json_machine.proofs.NumberTexts.{number_reads}
use Rattle.json_machine.proofs.TextsGo.{IsPart}
use Rattle.json_machine.proofs.TextsEnd.{ScanKeeps, scan_keeps, text_not_empty, part_ends}
use Rattle.json_machine.proofs.Frames.{room, LeftBy, Left, AfterLeft, ValueLeft, NumberLeft, StrLeft, ColonLeft, NamingLeft, NameLeft, step_sound, IsSound}
use Rattle.json_machine.proofs.Complete.{IsValid, step_goes}
use Rattle.exact_read.proofs.Machines.{ok_is, differ, run_sound, run_goes, run_keeps}

-- ---- each state that a step leads to is valid

abbrev pub Keeps : Stepped → Type 0
Keeps (Ok next) = IsValid next.mode
Keeps (Err why) = Unit {0}

str_keeps : (fs : Frames) (o : Scanned) → ScanKeeps o → Keeps (str_by fs o)
str_keeps fs o h = grind (arith, nat_tests)

naming_keeps : (distinct : Bool) (fs : Frames) (ms : Pairs) (place : ℕ) (o : Scanned) → ScanKeeps o → Keeps (naming_by distinct fs ms place o)
unfolding named
naming_keeps distinct fs ms place o h = grind (arith, nat_tests)

step_keeps : (r : Rules) (at : ℕ) (mode : Mode) (fs : Frames) (t : ℕ) → IsValid mode → Keeps (step_by r at mode fs t)
unfolding value_step first_step begin open_by after_step word_step number_step first_name_step next_name_step colon_step
step_keeps r at (m.Str part text) fs t valid = str_keeps fs (scan r.cut at part text t) (scan_keeps r.cut at part text t valid)
step_keeps r at (m.Naming ms place part text) fs t valid = naming_keeps r.distinct fs ms place (scan r.cut at part text t) (scan_keeps r.cut at part text t valid)
step_keeps r at _ fs t valid = grind (arith, nat_tests)

-- ---- something may follow in each state, where lone low surrogates are let through

after_ends : (r : Rules) (fs : Frames) (x : Json) → (w : List ℕ) × (v : Json) × AfterLeft r fs x w v
after_ends r [] x = ([], x, (tt, refl))
after_ends r (f.Items xs ∷ fs) x =
    let end = after_ends r fs (j.List (xs ++ (x ∷ []))) in
    (93 ∷ end.0, end.1, ([], 93 ∷ [], end.0, close [] tt, refl, end.2))
after_ends r (f.Member ms n ∷ fs) x =
    let end = after_ends r fs (j.Object (ms ++ ((n, x) ∷ []))) in
    (125 ∷ end.0, end.1, ([], 125 ∷ [], end.0, shut [] tt, refl, end.2))

value_ends : (r : Rules) (fs : Frames) → (w : List ℕ) × (v : Json) × ValueLeft r fs w v
value_ends r fs =
    let end = after_ends r fs j.Null in
    (codes "null" ++ end.0, end.1, ([], j.Null, codes "null", end.0, tt, null, refl, end.2))

colon_ends : (r : Rules) (fs : Frames) (ms : Pairs) (n : List ℕ) → (w : List ℕ) × (v : Json) × ColonLeft r fs ms n w v
colon_ends r fs ms n =
    let end = value_ends r (f.Member ms n ∷ fs) in
    (58 ∷ end.0, end.1, ([], end.0, tt, refl, end.2))

-- no member has a name longer than all of theirs together
total : Pairs → ℕ
total [] = 0
total (x ∷ xs) = length x.0 + total xs

long_is_new : (ms : Pairs) (name : List ℕ) → total ms < length name → has ms name ≡ false
unfolding total
long_is_new [] name h = refl
long_is_new (x ∷ xs) name h = or_from (bytes_eq x.0 name) (has xs name) (false_from_ne_true (bytes_eq x.0 name) (λ same. shorter (ap length ((bytes_eq-Decides x.0 name).0 same)))) (long_is_new xs name (omega arith))
  where
    shorter : length x.0 ≡ length name → ⊥
    shorter same = omega arith

naming_ends : (r : Rules) (fs : Frames) (ms : Pairs) (part : Part) (text : List ℕ) → r.cut ≡ true → IsPart part → (w : List ℕ) × (v : Json) × NamingLeft r fs ms part text w v
naming_ends r fs ms part text on valid =
    let c = part_ends r.cut part (suc (total ms)) on valid in
    let n : List ℕ = text ++ c.more in
    let end = colon_ends r fs ms n in
    let long : total ms < length (text ++ c.more) = longer c.more c.long in
    (c.bytes ++ end.0, end.1, (c.bytes, end.0, n, (c.more, c.left, refl), and_right r.distinct (has ms n) (long_is_new ms n long), refl, end.2))
  where
    longer : (c : List ℕ) → suc (total ms) ≤ length c → total ms < length (text ++ c)
    longer c h = omega (arith, length-append text c)

name_ends : (r : Rules) (fs : Frames) (ms : Pairs) → r.cut ≡ true → (w : List ℕ) × (v : Json) × NameLeft r fs ms w v
name_ends r fs ms on =
    let end = naming_ends r fs ms p.Plain [] on tt in
    (34 ∷ end.0, end.1, ([], end.0, tt, refl, end.2))

str_ends : (r : Rules) (fs : Frames) (part : Part) (text : List ℕ) → r.cut ≡ true → IsPart part → (w : List ℕ) × (v : Json) × StrLeft r fs part text w v
str_ends r fs part text on valid =
    let c = part_ends r.cut part 0 on valid in
    let end = after_ends r fs (j.Str (text ++ c.more)) in
    (c.bytes ++ end.0, end.1, (c.bytes, end.0, text ++ c.more, (c.more, c.left, refl), refl, end.2))

record NumberEnd (part : Digit) : Type 0 where
  bytes : List ℕ
  completes : CompletesNumber part bytes

number_done : (part : Digit) → NumberEnd part
number_done dg.Minus = record { bytes = 48 ∷ []; completes = (dg.Zero, refl, refl) }
number_done dg.Dot = record { bytes = 48 ∷ []; completes = (dg.Fraction, refl, refl) }
number_done dg.E = record { bytes = 48 ∷ []; completes = (dg.Exponent, refl, refl) }
number_done dg.Sign = record { bytes = 48 ∷ []; completes = (dg.Exponent, refl, refl) }
number_done _ = record { bytes = []; completes = refl }

number_ends : (r : Rules) (fs : Frames) (part : Digit) (text : List ℕ) → (w : List ℕ) × (v : Json) × NumberLeft r fs part text w v
number_ends r fs part text =
    let c = number_done part in
    let end = after_ends r fs (j.Number (text ++ c.bytes)) in
    (c.bytes ++ end.0, end.1, (c.bytes, end.0, c.completes, refl, end.2))

ends_by : (r : Rules) (mode : Mode) (fs : Frames) → r.cut ≡ true → IsValid mode → (w : List ℕ) × (v : Json) × LeftBy r mode fs w v
ends_by r m.Value fs on valid = value_ends r fs
ends_by r m.First fs on valid =
    let end = value_ends r (f.Items [] ∷ fs) in
    (end.0, end.1, inr end.2)
ends_by r (m.After x) fs on valid = after_ends r fs x
ends_by r (m.Word word read) fs on valid =
    let end = after_ends r fs (meant word) in
    (drop read (letters word) ++ end.0, end.1, (end.0, refl, end.2))
ends_by r (m.Number part text) fs on valid = number_ends r fs part text
ends_by r (m.Str part text) fs on valid = str_ends r fs part text on valid
ends_by r m.FirstName fs on valid =
    let end = name_ends r fs [] on in
    (end.0, end.1, inr end.2)
ends_by r (m.NextName ms) fs on valid = name_ends r fs ms on
ends_by r (m.Naming ms place part text) fs on valid = naming_ends r fs ms part text on valid
ends_by r (m.Colon ms n) fs on valid = colon_ends r fs ms n

-- ---- the machine as the laws of first faults want it

abbrev pub Valid : ReaderState → Type 0
Valid s = IsValid s.mode

pub sound : (r : Rules) (at : ℕ) (s : ReaderState) (t : ℕ) (next : ReaderState) (w : List ℕ) (v : Json) → step r at s t ≡ Ok next → Left r next w v → Left r s (t ∷ w) v
unfolding step
sound r at s t next w v e left = subst (λ (o : Stepped). IsSound r (Left r s) t o) e (step_sound r at s.mode s.frames t) w v left

pub goes : (r : Rules) (at : ℕ) (s : ReaderState) (t : ℕ) (w : List ℕ) (v : Json) → Valid s → Left r s (t ∷ w) v → (next : ReaderState) × (step r at s t ≡ Ok next) × Left r next w v
unfolding step
goes r at s t w v valid left =
    let g = step_goes r at s.mode s.frames t w v valid left in
    (record { mode = g.mode; frames = g.frames }, g.steps, g.left)

pub keeps : (r : Rules) (at : ℕ) (s : ReaderState) (t : ℕ) (next : ReaderState) → Valid s → step r at s t ≡ Ok next → Valid next
unfolding step
keeps r at s t next valid e = subst Keeps e (step_keeps r at s.mode s.frames t valid)

pub ends : (r : Rules) → r.cut ≡ true → (s : ReaderState) → Valid s → (w : List ℕ) × (v : Json) × Left r s w v
ends r on s valid = ends_by r s.mode s.frames on valid

-- ---- whole texts

room_start : (r : Rules) → room r [] ≡ r.depth
room_start r = omega arith

pub start_text : (r : Rules) (v : Json) (text : List ℕ) → Left r start text v → IsText r v text
start_text r v text (s, x, a, b, blank, spelled, cut, (after, same)) = record { before = s; inner = a; after = b; parts = cut; before_is = blank; inner_is = subst (λ (y : Json). Spells r r.depth y a) same (subst (λ (d : ℕ). Spells r d x a) (room_start r) spelled); after_is = after }

pub text_start : (r : Rules) (v : Json) (text : List ℕ) → IsText r v text → Left r start text v
text_start r v text t = (t.before, v, t.inner, t.after, t.before_is, subst (λ (d : ℕ). Spells r d v t.inner) (sym (room_start r)) t.inner_is, t.parts, (t.after_is, refl))

nothing_left : (r : Rules) (mode : Mode) (fs : Frames) (v : Json) → finish_by mode fs ≡ Ok v → LeftBy r mode fs [] v
nothing_left r (m.After x) [] v e = (tt, ok_is x v e)
nothing_left r (m.Number part text) [] v e = by_end (may_end part) refl e
  where
    by_end : (b : Bool) → may_end part ≡ b → number_end b text ≡ Ok v → NumberLeft r [] part text [] v
    by_end true ends e = ([], [], ends, refl, (tt, ap (λ (q : List ℕ). j.Number q) (append-nil text) ∙ ok_is (j.Number text) v e))
    by_end false ends e = absurd cc
nothing_left r _ _ v e = absurd cc

-- where nothing may follow, the text is whole
never_empty : (r : Rules) (d : ℕ) (x : Json) (a b : List ℕ) → Spells r d x a → [] ≡ a ++ b → ⊥
never_empty r _ _ _ b (number a n) e = let k = number_reads a n in let h : [] ≡ k.first ∷ (k.others ++ b) = e ∙ ap (λ (q : List ℕ). q ++ b) k.parts in absurd cc
never_empty r _ _ _ b _ e = absurd cc

rest_never_empty : (r : Rules) (d : ℕ) (xs : List Json) (a b : List ℕ) → Rest r d xs a → [] ≡ a ++ b → ⊥
rest_never_empty r _ _ _ b (close [] blank) e = absurd cc
rest_never_empty r _ _ _ b (more [] s' x a xs c blank blank' spelled rest) e = absurd cc
rest_never_empty r _ _ _ b _ e = absurd cc

members_never_empty : (r : Rules) (d : ℕ) (before ms : Pairs) (a b : List ℕ) → Members r d before ms a → [] ≡ a ++ b → ⊥
members_never_empty r _ _ _ _ b (shut [] blank) e = absurd cc
members_never_empty r _ _ _ _ b (another [] s' n x a ms c blank blank' fresh paired others) e = absurd cc
members_never_empty r _ _ _ _ b _ e = absurd cc

value_not_empty : (r : Rules) (fs : Frames) (v : Json) → ValueLeft r fs [] v → ⊥
value_not_empty r fs v ([], x, a, b, blank, spelled, cut, left) = never_empty r (room r fs) x a b spelled cut
value_not_empty r fs v (c ∷ s, x, a, b, blank, spelled, cut, left) = absurd cc

space_not_empty : (s b : List ℕ) (c : ℕ) → [] ≡ s ++ (c ∷ b) → ⊥
space_not_empty [] b c e = absurd cc
space_not_empty (k ∷ s) b c e = absurd cc

text_empty : (r : Rules) (part : Part) (text a b n : List ℕ) → IsPart part → TextLeft r.cut part text a n → [] ≡ a ++ b → ⊥
text_empty r part text [] b n valid left e = text_not_empty r.cut part text n valid left
text_empty r part text (c ∷ a) b n valid left e = absurd cc

number_empty : (r : Rules) (part : Digit) (text a b : List ℕ) (v : Json) → CompletesNumber part a → [] ≡ a ++ b → AfterLeft r [] (j.Number (text ++ a)) b v → number_end (may_end part) text ≡ Ok v
number_empty r part text [] b v ends e (blank, same) = rw ends (ap (λ (y : Json). Ok y) (ap (λ (q : List ℕ). j.Number q) (sym (append-nil text)) ∙ same))
number_empty r part text (c ∷ a) b v ends e left = absurd cc

after_open : (r : Rules) (f : Frame) (fs : Frames) (x : Json) (w : List ℕ) (v : Json) → w ≡ [] → AfterLeft r (f ∷ fs) x w v → ⊥
after_open r (f.Items xs) fs x w v e (ys, a, b, rest, cut, left) = rest_never_empty r _ ys a b rest (sym e ∙ cut)
after_open r (f.Member ms n) fs x w v e (ys, a, b, others, cut, left) = members_never_empty r _ _ ys a b others (sym e ∙ cut)

tail_empty : (a b : List ℕ) → [] ≡ a ++ b → b ≡ []
tail_empty [] b e = sym e
tail_empty (c ∷ a) b e = absurd cc

left_nothing : (r : Rules) (mode : Mode) (fs : Frames) (v : Json) → IsValid mode → LeftBy r mode fs [] v → finish_by mode fs ≡ Ok v
left_nothing r m.Value fs v valid left = absurd (value_not_empty r fs v left)
left_nothing r m.First fs v valid (inl (s, b, blank, cut, left)) = absurd (space_not_empty s b 93 cut)
left_nothing r m.First fs v valid (inr left) = absurd (value_not_empty r (f.Items [] ∷ fs) v left)
left_nothing r (m.Word word read) fs v valid (b, cut, left) =
    let at : drop read (letters word) ≡ get_or (letters word) read 0 ∷ drop (suc read) (letters word) = drop-cons (letters word) read 0 valid in
    let no : [] ≡ (get_or (letters word) read 0 ∷ drop (suc read) (letters word)) ++ b = cut ∙ ap (λ (q : List ℕ). q ++ b) at in
    absurd cc
left_nothing r (m.After x) [] v valid (blank, same) = ap (λ (y : Json). Ok y) same
left_nothing r (m.After x) (f ∷ fs) v valid left = absurd (after_open r f fs x [] v refl left)
left_nothing r (m.Number part text) [] v valid (a, b, completes, cut, left) = number_empty r part text a b v completes cut left
left_nothing r (m.Number part text) (f ∷ fs) v valid (a, b, completes, cut, left) = absurd (after_open r f fs (j.Number (text ++ a)) b v (tail_empty a b cut) left)
left_nothing r (m.Str part text) fs v valid (a, b, t, there, cut, left) = absurd (text_empty r part text a b t valid there cut)
left_nothing r m.FirstName fs v valid (inl (s, b, blank, cut, left)) = absurd (space_not_empty s b 125 cut)
left_nothing r m.FirstName fs v valid (inr (s, b, blank, cut, left)) = absurd (space_not_empty s b 34 cut)
left_nothing r (m.NextName ms) fs v valid (s, b, blank, cut, left) = absurd (space_not_empty s b 34 cut)
left_nothing r (m.Naming ms place part text) fs v valid (a, b, n, there, fresh, cut, left) = absurd (text_empty r part text a b n valid there cut)
left_nothing r (m.Colon ms n) fs v valid (s, b, blank, cut, left) = absurd (space_not_empty s b 58 cut)

pub read_found : (r : Rules) (bytes : List ℕ) (v : Json) → read_of r bytes ≡ Ok v → IsText r v bytes
unfolding read_of finish
read_found r bytes v e = go (run (step r) bytes 0 start) refl e
  where
    go : (o : Result ReaderState (Refusal × ℕ)) → run (step r) bytes 0 start ≡ o → whole o ≡ Ok v → IsText r v bytes
    go (Ok s) is e = start_text r v bytes (subst (λ (q : List ℕ). Left r start q v) (append-nil bytes)
        (run_sound (step r) Valid (Left r) (sound r) (goes r) (keeps r) bytes 0 start s [] v is (nothing_left r s.mode s.frames v e)))
    go (Err x) is e = absurd cc

pub read_only : (r : Rules) (bytes : List ℕ) (v : Json) → IsText r v bytes → read_of r bytes ≡ Ok v
unfolding read_of finish
read_only r bytes v t =
    let g = run_goes (step r) Valid (Left r) (sound r) (goes r) (keeps r) bytes 0 start [] v tt (subst (λ (q : List ℕ). Left r start q v) (sym (append-nil bytes)) (text_start r v bytes t)) in
    let valid = run_keeps (step r) Valid (Left r) (sound r) (goes r) (keeps r) bytes 0 start g.0 tt g.1 in
    rw g.1 (left_nothing r g.0.mode g.0.frames v valid g.2)

pub reads_found : (bytes : List ℕ) (x : Result Json JsonFault) → Reads (read_of strict bytes) x → IfOk x (λ v. IsText strict v bytes)
reads_found bytes (Ok v) h = read_found strict bytes v h
reads_found bytes (Err x) h = tt

pub reads_only : (bytes : List ℕ) (x : Result Json JsonFault) → Reads (read_of strict bytes) x → (v : Json) → IsText strict v bytes → MatchResult x (λ w. w ≡ v) (λ f. f ≡ faults.Memory)
reads_only bytes (Ok y) h v t = ok_is y v (sym h ∙ read_only strict bytes v t)
reads_only bytes (Err faults.Memory) h v t = refl
reads_only bytes (Err _) h v t = absurd (differ (sym (read_only strict bytes v t) ∙ h (λ e. absurd cc)))
