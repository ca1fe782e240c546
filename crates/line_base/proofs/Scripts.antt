-- What a line for tests tells, entry by entry.
use Rattle.std.proofs.Common.{◌≡◌, ℕ, ◌+◌, ◌-◌, ◌^◌, ◌≤◌, ◌==◌, Bool, true, false, List, [], ◌∷◌, ◌++◌, length, Option, Some, None, refl, ap, sym, ◌∙◌, subst, arith, append_assoc, length-append, eq-eqb, ◌<◌, get_or, take, drop, drop-cons, add-one, zero, suc, ◌≢◌}
use Rattle.std.specs.Prelude.{Result}
use Rattle.std.proofs.Math.Seq.{take-suc}
use Rattle.std.proofs.Math.ListN.{drop_of_length-le}
use Rattle.std.proofs.lemmas.List.{take-append-drop, append-nil}
use Rattle.std.specs.Prelude.{if◌then◌else◌, min, nat_lt, ◌&&◌, is_none, count_by, IfSome, Ok, Err}
use Rattle.std.proofs.lemmas.Bool.Decides.{nat_tests}
use Rattle.std.proofs.lemmas.List.Sums.{sum_by-cons}
use Rattle.cache_terms.specs.declared.keys.Key.{Key}
use Rattle.cache_terms.specs.declared.events.Mark.{Mark}
use Rattle.cache_terms.specs.declared.events.Reply.{Reply}
use Rattle.cache_book.specs.Permits.{Granted}
use Rattle.line_base.specs.declared.line.Call as calls
use Rattle.line_base.specs.declared.line.LineFault.{LineFault}
use Rattle.line_base.specs.declared.line.LineFault.TheVariants as fault
use Rattle.line_base.specs.declared.script.Told.{Told}
use Rattle.flow_base.specs.Logs.{Grows}
use Rattle.line_base.proofs.Gaining.{grows_none}
use Rattle.line_base.specs.Lines.{PermitName, Entry, Fetches, IsCounted, names_of, name_of, failures, failed_by}
use Rattle.line_base.specs.declared.script.Scripted.{Scripted}
use Rattle.line_base.specs.Foretold.{answer_told, answer_for, left_for}
use Rattle.line_base.specs.Told.{names_told, entries_told, entry_of, script_line, Script, ServesScript}

pub names_push : (ns : List (ℕ × Mark × Key)) (n : ℕ × Mark × Key) → names_told (ns ++ n ∷ []) ≡ names_told ns ++ record { epoch = n.0; mark = n.1; key = n.2 } ∷ []
names_push [] n = refl
names_push (x ∷ ns) n = ap (λ (l : List PermitName). record { epoch = x.0; mark = x.1; key = x.2 } ∷ l) (names_push ns n)

pub names_step : (p : Granted) (ps : List Granted) → names_of (p ∷ ps) ≡ name_of p ∷ names_of ps
names_step p ps = refl

pub entries_push : (ts : List Told) (t : Told) → entries_told (ts ++ t ∷ []) ≡ entries_told ts ++ entry_of t ∷ []
entries_push [] t = refl
entries_push (x ∷ ts) t = ap (λ (l : List Entry). entry_of x ∷ l) (entries_push ts t)

pub length_entries : (ts : List Told) → length (entries_told ts) ≡ length ts
length_entries [] = refl
length_entries (t ∷ ts) = omega (arith, length_entries ts)

length_push : (es : List Entry) (e : Entry) → length (es ++ e ∷ []) ≡ length es + 1
length_push es e = omega (arith, length-append es (e ∷ []))

failures_push : (sub : ℕ) (es : List Entry) (e : Entry) → failures sub (es ++ e ∷ []) ≡ failures sub es + failures sub (e ∷ [])
failures_push sub [] e = omega arith
failures_push sub (x ∷ es) e = omega (arith, failures_push sub es e)

-- the line with one more entry told, and these entries unused
abbrev pub with_entry : Script → List Scripted → Entry → Script
with_entry s left e = record { replies = left; log = s.log ++ e ∷ [] }

told_more : (s : Script) (left : List Scripted) (e : Entry) → Grows (script_line s).log (script_line (with_entry s left e)).log (e ∷ [])
told_more s left e = by_tests (nat_lt (length s.log) (2 ^ 64 - 1)) (nat_lt (length (s.log ++ e ∷ [])) (2 ^ 64 - 1)) refl refl
  where
    by_tests : (a b : Bool) → nat_lt (length s.log) (2 ^ 64 - 1) ≡ a → nat_lt (length (s.log ++ e ∷ [])) (2 ^ 64 - 1) ≡ b → Grows (if a then Some s.log else None) (if b then Some (s.log ++ e ∷ []) else None) (e ∷ [])
    by_tests true true x y = refl
    by_tests true false x y = tt
    by_tests false false x y = tt
    by_tests false true x y = absurd (grind (arith, nat_tests, length_push s.log e))

counted : (s : Script) → IsCounted (script_line s)
counted s = by_test (nat_lt (length s.log) (2 ^ 64 - 1)) refl
  where
    by_test : (a : Bool) → nat_lt (length s.log) (2 ^ 64 - 1) ≡ a → IfSome (if a then Some s.log else None) (λ entries. min (length s.log) (2 ^ 64 - 1) ≡ length entries)
    by_test true x = grind (arith, nat_tests)
    by_test false x = tt

calls_more : (es : List Entry) (e : Entry) → min (length (es ++ e ∷ [])) (2 ^ 64 - 1) ≡ min (min (length es) (2 ^ 64 - 1) + 1) (2 ^ 64 - 1)
calls_more es e = omega (arith, length_push es e)

later : (es : List Entry) (e : Entry) (sub : ℕ) → min (failures sub es) (2 ^ 64 - 1) ≤ min (failures sub (es ++ e ∷ [])) (2 ^ 64 - 1)
later es e sub = omega (arith, failures_push sub es e)

one_failed : (sub : ℕ) (e : Entry) → e.call.sub ≡ sub → failed_by e.answer ≡ 1 → failures sub (e ∷ []) ≡ 1
one_failed sub e same failed = ap (λ (b : Bool). (if b then failed_by e.answer else 0) + 0) (eq-eqb e.call.sub sub same) ∙ omega (arith, failed)

-- a fetch that answers as it tells
tells_reply : (s : Script) (permits : List Granted) (call : calls.Call) (reply : Reply) → Some reply ≡ answer_for call.sub s.replies
    → Fetches (script_line s) permits call (Ok reply) (script_line (with_entry s (left_for call.sub s.replies) (record { permits = names_of permits; call = call; answer = Ok reply })))
tells_reply s permits call reply is =
    let e : Entry = record { permits = names_of permits; call = call; answer = Ok reply } in
    let left = left_for call.sub s.replies in record {
      before = counted s;
      told = told_more s left e;
      counted = counted (with_entry s left e);
      calls = calls_more s.log e;
      later = later s.log e;
      cause = tt;
      foretold = record { answer_is = ap answer_told is; left = refl };
    }

tells_failure : (s : Script) (permits : List Granted) (call : calls.Call) → None ≡ answer_for call.sub s.replies
    → Fetches (script_line s) permits call (Err fault.Failed) (script_line (with_entry s (left_for call.sub s.replies) (record { permits = names_of permits; call = call; answer = Err fault.Failed })))
tells_failure s permits call is =
    let e : Entry = record { permits = names_of permits; call = call; answer = Err fault.Failed } in
    let left = left_for call.sub s.replies in
    let one : failures call.sub (e ∷ []) ≡ 1 = one_failed call.sub e refl refl in record {
      before = counted s;
      told = told_more s left e;
      counted = counted (with_entry s left e);
      calls = calls_more s.log e;
      later = later s.log e;
      cause = omega (arith, failures_push call.sub s.log e, one);
      foretold = record { answer_is = ap answer_told is; left = refl };
    }

pub tells_nothing : (s : Script) (permits : List Granted) (call : calls.Call) → Fetches (script_line s) permits call (Err fault.Memory) (script_line s)
tells_nothing s permits call = record {
  before = counted s;
  told = grows_none (script_line s).log;
  counted = counted s;
  calls = refl;
  later = λ sub. omega arith;
  cause = (refl, refl);
  foretold = refl;
}

pub tells_answer : (s : Script) (permits : List Granted) (call : calls.Call) (o : Option Reply) (t : Told) → o ≡ answer_for call.sub s.replies
    → entry_of t ≡ record { permits = names_of permits; call = call; answer = answer_told o }
    → Fetches (script_line s) permits call (answer_told o) (script_line (with_entry s (left_for call.sub s.replies) (entry_of t)))
tells_answer s permits call None t first is =
    subst (λ (e : Entry). Fetches (script_line s) permits call (Err fault.Failed) (script_line (with_entry s (left_for call.sub s.replies) e))) (sym is) (tells_failure s permits call first)
tells_answer s permits call (Some reply) t first is =
    subst (λ (e : Entry). Fetches (script_line s) permits call (Ok reply) (script_line (with_entry s (left_for call.sub s.replies) e))) (sym is) (tells_reply s permits call reply first)

pub naming : (ns : List (ℕ × Mark × Key)) (n : ℕ × Mark × Key) (p : Granted) (rest ps all : List Granted) → ps ≡ p ∷ rest → record { epoch = n.0; mark = n.1; key = n.2 } ≡ name_of p → names_told ns ++ names_of ps ≡ names_of all → names_told (ns ++ n ∷ []) ++ names_of rest ≡ names_of all
naming ns n p rest ps all split is h =
    ap (λ (l : List PermitName). l ++ names_of rest) (names_push ns n) ∙ append_assoc (names_told ns) (record { epoch = n.0; mark = n.1; key = n.2 } ∷ []) (names_of rest)
    ∙ ap (λ (x : PermitName). names_told ns ++ (x ∷ names_of rest)) is ∙ ap (λ (l : List Granted). names_told ns ++ names_of l) (sym split) ∙ h

failed_one : (sub : ℕ) (t : Told) → failures sub (entry_of t ∷ []) ≡ (if (t.call.sub == sub) && is_none t.reply then 1 else 0)
failed_one sub t = by_cases (t.call.sub == sub) t.reply
  where
    by_cases : (b : Bool) (o : Option Reply) → (if b then failed_by (answer_told o) else 0) + 0 ≡ (if b && is_none o then 1 else 0)
    by_cases true None = omega arith
    by_cases true (Some r) = omega arith
    by_cases false None = omega arith
    by_cases false (Some r) = omega arith

pub failed_count : (sub : ℕ) (ts : List Told) → count_by (λ (t : Told). (t.call.sub == sub) && is_none t.reply) ts ≡ failures sub (entries_told ts)
failed_count sub [] = refl
failed_count sub (t ∷ ts) = omega (arith, sum_by-cons (λ (x : Told). if (x.call.sub == sub) && is_none x.reply then 1 else 0) t ts, failed_one sub t, failed_count sub ts)

-- WHICH ENTRY ANSWERS

-- no entry among these is of the subgraph
abbrev pub NoneOf : ℕ → List Scripted → Type 0
NoneOf sub [] = Unit {0}
NoneOf sub (s ∷ ss) = ((s.sub == sub) ≡ false) × NoneOf sub ss

pub answer_past : (sub : ℕ) (xs ys : List Scripted) → NoneOf sub xs → answer_for sub (xs ++ ys) ≡ answer_for sub ys
answer_past sub [] ys none = refl
answer_past sub (x ∷ xs) ys none = ap (λ (b : Bool). if b then x.reply else answer_for sub (xs ++ ys)) none.0 ∙ answer_past sub xs ys none.1

pub left_past : (sub : ℕ) (xs ys : List Scripted) → NoneOf sub xs → left_for sub (xs ++ ys) ≡ xs ++ left_for sub ys
left_past sub [] ys none = refl
left_past sub (x ∷ xs) ys none = ap (λ (b : Bool). if b then xs ++ ys else x ∷ left_for sub (xs ++ ys)) none.0 ∙ ap (λ (l : List Scripted). x ∷ l) (left_past sub xs ys none.1)

test_other : (a b : ℕ) → a ≢ b → (a == b) ≡ false
test_other a b differ = grind (arith, nat_tests)

pub none_more : (sub : ℕ) (xs : List Scripted) (x : Scripted) → NoneOf sub xs → x.sub ≢ sub → NoneOf sub (xs ++ x ∷ [])
none_more sub [] x none last = (test_other x.sub sub last, tt)
none_more sub (y ∷ ys) x none last = (none.0, none_more sub ys x none.1 last)

-- one more entry is of another subgraph
pub none_step : (sub i : ℕ) (xs : List Scripted) (x : Scripted) → i < length xs → x ≡ get_or xs i x → NoneOf sub (take i xs) → x.sub ≢ sub → NoneOf sub (take (i + 1) xs)
none_step sub i xs x less is none last = subst (NoneOf sub) (sym (ap (λ (n : ℕ). take n xs) (add-one i) ∙ take-suc xs i x less ∙ ap (λ (y : Scripted). take i xs ++ y ∷ []) (sym is))) (none_more sub (take i xs) x none last)

-- the first entry of the subgraph
pub first_answer : (sub i : ℕ) (xs : List Scripted) (x : Scripted) → i < length xs → x ≡ get_or xs i x → NoneOf sub (take i xs) → x.sub ≡ sub → answer_for sub xs ≡ x.reply
first_answer sub i xs x less is none here =
    ap (answer_for sub) (sym (take-append-drop i xs)) ∙ answer_past sub (take i xs) (drop i xs) none ∙ ap (answer_for sub) (drop-cons xs i x less ∙ ap (λ (y : Scripted). y ∷ drop (suc i) xs) (sym is)) ∙ ap (λ (b : Bool). if b then x.reply else answer_for sub (drop (suc i) xs)) (eq-eqb x.sub sub here)

pub first_left : (sub i : ℕ) (xs : List Scripted) (x : Scripted) → i < length xs → x ≡ get_or xs i x → NoneOf sub (take i xs) → x.sub ≡ sub → left_for sub xs ≡ take i xs ++ drop (i + 1) xs
first_left sub i xs x less is none here =
    ap (left_for sub) (sym (take-append-drop i xs)) ∙ left_past sub (take i xs) (drop i xs) none
    ∙ ap (λ (l : List Scripted). take i xs ++ left_for sub l) (drop-cons xs i x less ∙ ap (λ (y : Scripted). y ∷ drop (suc i) xs) (sym is))
    ∙ ap (λ (b : Bool). take i xs ++ (if b then drop (suc i) xs else x ∷ left_for sub (drop (suc i) xs))) (eq-eqb x.sub sub here) ∙ ap (λ (n : ℕ). take i xs ++ drop n xs) (sym (add-one i))

-- no entry is of the subgraph where none of the first ones is, and there are no others
pub none_at_all : (sub i : ℕ) (xs : List Scripted) → length xs ≤ i → NoneOf sub (take i xs) → NoneOf sub xs
none_at_all sub i xs past none = subst (NoneOf sub) (sym (append-nil (take i xs)) ∙ ap (λ (l : List Scripted). take i xs ++ l) (sym (drop_of_length-le xs past)) ∙ take-append-drop i xs) none

-- what stands at a place is one
pub same_element : (xs : List Scripted) (i : ℕ) (x y : Scripted) → i < length xs → x ≡ get_or xs i x → y ≡ get_or xs i y → x ≡ y
same_element [] i x y less hx hy = absurd (omega (arith, less))
same_element (z ∷ xs) zero x y less hx hy = hx ∙ sym hy
same_element (z ∷ xs) (suc i) x y less hx hy = same_element xs i x y (omega (arith, less)) hx hy

pub no_answer : (sub : ℕ) (xs : List Scripted) → NoneOf sub xs → answer_for sub xs ≡ None
no_answer sub [] none = refl
no_answer sub (x ∷ xs) none = ap (λ (b : Bool). if b then x.reply else answer_for sub xs) none.0 ∙ no_answer sub xs none.1

pub all_left : (sub : ℕ) (xs : List Scripted) → NoneOf sub xs → left_for sub xs ≡ xs
all_left sub [] none = refl
all_left sub (x ∷ xs) none = ap (λ (b : Bool). if b then xs else x ∷ left_for sub xs) none.0 ∙ ap (λ (l : List Scripted). x ∷ l) (all_left sub xs none.1)

pub serves_answer : (old new : Script) (permits : List Granted) (call : calls.Call) (answer : Result Reply LineFault) (o : Option Reply) → answer ≡ answer_told o → o ≡ answer_for call.sub old.replies → new ≡ record { replies = left_for call.sub old.replies; log = old.log ++ record { permits = names_of permits; call = call; answer = answer } ∷ [] } → ServesScript old permits call answer new
serves_answer old new permits call (Ok reply) o told is after = record { answer_is = told ∙ ap answer_told is; after = after }
serves_answer old new permits call (Err fault.Failed) o told is after = record { answer_is = told ∙ ap answer_told is; after = after }
serves_answer old new permits call (Err (fault.TooLong n)) o told is after = record { answer_is = told ∙ ap answer_told is; after = after }
serves_answer old new permits call (Err fault.Memory) None told is after = absurd (cc told)
serves_answer old new permits call (Err fault.Memory) (Some reply) told is after = absurd (cc told)
