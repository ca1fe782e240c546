-- Chains of fetches, and of readings.
use Rattle.std.proofs.Common.{◌≡◌, ℕ, ◌+◌, ◌-◌, ◌^◌, ◌≤◌, ◌==◌, Bool, true, false, List, [], ◌∷◌, ◌++◌, Option, Some, None, refl, ap, sym, ◌∙◌, subst, arith, append_assoc, length, slice_get, zero, suc}
use Rattle.std.specs.Prelude.{if◌then◌else◌, min, IfSome, Result, Ok, Err}
use Rattle.std.proofs.lemmas.Bool.Decides.{nat_tests}
use Rattle.std.proofs.lemmas.List.{append-nil}
use Rattle.std.proofs.lemmas.Option.{same_Some}
use Rattle.std.proofs.lemmas.List.Elements.{All-cons, All-nil, All-append}
use Rattle.flow_base.specs.Causes.{Rose}
use Rattle.cache_terms.specs.declared.events.Reply.{Reply}
use Rattle.cache_book.specs.Permits.{Granted}
use Rattle.line_base.specs.declared.line.Call as calls
use Rattle.line_base.specs.declared.line.LineFault.{LineFault}
use Rattle.line_base.specs.declared.line.LineFault.TheVariants as fault
use Rattle.flow_base.specs.Logs.{Grows}
use Rattle.line_base.specs.declared.lane.Work.{Work}
use Rattle.line_base.specs.declared.script.Scripted.{Scripted}
use Rattle.line_base.specs.Foretold.{IsForetold}
use Rattle.line_base.specs.Lines.{Line, Entry, Fetches, Gains, AreServed, IsCounted, IsLong, told_by, names_of, calls_after, failures}
use Rattle.line_base.specs.Lanes.{AreFetched, told_by_all}

pub grows_none : {A : Type 0} (log : Option (List A)) → Grows log log []
grows_none None = tt
grows_none (Some xs) = sym (append-nil xs)

pub grows_trans : {A : Type 0} (a b c : Option (List A)) (xs ys : List A) → Grows a b xs → Grows b c ys → Grows a c (xs ++ ys)
grows_trans None None None xs ys h k = tt
grows_trans (Some u) None None xs ys h k = tt
grows_trans None (Some v) None xs ys h k = tt
grows_trans (Some u) (Some v) None xs ys h k = tt
grows_trans None None (Some w) xs ys h k = absurd k
grows_trans (Some u) None (Some w) xs ys h k = absurd k
grows_trans None (Some v) (Some w) xs ys h k = absurd h
grows_trans (Some u) (Some v) (Some w) xs ys h k = k ∙ ap (λ (l : List _). l ++ ys) h ∙ append_assoc u xs ys

calls_append : (n : ℕ) (es fs : List Entry) → calls_after n (es ++ fs) ≡ calls_after (calls_after n es) fs
calls_append n [] fs = refl
calls_append n (e ∷ es) fs = calls_append (min (n + 1) (2 ^ 64 - 1)) es fs

failures_append : (sub : ℕ) (es fs : List Entry) → failures sub (es ++ fs) ≡ failures sub es + failures sub fs
failures_append sub [] fs = omega arith
failures_append sub (e ∷ es) fs = omega (arith, failures_append sub es fs)

pub gains_none : (l : Line) → Gains l [] l
gains_none l = record { told = grows_none l.log; calls = refl; faults = λ sub. (omega arith, omega arith); long = All-nil (λ (e : Entry). IsLong e.answer); foretold = refl }

served_trans : (a b c : Option (List Scripted)) (es fs : List Entry) → AreServed a es b → AreServed b fs c → AreServed a (es ++ fs) c
served_trans a b c [] fs h k = subst (λ (o : Option (List Scripted)). AreServed o fs c) h k
served_trans a b c (e ∷ es) fs (mid, first, rest) k = (mid, first, served_trans mid b c es fs rest k)

pub gains_trans : (a b c : Line) (es fs : List Entry) → Gains a es b → Gains b fs c → Gains a (es ++ fs) c
gains_trans a b c es fs h k = record {
  told = grows_trans a.log b.log c.log es fs h.told k.told;
  calls = k.calls ∙ ap (λ (n : ℕ). calls_after n fs) h.calls ∙ sym (calls_append a.calls es fs);
  faults = λ sub. faults_trans sub;
  long = All-append (λ (e : Entry). IsLong e.answer) es fs h.long k.long;
  foretold = served_trans a.foretold b.foretold c.foretold es fs h.foretold k.foretold;
}
  where
    faults_trans : (sub : ℕ) → (a.faults sub ≤ c.faults sub) × (min (a.faults sub + failures sub (es ++ fs)) (2 ^ 64 - 1) ≤ c.faults sub)
    faults_trans sub =
        let first = h.faults sub in
        let second = k.faults sub in
        let both = failures_append sub es fs in
        (omega (arith, first.0, second.0), omega (arith, first.0, first.1, second.0, second.1, both))

one_failure : (sub at : ℕ) (before after : ℕ) (n : ℕ) → before ≤ after → (at ≡ sub → min (before + n) (2 ^ 64 - 1) ≤ after) → min (before + ((if at == sub then n else 0) + 0)) (2 ^ 64 - 1) ≤ after
one_failure sub at before after n later rose = by_test (at == sub) refl
  where
    by_test : (b : Bool) → (at == sub) ≡ b → min (before + ((if b then n else 0) + 0)) (2 ^ 64 - 1) ≤ after
    by_test true test = let same : at ≡ sub = grind (arith, nat_tests) in omega (arith, rose same)
    by_test false test = omega (arith, later)

-- for want of memory no entry is used
unserved : (old : Option (List Scripted)) (call : calls.Call) (new : Option (List Scripted)) → IsForetold old call (Err fault.Memory) new → new ≡ old
unserved None call new h = h
unserved (Some ss) call new h = h

-- one fetch, as its log tells it
pub gains_fetch : (old : Line) (permits : List Granted) (call : calls.Call) (answer : Result Reply LineFault) (new : Line) → Fetches old permits call answer new → Gains old (told_by answer (record { permits = names_of permits; call = call; answer = answer })) new
gains_fetch old permits call (Ok reply) new h = record {
  told = h.told;
  calls = h.calls;
  faults = λ sub. (h.later sub, one_failure sub call.sub (old.faults sub) (new.faults sub) 0 (h.later sub) (λ _. omega (arith, h.later sub)));
  long = All-cons (λ (e : Entry). IsLong e.answer) (record { permits = names_of permits; call = call; answer = Ok reply }) [] tt (All-nil (λ (e : Entry). IsLong e.answer));
  foretold = (new.foretold, h.foretold, refl);
}
gains_fetch old permits call (Err fault.Failed) new h = record {
  told = h.told;
  calls = h.calls;
  faults = λ sub. (h.later sub, one_failure sub call.sub (old.faults sub) (new.faults sub) 1 (h.later sub) (λ same. subst (λ (s : ℕ). Rose (old.faults s) (new.faults s)) same h.cause));
  long = All-cons (λ (e : Entry). IsLong e.answer) (record { permits = names_of permits; call = call; answer = Err fault.Failed }) [] tt (All-nil (λ (e : Entry). IsLong e.answer));
  foretold = (new.foretold, h.foretold, refl);
}
gains_fetch old permits call (Err (fault.TooLong n)) new h = record {
  told = h.told;
  calls = h.calls;
  faults = λ sub. (h.later sub, one_failure sub call.sub (old.faults sub) (new.faults sub) 0 (h.later sub) (λ _. omega (arith, h.later sub)));
  long = All-cons (λ (e : Entry). IsLong e.answer) (record { permits = names_of permits; call = call; answer = Err (fault.TooLong n) }) [] h.cause (All-nil (λ (e : Entry). IsLong e.answer));
  foretold = (new.foretold, h.foretold, refl);
}
gains_fetch old permits call (Err fault.Memory) new h = record {
  told = h.told;
  calls = h.calls;
  faults = λ sub. (h.later sub, omega (arith, h.later sub));
  long = All-nil (λ (e : Entry). IsLong e.answer);
  foretold = unserved old.foretold call new.foretold h.foretold;
}

-- PLACES IN A LOG

get_past : {X : Type 0} (b es : List X) (n j : ℕ) → n ≡ length b + j → slice_get (b ++ es) n ≡ slice_get es j
get_past {X = X} [] es n j h = ap (λ (k : ℕ). slice_get es k) (omega (arith, h))
get_past (x ∷ b) es zero j h = absurd (omega (arith, h))
get_past (x ∷ b) es (suc n) j h = get_past b es n j (omega (arith, h))

place_in : (before now : Option (List Entry)) (entries log : List Entry) (calls j : ℕ) → IfSome before (λ es. calls ≡ length es) → Grows before now entries → now ≡ Some log → slice_get log (calls + j) ≡ slice_get entries j
place_in None None entries log calls j counted told is = absurd (cc is)
place_in (Some b) None entries log calls j counted told is = absurd (cc is)
place_in None (Some n) entries log calls j counted told is = absurd told
place_in (Some b) (Some n) entries log calls j counted told is = ap (λ (l : List Entry). slice_get l (calls + j)) (sym (same_Some n log is) ∙ told) ∙ get_past b entries (calls + j) j (ap (λ (k : ℕ). k + j) counted)

-- the j-th of these fetches is entry calls + j of the log
pub place_of_call : (old new : Line) (entries log : List Entry) (j : ℕ) → IsCounted old → Gains old entries new → new.log ≡ Some log → slice_get log (old.calls + j) ≡ slice_get entries j
place_of_call old new entries log j counted gains is = place_in old.log new.log entries log old.calls j counted gains.told is

-- LANES

pub gains_lane : (old new : Line) (works : List Work) (answers : List (Result Reply LineFault)) → AreFetched old works answers new → Gains old (told_by_all works answers) new
gains_lane old new [] [] h = subst (λ (l : Line). Gains old [] l) (sym h) (gains_none old)
gains_lane old new (work ∷ works) (answer ∷ answers) (mid, first, rest) =
    gains_trans old mid new (told_by answer (record { permits = names_of work.permits.items; call = work.call; answer = answer })) (told_by_all works answers) (gains_fetch old work.permits.items work.call answer mid first) (gains_lane mid new works answers rest)
gains_lane old new [] (answer ∷ answers) h = absurd h
gains_lane old new (work ∷ works) [] h = absurd h
