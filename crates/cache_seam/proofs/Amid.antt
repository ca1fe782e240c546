-- Calls between which a second user steps on the book.
use Rattle.std.proofs.Common.{◌≡◌, ◌≢◌, inl, inr, ℕ, ◌==◌, Bool, true, false, List, [], ◌∷◌, length, drop, Vec, Global, Option, None, All, refl, ap, sym, subst, ◌∙◌, arith}
use Rattle.std.specs.Prelude.{if◌then◌else◌, Result, Ok, Err, IfOk, OnErr}
use Rattle.std.proofs.lemmas.Bool.Decides.{nat_tests}
use Rattle.std.proofs.lemmas.List.Elements.{All-head, All-tail, All-nil, All-drop}
use Rattle.cache_terms.specs.declared.keys.Key.{Key}
use Rattle.cache_terms.specs.declared.keys.Target.{Target}
use Rattle.cache_terms.specs.declared.offers.Offer.{Offer}
use Rattle.cache_terms.specs.declared.events.Event.{Event}
use Rattle.cache_book.specs.declared.answers.Turned.{Turned}
use Rattle.cache_book.specs.declared.answers.Turned.TheVariants as turn
use Rattle.cache_book.specs.declared.answers.Voided as voided
use Rattle.cache_book.specs.declared.found.Found.{Found}
use Rattle.cache_book.specs.declared.found.Found.TheVariants as found
use Rattle.cache_book.specs.declared.permit.Report.TheVariants as report
use Rattle.cache_model.specs.State.{State}
use Rattle.cache_model.specs.Story.{Without}
use Rattle.cache_model.proofs.StoryLaws.{without_refl, without_trans, by_without}
use Rattle.cache_book.specs.Permits.{Pinned}
use Rattle.cache_book.specs.Looking.{bypass_mark}
use Rattle.cache_book.specs.Settling.{IsInRange}
use Rattle.cache_book.specs.Voiding.{VoidsBy, turning}
use Rattle.cache_book.specs.Owed.{AreOwed}
use Rattle.cache_book.specs.Calls.{Call, Answer, Step, MayCall, Begin, Look, Settle, Invalidate, Begun, Looked, Closed, Voided, OutOfMemory}
use Rattle.cache_book.proofs.Stepping.{step_by}
use Rattle.cache_book.proofs.Outliving.{look_owed}
use Rattle.cache_seam.specs.declared.foreign.Foreign.{Foreign}
use Rattle.cache_seam.specs.declared.foreign.Foreign.TheVariants as foreign
use Rattle.cache_seam.specs.Objects.{KeepsObjects, OffersObject, CallOffersObject}
use Rattle.cache_seam.specs.Turns.{Calls, IsOwnCall, pinned_after, begun_after, seen_after}
use Rattle.cache_seam.specs.Hand.{AreAnswers}
use Rattle.cache_seam.specs.Meddling.{Meddling, seen_meddled, IsFitting, SettlesMiss, Puts, MayDo, Meddles, IsSetAside, IsBetweenCalls, first_steps, steps_of, MeddledCall}
use Rattle.cache_seam.proofs.Hands.{looks_granted, coherent_after}
use Rattle.cache_seam.proofs.LoneCalls.{lawful_after, pinned_to_left}
use Rattle.cache_seam.proofs.Coherent.{is_turn}

-- ONE ANSWER

one_answer : (pass : Pinned) (id : Option (List ℕ)) (key : Key) (fs : List Found) → AreAnswers pass id (key ∷ []) fs → length fs ≡ 1
one_answer pass id key [] h = absurd h
one_answer pass id key (found.Hit l q v m b ∷ []) h = refl
one_answer pass id key (found.Miss l p ∷ []) h = refl
one_answer pass id key (found.Bypass p ∷ []) h = refl
one_answer pass id key (found.Hit l q v m b ∷ f ∷ fs) h = absurd h
one_answer pass id key (found.Miss l p ∷ f ∷ fs) h = absurd h.1
one_answer pass id key (found.Bypass p ∷ f ∷ fs) h = absurd h.1

-- a look for one key has one answer
pub look_one : (old : State) (pass : Pinned) (id : Option (List ℕ)) (key : Key) (now : ℕ) (fs : List Found) (new : State) → Step old (Look pass id (key ∷ []) now) (Looked fs) new → length fs ≡ 1
look_one old pass id key now fs new h = one_answer pass id key fs (looks_granted (bypass_mark old pass 1) old pass id (key ∷ []) now fs new h)

no_length : {A : Type 0} (xs : List A) → length xs ≡ 0 → xs ≡ []
no_length [] h = refl
no_length (x ∷ xs) h = absurd (omega (arith, h))

pub nothing_left : {A : Type 0} (xs : List A) → length xs ≡ 0 → xs ≡ []
nothing_left xs h = no_length xs h

-- THE SECOND USER

begins_without : (pass : Pinned) (old new : State) (after : Pinned) → Step old (Begin 1) (Begun after) new → Without old new 0 × (after.who ≡ 1)
begins_without pass old new after h = (by_without 0 1 old new (step_by old (Begin 1) (Begun after) new 1 refl h) (λ is. absurd (omega (arith, is))), ap (λ (p : Pinned). p.who) h.1)

closes_without : (answer : Found) (pass : Pinned) (id : Option (List ℕ)) (key : Key) (mid : State) (offer : Offer) (new : State) → pass.who ≡ 1 → AreAnswers pass id (key ∷ []) (answer ∷ []) → SettlesMiss answer mid offer new → Without mid new 0
closes_without (found.Hit l q v m b) pass id key mid offer new who granted h = subst (λ (s : State). Without mid s 0) (sym h) (without_refl 0 mid)
closes_without (found.Miss l p) pass id key mid offer new who granted h = by_without 0 1 mid new (step_by mid (Settle p (report.Got offer)) (Closed h.0) new 1 (granted.0.who ∙ who) h.1) (λ is. absurd (omega (arith, is)))
closes_without (found.Bypass p) pass id key mid offer new who granted h = by_without 0 1 mid new (step_by mid (Settle p (report.Got offer)) (Closed h.0) new 1 (granted.0.who ∙ who) h.1) (λ is. absurd (omega (arith, is)))

puts_without : (pass : Pinned) (key : Key) (id : Option (List ℕ)) (offer : Offer) (now : ℕ) (old new : State) → pass.who ≡ 1 → Puts pass key id offer now old new → Without old new 0
puts_without pass key id offer now old new who h =
    let granted = looks_granted (bypass_mark old pass 1) old pass id (key ∷ []) now (h.answer ∷ []) h.mid h.looks in
    without_trans 0 old h.mid new (by_without 0 1 old h.mid (step_by old (Look pass id (key ∷ []) now) (Looked (h.answer ∷ [])) h.mid 1 who h.looks) (λ is. absurd (omega (arith, is)))) (closes_without h.answer pass id key h.mid offer new who granted h.closes)

-- it adds no event of the first user
may_do_without : (step : Foreign) (pass : Pinned) (old new : State) (after : Pinned) → pass.who ≡ 1 → MayDo step pass old new after → Without old new 0 × (after.who ≡ 1)
may_do_without step pass old new after who (inr h) = (subst (λ (s : State). Without old s 0) (sym h.0) (without_refl 0 old), ap (λ (p : Pinned). p.who) h.1 ∙ who)
may_do_without foreign.Begin pass old new after who (inl h) = begins_without pass old new after h
may_do_without (foreign.Void target) pass old new after who (inl h) = (by_without 0 1 old new (step_by old (Invalidate 1 target) (Voided h.0.0) new 1 refl h.0.1) (λ is. absurd (omega (arith, is))), ap (λ (p : Pinned). p.who) h.1 ∙ who)
may_do_without (foreign.Put key id offer now) pass old new after who (inl h) = (puts_without pass key id offer now old new who h.0, ap (λ (p : Pinned). p.who) h.1 ∙ who)

pub meddles_without : (steps : List Foreign) (pass : Pinned) (old new : State) (after : Pinned) → pass.who ≡ 1 → Meddles steps pass old new after → Without old new 0 × (after.who ≡ 1)
meddles_without [] pass old new after who h = (subst (λ (s : State). Without old s 0) (sym h.0) (without_refl 0 old), ap (λ (p : Pinned). p.who) h.1 ∙ who)
meddles_without (step ∷ steps) pass old new after who (mid, between, h, k) =
    let first = may_do_without step pass old mid between who h in
    let rest = meddles_without steps between mid new after first.1 k in
    (without_trans 0 old mid new first.0 rest.0, rest.1)

closes_lawful : (answer : Found) (mid : State) (offer : Offer) (new : State) → OffersObject (report.Got offer) → IsInRange (report.Got offer) → AreOwed mid (answer ∷ []) → KeepsObjects mid → SettlesMiss answer mid offer new → KeepsObjects new
closes_lawful (found.Hit l q v m b) mid offer new object range owed lawful h = subst KeepsObjects (sym h) lawful
closes_lawful (found.Miss l p) mid offer new object range owed lawful h = lawful_after mid (Settle p (report.Got offer)) (Closed h.0) new lawful (owed.0, range) object h.1
closes_lawful (found.Bypass p) mid offer new object range owed lawful h = lawful_after mid (Settle p (report.Got offer)) (Closed h.0) new lawful (owed.0, range) object h.1

puts_lawful : (pass : Pinned) (key : Key) (id : Option (List ℕ)) (offer : Offer) (now : ℕ) (old new : State) → OffersObject (report.Got offer) → IsInRange (report.Got offer) → KeepsObjects old → Puts pass key id offer now old new → KeepsObjects new
puts_lawful pass key id offer now old new object range lawful h =
    let mid = lawful_after old (Look pass id (key ∷ []) now) (Looked (h.answer ∷ [])) h.mid lawful tt tt h.looks in
    let owed = look_owed old pass id (key ∷ []) now (h.answer ∷ []) h.mid lawful.legal h.looks in
    closes_lawful h.answer h.mid offer new object range owed mid h.closes

may_do_lawful : (step : Foreign) (pass : Pinned) (old new : State) (after : Pinned) → IsFitting step → KeepsObjects old → MayDo step pass old new after → KeepsObjects new
may_do_lawful step pass old new after fits lawful (inr h) = subst KeepsObjects (sym h.0) lawful
may_do_lawful foreign.Begin pass old new after fits lawful (inl h) = lawful_after old (Begin 1) (Begun after) new lawful tt tt h
may_do_lawful (foreign.Void target) pass old new after fits lawful (inl h) = lawful_after old (Invalidate 1 target) (Voided h.0.0) new lawful tt tt h.0.1
may_do_lawful (foreign.Put key id offer now) pass old new after fits lawful (inl h) = puts_lawful pass key id offer now old new fits.0 fits.1 lawful h.0

-- it leaves a lawful state
pub meddles_lawful : (steps : List Foreign) (pass : Pinned) (old new : State) (after : Pinned) → All IsFitting steps → KeepsObjects old → Meddles steps pass old new after → KeepsObjects new
meddles_lawful [] pass old new after fits lawful h = subst KeepsObjects (sym h.0) lawful
meddles_lawful (step ∷ steps) pass old new after fits lawful (mid, between, h, k) = meddles_lawful steps between mid new after (All-tail IsFitting step steps fits) (may_do_lawful step pass old mid between (All-head IsFitting step steps fits) lawful h) k

-- each of its steps may find no memory
pub meddles_not : (steps : List Foreign) (pass : Pinned) (s : State) → Meddles steps pass s s pass
meddles_not [] pass s = (refl, refl)
meddles_not (step ∷ steps) pass s = (s, pass, inr (refl, refl), meddles_not steps pass s)

-- THE FIRST USER

test_true : (a b : ℕ) → (a == b) ≡ true → a ≡ b
test_true a b test = grind (arith, nat_tests)

test_false : (a b : ℕ) → (a == b) ≡ false → a ≢ b
test_false a b test = grind (arith, nat_tests)

pinned_there : (call : Call) (a b left : ℕ) → a ≡ b → pinned_after call a left ≡ left → pinned_after call b left ≡ left
pinned_there call a b left is h = subst (λ (p : ℕ). pinned_after call p left ≡ left) is h

kept_is : (old found new : State) (pinned : ℕ) (past kept : List Event) (call : Call) (answer : Answer) → IsSetAside old found pinned past kept → Step found call answer new → new.epoch ≢ pinned_after call pinned new.epoch → kept ≡ (if old.epoch == pinned then old.journal else past)
kept_is old found new pinned past kept call answer (inl is) h differ = is
kept_is old found new pinned past kept call answer (inr is) h differ = is.1 ∙ by_test (old.epoch == pinned) refl
  where
    by_test : (b : Bool) → (old.epoch == pinned) ≡ b → past ≡ (if b then old.journal else past)
    by_test true test =
        let here : found.epoch ≡ pinned = ap (λ (s : State). s.epoch) is.0 ∙ test_true old.epoch pinned test in
        absurd (differ (sym (pinned_there call found.epoch pinned new.epoch here (pinned_to_left found call answer new h))))
    by_test false test = refl

-- what is seen is what the turn leaves
seen_there : (old found new : State) (pinned after : ℕ) (begun : Bool) (past kept : List Event) (call : Call) (answer : Answer) → IsSetAside old found pinned past kept → Step found call answer new → after ≡ pinned_after call pinned new.epoch
    → seen_meddled new after (begun_after call begun) kept ≡ seen_after (seen_meddled old pinned begun past) (record { found = found; call = call; answer = answer; left = new })
seen_there old found new pinned after begun past kept call answer k h is =
    ap (λ (p : ℕ). seen_meddled new p (begun_after call begun) kept) is
    ∙ ap (λ (J : List Event). record { number = 0; pinned = pinned_after call pinned new.epoch; begun = begun_after call begun; journal = J; left = new; home = []; lone = false; trace = None }) (by_test (new.epoch == pinned_after call pinned new.epoch) refl)
  where
    by_test : (b : Bool) → (new.epoch == pinned_after call pinned new.epoch) ≡ b → (if b then new.journal else kept) ≡ (if b then new.journal else (if old.epoch == pinned then old.journal else past))
    by_test true test = refl
    by_test false test = kept_is old found new pinned past kept call answer k h (test_false new.epoch (pinned_after call pinned new.epoch) test)

-- what is known of the cache before a call, of what the second user then did, and of the step that the first user makes
pub record Acts (old found new : State) (own : Pinned) (pinned pin : ℕ) (begun : Bool) (past kept : List Event) (second after : Pinned) (later rest : List (List Foreign)) (call : Call) (answer : Answer) : Type 0 where
  pub ready : IsBetweenCalls old own pinned begun past second later
  pub meddles : Meddles (first_steps later) second old found after
  pub kept_is : IsSetAside old found pinned past kept
  pub rest_is : rest ≡ drop 1 later
  pub is_own : IsOwnCall (seen_meddled old pinned begun past) call
  pub may : MayCall found call
  pub offers : CallOffersObject call
  pub step : Step found call answer new
  pub pin_is : pin ≡ pinned_after call pinned new.epoch

first_fits : (later : List (List Foreign)) → All (All IsFitting) later → All IsFitting (first_steps later)
first_fits [] all = All-nil IsFitting
first_fits (steps ∷ later) all = All-head (All IsFitting) steps later all

pub found_without : (old found : State) (own : Pinned) (pinned : ℕ) (begun : Bool) (past : List Event) (second after : Pinned) (later : List (List Foreign)) → IsBetweenCalls old own pinned begun past second later → Meddles (first_steps later) second old found after → Without old found 0
found_without old found own pinned begun past second after later r h = (meddles_without (first_steps later) second old found after r.number h).0

pub found_lawful : (old found : State) (own : Pinned) (pinned : ℕ) (begun : Bool) (past : List Event) (second after : Pinned) (later : List (List Foreign)) → IsBetweenCalls old own pinned begun past second later → Meddles (first_steps later) second old found after → KeepsObjects found
found_lawful old found own pinned begun past second after later r h = meddles_lawful (first_steps later) second old found after (first_fits later r.fitting) r.coherent.lawful h

-- a step of the first user is a call amid those of the second
pub amid_call : (old found new : State) (own : Pinned) (pinned pin : ℕ) (begun : Bool) (past kept : List Event) (second after : Pinned) (later rest : List (List Foreign)) (call : Call) (answer : Answer) → Acts old found new own pinned pin begun past kept second after later rest call answer
    → MeddledCall (record { seen = seen_meddled old pinned begun past; pass = second; later = later }) call answer (record { seen = seen_meddled new pin (begun_after call begun) kept; pass = after; later = rest })
amid_call old found new own pinned pin begun past kept second after later rest call answer a = record {
  calls = record {
    turn = record { found = found; call = call; answer = answer; left = new };
    call_is = refl;
    answer_is = refl;
    is_turn = is_turn (seen_meddled old pinned begun past) (record { found = found; call = call; answer = answer; left = new }) (record {
      before = a.ready.coherent;
      own = a.is_own;
      goes_on = found_without old found own pinned begun past second after later a.ready a.meddles;
      alone = λ lone. absurd (cc lone);
      found_lawful = found_lawful old found own pinned begun past second after later a.ready a.meddles;
      may = a.may;
      offers = a.offers;
      step = a.step;
    });
    after = seen_there old found new pinned pin begun past kept call answer a.kept_is a.step a.pin_is;
  };
  meddles = a.meddles;
  later = a.rest_is;
}

-- and leaves the cache ready for the next
pub amid_ready : (old found new : State) (own : Pinned) (pinned pin : ℕ) (begun : Bool) (past kept : List Event) (second after : Pinned) (later rest : List (List Foreign)) (call : Call) (answer : Answer) → Acts old found new own pinned pin begun past kept second after later rest call answer
    → (then_own : Pinned) → (begun_after call begun ≡ true → then_own ≡ record { who = 0; epoch = pin }) → IsBetweenCalls new then_own pin (begun_after call begun) kept after rest
amid_ready old found new own pinned pin begun past kept second after later rest call answer a then_own is = record {
  coherent = coherent_after (seen_meddled old pinned begun past) (seen_meddled new pin (begun_after call begun) kept) call answer (amid_call old found new own pinned pin begun past kept second after later rest call answer a).calls;
  own = is;
  number = (meddles_without (first_steps later) second old found after a.ready.number a.meddles).1;
  fitting = subst (All (All IsFitting)) (sym a.rest_is) (All-drop (All IsFitting) 1 later a.ready.fitting);
}

-- A LOOK

pub look_acts : (old found new : State) (own : Pinned) (pinned : ℕ) (begun : Bool) (past kept : List Event) (second after : Pinned) (later rest : List (List Foreign)) (id : Option (List ℕ)) (asks : List Key) (now : ℕ) (answer : Answer)
    → IsBetweenCalls old own pinned begun past second later → Meddles (first_steps later) second old found after → IsSetAside old found pinned past kept → rest ≡ drop 1 later → begun ≡ true → Step found (Look own id asks now) answer new
    → Acts old found new own pinned pinned begun past kept second after later rest (Look own id asks now) answer
look_acts old found new own pinned begun past kept second after later rest id asks now answer r h k d b s = record { ready = r; meddles = h; kept_is = k; rest_is = d; is_own = (r.own b, b); may = tt; offers = tt; step = s; pin_is = refl }

look_amid : (old found new : State) (own : Pinned) (pinned : ℕ) (begun : Bool) (past kept : List Event) (second after : Pinned) (later rest : List (List Foreign)) (id : Option (List ℕ)) (asks : List Key) (now : ℕ) (answer : Answer)
    → IsBetweenCalls old own pinned begun past second later → Meddles (first_steps later) second old found after → IsSetAside old found pinned past kept → rest ≡ drop 1 later → begun ≡ true → Step found (Look own id asks now) answer new
    → MeddledCall (record { seen = seen_meddled old pinned begun past; pass = second; later = later }) (Look (record { who = 0; epoch = pinned }) id asks now) answer (record { seen = seen_meddled new pinned begun kept; pass = after; later = rest })
look_amid old found new own pinned begun past kept second after later rest id asks now answer r h k d b s =
    subst (λ (p : Pinned). MeddledCall (record { seen = seen_meddled old pinned begun past; pass = second; later = later }) (Look p id asks now) answer (record { seen = seen_meddled new pinned begun kept; pass = after; later = rest })) (r.own b)
    (amid_call old found new own pinned pinned begun past kept second after later rest (Look own id asks now) answer (look_acts old found new own pinned begun past kept second after later rest id asks now answer r h k d b s))

pub looks_amid : {X Y : Type 0} (res : Result X Y) (told : X → List Found) (old found new : State) (own : Pinned) (pinned : ℕ) (begun : Bool) (past kept : List Event) (second after : Pinned) (later rest : List (List Foreign)) (id : Option (List ℕ)) (asks : List Key) (now : ℕ)
    → IsBetweenCalls old own pinned begun past second later → Meddles (first_steps later) second old found after → IsSetAside old found pinned past kept → rest ≡ drop 1 later → begun ≡ true → IfOk res (λ a. Step found (Look own id asks now) (Looked (told a)) new)
    → IfOk res (λ a. MeddledCall (record { seen = seen_meddled old pinned begun past; pass = second; later = later }) (Look (record { who = 0; epoch = pinned }) id asks now) (Looked (told a)) (record { seen = seen_meddled new pinned begun kept; pass = after; later = rest }))
looks_amid (Ok a) told old found new own pinned begun past kept second after later rest id asks now r h k d b s = look_amid old found new own pinned begun past kept second after later rest id asks now (Looked (told a)) r h k d b s
looks_amid (Err e) told old found new own pinned begun past kept second after later rest id asks now r h k d b s = tt

pub looks_amid_not : {X Y : Type 0} (res : Result X Y) (old found new : State) (own : Pinned) (pinned : ℕ) (begun : Bool) (past kept : List Event) (second after : Pinned) (later rest : List (List Foreign)) (id : Option (List ℕ)) (asks : List Key) (now : ℕ)
    → IsBetweenCalls old own pinned begun past second later → Meddles (first_steps later) second old found after → IsSetAside old found pinned past kept → rest ≡ drop 1 later → begun ≡ true → OnErr res (Step found (Look own id asks now) OutOfMemory new)
    → OnErr res (MeddledCall (record { seen = seen_meddled old pinned begun past; pass = second; later = later }) (Look (record { who = 0; epoch = pinned }) id asks now) OutOfMemory (record { seen = seen_meddled new pinned begun kept; pass = after; later = rest }))
looks_amid_not (Ok a) old found new own pinned begun past kept second after later rest id asks now r h k d b s = tt
looks_amid_not (Err e) old found new own pinned begun past kept second after later rest id asks now r h k d b s = look_amid old found new own pinned begun past kept second after later rest id asks now OutOfMemory r h k d b s

ok_calls : {X Y : Type 0} (res : Result X Y) (told : X → List Found) (old new : Meddling) (call : Call) → IfOk res (λ a. MeddledCall old call (Looked (told a)) new) → IfOk res (λ a. Calls old.seen call (Looked (told a)) new.seen)
ok_calls (Ok a) told old new call h = h.calls
ok_calls (Err e) told old new call h = tt

err_calls : {X Y : Type 0} (res : Result X Y) (old new : Meddling) (call : Call) (answer : Answer) → OnErr res (MeddledCall old call answer new) → OnErr res (Calls old.seen call answer new.seen)
err_calls (Ok a) old new call answer h = tt
err_calls (Err e) old new call answer h = h.calls

pub looks_calls : {X Y : Type 0} (res : Result X Y) (told : X → List Found) (old new : Meddling) (call : Call) → IfOk res (λ a. MeddledCall old call (Looked (told a)) new) → IfOk res (λ a. Calls old.seen call (Looked (told a)) new.seen)
looks_calls res told old new call h = ok_calls res told old new call h

pub looks_calls_not : {X Y : Type 0} (res : Result X Y) (old new : Meddling) (call : Call) (answer : Answer) → OnErr res (MeddledCall old call answer new) → OnErr res (Calls old.seen call answer new.seen)
looks_calls_not res old new call answer h = err_calls res old new call answer h

pub looks_ready : {X Y : Type 0} (res : Result X Y) (told : X → List Found) (old found new : State) (own : Pinned) (pinned : ℕ) (begun : Bool) (past kept : List Event) (second after : Pinned) (later rest : List (List Foreign)) (id : Option (List ℕ)) (asks : List Key) (now : ℕ)
    → IsBetweenCalls old own pinned begun past second later → Meddles (first_steps later) second old found after → IsSetAside old found pinned past kept → rest ≡ drop 1 later → begun ≡ true → IfOk res (λ a. Step found (Look own id asks now) (Looked (told a)) new) → OnErr res (Step found (Look own id asks now) OutOfMemory new)
    → IsBetweenCalls new own pinned begun kept after rest
looks_ready (Ok a) told old found new own pinned begun past kept second after later rest id asks now r h k d b ok err =
    amid_ready old found new own pinned pinned begun past kept second after later rest (Look own id asks now) (Looked (told a)) (look_acts old found new own pinned begun past kept second after later rest id asks now (Looked (told a)) r h k d b ok) own r.own
looks_ready (Err e) told old found new own pinned begun past kept second after later rest id asks now r h k d b ok err =
    amid_ready old found new own pinned pinned begun past kept second after later rest (Look own id asks now) OutOfMemory (look_acts old found new own pinned begun past kept second after later rest id asks now OutOfMemory r h k d b err) own r.own

-- an invalidation answers the epoch that it leaves
pub voided_epoch : (old : State) (who : ℕ) (target : Target) (v : voided.Voided) (new : State) → Step old (Invalidate who target) (Voided v) new → v.epoch ≡ new.epoch
voided_epoch old who target v new h = by_case (turning old) h
  where
    by_case : (how : Turned) → VoidsBy how old who target v new → v.epoch ≡ new.epoch
    by_case turn.No k = k.epoch ∙ sym (ap (λ (s : State). s.epoch) k.after)
    by_case (turn.Full a b d) k = k.epoch ∙ sym (ap (λ (s : State). s.epoch) k.after)
    by_case turn.Retired k = ap (λ (w : voided.Voided). w.epoch) k.answer_is ∙ sym (ap (λ (s : State). s.epoch) k.same)

-- THE LISTS OF STEPS

-- the next list of steps has fitting offers
pub fits_of : (lists rest : List (Vec Foreign Global)) (steps : Vec Foreign Global) → lists ≡ steps ∷ rest → All (All IsFitting) (steps_of lists) → All IsFitting steps.items
fits_of lists rest steps is all = All-head (All IsFitting) steps.items (steps_of rest) (subst (λ (xs : List (Vec Foreign Global)). All (All IsFitting) (steps_of xs)) is all)
