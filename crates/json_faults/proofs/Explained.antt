-- Each fault is the first one, at its place, and there is no other.
use Rattle.std.proofs.Common.{◌≡◌, ℕ, suc, ◌+◌, ◌<◌, true, List, [], ◌∷◌, ◌++◌, length, take, drop, get_or, Result, Ok, Err, refl, sym, ap, subst, ◌∙◌, arith, append_assoc, ◌⊎◌, inl, inr, length-append}
use Rattle.std.specs.Prelude.{IfErr}
use Rattle.std.proofs.lemmas.List.{take_at, take-append-drop, length-take-le}
use Rattle.std.proofs.Math.Seq.{take-suc, drop-cons}
use Rattle.std.proofs.lemmas.Bool.Decides.{nat_tests}
use Rattle.json_value.specs.declared.tree.Json.{Json}
use Rattle.json_machine.specs.Refusal.{Refusal}
use Rattle.json_machine.specs.Refusal as e
use Rattle.json_value.specs.declared.fault.JsonFault.{JsonFault}
use Rattle.json_value.specs.declared.fault.JsonFault.TheVariants as faults
use Rattle.json_machine.specs.Mode.{Mode}
use Rattle.json_value.specs.Grammar.{Rules, strict, IsViable}
use Rattle.json_faults.specs.Faults.{lone, deeper, any_names, StopsAt, SequenceAt, HighAt, LowAt, NameAt, SurrogateAt, NoRule, MalformedAt, Explains}
use Rattle.exact_read.specs.Steps.{run}
use Rattle.json_machine.specs.Machine.{Frames, ReaderState, Stepped, step_by, step, start, finish, finish_by, placed, whole, read_of, Reads}
use Rattle.json_machine.proofs.Frames.{Left}
use Rattle.json_faults.proofs.Laxer.{Laxer, lone_deeper, lone_any_names, run_agrees}
use Rattle.json_faults.proofs.Judged.{Fits, StillFits, Judged, GoesOn, step_by_judged, step_by_fits}
use Rattle.json_faults.proofs.Places.{OutcomeAt, refused_at}
use Rattle.json_machine.proofs.Whole.{Valid, sound, goes, keeps, ends, start_text, text_start, read_only}
use Rattle.exact_read.proofs.Machines.{err_is, differ, Refused, refused, run_sound, run_keeps, refused_is_not_viable, run_both}
use Rattle.json_faults.proofs.Viable.{viable_runs, runs_viable, after_viable}
use Rattle.json_faults.proofs.Placed.{sequence_standing, wide_refusal}
use Rattle.json_faults.proofs.Escapes.{high_standing, waiting_refusal, low_refusal}
use Rattle.json_faults.proofs.NamesAt.{name_standing, twice_refusal}
use Rattle.json_faults.proofs.Bytes.{AreBytes, run_same}

same_rules : Laxer lone lone
same_rules = record { deeper = omega arith; names = λ x h. h; same_cut = refl }

-- the state is valid, and within the depth
abbrev Sure : ReaderState → Type 0
Sure s = Valid s × Fits s.mode s.frames

sure_goes : (at : ℕ) (s : ReaderState) (t : ℕ) (w : List ℕ) (v : Json) → Sure s → Left lone s (t ∷ w) v → (next : ReaderState) × (step lone at s t ≡ Ok next) × Left lone next w v
sure_goes at s t w v sure left = goes lone at s t w v sure.0 left

sure_keeps : (at : ℕ) (s : ReaderState) (t : ℕ) (next : ReaderState) → Sure s → step lone at s t ≡ Ok next → Sure next
unfolding step
sure_keeps at s t next sure is = (keeps lone at s t next sure.0 is, subst StillFits is (step_by_fits at s.mode s.frames t sure.1))

start_sure : Sure start
start_sure = (tt, omega arith)

module _ (bytes : List ℕ) (why : Refusal) (p : ℕ) (is : run (step lone) bytes 0 start ≡ Err (why, p)) where
  f : Refused (step lone) bytes 0 start why p
  f = refused (step lone) bytes 0 start why p is

  place_is : length f.front ≡ p
  place_is = omega (arith, f.place)

  stops : step lone (length f.front) f.state f.token ≡ Err why
  stops = ap (λ (n : ℕ). step lone n f.state f.token) place_is ∙ f.stops

  sure : Sure f.state
  sure = run_keeps (step lone) Sure (Left lone) (sound lone) sure_goes sure_keeps f.front 0 start f.state start_sure f.reaches

  judged : Judged (λ r. step r p f.state f.token) (Err why)
  unfolding step
  judged = subst (λ (o : Stepped). Judged (λ r. step_by r p f.state.mode f.state.frames f.token) o) f.stops (step_by_judged p f.state.mode f.state.frames f.token sure.1)

  next_front : List ℕ
  next_front = f.front ++ (f.token ∷ [])

  not_viable : (r : Rules) (why' : Refusal) → Laxer lone r → step r p f.state f.token ≡ Err why' → IsViable r (f.front ++ (f.token ∷ [])) → ⊥
  not_viable r why' laxer refuses (w, v, text) =
      let g : Refused (step r) bytes 0 start why' p = record { front = f.front; token = f.token; rest = f.rest; state = f.state; parts = f.parts; place = f.place; reaches = run_agrees lone r laxer f.front 0 start f.state f.reaches; stops = refuses } in
      refused_is_not_viable (step r) Valid (Left r) (sound r) (goes r) (keeps r) bytes 0 start why' p g tt (w, v, text_start r v ((f.front ++ (f.token ∷ [])) ++ w) text)

  goes_on : (r : Rules) → r.cut ≡ true → Laxer lone r → GoesOn (step r p f.state f.token) → IsViable r (f.front ++ (f.token ∷ []))
  goes_on r on laxer (next, stepped) =
      let end = ends r on next (keeps r p f.state f.token next sure.0 stepped) in
      let left = run_sound (step r) Valid (Left r) (sound r) (goes r) (keeps r) f.front 0 start f.state (f.token ∷ end.0) end.1 (run_agrees lone r laxer f.front 0 start f.state f.reaches) (sound r p f.state f.token next end.0 end.1 stepped end.2) in
      (end.0, end.1, start_text r end.1 _ (subst (λ (q : List ℕ). Left r start q end.1) (sym (append_assoc f.front (f.token ∷ []) end.0)) left))

  inside_text : p < length bytes
  inside_text =
      let long : length bytes ≡ length f.front + suc (length f.rest) = ap length f.parts ∙ length-append f.front (f.token ∷ f.rest) in
      omega (arith, long, place_is)

  upto : take p bytes ≡ f.front
  upto = ap (take p) f.parts ∙ take_at f.front (f.token ∷ f.rest) p place_is

  upto_next : take (p + 1) bytes ≡ f.front ++ (f.token ∷ [])
  upto_next =
      let cut : bytes ≡ (f.front ++ (f.token ∷ [])) ++ f.rest = f.parts ∙ sym (append_assoc f.front (f.token ∷ []) f.rest) in
      let long : length (f.front ++ (f.token ∷ [])) ≡ p + 1 = omega (arith, length-append f.front (f.token ∷ []), place_is) in
      ap (take (p + 1)) cut ∙ take_at (f.front ++ (f.token ∷ [])) f.rest (p + 1) long

  stops_here : StopsAt bytes p
  stops_here = record {
    within = inside_text;
    before = subst (IsViable lone) (sym upto) (runs_viable lone f.front f.state refl f.reaches);
    here = λ viable. not_viable lone why same_rules f.stops (subst (IsViable lone) upto_next viable);
  }

  stands : OutcomeAt f.front f.token (Err why)
  stands = refused_at f.front f.token f.state why f.reaches stops

  -- what stands in the text says why
  surrogate_is : (place : ℕ) → SurrogateAt bytes p place → why ≡ e.Surrogate place
  surrogate_is place (inl high) = waiting_refusal place (length f.front) f.state f.token why (high_standing place f.front f.state (subst (HighAt place) upto high) f.reaches) stops
  surrogate_is place (inr low) = low_refusal place f.front f.token f.state why (subst (LowAt place) upto_next low) f.reaches stops

  sequence_is : (place : ℕ) → SequenceAt place (take p bytes) → why ≡ e.Malformed place
  sequence_is place seq = wide_refusal place (length f.front) f.state f.token why (sequence_standing place f.front f.state (subst (SequenceAt place) upto seq) f.reaches) stops

  twice_is : (place place' : ℕ) → why ≡ e.Twice place' → NameAt place (take (p + 1) bytes) → place' ≡ place
  twice_is place place' same at = twice_refusal place (length f.front) f.state f.token place' (name_standing place f.front f.token f.state (subst (NameAt place) upto_next at) f.reaches) (stops ∙ ap (λ (q : Refusal). Err q) same)

  judged_as : (why' : Refusal) → why ≡ why' → Judged (λ r. step r p f.state f.token) (Err why')
  judged_as why' same = subst (λ (q : Refusal). Judged (λ r. step r p f.state f.token) (Err q)) same judged

  stands_as : (why' : Refusal) → why ≡ why' → OutcomeAt f.front f.token (Err why')
  stands_as why' same = subst (λ (q : Refusal). OutcomeAt f.front f.token (Err q)) same stands

  deeper_not : (why' : Refusal) → step deeper p f.state f.token ≡ Err why' → IsViable deeper (take (p + 1) bytes) → ⊥
  deeper_not why' refuses viable = not_viable deeper why' lone_deeper refuses (subst (IsViable deeper) upto_next viable)

  names_not : (why' : Refusal) → step any_names p f.state f.token ≡ Err why' → IsViable any_names (take (p + 1) bytes) → ⊥
  names_not why' refuses viable = not_viable any_names why' lone_any_names refuses (subst (IsViable any_names) upto_next viable)

  deeper_goes : GoesOn (step deeper p f.state f.token) → IsViable deeper (take (p + 1) bytes)
  deeper_goes on = subst (IsViable deeper) (sym upto_next) (goes_on deeper refl lone_deeper on)

  names_go : GoesOn (step any_names p f.state f.token) → IsViable any_names (take (p + 1) bytes)
  names_go on = subst (IsViable any_names) (sym upto_next) (goes_on any_names refl lone_any_names on)

  no_rule : (why' : Refusal) → (step deeper p f.state f.token ≡ Err why') × (step any_names p f.state f.token ≡ Err why') → ((place : ℕ) → why ≡ e.Surrogate place → ⊥) → NoRule bytes p
  no_rule why' both not = record { depth = deeper_not why' both.0; names = names_not why' both.1; surrogates = λ place at. not place (surrogate_is place at) }

  surrogate_at : (place : ℕ) → HighAt place f.front ⊎ LowAt place (f.front ++ (f.token ∷ [])) → SurrogateAt bytes p place
  surrogate_at place (inl high) = inl (subst (HighAt place) (sym upto) high)
  surrogate_at place (inr low) = inr (subst (LowAt place) (sym upto_next) low)

  pub explained : (why' : Refusal) → why ≡ why' → Explains bytes (placed why' p)
  explained e.Syntax same = (p, stops_here, no_rule e.Syntax (judged_as e.Syntax same) (λ place k. cc), inr (refl, λ place at. unlike (sym same ∙ sequence_is place at)))
    where
      unlike : {place : ℕ} → e.Syntax ≡ e.Malformed place → ⊥
      unlike k = cc
  explained (e.Malformed place) same =
      (p, stops_here, no_rule (e.Malformed place) (judged_as (e.Malformed place) same) (λ place' k. cc), inl (subst (SequenceAt place) (sym upto) (stands_as (e.Malformed place) same)))
  explained e.Deep same = (stops_here, deeper_goes (judged_as e.Deep same).0)
  explained (e.Twice place) same = (p, stops_here, names_go (judged_as (e.Twice place) same).0, subst (NameAt place) (sym upto_next) (stands_as (e.Twice place) same))
  explained (e.Surrogate place) same = (p, stops_here, surrogate_at place (stands_as (e.Surrogate place) same))

  -- ---- and each explanation is that one

  deep_only : (why' : Refusal) → why ≡ why' → IsViable deeper (take (p + 1) bytes) → why' ≡ e.Deep
  deep_only e.Syntax same viable = absurd (deeper_not e.Syntax (judged_as e.Syntax same).0 viable)
  deep_only e.Deep same viable = refl
  deep_only (e.Malformed place) same viable = absurd (deeper_not (e.Malformed place) (judged_as (e.Malformed place) same).0 viable)
  deep_only (e.Surrogate place) same viable = absurd (deeper_not (e.Surrogate place) (judged_as (e.Surrogate place) same).0 viable)
  deep_only (e.Twice place) same viable = absurd (deeper_not (e.Twice place) (judged_as (e.Twice place) same).1 viable)

  twice_only : (place : ℕ) (why' : Refusal) → why ≡ why' → IsViable any_names (take (p + 1) bytes) → NameAt place (take (p + 1) bytes) → why' ≡ e.Twice place
  twice_only place e.Syntax same viable at = absurd (names_not e.Syntax (judged_as e.Syntax same).1 viable)
  twice_only place e.Deep same viable at = absurd (names_not e.Deep (judged_as e.Deep same).1 viable)
  twice_only place (e.Malformed n) same viable at = absurd (names_not (e.Malformed n) (judged_as (e.Malformed n) same).1 viable)
  twice_only place (e.Surrogate n) same viable at = absurd (names_not (e.Surrogate n) (judged_as (e.Surrogate n) same).1 viable)
  twice_only place (e.Twice n) same viable at = ap (λ (k : ℕ). e.Twice k) (twice_is place n same at)

  syntax_only : (q : ℕ) (why' : Refusal) → why ≡ why' → NoRule bytes p → MalformedAt bytes p q → faults.Syntax q ≡ placed why' p
  syntax_only q e.Syntax same free (inl seq) = absurd (differs (sym same ∙ sequence_is q seq))
    where
      differs : e.Syntax ≡ e.Malformed q → ⊥
      differs k = cc
  syntax_only q e.Syntax same free (inr (here, none)) = ap (λ (k : ℕ). faults.Syntax k) here
  syntax_only q e.Deep same free at = absurd (free.depth (deeper_goes (judged_as e.Deep same).0))
  syntax_only q (e.Malformed n) same free (inl seq) = ap (λ (k : ℕ). faults.Syntax k) (malformed_is q n (sym (sequence_is q seq) ∙ same))
    where
      malformed_is : (a b : ℕ) → e.Malformed a ≡ e.Malformed b → a ≡ b
      malformed_is a b k = cc
  syntax_only q (e.Malformed n) same free (inr (here, none)) = absurd (none n (subst (SequenceAt n) (sym upto) (stands_as (e.Malformed n) same)))
  syntax_only q (e.Surrogate n) same free at = absurd (free.surrogates n (surrogate_at n (stands_as (e.Surrogate n) same)))
  syntax_only q (e.Twice n) same free at = absurd (free.names (names_go (judged_as (e.Twice n) same).0))

-- ---- the text decides where the reader stops

take_next : (bytes : List ℕ) (q : ℕ) → q < length bytes → take (q + 1) bytes ≡ take q bytes ++ (get_or bytes q 0 ∷ [])
take_next bytes q lt =
    let same : q + 1 ≡ suc q = omega arith in
    ap (λ (n : ℕ). take n bytes) same ∙ take-suc bytes q 0 lt

stops_run : (at : ℕ) (x : ReaderState) (b : ℕ) (rest : List ℕ) (why : Refusal) → step lone at x b ≡ Err why → run (step lone) (b ∷ rest) at x ≡ Err (why, at)
unfolding run
stops_run at x b rest why is = rw is refl

one_run : (at : ℕ) (x : ReaderState) (b : ℕ) (y : ReaderState) → step lone at x b ≡ Ok y → run (step lone) (b ∷ []) at x ≡ Ok y
unfolding run
one_run at x b y is = rw is refl

refuses_at : (bytes : List ℕ) (q : ℕ) → StopsAt bytes q → (why : Refusal) × (run (step lone) bytes 0 start ≡ Err (why, q))
refuses_at bytes q at = go (step lone q reached.0 (get_or bytes q 0)) refl
  where
    reached : (s : ReaderState) × (run (step lone) (take q bytes) 0 start ≡ Ok s)
    reached = viable_runs lone (take q bytes) at.before

    long : length (take q bytes) ≡ q
    long = let lt = at.within in length-take-le q bytes (omega arith)

    whole_text : bytes ≡ take q bytes ++ (get_or bytes q 0 ∷ drop (suc q) bytes)
    whole_text = sym (take-append-drop q bytes) ∙ ap (λ (k : List ℕ). take q bytes ++ k) (drop-cons bytes q 0 at.within)

    rest_of : run (step lone) bytes 0 start ≡ run (step lone) (get_or bytes q 0 ∷ drop (suc q) bytes) q reached.0
    rest_of = ap (λ (k : List ℕ). run (step lone) k 0 start) whole_text ∙ (run_both (step lone) (take q bytes) (get_or bytes q 0 ∷ drop (suc q) bytes) 0 start reached.0 reached.1
        ∙ ap (λ (n : ℕ). run (step lone) (get_or bytes q 0 ∷ drop (suc q) bytes) n reached.0) (omega (arith, long)))

    go : (o : Stepped) → step lone q reached.0 (get_or bytes q 0) ≡ o → (why : Refusal) × (run (step lone) bytes 0 start ≡ Err (why, q))
    go (Err why) stepped = (why, rest_of ∙ stops_run q reached.0 (get_or bytes q 0) (drop (suc q) bytes) why stepped)
    go (Ok next) stepped = absurd (at.here (subst (IsViable lone) (sym (take_next bytes q at.within))
        (after_viable lone (take q bytes) (get_or bytes q 0 ∷ []) reached.0 next refl reached.1 (one_run (length (take q bytes)) reached.0 (get_or bytes q 0) next (ap (λ (n : ℕ). step lone n reached.0 (get_or bytes q 0)) long ∙ stepped)))))

-- what the reader finds
abbrev Found : List ℕ → JsonFault → Type 0
Found bytes x = ((x ≡ faults.Ended) × ((s : ReaderState) × (run (step lone) bytes 0 start ≡ Ok s))) ⊎ ((why : Refusal) × (q : ℕ) × (run (step lone) bytes 0 start ≡ Err (why, q)) × (x ≡ placed why q))

found : (bytes : List ℕ) (x : JsonFault) → (x ≡ faults.Memory → ⊥) → Explains bytes x → Found bytes x
found bytes faults.Memory not h = absurd (not refl)
found bytes faults.Ended not (viable, whole_not) = inl (refl, viable_runs lone bytes viable)
found bytes (faults.Syntax p) not (q, at, free, where_) =
    let k = refuses_at bytes q at in
    inr (k.0, q, k.1, syntax_only bytes k.0 q k.1 p k.0 refl free where_)
found bytes (faults.Deep p) not (at, viable) =
    let k = refuses_at bytes p at in
    inr (k.0, p, k.1, ap (λ (w : Refusal). placed w p) (sym (deep_only bytes k.0 p k.1 k.0 refl viable)))
found bytes (faults.Twice p) not (q, at, viable, name_at) =
    let k = refuses_at bytes q at in
    inr (k.0, q, k.1, ap (λ (w : Refusal). placed w q) (sym (twice_only bytes k.0 q k.1 p k.0 refl viable name_at)))
found bytes (faults.Surrogate p) not (q, at, there) =
    let k = refuses_at bytes q at in
    inr (k.0, q, k.1, ap (λ (w : Refusal). placed w q) (sym (surrogate_is bytes k.0 q k.1 p there)))

same_found : (bytes : List ℕ) (x y : JsonFault) → Found bytes x → Found bytes y → x ≡ y
same_found bytes x y (inl (a, (s, is))) (inl (b, (s', is'))) = a ∙ sym b
same_found bytes x y (inl (a, (s, is))) (inr (why, q, is', b)) = absurd (differ (sym is ∙ is'))
same_found bytes x y (inr (why, q, is, a)) (inl (b, (s, is'))) = absurd (differ (sym is' ∙ is))
same_found bytes x y (inr (why, q, is, a)) (inr (why', q', is', b)) =
    let pair : (why, q) ≡ (why', q') = err_is {S = ReaderState} (why, q) (why', q') (sym is ∙ is') in
    a ∙ (ap (λ (k : Refusal × ℕ). placed k.0 k.1) pair ∙ sym b)

-- two explanations of a text are one
pub fault_unique : (bytes : List ℕ) (x y : JsonFault) → (x ≡ faults.Memory → ⊥) → (y ≡ faults.Memory → ⊥) → Explains bytes x → Explains bytes y → x ≡ y
fault_unique bytes x y not_x not_y h k = same_found bytes x y (found bytes x not_x h) (found bytes y not_y k)

-- ---- what reading answers

only_ended : (mode : Mode) (fs : Frames) (x : JsonFault) → finish_by mode fs ≡ Err x → faults.Ended ≡ x
only_ended mode fs x e = grind (arith, nat_tests)

pub read_explains : (bytes : List ℕ) (x : JsonFault) → AreBytes bytes → read_of strict bytes ≡ Err x → Explains bytes x
unfolding read_of finish
read_explains bytes x are e = go (run (step strict) bytes 0 start) refl e
  where
    go : (o : Result ReaderState (Refusal × ℕ)) → run (step strict) bytes 0 start ≡ o → whole o ≡ Err x → Explains bytes x
    go (Ok s) is fails = subst (Explains bytes) (only_ended s.mode s.frames x fails) (runs_viable lone bytes s refl (sym (run_same bytes 0 start are) ∙ is), λ v t. differ (sym (read_only strict bytes v t) ∙ e))
    go (Err r) is fails = subst (Explains bytes) (err_is {S = Json} (placed r.0 r.1) x fails) (explained bytes r.0 r.1 (sym (run_same bytes 0 start are) ∙ is) r.0 refl)

pub reads_fault : (bytes : List ℕ) (r : Result Json JsonFault) → AreBytes bytes → Reads (read_of strict bytes) r → IfErr r (Explains bytes)
reads_fault bytes (Ok y) are h = tt
reads_fault bytes (Err faults.Memory) are h = tt
reads_fault bytes (Err x) are h = read_explains bytes _ are (h (λ e. absurd cc))
