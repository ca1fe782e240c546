-- A turn of a handle is a turn of a cache.
use Rattle.std.proofs.Common.{◌≡◌, ℕ, ◌≤◌, ◌==◌, Bool, true, false, List, [], ◌∷◌, ◌++◌, map, Option, Some, refl, ap, sym, subst, ◌∙◌, ◌<◌, arith}
use Rattle.std.specs.Prelude.{if◌then◌else◌, Result, Ok, Err, IfOk, OnErr, unwrap_or}
use Rattle.cache_terms.specs.declared.keys.Key.{Key}
use Rattle.cache_terms.specs.declared.events.Event.{Event}
use Rattle.cache_book.specs.declared.found.Found.{Found}
use Rattle.cache_model.specs.State.{State, opened}
use Rattle.cache_model.specs.Story.{Without, By}
use Rattle.cache_terms.specs.declared.keys.Target.{Target}
use Rattle.cache_book.specs.declared.answers.Voided as voided
use Rattle.cache_book.specs.declared.answers.Turned.{Turned}
use Rattle.cache_book.specs.declared.answers.Turned.TheVariants as turned
use Rattle.cache_book.specs.Voiding.{VoidsBy, turning}
use Rattle.cache_book.specs.Settling.{MaySettle}
use Rattle.cache_book.specs.Permits.{Pinned, Granted}
use Rattle.cache_book.specs.Calls.{Call, Answer, Step, MayCall, Begin, Look, Settle, Invalidate, Tally, Begun, Looked, Voided, OutOfMemory}
use Rattle.cache_book.proofs.Stepping.{permit_without}
use Rattle.turn_lock.specs.declared.seats.Turn.{Turn}
use Rattle.turn_lock.specs.declared.seats.Stage.TheVariants.{Inside}
use Rattle.turn_lock.specs.Turns.{turn_of}
use Rattle.turn_lock.specs.Members.{MemberState, entered, left}
use Rattle.cache_seam.specs.Objects.{KeepsObjects, CallOffersObject}
use Rattle.cache_seam.specs.Seen.{Visit, IsCoherent, pass_of}
use Rattle.cache_seam.specs.Turns as seam
use Rattle.cache_seam.specs.Turns.{Calls, IsOwnCall, seen_after, pinned_after, begun_after}
use Rattle.cache_seam.proofs.Hands.{turn_by}
use Rattle.cache_seam.proofs.ChainLaws.{pick_same}
use Rattle.shared_book.specs.Sharing.{Shared, WithoutTurn, ByTurn}
use Rattle.shared_book.specs.Handles.{held, name_of, seen_of, visited, last_seen, Chained, IsHandle}
use Rattle.cache_seam.proofs.Coherent.{CanTurn, coherent_turn, is_turn}

-- IN AND OUT

abbrev pub shared : State → Option ℕ → ℕ → Shared
shared x last members = record { book = x; last = last; members = members }

-- the member came in, found x, left y and is out
pub record Round (m out : MemberState Shared) (x y : State) : Type 0 where
  pub serving : ℕ
  pub before : Option ℕ
  pub members : ℕ
  pub out_is : out ≡ left m serving (shared x before members) (shared y (Some m.number) members)
  pub without : WithoutTurn m.last (shared x before members) m.number

goes_round : (m in_ out : MemberState Shared) (t : ℕ) (x y : Shared) → in_ ≡ entered m t x → ((s : ℕ) (z : Shared) → in_.stage ≡ Inside s z → out ≡ left in_ s z y) → out ≡ left m t x y
goes_round m in_ out t x y e f = f t x (ap (λ (n : MemberState Shared). n.stage) e) ∙ ap (λ (n : MemberState Shared). left n t x y) e

pub round_of : (m in_ out : MemberState Shared) (x : State) (before : Option ℕ) (members : ℕ) (x' : Shared) (y : State) (number : ℕ) → shared x before members ≡ x' → WithoutTurn m.last x' m.number → (t : ℕ) × (in_ ≡ entered m t x') → number ≡ m.number
    → ((s : ℕ) (z : Shared) → in_.stage ≡ Inside s z → out ≡ left in_ s z (shared y (Some number) members)) → Round m out x y
round_of m in_ out x before members x' y number same without came own f =
    let went = goes_round m in_ out came.0 x' (shared y (Some number) members) came.1 f in
    let mine : out ≡ left m came.0 x' (shared y (Some m.number) members) = went ∙ ap (λ (k : ℕ). left m came.0 x' (shared y (Some k) members)) own in
    record {
      serving = came.0;
      before = before;
      members = members;
      out_is = mine ∙ ap (λ (z : Shared). left m came.0 z (shared y (Some m.number) members)) (sym same);
      without = subst (λ (z : Shared). WithoutTurn m.last z m.number) (sym same) without;
    }

pub may_leave : (m in_ : MemberState Shared) (x : State) (before : Option ℕ) (members : ℕ) (x' : Shared) (y : State) (number : ℕ) → shared x before members ≡ x' → (t : ℕ) × (in_ ≡ entered m t x') → number ≡ m.number → By x y m.number
    → (t : ℕ) × (z : Shared) × (in_.stage ≡ Inside t z) × ByTurn z (shared y (Some number) members) in_.number
may_leave m in_ x before members x' y number same came own by =
    let turn : ByTurn (shared x before members) (shared y (Some number) members) m.number = record { book = by; last = ap Some own; members = refl } in (
      came.0,
      x',
      ap (λ (n : MemberState Shared). n.stage) came.1,
      subst (λ (k : ℕ). ByTurn x' (shared y (Some number) members) k) (sym (ap (λ (n : MemberState Shared). n.number) came.1)) (subst (λ (z : Shared). ByTurn z (shared y (Some number) members) m.number) same turn),
    )

-- the number of a member that has come in is below the number of members
pub numbered_in : (m : MemberState Shared) (x : State) (before : Option ℕ) (members : ℕ) (x' : Shared) (number : ℕ) → shared x before members ≡ x' → WithoutTurn m.last x' m.number → number ≡ m.number → m.number < m.last.members → (k : ℕ) → Some number ≡ Some k → k < members
numbered_in m x before members x' number same without own below k is = let all : members ≡ m.last.members = ap (λ (z : Shared). z.members) same ∙ without.members in let k_is : number ≡ k = ap (λ (o : Option ℕ). unwrap_or o 0) is in omega (arith, all, k_is, own, below)

-- WHAT IS SEEN

last_more : (p : ℕ) (J : List Event) (ts : List (Turn Shared)) (u : Turn Shared) → last_seen p J (ts ++ u ∷ []) ≡ (if u.left.book.epoch == p then u.left.book.journal else last_seen p J ts)
last_more p J [] u = refl
last_more p J (t ∷ ts) u = last_more p (if t.left.book.epoch == p then t.left.book.journal else J) ts u

map_more : (ts : List (Turn Shared)) (u : Turn Shared) → map visited (ts ++ u ∷ []) ≡ map visited ts ++ visited u ∷ []
map_more [] u = refl
map_more (t ∷ ts) u = ap (λ (vs : List Visit). visited t ∷ vs) (map_more ts u)

at_itself : (e : ℕ) (J K L : List Event) → (if e == e then J else K) ≡ (if e == e then J else L)
at_itself e J K L = pick_same e e J K refl ∙ sym (pick_same e e J L refl)

-- the journal of the new pin is that of the state left, or the pin stays
journal_more : (call : Call) (p e : ℕ) (J : List Event) (ts : List (Turn Shared)) → (if e == pinned_after call p e then J else last_seen (pinned_after call p e) [] ts) ≡ (if e == pinned_after call p e then J else last_seen p [] ts)
journal_more (Begin who) p e J ts = at_itself e J (last_seen e [] ts) (last_seen p [] ts)
journal_more (Invalidate who target) p e J ts = at_itself e J (last_seen e [] ts) (last_seen p [] ts)
journal_more (Look pass id asks now) p e J ts = refl
journal_more (Settle q r) p e J ts = refl
journal_more Tally p e J ts = refl

seen_more : (m : MemberState Shared) (p : ℕ) (b : Bool) (s : ℕ) (x : Shared) (call : Call) (answer : Answer) (y : Shared) → y.members ≡ m.last.members
    → seen_of (held (left m s x y) (pinned_after call p y.book.epoch) (begun_after call b)) ≡ seen_after (seen_of (held m p b)) (record { found = x.book; call = call; answer = answer; left = y.book })
seen_more m p b s x call answer y members =
    let journal = last_more (pinned_after call p y.book.epoch) [] m.turns (turn_of s x y) ∙ journal_more call p y.book.epoch y.book.journal m.turns in
    let trace = map_more m.turns (turn_of s x y) in
    ap (λ (J : List Event). record (seen_of (held (left m s x y) (pinned_after call p y.book.epoch) (begun_after call b))) { journal = J }) journal
    ∙ (ap (λ (vs : List Visit). record (seen_after (seen_of (held m p b)) (record { found = x.book; call = call; answer = answer; left = y.book })) { trace = Some vs; home = name_of y.members m.home }) trace
    ∙ ap (λ (n : ℕ). record (seen_after (seen_of (held m p b)) (record { found = x.book; call = call; answer = answer; left = y.book })) { home = name_of n m.home }) members)

-- A TURN

pub record Makes (m out : MemberState Shared) (p p' : ℕ) (b b' : Bool) (x : State) (call : Call) (answer : Answer) (y : State) : Type 0 where
  pub round : Round m out x y
  pub coherent : IsCoherent (seen_of (held m p b))
  pub lawful : KeepsObjects x
  pub own : IsOwnCall (seen_of (held m p b)) call
  pub may : MayCall x call
  pub offers : CallOffersObject call
  pub step : Step x call answer y
  pub pin : p' ≡ pinned_after call p y.epoch
  pub leave : b' ≡ begun_after call b

takes : (m out : MemberState Shared) (p p' : ℕ) (b b' : Bool) (x : State) (call : Call) (answer : Answer) (y : State) → Makes m out p p' b b' x call answer y → CanTurn (seen_of (held m p b)) (record { found = x; call = call; answer = answer; left = y })
takes m out p p' b b' x call answer y h = record { before = h.coherent; own = h.own; goes_on = h.round.without.book; alone = λ not. absurd (cc not); found_lawful = h.lawful; may = h.may; offers = h.offers; step = h.step }

-- what the member found and left
abbrev pub found_in : (m out : MemberState Shared) (x y : State) → Round m out x y → Shared
found_in m out x y r = shared x r.before r.members

abbrev pub left_in : (m out : MemberState Shared) (x y : State) → Round m out x y → Shared
left_in m out x y r = shared y (Some m.number) r.members

seen_out : (m out : MemberState Shared) (p p' : ℕ) (b b' : Bool) (x : State) (call : Call) (answer : Answer) (y : State) → Makes m out p p' b b' x call answer y
    → seen_of (held out p' b') ≡ seen_after (seen_of (held m p b)) (record { found = x; call = call; answer = answer; left = y })
seen_out m out p p' b b' x call answer y h =
    let found : Shared = found_in m out x y h.round in
    let put : Shared = left_in m out x y h.round in
    ap (λ (n : MemberState Shared). seen_of (held n p' b')) h.round.out_is
    ∙ (ap (λ (n : ℕ). seen_of (held (left m h.round.serving found put) n b')) h.pin
    ∙ (ap (λ (n : Bool). seen_of (held (left m h.round.serving found put) (pinned_after call p y.epoch) n)) h.leave
    ∙ seen_more m p b h.round.serving found call answer put h.round.without.members))

pub handle_calls : (m out : MemberState Shared) (p p' : ℕ) (b b' : Bool) (x : State) (call : Call) (answer : Answer) (y : State) → Makes m out p p' b b' x call answer y → Calls (seen_of (held m p b)) call answer (seen_of (held out p' b'))
handle_calls m out p p' b b' x call answer y h = record {
  turn = record { found = x; call = call; answer = answer; left = y };
  call_is = refl;
  answer_is = refl;
  is_turn = is_turn (seen_of (held m p b)) (record { found = x; call = call; answer = answer; left = y }) (takes m out p p' b b' x call answer y h);
  after = seen_out m out p p' b b' x call answer y h;
}

chained_more : (k : ℕ) (a b : State) (ts : List (Turn Shared)) (t : Turn Shared) → Chained k a ts b → Without b t.entered.book k → By t.entered.book t.left.book k → Chained k a (ts ++ t ∷ []) t.left.book
chained_more k a b [] t c w y = (subst (λ (z : State). Without z t.entered.book k) (sym c) w, y, refl)
chained_more k a b (u ∷ ts) t c w y = (c.0, c.1, chained_more k u.left.book b ts t c.2 w y)

pub handle_stays : (m out : MemberState Shared) (p p' : ℕ) (b b' : Bool) (x : State) (call : Call) (answer : Answer) (y : State) (pass pass' : Pinned) → IsHandle m pass p b → Makes m out p p' b b' x call answer y
    → (b' ≡ true → pass' ≡ record { who = m.number; epoch = p' }) → IsHandle out pass' p' b'
handle_stays m out p p' b b' x call answer y pass pass' was h is =
    let t : seam.Turn = record { found = x; call = call; answer = answer; left = y } in
    let taken = takes m out p p' b b' x call answer y h in
    let found : Shared = found_in m out x y h.round in
    let put : Shared = left_in m out x y h.round in
    let turn : Turn Shared = turn_of h.round.serving found put in
    let by : By x y m.number = turn_by (seen_of (held m p b)) t (is_turn (seen_of (held m p b)) t taken) in
    let limits : opened m.last.book.limits 0 ≡ opened y.limits 0 = ap (λ l. opened l 0) (sym (by.limits ∙ h.round.without.book.limits)) in
    let chained = subst (λ (a : State). Chained m.number a (m.turns ++ turn ∷ []) y) limits (chained_more m.number (opened m.last.book.limits 0) m.last.book m.turns turn was.chained h.round.without.book by) in
    record {
      outside = ap (λ (n : MemberState Shared). n.stage) h.round.out_is;
      coherent = subst IsCoherent (sym (seen_out m out p p' b b' x call answer y h)) (coherent_turn (seen_of (held m p b)) t taken);
      chained = subst (λ (n : MemberState Shared). Chained n.number (opened n.last.book.limits 0) n.turns n.last.book) (sym h.round.out_is) chained;
      numbered = subst (λ (n : MemberState Shared). n.number < n.last.members) (sym h.round.out_is) (subst (λ (n : ℕ). m.number < n) (sym h.round.without.members) was.numbered);
      pass_is = λ begun. is begun ∙ ap (λ (k : ℕ). record { who = k; epoch = p' }) (sym (ap (λ (n : MemberState Shared). n.number) h.round.out_is));
    }

-- BEGIN

pub begins : (m out : MemberState Shared) (old : Pinned) (p : ℕ) (b : Bool) (x y : State) (number : ℕ) (pass : Pinned) (epoch : ℕ) → IsHandle m old p b → Round m out x y → KeepsObjects x → number ≡ m.number → Step x (Begin number) (Begun pass) y → epoch ≡ pass.epoch
    → Makes m out p epoch b true x (Begin m.number) (Begun (record { who = m.number; epoch = epoch })) y × (pass ≡ record { who = m.number; epoch = epoch })
begins m out old p b x y number pass epoch was round lawful same step is =
    let pass_is : pass ≡ record { who = m.number; epoch = epoch } = step.1 ∙ (ap (λ (k : ℕ). record { who = k; epoch = y.epoch }) same ∙ ap (λ (e : ℕ). record { who = m.number; epoch = e }) (ap (λ (q : Pinned). q.epoch) (sym step.1) ∙ sym is)) in
    let stepped : Step x (Begin m.number) (Begun (record { who = m.number; epoch = epoch })) y = (step.0, ap (λ (e : ℕ). record { who = m.number; epoch = e }) (is ∙ ap (λ (q : Pinned). q.epoch) step.1)) in (
      record { round = round; coherent = was.coherent; lawful = lawful; own = refl; may = tt; offers = tt; step = stepped; pin = is ∙ ap (λ (q : Pinned). q.epoch) step.1; leave = refl },
      pass_is,
    )

-- LOOK

pub looked : {X Y : Type 0} (r : Result X Y) (told : X → List Found) (x y : State) (pass : Pinned) (id : Option (List ℕ)) (asks : List Key) (now : ℕ)
    → IfOk r (λ a. Step x (Look pass id asks now) (Looked (told a)) y) → OnErr r (Step x (Look pass id asks now) OutOfMemory y) → (answer : Answer) × Step x (Look pass id asks now) answer y
looked (Ok a) told x y pass id asks now ok err = (Looked (told a), ok)
looked (Err e) told x y pass id asks now ok err = (OutOfMemory, err)

pub looks : (m out : MemberState Shared) (pass : Pinned) (p : ℕ) (b : Bool) (x y : State) (id : Option (List ℕ)) (asks : List Key) (now : ℕ) (answer : Answer) → IsHandle m pass p b → Round m out x y → KeepsObjects x → b ≡ true → Step x (Look pass id asks now) answer y
    → Makes m out p p b b x (Look (pass_of (seen_of (held m p b))) id asks now) answer y
looks m out pass p b x y id asks now answer was round lawful begun step = record {
  round = round;
  coherent = was.coherent;
  lawful = lawful;
  own = (refl, begun);
  may = tt;
  offers = tt;
  step = subst (λ (q : Pinned). Step x (Look q id asks now) answer y) (was.pass_is begun) step;
  pin = refl;
  leave = refl;
}

pub looks_ok : {X Y : Type 0} (r : Result X Y) (told : X → List Found) (m out : MemberState Shared) (pass : Pinned) (p : ℕ) (b : Bool) (x y : State) (id : Option (List ℕ)) (asks : List Key) (now : ℕ) → IsHandle m pass p b → Round m out x y → KeepsObjects x → b ≡ true
    → IfOk r (λ a. Step x (Look pass id asks now) (Looked (told a)) y) → IfOk r (λ a. Calls (seen_of (held m p b)) (Look (pass_of (seen_of (held m p b))) id asks now) (Looked (told a)) (seen_of (held out p b)))
looks_ok (Ok a) told m out pass p b x y id asks now was round lawful begun ok = handle_calls m out p p b b x (Look (pass_of (seen_of (held m p b))) id asks now) (Looked (told a)) y (looks m out pass p b x y id asks now (Looked (told a)) was round lawful begun ok)
looks_ok (Err e) told m out pass p b x y id asks now was round lawful begun ok = tt

pub looks_err : {X Y : Type 0} (r : Result X Y) (m out : MemberState Shared) (pass : Pinned) (p : ℕ) (b : Bool) (x y : State) (id : Option (List ℕ)) (asks : List Key) (now : ℕ) → IsHandle m pass p b → Round m out x y → KeepsObjects x → b ≡ true
    → OnErr r (Step x (Look pass id asks now) OutOfMemory y) → OnErr r (Calls (seen_of (held m p b)) (Look (pass_of (seen_of (held m p b))) id asks now) OutOfMemory (seen_of (held out p b)))
looks_err (Ok a) m out pass p b x y id asks now was round lawful begun err = tt
looks_err (Err e) m out pass p b x y id asks now was round lawful begun err = handle_calls m out p p b b x (Look (pass_of (seen_of (held m p b))) id asks now) OutOfMemory y (looks m out pass p b x y id asks now OutOfMemory was round lawful begun err)

-- SETTLE

-- a permit that may be settled in the state left may be settled in the state found
pub found_may : (m : MemberState Shared) (x : State) (before : Option ℕ) (members : ℕ) (x' : Shared) (q : Granted) → shared x before members ≡ x' → WithoutTurn m.last x' m.number → KeepsObjects x → q.who ≡ m.number → q.epoch ≤ m.last.book.epoch → MaySettle m.last.book q → MaySettle x q
found_may m x before members x' q same without lawful own begun may =
    let w : WithoutTurn m.last (shared x before members) m.number = subst (λ (z : Shared). WithoutTurn m.last z m.number) (sym same) without in
    permit_without m.last.book x q lawful.legal (subst (λ (k : ℕ). Without m.last.book x k) (sym own) w.book) begun may

-- INVALIDATE

voids_epoch : (how : Turned) (x : State) (who : ℕ) (target : Target) (v : voided.Voided) (y : State) → VoidsBy how x who target v y → v.epoch ≡ y.epoch
voids_epoch turned.No x who target v y h = h.epoch ∙ ap (λ (s : State). s.epoch) (sym h.after)
voids_epoch (turned.Full a b d) x who target v y h = h.epoch ∙ ap (λ (s : State). s.epoch) (sym h.after)
voids_epoch turned.Retired x who target v y h = ap (λ (u : voided.Voided). u.epoch) h.answer_is ∙ ap (λ (s : State). s.epoch) (sym h.same)

pub voids : (m out : MemberState Shared) (old : Pinned) (p : ℕ) (b : Bool) (x y : State) (number : ℕ) (target : Target) (v : voided.Voided) → IsHandle m old p b → Round m out x y → KeepsObjects x → number ≡ m.number → Step x (Invalidate number target) (Voided v) y
    → Makes m out p v.epoch b false x (Invalidate m.number target) (Voided v) y
voids m out old p b x y number target v was round lawful same step = record {
  round = round;
  coherent = was.coherent;
  lawful = lawful;
  own = refl;
  may = tt;
  offers = tt;
  step = subst (λ (k : ℕ). Step x (Invalidate k target) (Voided v) y) same step;
  pin = voids_epoch (turning x) x number target v y step;
  leave = refl;
}
