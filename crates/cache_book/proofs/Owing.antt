-- A permit in hand may be settled until it is spent.
use Rattle.std.proofs.Common.{◌≡◌, ℕ, ◌+◌, ◌*◌, ◌≤◌, ◌==◌, Bool, true, false, not, List, [], ◌∷◌, ◌++◌, length, Option, Some, None, refl, ap, sym, ◌∙◌, arith, subst, append_assoc, length-append}
use Rattle.std.specs.Prelude.{if◌then◌else◌, nat_lt, min, ◌^◌}
use Rattle.std.proofs.lemmas.Bool.Decides.{nat_tests}
use Rattle.std.proofs.lemmas.Option.{same_Some}
use Rattle.std.specs.Prelude.{◌-◌, Result, Ok, Err, IfOk}
use Rattle.cache_terms.specs.declared.keys.Key.{Key}
use Rattle.cache_terms.specs.declared.keys.Target.{Target}
use Rattle.cache_terms.specs.declared.events.Limits.{Limits}
use Rattle.cache_terms.specs.declared.events.Event.{Event}
use Rattle.cache_terms.specs.declared.events.Event.TheVariants.{Lookup, Start, Settle, Invalidate}
use Rattle.cache_terms.specs.declared.events.Got.{Got}
use Rattle.cache_terms.specs.declared.events.Outcome.{Outcome}
use Rattle.cache_terms.specs.declared.events.Mark.{Mark}
use Rattle.cache_terms.specs.declared.events.Mark.TheVariants as mark
use Rattle.cache_book.specs.declared.found.Found.{Found}
use Rattle.cache_book.specs.declared.found.Found.TheVariants as found
use Rattle.cache_model.specs.Journal.{Started, IsOpen, reserved, starts}
use Rattle.cache_model.specs.Legal.{IsLegal, IsNext}
use Rattle.cache_model.specs.State.{State}
use Rattle.cache_book.specs.Permits.{Pinned, Granted}
use Rattle.cache_book.specs.Bounded.{KeepsOpen}
use Rattle.cache_book.specs.Settling.{MayBy, MaySettle}
use Rattle.cache_book.specs.Looking.{Asked, AskedAll, bypass_mark, bypassed, granted}
use Rattle.cache_book.specs.Owed.{IsOwedAnswer, AreOwed, KeepsPermits, KeepsOthers, KeepsEarlier}
use Rattle.cache_model.proofs.Growth.{each_push}
use Rattle.cache_model.proofs.Tickets.{open_before, open_started}
use Rattle.cache_book.proofs.Asking.{reserved_lookup, starts_lookup, asked_legal, asked_room}

asked_keeps : (pass : Pinned) (id : Option (List ℕ)) (now : ℕ) (key : Key) (J : List Event) (answer : Found) (K : List Event) → Asked pass id now key J answer K → KeepsOpen J K
asked_keeps pass id now key J (found.Hit l q v m b) K h t s o = subst (λ (M : List Event). IsOpen M t s) (sym h.after) (open_before J (Lookup pass.who key id now (Some q)) t s refl o)
asked_keeps pass id now key J (found.Miss l p) K h t s o =
    let e : Event = Lookup pass.who key id now None in
    let f : Event = Start pass.who (starts J) key id now in
    subst (λ (M : List Event). IsOpen M t s) (append_assoc J (e ∷ []) (f ∷ []) ∙ sym h.after) (open_before (J ++ e ∷ []) f t s refl (open_before J e t s refl o))
asked_keeps pass id now key J (found.Bypass p) K h t s o = subst (λ (M : List Event). IsOpen M t s) (sym h.after) o

pub asks_keep : (pass : Pinned) (id : Option (List ℕ)) (now : ℕ) (keys : List Key) (J : List Event) (answers : List Found) (K : List Event) → AskedAll pass id now keys J answers K → KeepsOpen J K
asks_keep pass id now [] J [] K all t s o = subst (λ (M : List Event). IsOpen M t s) (sym all) o
asks_keep pass id now (k ∷ keys) J (a ∷ answers) K all t s o = asks_keep pass id now keys (all.0) answers K (all.2) t s (asked_keeps pass id now k J a (all.0) (all.1) t s o)
asks_keep pass id now [] J (a ∷ answers) K all t s o = absurd all
asks_keep pass id now (k ∷ keys) J [] K all t s o = absurd all

may_later : (m : Mark) (limits : Limits) (epoch n : ℕ) (J K : List Event) (p : Granted) → KeepsOpen J K → MayBy m (record { limits = limits; epoch = epoch; journal = J; probes = n }) p → MayBy m (record { limits = limits; epoch = epoch; journal = K; probes = n }) p
may_later (mark.Ticket t) limits epoch n J K p keeps may = λ here. let o = may here in record { start = o.start; unsettled = keeps t o.start o.unsettled; who = o.who; key = o.key; named = o.named }
may_later (mark.Over a b) limits epoch n J K p keeps may = tt
may_later (mark.Full a b c d) limits epoch n J K p keeps may = tt
may_later (mark.Wide a b) limits epoch n J K p keeps may = tt
may_later mark.Retired limits epoch n J K p keeps may = tt

answer_later : (limits : Limits) (epoch n : ℕ) (J K : List Event) (answer : Found) → KeepsOpen J K → IsOwedAnswer (record { limits = limits; epoch = epoch; journal = J; probes = n }) answer → IsOwedAnswer (record { limits = limits; epoch = epoch; journal = K; probes = n }) answer
answer_later limits epoch n J K (found.Hit l q v m b) keeps h = tt
answer_later limits epoch n J K (found.Miss l p) keeps h = may_later p.mark limits epoch n J K p keeps h
answer_later limits epoch n J K (found.Bypass p) keeps h = may_later p.mark limits epoch n J K p keeps h

-- the permit of an ask may be settled
asked_owed : (limits : Limits) (epoch n : ℕ) (pass : Pinned) (id : Option (List ℕ)) (now : ℕ) (key : Key) (J : List Event) (answer : Found) (K : List Event) → IsLegal limits J → length J + reserved J + 3 ≤ limits.events → Asked pass id now key J answer K → IsOwedAnswer (record { limits = limits; epoch = epoch; journal = K; probes = n }) answer
asked_owed limits epoch n pass id now key J (found.Hit l q v m b) K legal room h = tt
asked_owed limits epoch n pass id now key J (found.Bypass p) K legal room h = subst (λ (g : Granted). MaySettle (record { limits = limits; epoch = epoch; journal = K; probes = n }) g) (sym h.permit_is) tt
asked_owed limits epoch n pass id now key J (found.Miss l p) K legal room h =
    let e : Event = Lookup pass.who key id now None in
    let f : Event = Start pass.who (starts J) key id now in
    let next : IsNext limits J e = record { fits = h.choice; room = omega (arith, room, reserved_lookup J pass.who key id now None, length-append J (e ∷ [])) } in
    let start : Started = record { who = pass.who; key = key; id = id; since = now; at = length (J ++ e ∷ []) } in
    let begun = open_started limits (J ++ e ∷ []) (each_push limits J e legal.each next) pass.who key id now in
    let same : starts (J ++ e ∷ []) ≡ starts J = sym (starts_lookup J pass.who key id now) in
    let here : IsOpen ((J ++ e ∷ []) ++ f ∷ []) (starts J) start = subst (λ (n : ℕ). IsOpen ((J ++ e ∷ []) ++ Start pass.who n key id now ∷ []) n start) same begun in
    let there : IsOpen K (starts J) start = subst (λ (M : List Event). IsOpen M (starts J) start) (append_assoc J (e ∷ []) (f ∷ []) ∙ sym h.after) here in
    subst (λ (g : Granted). MaySettle (record { limits = limits; epoch = epoch; journal = K; probes = n }) g) (sym h.permit_is) (λ now_is. record { start = start; unsettled = there; who = refl; key = refl; named = refl })

pub asks_owed : (limits : Limits) (epoch n : ℕ) (pass : Pinned) (id : Option (List ℕ)) (now : ℕ) (keys : List Key) (J : List Event) (answers : List Found) (K : List Event) → IsLegal limits J → length J + reserved J + 3 * length keys ≤ limits.events → AskedAll pass id now keys J answers K → AreOwed (record { limits = limits; epoch = epoch; journal = K; probes = n }) answers
asks_owed limits epoch n pass id now [] J [] K legal room all = tt
asks_owed limits epoch n pass id now (k ∷ keys) J (a ∷ answers) K legal room all =
    let M : List Event = all.0 in
    let one : Asked pass id now k J a M = all.1 in
    let rest : AskedAll pass id now keys M answers K = all.2 in
    let some : length J + reserved J + 3 ≤ limits.events = omega (arith, room) in
    let owed = asked_owed limits epoch n pass id now k J a M legal some one in (
      answer_later limits epoch n M K a (asks_keep pass id now keys M answers K rest) owed,
      asks_owed limits epoch n pass id now keys M answers K (asked_legal limits pass id now k J a M legal some one) (omega (arith, room, asked_room pass id now k J a M one)) rest,
    )
asks_owed limits epoch n pass id now [] J (a ∷ answers) K legal room all = absurd all
asks_owed limits epoch n pass id now (k ∷ keys) J [] K legal room all = absurd all

-- permits keep where open tickets do
pub permits_kept : (limits : Limits) (epoch n : ℕ) (J K : List Event) → KeepsOpen J K → KeepsPermits (record { limits = limits; epoch = epoch; journal = J; probes = n }) (record { limits = limits; epoch = epoch; journal = K; probes = n })
permits_kept limits epoch n J K keeps p may = may_later p.mark limits epoch n J K p keeps may

-- a permit without a ticket may be settled at any time
pub bypassed_owed : (s : State) (pass : Pinned) (id : Option (List ℕ)) (m : Mark) (asks : List Key) → ((p : Granted) → MayBy m s p) → AreOwed s (bypassed pass id m asks)
bypassed_owed s pass id m [] may = tt
bypassed_owed s pass id m (k ∷ asks) may = (may (granted pass id m k), bypassed_owed s pass id m asks may)

may_other : (m : Mark) (limits : Limits) (epoch n after : ℕ) (J : List Event) (who t : ℕ) (got : Option Got) (out : Outcome) (p : Granted) → (m ≡ mark.Ticket t → p.epoch ≡ epoch → ⊥)
    → MayBy m (record { limits = limits; epoch = epoch; journal = J; probes = n }) p → MayBy m (record { limits = limits; epoch = epoch; journal = J ++ Settle who t got out ∷ []; probes = after }) p
may_other (mark.Ticket u) limits epoch n after J who t got out p other may = λ here.
    let o = may here in
    let differ : (t == u) ≡ false = not_same (t == u) refl here in
    record { start = o.start; unsettled = open_before J (Settle who t got out) u o.start differ o.unsettled; who = o.who; key = o.key; named = o.named }
  where
    not_same : (b : Bool) → (t == u) ≡ b → p.epoch ≡ epoch → b ≡ false
    not_same false is here = refl
    not_same true is here = absurd (let same : u ≡ t = grind (arith, nat_tests) in other (ap (λ (n : ℕ). mark.Ticket n) same) here)
may_other (mark.Over a b) limits epoch n after J who t got out p other may = tt
may_other (mark.Full a b c d) limits epoch n after J who t got out p other may = tt
may_other (mark.Wide a b) limits epoch n after J who t got out p other may = tt
may_other mark.Retired limits epoch n after J who t got out p other may = tt

-- a Settle keeps each other permit
pub others_kept : (limits : Limits) (epoch n after : ℕ) (J : List Event) (who t : ℕ) (got : Option Got) (out : Outcome) (spent : Granted) → spent.mark ≡ mark.Ticket t → spent.epoch ≡ epoch
    → KeepsOthers (record { limits = limits; epoch = epoch; journal = J; probes = n }) spent (record { limits = limits; epoch = epoch; journal = J ++ Settle who t got out ∷ []; probes = after })
others_kept limits epoch n after J who t got out spent is of_epoch p other may = may_other p.mark limits epoch n after J who t got out p (λ same here. other (same ∙ sym is) (here ∙ sym of_epoch)) may

may_earlier : (m : Mark) (limits : Limits) (epoch n : ℕ) (J K : List Event) (p : Granted) → p.epoch ≤ epoch → MayBy m (record { limits = limits; epoch = epoch + 1; journal = K; probes = n }) p
may_earlier (mark.Ticket u) limits epoch n J K p le = λ here. absurd (omega (arith, le, here))
may_earlier (mark.Over a b) limits epoch n J K p le = tt
may_earlier (mark.Full a b c d) limits epoch n J K p le = tt
may_earlier (mark.Wide a b) limits epoch n J K p le = tt
may_earlier mark.Retired limits epoch n J K p le = tt

-- a turn leaves no permit of an earlier epoch with a condition
pub earlier_kept : (limits : Limits) (epoch n : ℕ) (J K : List Event) → KeepsEarlier (record { limits = limits; epoch = epoch; journal = J; probes = n }) (record { limits = limits; epoch = epoch + 1; journal = K; probes = n })
earlier_kept limits epoch n J K p le may = may_earlier p.mark limits epoch n J K p le

-- an Invalidate keeps each permit
pub voided_kept : (limits : Limits) (epoch n : ℕ) (J : List Event) (who : ℕ) (target : Target) (count : ℕ) → KeepsEarlier (record { limits = limits; epoch = epoch; journal = J; probes = n }) (record { limits = limits; epoch = epoch; journal = J ++ Invalidate who target count ∷ []; probes = n })
voided_kept limits epoch n J who target count p le may = may_later p.mark limits epoch n J (J ++ Invalidate who target count ∷ []) p (λ t s o. open_before J (Invalidate who target count) t s refl o) may

-- the mark of a look that goes past the journal is no ticket
pub mark_free : (s : State) (pass : Pinned) (n : ℕ) (m : Mark) → Some m ≡ bypass_mark s pass n → (q : State) (p : Granted) → MayBy m q p
mark_free s pass n m is q p = from (s.epoch == 2 ^ 64 - 1) (not (pass.epoch == s.epoch)) (nat_lt s.limits.events (length s.journal + reserved s.journal + 3 * n)) is
  where
    from : (a b c : Bool) → Some m ≡ (if a then Some mark.Retired else (if b then Some (mark.Over pass.epoch s.epoch) else (if c then Some (mark.Full (length s.journal) (reserved s.journal) (min (3 * n) (2 ^ 64 - 1)) s.limits.events) else None))) → MayBy m q p
    from true b c h = subst (λ (x : Mark). MayBy x q p) (sym (same_Some m mark.Retired h)) tt
    from false true c h = subst (λ (x : Mark). MayBy x q p) (sym (same_Some m (mark.Over pass.epoch s.epoch) h)) tt
    from false false true h = subst (λ (x : Mark). MayBy x q p) (sym (same_Some m (mark.Full (length s.journal) (reserved s.journal) (min (3 * n) (2 ^ 64 - 1)) s.limits.events) h)) tt
    from false false false h = absurd cc

-- what follows from what a clause says of the value in an `Ok`
pub IfOk_then : {X Y : Type 0} (r : Result X Y) (P Q : X → Type 0) → IfOk r P → ((x : X) → P x → Q x) → IfOk r Q
IfOk_then (Ok x) P Q h f = f x h
IfOk_then (Err y) P Q h f = h
