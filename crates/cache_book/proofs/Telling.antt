-- What the answers of a look tell: new tickets, and nothing of another caller's own.
use Rattle.std.proofs.Common.{◌≡◌, inl, inr, ℕ, ◌+◌, ◌*◌, ◌<◌, ◌≤◌, ◌==◌, Bool, true, false, List, [], ◌∷◌, ◌++◌, length, Option, Some, None, All, refl, ap, sym, ◌∙◌, arith, subst, append_assoc}
use Rattle.std.specs.Prelude.{if◌then◌else◌, nat_lt, min, not, ◌^◌, ◌-◌}
use Rattle.std.proofs.lemmas.Option.{same_Some, slice_get_within}
use Rattle.std.proofs.lemmas.List.Elements.{All-cons, All-nil, All-contains, All-weaker}
use Rattle.std.proofs.lemmas.List.Sums.{sum_by_push}
use Rattle.cache_terms.specs.declared.keys.Key.{Key}
use Rattle.cache_terms.specs.declared.events.Limits.{Limits}
use Rattle.cache_terms.specs.declared.events.Event.{Event}
use Rattle.cache_terms.specs.declared.events.Event.TheVariants.{Lookup, Start}
use Rattle.cache_terms.specs.declared.events.Mark.{Mark}
use Rattle.cache_terms.specs.declared.events.Mark.TheVariants as mark
use Rattle.cache_book.specs.declared.found.Found.{Found}
use Rattle.cache_book.specs.declared.found.Found.TheVariants as found
use Rattle.cache_model.specs.Journal.{Started, start_of, starts, is_start, reserved, Kept, kept_at, Serves, IsChoice}
use Rattle.cache_model.specs.Masked.{is_foreign}
use Rattle.cache_model.specs.Legal.{IsLegal, EachFits, IsNext}
use Rattle.cache_model.specs.State.{State}
use Rattle.cache_book.specs.Permits.{Pinned, Granted}
use Rattle.cache_book.specs.Looking.{Asked, AskedAll, bypass_mark, bypassed}
use Rattle.cache_book.specs.Shown.{ticket_of, tickets_of, AreNew, IsChosen, AreChosen}
use Rattle.cache_model.proofs.Growth.{slice_get_before, take_before}
use Rattle.cache_model.proofs.Tickets.{ticket_below}
use Rattle.cache_model.proofs.Choosing.{SameFor, same_sym, own_is_seen, choice_same, choice_masked, masked_same}
use Rattle.cache_model.proofs.Quiet.{quiet_same}
use Rattle.cache_book.proofs.Asking.{asked_legal, asked_room}

-- the numbers go up by one from n
abbrev CountUp : ℕ → List ℕ → Type 0
CountUp n [] = Unit {0}
CountUp n (t ∷ ts) = (t ≡ n) × CountUp (n + 1) ts

starts_hit : (J : List Event) (who : ℕ) (key : Key) (id : Option (List ℕ)) (now : ℕ) (hit : Option ℕ) → starts (J ++ Lookup who key id now hit ∷ []) ≡ starts J
starts_hit J who key id now hit = omega (arith, sum_by_push (λ x. if is_start x then 1 else 0) J (Lookup who key id now hit))

starts_started : (J : List Event) (who t : ℕ) (key : Key) (id : Option (List ℕ)) (now : ℕ) → starts (J ++ Start who t key id now ∷ []) ≡ starts J + 1
starts_started J who t key id now = omega (arith, sum_by_push (λ x. if is_start x then 1 else 0) J (Start who t key id now))

count_up : (pass : Pinned) (id : Option (List ℕ)) (now : ℕ) (keys : List Key) (J : List Event) (answers : List Found) (K : List Event) → AskedAll pass id now keys J answers K → CountUp (starts J) (tickets_of answers)
count_up pass id now [] J [] K all = tt
count_up pass id now (k ∷ keys) J (found.Hit l q v m b ∷ answers) K all =
    let same : starts (all.0) ≡ starts J = ap starts (all.1.after) ∙ starts_hit J pass.who k id now (Some q) in
    subst (λ (n : ℕ). CountUp n (tickets_of answers)) same (count_up pass id now keys (all.0) answers K (all.2))
count_up pass id now (k ∷ keys) J (found.Bypass p ∷ answers) K all =
    let same : starts (all.0) ≡ starts J = ap starts (all.1.after) in
    let none : ticket_of p.mark ≡ [] = ap (λ (g : Granted). ticket_of g.mark) (all.1.permit_is) in
    subst (λ (ts : List ℕ). CountUp (starts J) (ts ++ tickets_of answers)) (sym none) (subst (λ (n : ℕ). CountUp n (tickets_of answers)) same (count_up pass id now keys (all.0) answers K (all.2)))
count_up pass id now (k ∷ keys) J (found.Miss l p ∷ answers) K all =
    let e : Event = Lookup pass.who k id now None in
    let f : Event = Start pass.who (starts J) k id now in
    let same : starts (all.0) ≡ starts J + 1 = ap starts (all.1.after ∙ sym (append_assoc J (e ∷ []) (f ∷ []))) ∙ starts_started (J ++ e ∷ []) pass.who (starts J) k id now ∙ ap (λ (n : ℕ). n + 1) (starts_hit J pass.who k id now None) in
    let one : ticket_of p.mark ≡ starts J ∷ [] = ap (λ (g : Granted). ticket_of g.mark) (all.1.permit_is) in
    subst (λ (ts : List ℕ). CountUp (starts J) (ts ++ tickets_of answers)) (sym one) (refl, subst (λ (n : ℕ). CountUp n (tickets_of answers)) same (count_up pass id now keys (all.0) answers K (all.2)))
count_up pass id now [] J (a ∷ answers) K all = absurd all
count_up pass id now (k ∷ keys) J [] K all = absurd all

above : (n : ℕ) (ts : List ℕ) → CountUp n ts → All (λ t. n ≤ t) ts
above n [] up = All-nil (λ t. n ≤ t)
above n (t ∷ ts) up = All-cons (λ u. n ≤ u) t ts (omega (arith, up.0)) (All-weaker (λ u. n + 1 ≤ u) (λ u. n ≤ u) (λ u le. omega (arith, le)) ts (above (n + 1) ts (up.1)))

not_started : (limits : Limits) (J : List Event) → EachFits limits J → (t : ℕ) → starts J ≤ t → start_of J t ≡ None
not_started limits J each t le = from (start_of J t) refl
  where
    from : (o : Option Started) → start_of J t ≡ o → o ≡ None
    from None is = refl
    from (Some s) is = absurd (omega (arith, le, ticket_below limits J each t s is))

new_from : (limits : Limits) (J : List Event) → EachFits limits J → (n : ℕ) (ts : List ℕ) → starts J ≤ n → CountUp n ts → AreNew J ts
new_from limits J each n [] le up = tt
new_from limits J each n (t ∷ ts) le up = (
  not_started limits J each t (omega (arith, le, up.0)),
  (λ again. let high : n + 1 ≤ t = All-contains (λ u. n + 1 ≤ u) ts t (above (n + 1) ts (up.1)) again in absurd (omega (arith, high, up.0))),
  new_from limits J each (n + 1) ts (omega (arith, le)) (up.1),
)

-- the tickets of the answers are new
pub asks_new : (limits : Limits) (pass : Pinned) (id : Option (List ℕ)) (now : ℕ) (keys : List Key) (J : List Event) (answers : List Found) (K : List Event) → EachFits limits J → AskedAll pass id now keys J answers K → AreNew J (tickets_of answers)
asks_new limits pass id now keys J answers K each all = new_from limits J each (starts J) (tickets_of answers) (omega arith) (count_up pass id now keys J answers K all)

-- a look that goes past the journal hands out no ticket
pub bypassed_new : (J : List Event) (pass : Pinned) (id : Option (List ℕ)) (m : Mark) (asks : List Key) → ticket_of m ≡ [] → AreNew J (tickets_of (bypassed pass id m asks))
bypassed_new J pass id m asks none = subst (AreNew J) (sym (no_tickets asks)) tt
  where
    no_tickets : (asks : List Key) → tickets_of (bypassed pass id m asks) ≡ []
    no_tickets [] = refl
    no_tickets (k ∷ asks) = ap (λ (ts : List ℕ). ts ++ tickets_of (bypassed pass id m asks)) none ∙ no_tickets asks

pub mark_is_none : (s : State) (pass : Pinned) (n : ℕ) (m : Mark) → Some m ≡ bypass_mark s pass n → ticket_of m ≡ []
mark_is_none s pass n m is = from (s.epoch == 2 ^ 64 - 1) (not (pass.epoch == s.epoch)) (nat_lt s.limits.events (length s.journal + reserved s.journal + 3 * n)) is
  where
    from : (a b c : Bool) → Some m ≡ (if a then Some mark.Retired else (if b then Some (mark.Over pass.epoch s.epoch) else (if c then Some (mark.Full (length s.journal) (reserved s.journal) (min (3 * n) (2 ^ 64 - 1)) s.limits.events) else None))) → ticket_of m ≡ []
    from true b c h = ap ticket_of (same_Some m mark.Retired h)
    from false true c h = ap ticket_of (same_Some m (mark.Over pass.epoch s.epoch) h)
    from false false true h = ap ticket_of (same_Some m (mark.Full (length s.journal) (reserved s.journal) (min (3 * n) (2 ^ 64 - 1)) s.limits.events) h)
    from false false false h = absurd (cc h)

-- a front of a journal fits
pub each_front : (limits : Limits) (J more : List Event) → EachFits limits (J ++ more) → EachFits limits J
each_front limits J more each p e at =
    let within : p < length J = slice_get_within J p e at in
    subst (λ (K : List Event). IsNext limits K e) (take_before J more p (omega (arith, within))) (each p e (slice_get_before J more e p at))

same_refl : (id : Option (List ℕ)) (J : List Event) → SameFor id J J
same_refl id J = record { forth = λ q k h seen. h; back = λ q k h seen. h; cover_forth = λ key tags p h. h; cover_back = λ key tags p h. h }

same_trans : (id : Option (List ℕ)) (J K L : List Event) → SameFor id J K → SameFor id K L → SameFor id J L
same_trans id J K L s t = record {
  forth = λ q k h seen. t.forth q k (s.forth q k h seen) seen;
  back = λ q k h seen. s.back q k (t.back q k h seen) seen;
  cover_forth = λ key tags p h. t.cover_forth key tags p (s.cover_forth key tags p h);
  cover_back = λ key tags p h. s.cover_back key tags p (t.cover_back key tags p h);
}

-- an ask shows every caller the same afterwards
asked_same : (limits : Limits) (pass : Pinned) (id : Option (List ℕ)) (now : ℕ) (key : Key) (J : List Event) (answer : Found) (K : List Event) → EachFits limits K → Asked pass id now key J answer K → SameFor id J K
asked_same limits pass id now key J (found.Hit l q v m b) K each h =
    let e : Event = Lookup pass.who key id now (Some q) in
    let whole : EachFits limits (J ++ e ∷ []) = subst (EachFits limits) h.after each in
    subst (SameFor id J) (sym h.after) (quiet_same id limits J e (each_front limits J (e ∷ []) whole) tt)
asked_same limits pass id now key J (found.Miss l p) K each h =
    let e : Event = Lookup pass.who key id now None in
    let f : Event = Start pass.who (starts J) key id now in
    let grouped : K ≡ (J ++ e ∷ []) ++ f ∷ [] = h.after ∙ sym (append_assoc J (e ∷ []) (f ∷ [])) in
    let whole : EachFits limits ((J ++ e ∷ []) ++ f ∷ []) = subst (EachFits limits) grouped each in
    let front : EachFits limits (J ++ e ∷ []) = each_front limits (J ++ e ∷ []) (f ∷ []) whole in
    subst (SameFor id J) (sym grouped) (same_trans id J (J ++ e ∷ []) ((J ++ e ∷ []) ++ f ∷ []) (quiet_same id limits J e (each_front limits J (e ∷ []) front) tt) (quiet_same id limits (J ++ e ∷ []) f front tt))
asked_same limits pass id now key J (found.Bypass p) K each h = subst (SameFor id J) (sym h.after) (same_refl id J)

-- what is chosen is no other caller's own
serves_seen : (J : List Event) (key : Key) (id scope : Option (List ℕ)) (now q : ℕ) (k : Kept) → kept_at J q ≡ Some k → is_foreign id scope ≡ false → Serves J key scope now q → is_foreign id k.scope ≡ false
serves_seen J key id scope now q k is seen serves =
    let same : serves.kept ≡ k = same_Some serves.kept k (sym serves.held.kept ∙ is) in
    ap (λ (m : Kept). is_foreign id m.scope) (sym same) ∙ ap (is_foreign id) serves.scope_is ∙ seen

chosen_seen : (J : List Event) (key : Key) (id : Option (List ℕ)) (now q : ℕ) (k : Kept) → kept_at J q ≡ Some k → IsChoice J key id now (Some q) → is_foreign id k.scope ≡ false
chosen_seen J key None now q k is serves = serves_seen J key None None now q k is refl serves
chosen_seen J key (Some id) now q k is (inl own) = serves_seen J key (Some id) (Some id) now q k is (own_is_seen id) own
chosen_seen J key (Some id) now q k is (inr public) = serves_seen J key (Some id) None now q k is refl public.1

is_chosen : (pass : Pinned) (id : Option (List ℕ)) (now : ℕ) (key : Key) (J0 J : List Event) (answer : Found) (K : List Event) → SameFor id J0 J → Asked pass id now key J answer K → IsChosen J0 id now key answer
is_chosen pass id now key J0 J (found.Hit l q v m b) K s h =
    let seen : is_foreign id h.kept.scope ≡ false = chosen_seen J key id now q h.kept h.kept_is h.choice in
    let before : kept_at J0 q ≡ Some h.kept = s.back q h.kept h.kept_is seen in
    record {
      choice = choice_masked J0 id key now (Some q) (choice_same id J J0 key now (Some q) (same_sym id J0 J s) h.choice);
      kept = h.kept;
      kept_is = (masked_same J0 id).forth q h.kept before seen;
      value_is = h.value_is;
      left_is = h.left_is;
      private_is = h.private_is;
    }
is_chosen pass id now key J0 J (found.Miss l p) K s h = choice_masked J0 id key now None (choice_same id J J0 key now None (same_sym id J0 J s) h.choice)
is_chosen pass id now key J0 J (found.Bypass p) K s h = tt

are_chosen : (limits : Limits) (pass : Pinned) (id : Option (List ℕ)) (now : ℕ) (keys : List Key) (J0 J : List Event) (answers : List Found) (K : List Event) → IsLegal limits J → length J + reserved J + 3 * length keys ≤ limits.events → SameFor id J0 J → AskedAll pass id now keys J answers K → AreChosen J0 id now keys answers
are_chosen limits pass id now [] J0 J [] K legal room s all = tt
are_chosen limits pass id now (k ∷ keys) J0 J (a ∷ answers) K legal room s all =
    let M : List Event = all.0 in
    let one : Asked pass id now k J a M = all.1 in
    let rest : AskedAll pass id now keys M answers K = all.2 in
    let next : IsLegal limits M = asked_legal limits pass id now k J a M legal (omega (arith, room)) one in (
      is_chosen pass id now k J0 J a M s one,
      are_chosen limits pass id now keys J0 M answers K next (omega (arith, room, asked_room pass id now k J a M one)) (same_trans id J0 J M s (asked_same limits pass id now k J a M next.each one)) rest,
    )
are_chosen limits pass id now [] J0 J (a ∷ answers) K legal room s all = absurd all
are_chosen limits pass id now (k ∷ keys) J0 J [] K legal room s all = absurd all

-- each answer is the choice in the journal as the look found it, without other callers' own pieces
pub asks_chosen : (limits : Limits) (pass : Pinned) (id : Option (List ℕ)) (now : ℕ) (keys : List Key) (J : List Event) (answers : List Found) (K : List Event) → IsLegal limits J → length J + reserved J + 3 * length keys ≤ limits.events → AskedAll pass id now keys J answers K → AreChosen J id now keys answers
asks_chosen limits pass id now keys J answers K legal room all = are_chosen limits pass id now keys J J answers K legal room (same_refl id J) all

pub bypassed_chosen : (J : List Event) (pass : Pinned) (id : Option (List ℕ)) (m : Mark) (now : ℕ) (asks : List Key) → AreChosen J id now asks (bypassed pass id m asks)
bypassed_chosen J pass id m now [] = tt
bypassed_chosen J pass id m now (k ∷ asks) = (tt, bypassed_chosen J pass id m now asks)
