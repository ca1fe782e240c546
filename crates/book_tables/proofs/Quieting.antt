-- A journal that goes on with Lookups and Starts alone, and the way back.
use Rattle.std.proofs.Common.{◌≡◌, ◌⊎◌, inl, inr, ℕ, zero, suc, ◌+◌, ◌-◌, ◌<◌, ◌≤◌, ◌==◌, Bool, true, false, not, List, [], ◌∷◌, ◌++◌, length, take, drop, slice_get, vec_capacity, Option, Some, None, All, refl, ap, sym, ◌∙◌, subst, arith}
use Rattle.std.specs.Prelude.{IsSomeAnd, if◌then◌else◌}
use Rattle.std.specs.FinMap as map
use Rattle.std.specs.List.{list_any}
use Rattle.std.specs.Option.{option_map}
use Rattle.std.proofs.lemmas.Bool.Decides.{nat_tests}
use Rattle.std.proofs.lemmas.List.{append-nil, append_assoc, length-take-le, length-drop}
use Rattle.std.proofs.lemmas.List.Elements.{All-head, All-tail}
use Rattle.std.proofs.lemmas.List.Sums.{count_by-le-length}
use Rattle.cache_terms.specs.declared.events.Limits.{Limits}
use Rattle.cache_terms.specs.declared.events.Event.{Event}
use Rattle.cache_terms.specs.declared.events.Event.TheVariants.{Lookup, Start, Settle, Invalidate}
use Rattle.cache_model.specs.Journal.{Started, start_of, starts, settles, is_pending, reserved, bytes, Kept, IsHeld}
use Rattle.cache_model.specs.Legal.{EachFits, IsNext, Fits}
use Rattle.cache_model.proofs.Growth.{take_before, take_all, slice_get_before, slice_get_push, slice_get_end}
use Rattle.cache_model.proofs.Tickets.{ticket_below, no_settle}
use Rattle.book_index.specs.Stamps.{Positions}
use Rattle.book_index.specs.Telling.{IsVoidOf, IsVoidedAt, StampsTell, is_void}
use Rattle.book_index.proofs.Counting.{stamps_few}
use Rattle.book_index.proofs.Latest.{last_same}
use Rattle.book_tables.specs.declared.tables.Tables.{Tables}
use Rattle.book_tables.specs.Pieces.{Keyed, Targeted}
use Rattle.book_tables.specs.Halves.{TicketsStand}
use Rattle.book_tables.specs.Standing.{IsOldest, StampsStand, StandsFor, IsLookupOrStart}
use Rattle.book_tables.proofs.Placing.{keyed_same, targeted_same}
use Rattle.book_tables.proofs.Ticketing.{start_same, starts_push, settled_same, reserved_more}
use Rattle.book_tables.proofs.Standings.{IsIdle, idle_forth, idle_back, bytes_more, keyed_of, targeted_of, stands_of}

-- a front of a journal whose events fit has events that fit
each_front : (limits : Limits) (J more : List Event) → EachFits limits (J ++ more) → EachFits limits J
each_front limits J more each p x at = subst (λ (K : List Event). IsNext limits K x) (take_before J more p (within J p at)) (each p x (slice_get_before J more x p at))
  where
    within : (J : List Event) (p : ℕ) → slice_get J p ≡ Some x → p ≤ length J
    within [] p h = absurd (cc h)
    within (y ∷ J) zero h = omega arith
    within (y ∷ J) (suc p) h = omega (arith, within J p h)

-- K says what J says, but has more open tickets
pub record Extends (J K : List Event) : Type 0 where
  pub forth : (q : ℕ) (k : Kept) → IsHeld J q k → IsHeld K q k
  pub back : (q : ℕ) (k : Kept) → IsHeld K q k → IsHeld J q k
  pub size : bytes K ≡ bytes J
  pub settled : (t : ℕ) → list_any (settles t) K ≡ list_any (settles t) J
  pub count : starts J ≤ starts K
  pub pending : reserved K + starts J ≡ reserved J + starts K
  pub started : (t : ℕ) → t < starts J → start_of K t ≡ start_of J t
  pub tells : (horizon : ℕ) (stamps : Positions) → StampsTell K horizon stamps → StampsTell J horizon stamps

extends_itself : (J : List Event) → Extends J J
extends_itself J = record {
  forth = λ q k h. h;
  back = λ q k h. h;
  size = refl;
  settled = λ t. refl;
  count = omega arith;
  pending = refl;
  started = λ t below. refl;
  tells = λ horizon stamps h. h;
}

extends_more : (J K M : List Event) → Extends J K → Extends K M → Extends J M
extends_more J K M a b = record {
  forth = λ q k h. b.forth q k (a.forth q k h);
  back = λ q k h. a.back q k (b.back q k h);
  size = b.size ∙ a.size;
  settled = λ t. b.settled t ∙ a.settled t;
  count = omega (arith, a.count, b.count);
  pending = omega (arith, a.pending, b.pending);
  started = λ t below. b.started t (omega (arith, below, a.count)) ∙ a.started t below;
  tells = λ horizon stamps h. a.tells horizon stamps (b.tells horizon stamps h);
}

tells_back : (J : List Event) (e : Event) → IsLookupOrStart e → (horizon : ℕ) (stamps : Positions) → StampsTell (J ++ e ∷ []) horizon stamps → StampsTell J horizon stamps
tells_back J e quiet horizon stamps tells target = last_same (IsVoidedAt (J ++ e ∷ []) horizon target) (IsVoidedAt J horizon target) back forth (map.get stamps target) (tells target)
  where
    no_void : (e : Event) → IsLookupOrStart e → IsVoidOf target e → ⊥
    no_void (Lookup who key id now hit) q h = h
    no_void (Start who ticket key id now) q h = h
    no_void (Settle who ticket got out) q h = h
    no_void (Invalidate who named count) q h = q

    back_at : (p : ℕ) (o : Option Event) → slice_get (J ++ e ∷ []) p ≡ o → IsSomeAnd o (IsVoidOf target) → IsSomeAnd (slice_get J p) (IsVoidOf target)
    back_at p None at h = absurd h
    back_at p (Some x) at h = elim (slice_get_push J x e p at) [
      | inl was ↦ subst (λ (o : Option Event). IsSomeAnd o (IsVoidOf target)) (sym was.1) h
      | inr new ↦ absurd (no_void e quiet (subst (IsVoidOf target) (sym new.1) h))
    ]

    forth_at : (p : ℕ) (o : Option Event) → slice_get J p ≡ o → IsSomeAnd o (IsVoidOf target) → IsSomeAnd (slice_get (J ++ e ∷ []) p) (IsVoidOf target)
    forth_at p None at h = absurd h
    forth_at p (Some x) at h = subst (λ (o : Option Event). IsSomeAnd o (IsVoidOf target)) (sym (slice_get_before J (e ∷ []) x p at)) h

    back : (p : ℕ) → IsVoidedAt (J ++ e ∷ []) horizon target p → IsVoidedAt J horizon target p
    back p h = (h.0, back_at p (slice_get (J ++ e ∷ []) p) refl h.1)

    forth : (p : ℕ) → IsVoidedAt J horizon target p → IsVoidedAt (J ++ e ∷ []) horizon target p
    forth p h = (h.0, forth_at p (slice_get J p) refl h.1)

no_more : (n : ℕ) → n + 0 ≡ n
no_more n = omega arith

-- one more Lookup or Start
extends_one : (limits : Limits) (J : List Event) (e : Event) → EachFits limits (J ++ e ∷ []) → IsLookupOrStart e → Extends J (J ++ e ∷ [])
extends_one limits J (Settle who t got out) each quiet = absurd quiet
extends_one limits J (Invalidate who target count) each quiet = absurd quiet
extends_one limits J (Lookup who key id now hit) all quiet =
    let e : Event = Lookup who key id now hit in
    let each = each_front limits J (e ∷ []) all in
    let idle : IsIdle e = record { keeps = λ K. refl; covers = λ k tags h. h } in
    record {
      forth = idle_forth limits J e each idle;
      back = idle_back limits J e each idle;
      size = bytes_more J e ∙ no_more (bytes J);
      settled = λ t. settled_same J e t refl;
      count = omega (arith, starts_push J (Lookup who key id now hit));
      pending = omega (arith, starts_push J (Lookup who key id now hit), reserved_more J (Lookup who key id now hit) (λ t. refl));
      started = λ t below. start_same J e t refl;
      tells = tells_back J e tt;
    }
extends_one limits J (Start who u key id now) all quiet =
    let e : Event = Start who u key id now in
    let each = each_front limits J (e ∷ []) all in
    let idle : IsIdle e = record { keeps = λ K. refl; covers = λ k tags h. h } in
    let fits : Fits limits (take (length J) (J ++ e ∷ [])) e = (all (length J) e (slice_get_end J [] e)).fits in
    let next : u ≡ starts J = fits.0 ∙ ap starts (take_all J (e ∷ [])) in
    let fresh : is_pending J (Start who u key id now) ≡ true = ap (λ n. not (list_any (settles n) J)) next ∙ ap not (no_settle limits J each) in
    let one : ◌≡◌ {A = ℕ} (if is_pending J (Start who u key id now) then 1 else 0) 1 = ap (λ (b : Bool). if b then 1 else 0) fresh in
    record {
      forth = idle_forth limits J e each idle;
      back = idle_back limits J e each idle;
      size = bytes_more J e ∙ no_more (bytes J);
      settled = λ t. settled_same J e t refl;
      count = omega (arith, starts_push J (Start who u key id now));
      pending = omega (arith, one, starts_push J (Start who u key id now), reserved_more J (Start who u key id now) (λ t. refl));
      started = λ t below. start_same J e t (other u t next below);
      tells = tells_back J e tt;
    }
  where
    other : (u t : ℕ) → u ≡ starts J → t < starts J → (u == t) ≡ false
    other u t next below = from (u == t) refl
      where
        from : (b : Bool) → (u == t) ≡ b → b ≡ false
        from false is = refl
        from true is = let same : u ≡ t = grind (arith, nat_tests) in absurd (omega (arith, same, next, below))

pub extends_quiet : (limits : Limits) (more J : List Event) → EachFits limits (J ++ more) → All IsLookupOrStart more → Extends J (J ++ more)
extends_quiet limits [] J each quiet = subst (Extends J) (sym (append-nil J)) (extends_itself J)
extends_quiet limits (e ∷ more) J each quiet =
    let split : (J ++ e ∷ []) ++ more ≡ J ++ (e ∷ more) = append_assoc J (e ∷ []) more in
    let all : EachFits limits ((J ++ e ∷ []) ++ more) = subst (EachFits limits) (sym split) each in
    let rest : Extends (J ++ e ∷ []) ((J ++ e ∷ []) ++ more) = extends_quiet limits more (J ++ e ∷ []) all (All-tail IsLookupOrStart e more quiet) in
    let one : Extends J (J ++ e ∷ []) = extends_one limits J e (each_front limits (J ++ e ∷ []) more all) (All-head IsLookupOrStart e more quiet) in
    subst (Extends J) split (extends_more J (J ++ e ∷ []) ((J ++ e ∷ []) ++ more) one rest)

-- THE WAY BACK

taken : {X : Type 0} (c : ℕ) (xs : List X) (t : ℕ) → t < c → slice_get (take c xs) t ≡ slice_get xs t
taken zero xs t below = absurd (omega (arith, below))
taken (suc c) [] t below = refl
taken (suc c) (x ∷ xs) zero below = refl
taken (suc c) (x ∷ xs) (suc t) below = taken c xs t (omega (arith, below))

not_taken : {X : Type 0} (c : ℕ) (xs : List X) (t : ℕ) → c ≤ t → slice_get (take c xs) t ≡ None
not_taken zero xs t over = refl
not_taken (suc c) [] t over = refl
not_taken (suc c) (x ∷ xs) zero over = absurd (omega (arith, over))
not_taken (suc c) (x ∷ xs) (suc t) over = not_taken c xs t (omega (arith, over))

oldest_kept : (settled : List Bool) (oldest c : ℕ) → IsOldest settled oldest → oldest < c → c ≤ length settled → IsOldest (take c settled) oldest
oldest_kept settled oldest c o less le = record {
  within = omega (arith, less, length-take-le c settled le);
  below = λ t lower. taken c settled t (omega (arith, lower, less)) ∙ o.below t lower;
  first = λ is. o.first (sym (taken c settled oldest less) ∙ is);
}

oldest_cut : (settled : List Bool) (oldest c : ℕ) → IsOldest settled oldest → c ≤ oldest → IsOldest (take c settled) c
oldest_cut settled oldest c o le = record {
  within = omega (arith, length-take-le c settled (omega (arith, le, o.within)));
  below = λ t lower. taken c settled t lower ∙ o.below t (omega (arith, lower, le));
  first = λ is. cc (sym is ∙ not_taken c settled c (omega arith));
}

few_stamps : (J : List Event) (o : Option ℕ) (stamps : Positions) → StampsStand J o stamps → map.len stamps ≤ length J
few_stamps J None stamps is = omega (arith, ap map.len is ∙ map.len-empty _ ℕ)
few_stamps J (Some at) stamps tells = omega (arith, stamps_few J at stamps tells, count_by-le-length is_void (drop (at + 1) J), length-drop (at + 1) J)

-- the tables of the front, by those of the whole
pub rolled : (limits : Limits) (old : Tables) (J more : List Event) (new : Tables)
    → StandsFor old (J ++ more) → EachFits limits (J ++ more) → All IsLookupOrStart more
    → new.starts.items ≡ take (starts J) old.starts.items → new.settled.items ≡ take (starts J) old.settled.items
    → IsOldest new.settled.items new.oldest → StampsStand J (slice_get new.starts.items new.oldest) new.stamps.stamps
    → new.pending ≡ old.pending - (length old.starts.items - starts J) → new.bytes ≡ old.bytes → new.keys ≡ old.keys → new.holders ≡ old.holders
    → new.stamps.limit ≤ vec_capacity new.starts → new.stamps.limit ≤ vec_capacity new.settled → StandsFor new J
rolled limits old J more new s each quiet starts_is settled_is oldest_is stamps_are pending_is bytes_is keys_is holders_is room_starts room_settled =
    stands_of new J ticketed (bytes_is ∙ s.bytes ∙ x.size)
    (subst (λ k. Keyed k (IsHeld J)) (sym keys_is) (keyed_same old.keys (IsHeld (J ++ more)) (IsHeld J) x.back x.forth (keyed_of old (J ++ more) s)))
    (subst (λ h. Targeted h (IsHeld J)) (sym holders_is) (targeted_same old.holders (IsHeld (J ++ more)) (IsHeld J) x.back x.forth (targeted_of old (J ++ more) s)))
  where
    x : Extends J (J ++ more)
    x = extends_quiet limits more J each quiet

    compared : (t : ℕ) → (t < starts J) ⊎ (starts J ≤ t)
    compared t = grind arith

    none_past : (t : ℕ) → starts J ≤ t → start_of J t ≡ None
    none_past t over = from (start_of J t) refl
      where
        from : (o : Option Started) → start_of J t ≡ o → o ≡ None
        from None is = refl
        from (Some a) is = absurd (omega (arith, over, ticket_below limits J (each_front limits J more each) t a is))

    started : (t : ℕ) → (t < starts J) ⊎ (starts J ≤ t) → slice_get new.starts.items t ≡ option_map (λ a. a.at) (start_of J t)
    started t (inl below) = ap (λ l. slice_get l t) starts_is ∙ taken (starts J) old.starts.items t below ∙ s.started t ∙ ap (option_map (λ (a : Started). a.at)) (x.started t below)
    started t (inr over) = ap (λ l. slice_get l t) starts_is ∙ not_taken (starts J) old.starts.items t over ∙ sym (ap (option_map (λ (a : Started). a.at)) (none_past t over))

    ticketed : TicketsStand new J
    ticketed = record {
      count = ap length starts_is ∙ length-take-le (starts J) old.starts.items (omega (arith, x.count, s.count));
      started = λ t. started t (compared t);
      count_settled = ap length settled_is ∙ length-take-le (starts J) old.settled.items (omega (arith, x.count, s.count_settled));
      settled = λ t below. ap (λ l. slice_get l t) settled_is ∙ taken (starts J) old.settled.items t below ∙ s.settled t (omega (arith, below, x.count)) ∙ ap Some (x.settled t);
      oldest = oldest_is;
      pending = omega (arith, pending_is, s.pending, s.count, x.pending, x.count);
      stamps = stamps_are;
      few = few_stamps J (slice_get new.starts.items new.oldest) new.stamps.stamps stamps_are;
      room_starts = room_starts;
      room_settled = room_settled;
    }

-- the stamps of the front, where its oldest open ticket is that of the whole
pub stamps_kept : (limits : Limits) (old : Tables) (J more : List Event) → StandsFor old (J ++ more) → EachFits limits (J ++ more) → All IsLookupOrStart more → old.oldest < starts J
    → (o : Option ℕ) → slice_get (take (starts J) old.starts.items) old.oldest ≡ o → StampsStand J o old.stamps.stamps
stamps_kept limits old J more s each quiet less o at = from o at s.stamps
  where
    from : (o : Option ℕ) → slice_get (take (starts J) old.starts.items) old.oldest ≡ o → StampsStand (J ++ more) (slice_get old.starts.items old.oldest) old.stamps.stamps → StampsStand J o old.stamps.stamps
    from o at h = back o (subst (λ p. StampsStand (J ++ more) p old.stamps.stamps) (sym (taken (starts J) old.starts.items old.oldest less) ∙ at) h)
      where
        back : (o : Option ℕ) → StampsStand (J ++ more) o old.stamps.stamps → StampsStand J o old.stamps.stamps
        back None h = h
        back (Some p) h = (extends_quiet limits more J each quiet).tells p old.stamps.stamps h

pub oldest_before : (limits : Limits) (old : Tables) (J more : List Event) → StandsFor old (J ++ more) → EachFits limits (J ++ more) → All IsLookupOrStart more → old.oldest < starts J → IsOldest (take (starts J) old.settled.items) old.oldest
oldest_before limits old J more s each quiet less = oldest_kept old.settled.items old.oldest (starts J) s.oldest less (omega (arith, s.count_settled, (extends_quiet limits more J each quiet).count))

pub oldest_past : (old : Tables) (J more : List Event) → StandsFor old (J ++ more) → starts J ≤ old.oldest → IsOldest (take (starts J) old.settled.items) (starts J)
oldest_past old J more s le = oldest_cut old.settled.items old.oldest (starts J) s.oldest le

pub nothing_past : (xs : List ℕ) (c : ℕ) → slice_get (take c xs) c ≡ None
nothing_past xs c = not_taken c xs c (omega arith)
