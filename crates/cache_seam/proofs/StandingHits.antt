-- What a look finds stands in the journal that it leaves, and in each later one of the epoch.
use Rattle.std.proofs.Common.{◌≡◌, ℕ, ◌==◌, Bool, true, false, List, [], ◌∷◌, ◌++◌, length, Option, Some, None, refl, ap, sym, ◌∙◌, subst, arith}
use Rattle.std.specs.Prelude.{slice_get, if◌then◌else◌, not}
use Rattle.std.specs.Option.{option_map, option_and_then}
use Rattle.std.proofs.lemmas.Bool.Decides.{nat_tests}
use Rattle.std.proofs.lemmas.Option.{option_and_then_some}
use Rattle.cache_terms.specs.declared.keys.Key.{Key}
use Rattle.cache_terms.specs.declared.events.Event.{Event}
use Rattle.cache_terms.specs.declared.events.Event.TheVariants as event
use Rattle.cache_terms.specs.declared.events.Got.{Got}
use Rattle.cache_terms.specs.declared.events.Mark.{Mark}
use Rattle.cache_terms.specs.declared.events.Outcome.TheVariants as outcome
use Rattle.cache_book.specs.declared.found.Found.{Found}
use Rattle.cache_book.specs.declared.found.Found.TheVariants as found
use Rattle.cache_model.specs.Journal.{Started, Kept, kept_of, kept_by, kept_at, start_of}
use Rattle.cache_model.specs.State.{State}
use Rattle.cache_model.proofs.Growth.{slice_get_before, slice_get_end}
use Rattle.cache_model.proofs.Tickets.{start_before}
use Rattle.cache_book.specs.Permits.{Pinned}
use Rattle.cache_book.specs.Looking.{AskedAll, LooksBy, bypass_mark, bypassed}
use Rattle.cache_book.specs.Calls.{Call, Answer, Step, Look, Looked}
use Rattle.cache_book.proofs.Asks.{asks_append}
use Rattle.cache_seam.specs.Seen.{Seen, pass_of}
use Rattle.cache_seam.specs.Turns.{Turn, IsTurn, seen_after, pinned_after}
use Rattle.cache_seam.specs.Standing.{Stands, HitsStand}
use Rattle.cache_seam.proofs.ChainLaws.{pick_same}

by_start : (J ds : List Event) (got : Got) (t : ℕ) (o : Option Started) (k : Kept) → start_of J t ≡ o → option_map (kept_by got) o ≡ Some k → option_map (kept_by got) (start_of (J ++ ds) t) ≡ Some k
by_start J ds got t None k is h = absurd (cc h)
by_start J ds got t (Some s) k is h = ap (option_map (kept_by got)) (start_before J ds 0 t s is) ∙ h

kept_of_more : (J ds : List Event) (e : Event) (k : Kept) → kept_of J e ≡ Some k → kept_of (J ++ ds) e ≡ Some k
kept_of_more J ds (event.Settle who t (Some got) outcome.Stored) k h = by_start J ds got t (start_of J t) k refl h
kept_of_more J ds (event.Settle who t None out) k h = absurd (cc h)
kept_of_more J ds (event.Settle who t (Some got) (outcome.Void p)) k h = absurd (cc h)
kept_of_more J ds (event.Settle who t (Some got) (outcome.NoRoom a b c)) k h = absurd (cc h)
kept_of_more J ds (event.Settle who t (Some got) (outcome.Unstorable w)) k h = absurd (cc h)
kept_of_more J ds (event.Settle who t (Some got) outcome.Failed) k h = absurd (cc h)
kept_of_more J ds (event.Settle who t (Some got) (outcome.Over a b)) k h = absurd (cc h)
kept_of_more J ds (event.Settle who t (Some got) outcome.Bypassed) k h = absurd (cc h)
kept_of_more J ds (event.Settle who t (Some got) outcome.Memory) k h = absurd (cc h)
kept_of_more J ds (event.Lookup who key id now hit) k h = absurd (cc h)
kept_of_more J ds (event.Start who t key id now) k h = absurd (cc h)
kept_of_more J ds (event.Invalidate who target count) k h = absurd (cc h)

-- what is kept at a position stays kept there
pub kept_more : (J ds : List Event) (q : ℕ) (k : Kept) → kept_at J q ≡ Some k → kept_at (J ++ ds) q ≡ Some k
kept_more J ds q k is =
    option_and_then_some (kept_of J) (slice_get J q) k is (λ e at kept. ap (option_and_then (kept_of (J ++ ds))) (slice_get_before J ds e q at) ∙ kept_of_more J ds e k kept)

module _ (pass : Pinned) (id : Option (List ℕ)) (now : ℕ) where
  -- what stands stays
  pub stands_more : (J ds : List Event) (key : Key) (l q : ℕ) (v : List ℕ) → Stands J pass id now key l q v → Stands (J ++ ds) pass id now key l q v
  stands_more J ds key l q v h = record { at = slice_get_before J ds (event.Lookup pass.who key id now (Some q)) l h.at; kept = h.kept; kept_is = kept_more J ds q h.kept h.kept_is; value_is = h.value_is }

  pub hits_more : (J ds : List Event) (keys : List Key) (answers : List Found) → HitsStand J pass id now keys answers → HitsStand (J ++ ds) pass id now keys answers
  hits_more J ds [] [] h = tt
  hits_more J ds (k ∷ keys) (found.Hit l q v m b ∷ answers) h = (stands_more J ds k l q v h.0, hits_more J ds keys answers h.1)
  hits_more J ds (k ∷ keys) (found.Miss l p ∷ answers) h = hits_more J ds keys answers h
  hits_more J ds (k ∷ keys) (found.Bypass p ∷ answers) h = hits_more J ds keys answers h
  hits_more J ds [] (a ∷ answers) h = absurd h
  hits_more J ds (k ∷ keys) [] h = absurd h

  asks_stand : (keys : List Key) (J : List Event) (answers : List Found) (K : List Event) → AskedAll pass id now keys J answers K → HitsStand K pass id now keys answers
  asks_stand [] J [] K h = tt
  asks_stand (k ∷ keys) J (found.Hit l q v m b ∷ answers) K h =
      let e : Event = event.Lookup pass.who k id now (Some q) in
      let more = asks_append pass id now keys (h.0) answers K (h.2) in
      let here : slice_get (J ++ e ∷ []) l ≡ Some e = ap (slice_get (J ++ e ∷ [])) (h.1.lookup_is) ∙ slice_get_end J [] e in
      let one : Stands (J ++ e ∷ []) pass id now k l q v = record { at = here; kept = h.1.kept; kept_is = kept_more J (e ∷ []) q (h.1.kept) (h.1.kept_is); value_is = h.1.value_is } in
      let mid : Stands (h.0) pass id now k l q v = subst (λ (x : List Event). Stands x pass id now k l q v) (sym (h.1.after)) one in
      (subst (λ (x : List Event). Stands x pass id now k l q v) (sym more.1) (stands_more (h.0) more.0 k l q v mid), asks_stand keys (h.0) answers K (h.2))
  asks_stand (k ∷ keys) J (found.Miss l p ∷ answers) K h = asks_stand keys (h.0) answers K (h.2)
  asks_stand (k ∷ keys) J (found.Bypass p ∷ answers) K h = asks_stand keys (h.0) answers K (h.2)
  asks_stand [] J (a ∷ answers) K h = absurd h
  asks_stand (k ∷ keys) J [] K h = absurd h

  none_stand : (J : List Event) (m : Mark) (keys : List Key) → HitsStand J pass id now keys (bypassed pass id m keys)
  none_stand J m [] = tt
  none_stand J m (k ∷ keys) = none_stand J m keys

-- a look that is not bypassed is made in the epoch of its pass
here_by : (last over full : Bool) (m : Mark) (n : Mark) (f : Option Mark) → (if last then Some m else (if not over then Some n else f)) ≡ None → over ≡ true
here_by true over full m n f h = absurd (cc h)
here_by false true full m n f h = refl
here_by false false full m n f h = absurd (cc h)

pub looked_here : (s : State) (pass : Pinned) (n : ℕ) → bypass_mark s pass n ≡ None → pass.epoch ≡ s.epoch
looked_here s pass n h =
    let test : (pass.epoch == s.epoch) ≡ true = here_by _ (pass.epoch == s.epoch) true _ _ _ h in
    grind (arith, nat_tests)

looks_stand : (how : Option Mark) (c : Seen) (t : Turn) (id : Option (List ℕ)) (keys : List Key) (now : ℕ) (answers : List Found) → bypass_mark t.found (pass_of c) (length keys) ≡ how → (seen_after c t).pinned ≡ c.pinned
    → LooksBy how t.found (pass_of c) id keys now answers t.left → HitsStand (seen_after c t).journal (pass_of c) id now keys answers
looks_stand (Some m) c t id keys now answers is pin h = subst (HitsStand (seen_after c t).journal (pass_of c) id now keys) (sym h.0) (none_stand (pass_of c) id now (seen_after c t).journal m keys)
looks_stand None c t id keys now answers is pin h =
    let epoch : t.left.epoch ≡ t.found.epoch = ap (λ (s : State). s.epoch) h.1 in
    let here : t.left.epoch ≡ (seen_after c t).pinned = epoch ∙ sym (looked_here t.found (pass_of c) (length keys) is) ∙ sym pin in
    subst (λ (J : List Event). HitsStand J (pass_of c) id now keys answers) (sym (pick_same t.left.epoch (seen_after c t).pinned t.left.journal c.journal here)) (asks_stand (pass_of c) id now keys t.found.journal answers t.left.journal h.0)

-- each hit of a look stands in the journal seen after it
pub look_stands : (c : Seen) (t : Turn) (id : Option (List ℕ)) (keys : List Key) (now : ℕ) (answers : List Found) → IsTurn c t → t.call ≡ Look (pass_of c) id keys now → t.answer ≡ Looked answers → HitsStand (seen_after c t).journal (pass_of c) id now keys answers
look_stands c t id keys now answers h call answer =
    let step = subst (λ (a : Answer). Step t.found (Look (pass_of c) id keys now) a t.left) answer (subst (λ (x : Call). Step t.found x t.answer t.left) call h.step) in
    let pin : (seen_after c t).pinned ≡ c.pinned = ap (λ (x : Call). pinned_after x c.pinned t.left.epoch) call in
    looks_stand (bypass_mark t.found (pass_of c) (length keys)) c t id keys now answers refl pin step
