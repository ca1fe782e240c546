-- The pieces that were found stand in the journal that is seen.
use Rattle.std.proofs.Common.{◌≡◌, ℕ, Bool, true, false, List, [], ◌∷◌, ◌++◌, length, Option, Some, None, refl, ap, sym, ◌∙◌, subst}
use Rattle.std.specs.Prelude.{if◌then◌else◌}
use Rattle.std.proofs.lemmas.List.{append-nil}
use Rattle.json_value.specs.declared.tree.Json.{Json}
use Rattle.json_value.proofs.Elements.{within}
use Rattle.cache_terms.specs.declared.keys.Key.{Key}
use Rattle.cache_terms.specs.declared.events.Event.{Event}
use Rattle.cache_terms.specs.declared.events.Event.TheVariants as event
use Rattle.cache_terms.specs.declared.events.Mark.{Mark}
use Rattle.cache_model.specs.State.{State}
use Rattle.cache_book.specs.declared.found.Found.{Found}
use Rattle.cache_book.specs.declared.found.Found.TheVariants as found
use Rattle.cache_book.specs.Permits.{Pinned}
use Rattle.cache_book.specs.Looking.{LooksBy, bypass_mark, bypassed}
use Rattle.cache_book.specs.Calls.{Call, Answer, Step, Look, Looked}
use Rattle.line_base.specs.Lines.{Line, Entry}
use Rattle.cache_seam.specs.Seen.{Seen, pass_of}
use Rattle.cache_seam.specs.Turns.{Turn, AreTurns, IsTurn, seen_after, seen_after_all, pinned_after}
use Rattle.cache_seam.specs.Standing.{Stands, HitsStand}
use Rattle.cache_seam.proofs.ChainLaws.{turns_grow, pick_same}
use Rattle.cache_seam.proofs.StandingHits.{look_stands, looked_here, hits_more}
use Rattle.recorded_hits.specs.Recorded.{IsRecorded, AreRecorded, LooksFindWhatIsRecorded, RecordedHitsStay}
use Rattle.fetch_asks.specs.declared.ask.Ask.{Ask}
use Rattle.piece_fetch.specs.declared.came.Brought.{Brought}
use Rattle.piece_fetch.specs.declared.fetched.Fetched.{Fetched}
use Rattle.piece_fetch.specs.declared.fetched.Lasts.{Lasts}
use Rattle.piece_fetch.specs.declared.fetched.Origin.{Origin}
use Rattle.piece_fetch.specs.declared.fetched.Origin.TheVariants as origin
use Rattle.piece_fetch.specs.declared.slots.Slot.{Slot}
use Rattle.piece_fetch.specs.declared.slots.Slot.TheVariants as slot
use Rattle.piece_fetch.specs.Offering.{is_null}
use Rattle.piece_fetch.specs.Fetching.{FetchesPieces, DoesFetch, AreGathered, no_more, hit, own, slots_of}
use Rattle.piece_fetch.specs.Justified.{AreFound}
use Rattle.piece_fetch.proofs.Pins.{KeepPin, pin_kept, settles_keep, keep_append}

-- WHAT IS RECORDED

module _ (pass : Pinned) (id : Option (List ℕ)) (now : ℕ) where
  none_recorded : (J : List Event) (m : Mark) (keys : List Key) → AreRecorded J id now keys (bypassed pass id m keys)
  none_recorded J m [] = tt
  none_recorded J m (k ∷ keys) = none_recorded J m keys

  -- what was recorded before a lookup stays so in each later journal
  recorded_more : RecordedHitsStay → (J ds : List Event) (keys : List Key) (answers : List Found) → HitsStand J pass id now keys answers → AreRecorded J id now keys answers → AreRecorded (J ++ ds) id now keys answers
  recorded_more stay J ds [] [] stand h = tt
  recorded_more stay J ds (k ∷ keys) (found.Hit l q v m b ∷ answers) stand h =
      (stay J ds id now k l q v (within J l (event.Lookup pass.who k id now (Some q)) (stand.0.at)) h.0, recorded_more stay J ds keys answers stand.1 h.1)
  recorded_more stay J ds (k ∷ keys) (found.Miss l p ∷ answers) stand h = recorded_more stay J ds keys answers stand h
  recorded_more stay J ds (k ∷ keys) (found.Bypass p ∷ answers) stand h = recorded_more stay J ds keys answers stand h
  recorded_more stay J ds [] (a ∷ answers) stand h = absurd h
  recorded_more stay J ds (k ∷ keys) [] stand h = absurd h

looks_recorded : (how : Option Mark) (c : Seen) (t : Turn) (id : Option (List ℕ)) (keys : List Key) (now : ℕ) (answers : List Found) → bypass_mark t.found (pass_of c) (length keys) ≡ how → (seen_after c t).pinned ≡ c.pinned
    → LooksBy how t.found (pass_of c) id keys now answers t.left → AreRecorded t.left.journal id now keys answers → AreRecorded (seen_after c t).journal id now keys answers
looks_recorded (Some m) c t id keys now answers is pin h left = subst (AreRecorded (seen_after c t).journal id now keys) (sym h.0) (none_recorded (pass_of c) id now (seen_after c t).journal m keys)
looks_recorded None c t id keys now answers is pin h left =
    let epoch : t.left.epoch ≡ t.found.epoch = ap (λ (s : State). s.epoch) h.1 in
    let here : t.left.epoch ≡ (seen_after c t).pinned = epoch ∙ sym (looked_here t.found (pass_of c) (length keys) is) ∙ sym pin in
    subst (λ (J : List Event). AreRecorded J id now keys answers) (sym (pick_same t.left.epoch (seen_after c t).pinned t.left.journal c.journal here)) left

-- each hit of a look was recorded, in the journal seen after it
look_recorded : LooksFindWhatIsRecorded → (c : Seen) (t : Turn) (id : Option (List ℕ)) (keys : List Key) (now : ℕ) (answers : List Found) → IsTurn c t → t.call ≡ Look (pass_of c) id keys now → t.answer ≡ Looked answers → AreRecorded (seen_after c t).journal id now keys answers
look_recorded find c t id keys now answers h call answer =
    let step = subst (λ (a : Answer). Step t.found (Look (pass_of c) id keys now) a t.left) answer (subst (λ (x : Call). Step t.found x t.answer t.left) call h.step) in
    let pin : (seen_after c t).pinned ≡ c.pinned = ap (λ (x : Call). pinned_after x c.pinned t.left.epoch) call in
    looks_recorded (bypass_mark t.found (pass_of c) (length keys)) c t id keys now answers refl pin step (find c t id keys now answers h call answer)

-- PIECES

module _ (J : List Event) (pass : Pinned) (id : Option (List ℕ)) (now : ℕ) (line call : ℕ) where
  own_found : (b : Bool) (key : Key) (keys : List Key) (x : Json) (xs : List Json) (os : List Origin) → AreFound J pass id now keys xs os → AreFound J pass id now (key ∷ keys) (x ∷ xs) ((if b then origin.Absent else origin.Own line call) ∷ os)
  own_found true key keys x xs os h = h
  own_found false key keys x xs os h = h

  -- each slot with a hit stands, and was recorded
  SlotsFound : List Key → List Slot → Type 0
  SlotsFound [] [] = Unit {0}
  SlotsFound (k ∷ keys) (slot.Hit l q v t ∷ slots) = (Stands J pass id now k l q v × IsRecorded J id now k l q v) × SlotsFound keys slots
  SlotsFound (k ∷ keys) (slot.Asked ∷ slots) = SlotsFound keys slots
  SlotsFound [] (s ∷ slots) = ⊥
  SlotsFound (k ∷ keys) [] = ⊥

  slots_found : (keys : List Key) (answers : List Found) → HitsStand J pass id now keys answers → AreRecorded J id now keys answers → SlotsFound keys (slots_of answers)
  unfolding SlotsFound
  slots_found [] [] stand kept = tt
  slots_found (k ∷ keys) (found.Hit l q v m b ∷ answers) stand kept = ((stand.0, kept.0), slots_found keys answers stand.1 kept.1)
  slots_found (k ∷ keys) (found.Miss l p ∷ answers) stand kept = slots_found keys answers stand kept
  slots_found (k ∷ keys) (found.Bypass p ∷ answers) stand kept = slots_found keys answers stand kept
  slots_found [] (a ∷ answers) stand kept = absurd stand
  slots_found (k ∷ keys) [] stand kept = absurd stand

  pieces_found : (slots : List Slot) (came : List Brought) (xs : List Json) (os : List Origin) (ls : List (Option Lasts)) → AreGathered line call slots came xs os ls → (keys : List Key) → SlotsFound keys slots → AreFound J pass id now keys xs os
  unfolding SlotsFound
  pieces_found _ _ _ _ _ no_more [] h = tt
  pieces_found _ _ _ _ _ no_more (k ∷ keys) h = absurd h
  pieces_found _ _ _ _ _ (hit l q v t x slots came xs os ls reads rest) [] h = absurd h
  pieces_found _ _ _ _ _ (hit l q v t x slots came xs os ls reads rest) (k ∷ keys) h = (record { value = v; stands = h.0.0; recorded = h.0.1; reads = reads }, pieces_found slots came xs os ls rest keys h.1)
  pieces_found _ _ _ _ _ (own one slots came xs os ls rest) [] h = absurd h
  pieces_found _ _ _ _ _ (own one slots came xs os ls rest) (k ∷ keys) h = own_found (is_null one.value) k keys one.value xs os (pieces_found slots came xs os ls rest keys h)

-- the hits of a fetch stand in the journal seen after it and all later turns that keep the pin
pub fetch_found : LooksFindWhatIsRecorded → RecordedHitsStay → (ask : Ask) (keys : List Key) (id : Option (List ℕ)) (line call : ℕ) (pass : Pinned) (now : ℕ) (turns us : List Turn) (entries : List Entry) (f : Fetched) (c : Seen) → pass_of c ≡ pass
    → FetchesPieces ask keys id line call pass now turns entries f → KeepPin us → AreTurns c (turns ++ us) → AreFound (seen_after_all c (turns ++ us)).journal pass id now keys f.pieces.items f.origins.items
fetch_found find stay ask keys id line call pass now turns us entries f c at h keep are =
    let rest : List Turn = h.settles ++ us in
    let shape : turns ++ us ≡ h.look ∷ rest = ap (λ (l : List Turn). l ++ us) h.turns_are in
    let taken : AreTurns c (h.look ∷ rest) = subst (AreTurns c) shape are in
    let looks : h.look.call ≡ Look (pass_of c) id keys now = h.looks ∙ ap (λ (p : Pinned). Look p id keys now) (sym at) in
    let stand : HitsStand (seen_after c h.look).journal (pass_of c) id now keys h.answers = look_stands c h.look id keys now h.answers taken.0 looks h.looked in
    let kept : AreRecorded (seen_after c h.look).journal id now keys h.answers = look_recorded find c h.look id keys now h.answers taken.0 looks h.looked in
    let pin = pin_kept (seen_after c h.look) rest (keep_append h.settles us (settles_keep _ _ h.settles h.settled) keep) in
    let grow = turns_grow (seen_after c h.look) rest taken.1 (ap (λ (p : Pinned). p.epoch) pin.0) in
    let end : List Event = (seen_after_all c (h.look ∷ rest)).journal in
    let more : HitsStand end (pass_of c) id now keys h.answers =
    subst (λ (J : List Event). HitsStand J (pass_of c) id now keys h.answers) (sym grow.1) (hits_more (pass_of c) id now (seen_after c h.look).journal grow.0 keys h.answers stand) in
    let lasting : AreRecorded end id now keys h.answers =
    subst (λ (J : List Event). AreRecorded J id now keys h.answers) (sym grow.1) (recorded_more (pass_of c) id now stay (seen_after c h.look).journal grow.0 keys h.answers stand kept) in
    let here : AreFound end pass id now keys f.pieces.items f.origins.items =
    pieces_found end pass id now line call (slots_of h.answers) _ f.pieces.items f.origins.items f.lasts.items h.pieces keys
    (slots_found end pass id now line call keys h.answers (subst (λ (p : Pinned). HitsStand end p id now keys h.answers) at more) lasting) in
    subst (λ (l : List Turn). AreFound (seen_after_all c l).journal pass id now keys f.pieces.items f.origins.items) (sym shape) here

-- so it is when a fetch is done
pub does_found : LooksFindWhatIsRecorded → RecordedHitsStay → (ask : Ask) (keys : List Key) (id : Option (List ℕ)) (number : ℕ) (old new : Seen) (l m : Line) (before after : Option (List ℕ)) (f : Fetched) (h : DoesFetch ask keys id number old new l m before after f)
    → AreFound new.journal (pass_of old) id h.now keys f.pieces.items f.origins.items
does_found find stay ask keys id number old new l m before after f h =
    let whole : h.turns ++ [] ≡ h.turns = append-nil h.turns in
    let here : AreFound (seen_after_all old (h.turns ++ [])).journal (pass_of old) id h.now keys f.pieces.items f.origins.items =
    fetch_found find stay ask keys id number l.calls (pass_of old) h.now h.turns [] h.entries f old refl h.fetches tt (subst (AreTurns old) (sym whole) h.takes.are_turns) in
    subst (λ (c : Seen). AreFound c.journal (pass_of old) id h.now keys f.pieces.items f.origins.items) (sym h.takes.after)
    (subst (λ (ts : List Turn). AreFound (seen_after_all old ts).journal (pass_of old) id h.now keys f.pieces.items f.origins.items) whole here)
