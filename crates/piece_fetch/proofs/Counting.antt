-- Each key has its piece.
use Rattle.std.proofs.Common.{◌≡◌, ℕ, List, [], ◌∷◌, length, Option, refl, ◌∙◌, subst, arith}
use Rattle.json_value.specs.declared.tree.Json.{Json}
use Rattle.cache_terms.specs.declared.keys.Key.{Key}
use Rattle.cache_book.specs.declared.found.Found.{Found}
use Rattle.cache_book.specs.declared.found.Found.TheVariants as found
use Rattle.cache_book.specs.Calls.{Look, Looked}
use Rattle.line_base.specs.Lines.{Line}
use Rattle.cache_seam.specs.Seen.{Seen, pass_of}
use Rattle.cache_seam.specs.Turns.{AreTurns, Calls, seen_after}
use Rattle.cache_seam.proofs.Hands.{look_answers}
use Rattle.fetch_asks.specs.declared.ask.Ask.{Ask}
use Rattle.piece_fetch.specs.declared.came.Brought.{Brought}
use Rattle.piece_fetch.specs.declared.fetched.Fetched.{Fetched}
use Rattle.piece_fetch.specs.declared.fetched.Lasts.{Lasts}
use Rattle.piece_fetch.specs.declared.fetched.Origin.{Origin}
use Rattle.piece_fetch.specs.declared.slots.Slot.{Slot}
use Rattle.piece_fetch.specs.Fetching.{DoesFetch, HasEach, AreGathered, no_more, hit, own, slots_of}
use Rattle.piece_fetch.proofs.Parting.{as_many}

as_many_slots : (answers : List Found) → length (slots_of answers) ≡ length answers
as_many_slots [] = refl
as_many_slots (found.Hit l q v m b ∷ answers) = omega (arith, as_many_slots answers)
as_many_slots (found.Miss l p ∷ answers) = omega (arith, as_many_slots answers)
as_many_slots (found.Bypass p ∷ answers) = omega (arith, as_many_slots answers)

module _ (line call : ℕ) where
  as_many_pieces : (slots : List Slot) (came : List Brought) (xs : List Json) (os : List Origin) (ls : List (Option Lasts)) → AreGathered line call slots came xs os ls → length xs ≡ length slots
  as_many_pieces _ _ _ _ _ no_more = refl
  as_many_pieces _ _ _ _ _ (hit l q v t x slots came xs os ls reads rest) = omega (arith, as_many_pieces slots came xs os ls rest)
  as_many_pieces _ _ _ _ _ (own one slots came xs os ls rest) = omega (arith, as_many_pieces slots came xs os ls rest)

  as_many_origins : (slots : List Slot) (came : List Brought) (xs : List Json) (os : List Origin) (ls : List (Option Lasts)) → AreGathered line call slots came xs os ls → length os ≡ length slots
  as_many_origins _ _ _ _ _ no_more = refl
  as_many_origins _ _ _ _ _ (hit l q v t x slots came xs os ls reads rest) = omega (arith, as_many_origins slots came xs os ls rest)
  as_many_origins _ _ _ _ _ (own one slots came xs os ls rest) = omega (arith, as_many_origins slots came xs os ls rest)

  as_many_lasts : (slots : List Slot) (came : List Brought) (xs : List Json) (os : List Origin) (ls : List (Option Lasts)) → AreGathered line call slots came xs os ls → length ls ≡ length slots
  as_many_lasts _ _ _ _ _ no_more = refl
  as_many_lasts _ _ _ _ _ (hit l q v t x slots came xs os ls reads rest) = omega (arith, as_many_lasts slots came xs os ls rest)
  as_many_lasts _ _ _ _ _ (own one slots came xs os ls rest) = omega (arith, as_many_lasts slots came xs os ls rest)

pub fetch_has_each : (ask : Ask) (keys : List Key) (id : Option (List ℕ)) (number : ℕ) (old new : Seen) (l m : Line) (before after : Option (List ℕ)) (f : Fetched) → DoesFetch ask keys id number old new l m before after f → HasEach keys f
fetch_has_each ask keys id number old new l m before after f h =
    let fetch = h.fetches in
    let taken : AreTurns old (fetch.look ∷ fetch.settles) = subst (AreTurns old) fetch.turns_are h.takes.are_turns in
    let calls : Calls old (Look (pass_of old) id keys h.now) (Looked fetch.answers) (seen_after old fetch.look) = record { turn = fetch.look; call_is = fetch.looks; answer_is = fetch.looked; is_turn = taken.0; after = refl } in
    let answered = look_answers old (seen_after old fetch.look) (pass_of old) id keys h.now fetch.answers calls in
    let many : length (slots_of fetch.answers) ≡ length keys = as_many_slots fetch.answers ∙ as_many (pass_of old) id keys fetch.answers answered in
    record {
      pieces = as_many_pieces number l.calls (slots_of fetch.answers) _ f.pieces.items f.origins.items f.lasts.items fetch.pieces ∙ many;
      origins = as_many_origins number l.calls (slots_of fetch.answers) _ f.pieces.items f.origins.items f.lasts.items fetch.pieces ∙ many;
      lasts = as_many_lasts number l.calls (slots_of fetch.answers) _ f.pieces.items f.origins.items f.lasts.items fetch.pieces ∙ many;
    }
