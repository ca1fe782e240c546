-- What was found stands in the journal.
use Rattle.std.specs.Prelude.{◌≡◌, ℕ, List, [], ◌∷◌, slice_get, Option, Some}
use Rattle.cache_terms.specs.declared.keys.Key.{Key}
use Rattle.cache_terms.specs.declared.events.Event.{Event}
use Rattle.cache_terms.specs.declared.events.Event.TheVariants as event
use Rattle.cache_model.specs.Journal.{Kept, kept_at}
use Rattle.cache_book.specs.Permits.{Pinned}
use Rattle.cache_book.specs.declared.found.Found.{Found}
use Rattle.cache_book.specs.declared.found.Found.TheVariants as found

-- the lookup of this key by this pass, with this hit, stands at its position, and the hit keeps this value
pub record Stands (J : List Event) (pass : Pinned) (id : Option (List ℕ)) (now : ℕ) (key : Key) (lookup stored : ℕ) (value : List ℕ) : Type 0 where
  pub at : slice_get J lookup ≡ Some (event.Lookup pass.who key id now (Some stored))
  pub kept : Kept
  pub kept_is : kept_at J stored ≡ Some kept
  pub value_is : kept.value ≡ Some value

-- so does each hit of a look
abbrev pub HitsStand : List Event → Pinned → Option (List ℕ) → ℕ → List Key → List Found → Type 0
HitsStand J pass id now [] [] = Unit {0}
HitsStand J pass id now (key ∷ keys) (found.Hit lookup stored value left_ms private ∷ answers) = Stands J pass id now key lookup stored value × HitsStand J pass id now keys answers
HitsStand J pass id now (key ∷ keys) (found.Miss lookup permit ∷ answers) = HitsStand J pass id now keys answers
HitsStand J pass id now (key ∷ keys) (found.Bypass permit ∷ answers) = HitsStand J pass id now keys answers
HitsStand J pass id now [] (answer ∷ answers) = ⊥
HitsStand J pass id now (key ∷ keys) [] = ⊥
