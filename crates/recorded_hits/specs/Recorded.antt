-- What a hit is, in the words of the cache's promise.
use Rattle.std.specs.Prelude.{◌≡◌, ◌⊎◌, ℕ, ◌-◌, ◌*◌, ◌<◌, ◌≤◌, false, List, [], ◌∷◌, ◌++◌, length, slice_get, is_some, IsSomeAnd, Option, Some, None}
use Rattle.cache_terms.specs.declared.keys.Key.{Key}
use Rattle.cache_terms.specs.declared.events.Got.{Got}
use Rattle.cache_terms.specs.declared.events.Limits.{Limits}
use Rattle.cache_terms.specs.declared.events.Event.{Event}
use Rattle.cache_terms.specs.declared.events.Event.TheVariants as event
use Rattle.cache_terms.specs.declared.events.Outcome.TheVariants as outcome
use Rattle.cache_terms.specs.Offers.{why_of}
use Rattle.cache_model.specs.Journal.{Started, start_of, CoveredAt}
use Rattle.cache_model.specs.Legal.{IsLegal}
use Rattle.cache_book.specs.declared.found.Found.{Found}
use Rattle.cache_book.specs.declared.found.Found.TheVariants as found
use Rattle.cache_book.specs.Calls.{Look, Looked}
use Rattle.cache_seam.specs.Seen.{Seen, pass_of}
use Rattle.cache_seam.specs.Turns.{Turn, IsTurn}

-- The lookup of this key at this position, under this id and at this moment, was answered by what stands recorded at an
-- earlier one: this value.
pub record IsRecorded (J : List Event) (id : Option (List ℕ)) (now : ℕ) (key : Key) (lookup stored : ℕ) (value : List ℕ) : Type 0 where
  -- an earlier fetch of this very piece, which began at `fetch.at` and was settled as stored
  pub ticket : ℕ
  pub fetch : Started
  pub who : ℕ
  pub got : Got
  pub began : start_of J ticket ≡ Some fetch
  pub settled : slice_get J stored ≡ Some (event.Settle who ticket (Some got) outcome.Stored)
  pub in_order : (fetch.at < stored) × (stored < lookup)
  pub of_key : fetch.key ≡ key
  pub value_is : got.value ≡ Some value
  -- there was no reason not to keep it
  pub cacheable : why_of got.marks got.verdict got.tags (is_some fetch.id) ≡ None
  -- it is fresh at the moment of the lookup
  pub begun : fetch.since ≤ now
  pub fresh : now - fetch.since < 1000 * (got.verdict.lifetime - got.verdict.age)
  -- it is public, or was fetched under the very id of this lookup
  pub allowed : (got.verdict.private ≡ false) ⊎ IsSomeAnd id (λ own. fetch.id ≡ Some own)
  -- no invalidation of its subgraph, its type or its tags stands between the begin of its fetch and the lookup
  pub standing : (p : ℕ) → fetch.at < p → p < lookup → CoveredAt J key got.tags p → ⊥

-- in a legal journal each lookup with a hit was so answered
abbrev pub HitsAreRecorded : Type 0
HitsAreRecorded = (limits : Limits) (J : List Event) (who : ℕ) (key : Key) (id : Option (List ℕ)) (now lookup stored : ℕ)
    → IsLegal limits J → slice_get J lookup ≡ Some (event.Lookup who key id now (Some stored))
    → (value : List ℕ) × IsRecorded J id now key lookup stored value

-- so is each hit among the answers to these keys
abbrev pub AreRecorded : List Event → Option (List ℕ) → ℕ → List Key → List Found → Type 0
AreRecorded J id now [] [] = Unit {0}
AreRecorded J id now (key ∷ keys) (found.Hit lookup stored value left_ms private ∷ answers) = IsRecorded J id now key lookup stored value × AreRecorded J id now keys answers
AreRecorded J id now (key ∷ keys) (found.Miss lookup permit ∷ answers) = AreRecorded J id now keys answers
AreRecorded J id now (key ∷ keys) (found.Bypass permit ∷ answers) = AreRecorded J id now keys answers
AreRecorded J id now [] (answer ∷ answers) = ⊥
AreRecorded J id now (key ∷ keys) [] = ⊥

-- each hit of a look is, in the journal that the look leaves
abbrev pub LooksFindWhatIsRecorded : Type 0
LooksFindWhatIsRecorded = (c : Seen) (t : Turn) (id : Option (List ℕ)) (keys : List Key) (now : ℕ) (answers : List Found)
    → IsTurn c t → t.call ≡ Look (pass_of c) id keys now → t.answer ≡ Looked answers
    → AreRecorded t.left.journal id now keys answers

-- what was recorded is so in each longer journal
abbrev pub RecordedHitsStay : Type 0
RecordedHitsStay = (J more : List Event) (id : Option (List ℕ)) (now : ℕ) (key : Key) (lookup stored : ℕ) (value : List ℕ)
    → lookup < length J → IsRecorded J id now key lookup stored value → IsRecorded (J ++ more) id now key lookup stored value
