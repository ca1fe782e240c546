-- Why each piece stands that was found.
use Rattle.std.specs.Prelude.{ℕ, List, [], ◌∷◌, Option}
use Rattle.json_value.specs.declared.tree.Json.{Json}
use Rattle.json_value.specs.Grammar.{IsText, strict}
use Rattle.cache_terms.specs.declared.keys.Key.{Key}
use Rattle.cache_terms.specs.declared.events.Event.{Event}
use Rattle.cache_book.specs.Permits.{Pinned}
use Rattle.cache_seam.specs.Standing.{Stands}
use Rattle.recorded_hits.specs.Recorded.{IsRecorded}
use Rattle.piece_fetch.specs.declared.fetched.Origin.{Origin}
use Rattle.piece_fetch.specs.declared.fetched.Origin.TheVariants as origin

-- In this journal the lookup of the key stands with its hit; what it hit was recorded by an earlier fetch as cacheable,
-- fresh, public or of the same caller, with no invalidation since that fetch began; and the piece is its value.
pub record IsFound (J : List Event) (pass : Pinned) (id : Option (List ℕ)) (now : ℕ) (key : Key) (lookup stored : ℕ) (piece : Json) : Type 0 where
  pub value : List ℕ
  pub stands : Stands J pass id now key lookup stored value
  pub recorded : IsRecorded J id now key lookup stored value
  pub reads : IsText strict piece value

-- so it is with each piece whose origin is a hit
abbrev pub AreFound : List Event → Pinned → Option (List ℕ) → ℕ → List Key → List Json → List Origin → Type 0
AreFound J pass id now [] [] [] = Unit {0}
AreFound J pass id now (key ∷ keys) (piece ∷ pieces) (origin.Hit lookup stored ∷ origins) = IsFound J pass id now key lookup stored piece × AreFound J pass id now keys pieces origins
AreFound J pass id now (key ∷ keys) (piece ∷ pieces) (origin.Own line call ∷ origins) = AreFound J pass id now keys pieces origins
AreFound J pass id now (key ∷ keys) (piece ∷ pieces) (origin.Absent ∷ origins) = AreFound J pass id now keys pieces origins
AreFound J pass id now keys pieces origins = ⊥
