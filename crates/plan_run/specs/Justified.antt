-- Why each piece stands that was found.
use Rattle.std.specs.Prelude.{ℕ, List, [], ◌∷◌, Option}
use Rattle.cache_terms.specs.declared.events.Event.{Event}
use Rattle.cache_book.specs.Permits.{Pinned}
use Rattle.piece_fetch.specs.Justified.{AreFound}
use Rattle.plan_run.specs.Plans.{Wanted}
use Rattle.plan_run.specs.Outcomes.{Done}

-- in this journal each piece of these fetches whose origin is a hit was recorded by an earlier fetch, and stands
abbrev pub AllFound : List Event → Pinned → Option (List ℕ) → List Wanted → List Done → Type 0
AllFound J pass id [] [] = Unit {0}
AllFound J pass id (w ∷ ws) (d ∷ ds) = AreFound J pass id d.now w.keys d.fetched.pieces.items d.fetched.origins.items × AllFound J pass id ws ds
AllFound J pass id [] (d ∷ ds) = ⊥
AllFound J pass id (w ∷ ws) [] = ⊥
