-- What the fetches of a request give.
use Rattle.std.specs.Prelude.{ℕ, ◌+◌, List, [], ◌∷◌, ◌++◌, slice_get, Option, Some, None}
use Rattle.json_value.specs.declared.tree.Json.{Json}
use Rattle.json_paths.specs.declared.path.Place.{Place}
use Rattle.line_base.specs.Lines.{Entry}
use Rattle.cache_seam.specs.Turns.{Turn}
use Rattle.piece_fetch.specs.declared.fetched.Fetched.{Fetched}
use Rattle.piece_fetch.specs.declared.fetched.Lasts.{Lasts}
use Rattle.piece_fetch.specs.declared.fetched.Origin.{Origin}
use Rattle.piece_fetch.specs.declared.fetched.Cause.{Cause}
use Rattle.plan_run.specs.declared.outcome.Receipt.{Receipt}
use Rattle.plan_run.specs.declared.outcome.PieceError.{PieceError}
use Rattle.plan_run.specs.Plans.{Wanted}

-- a fetch that was done: its moment, its turns on the cache, what it sent over the line, and what it gave
pub record Done : Type 0 where
  pub now : ℕ
  pub turns : List Turn
  pub entries : List Entry
  pub fetched : Fetched

abbrev pub moments_of : List Done → List ℕ
moments_of [] = []
moments_of (d ∷ ds) = d.now ∷ moments_of ds

abbrev pub turns_of : List Done → List Turn
turns_of [] = []
turns_of (d ∷ ds) = d.turns ++ turns_of ds

abbrev pub entries_of : List Done → List Entry
entries_of [] = []
entries_of (d ∷ ds) = d.entries ++ entries_of ds

abbrev pub pieces_of : List Done → List (List Json)
pieces_of [] = []
pieces_of (d ∷ ds) = d.fetched.pieces.items ∷ pieces_of ds

-- the receipts of one fetch, from this index on, and of all
abbrev pub receipts_from : (fetch index : ℕ) → List Origin → List Receipt
receipts_from fetch index [] = []
receipts_from fetch index (o ∷ os) = record { fetch = fetch; index = index; origin = o } ∷ receipts_from fetch (index + 1) os

abbrev pub receipts_of : List Wanted → List Done → List Receipt
receipts_of (w ∷ ws) (d ∷ ds) = receipts_from w.fetch 0 d.fetched.origins.items ++ receipts_of ws ds
receipts_of [] ds = []
receipts_of (w ∷ ws) [] = []

-- how long the pieces last
abbrev pub lasts_of : List Done → List (Option Lasts)
lasts_of [] = []
lasts_of (d ∷ ds) = d.fetched.lasts.items ++ lasts_of ds

abbrev pub first_of_places : Option (List Place) → Option Place
first_of_places None = None
first_of_places (Some places) = slice_get places 0

-- the first place of the first piece that was asked for
abbrev pub path_of : List (List Place) → Option ℕ → Option Place
path_of places None = None
path_of places (Some index) = first_of_places (slice_get places index)

-- the errors of one fetch, and of all
abbrev pub errors_from : (fetch sub : ℕ) → Option Place → List Cause → List PieceError
errors_from fetch sub path [] = []
errors_from fetch sub path (c ∷ cs) = record { fetch = fetch; sub = sub; cause = c; path = path } ∷ errors_from fetch sub path cs

abbrev pub errors_by : Wanted → Fetched → List PieceError
errors_by w f = errors_from w.fetch w.ask.sub (path_of w.places f.first_sent) f.causes.items

abbrev pub errors_of : List Wanted → List Done → List PieceError
errors_of (w ∷ ws) (d ∷ ds) = errors_by w d.fetched ++ errors_of ws ds
errors_of [] ds = []
errors_of (w ∷ ws) [] = []
