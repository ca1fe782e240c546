-- What a plan asks for.
use Rattle.std.specs.Prelude.{◌≡◌, ℕ, false, List, length, All, Option, Some, None}
use Rattle.cache_terms.specs.declared.keys.Key.{Key}
use Rattle.json_paths.specs.declared.path.Place.{Place}
use Rattle.fetch_asks.specs.declared.ask.Ask.{Ask}
use Rattle.plan_run.specs.declared.plan.Task.{Task}

-- a fetch: its number, what it asks for, the keys of its pieces, and the places that use each of them
pub record Wanted : Type 0 where
  pub fetch : ℕ
  pub ask : Ask
  pub keys : List Key
  pub places : List (List Place)

abbrev pub shown : Task → Wanted
shown t = record { fetch = t.fetch; ask = t.ask; keys = t.keys.items; places = t.places }

abbrev pub wanted_of : Option Task → Option Wanted
wanted_of None = None
wanted_of (Some t) = Some (shown t)

-- the keys are of the ask's subgraph
abbrev pub IsNamed : Task → Type 0
IsNamed t = All (λ (k : Key). k.sub ≡ t.ask.name) t.keys.items

-- where no entities are asked for there is one key
abbrev pub HasOne : Task → Type 0
HasOne t = t.ask.entities ≡ false → length t.keys.items ≡ 1

-- what comes next is this fetch, with so many pieces
abbrev pub IsOf : Option Wanted → (fetch count : ℕ) → Type 0
IsOf None fetch count = ⊥
IsOf (Some w) fetch count = (w.fetch ≡ fetch) × (length w.keys ≡ count)
