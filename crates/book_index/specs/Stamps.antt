-- Stamps: the last position noted for each target.
use Rattle.std.specs.Prelude.{◌≡◌, ℕ, ◌+◌, ◌<◌, ◌≤◌, min, ◌^◌, ◌-◌, true, nat_lt, if◌then◌else◌, List, [], length, Contains, slice_index_or, Option, Some, None}
use Rattle.std.proofs.Common.{refl}
use Rattle.std.specs.FinMap as map
use Rattle.std.specs.Coded.{Coded, code_by, coded×, coded_ℕ}
use Rattle.std.specs.declared.cmp.Ordering.TheVariants.{Less, Greater}
use Rattle.cache_terms.specs.Keys.{Covers}
use Rattle.cache_terms.specs.declared.keys.Key.{Key}
use Rattle.cache_terms.specs.declared.keys.Target.{Target}
use Rattle.cache_terms.specs.declared.keys.Target.TheVariants.{Tag}
use Rattle.cache_terms.specs.declared.tags.Tags.{Tags}
use Rattle.cache_terms.specs.declared.tags.Tags.TheVariants.{Known, Many, Malformed}
use Rattle.book_index.specs.Targets.{target_cmp, coded_target}

-- a position for some targets
abbrev pub Positions : Type 0
Positions = map.FinMap target_cmp ℕ

-- stamps, with room for so many, and the number of probes so far
pub record Stamped : Type 0 where
  pub limit : ℕ
  pub probes : ℕ
  pub stamps : Positions

abbrev pub coded_stamped : Coded Stamped
coded_stamped = code_by (ℕ × (ℕ × Positions)) (coded× coded_ℕ (coded× coded_ℕ (map.code coded_target coded_ℕ))) (λ s. (s.limit, (s.probes, s.stamps))) (λ p. record { limit = p.0; probes = p.1.0; stamps = p.1.1 }) (λ _. refl)

-- no stamps yet, with room for so many
abbrev pub unstamped : ℕ → Stamped
unstamped limit = record { limit = limit; probes = 0; stamps = map.empty }

-- what rows in the order of their targets stand for
abbrev pub stamped : ℕ → ℕ → List (Target × ℕ) → Stamped
stamped limit probes rows = record { limit = limit; probes = probes; stamps = map.from_sorted rows }

-- the targets of the rows rise
abbrev pub IsInOrder : List (Target × ℕ) → Type 0
IsInOrder rows = map.is_sorted target_cmp rows ≡ true

-- so many probes more, up to the greatest number
abbrev pub probed : Stamped → ℕ → Stamped
probed s n = record s { probes = min (s.probes + n) (2 ^ 64 - 1) }

-- the target has this position
abbrev pub noted : Stamped → Target → ℕ → Stamped
noted s target position = record s { stamps = map.insert s.stamps target position }

-- no target has a position
abbrev pub cleared : Stamped → Stamped
cleared s = record s { stamps = map.empty }

-- a position above the horizon, or none
abbrev pub above : ℕ → Option ℕ → Option ℕ
above horizon None = None
above horizon (Some p) = if nat_lt horizon p then Some p else None

-- of the old stamps those above the horizon are left
abbrev pub IsPruned : ℕ → Positions → Positions → Type 0
IsPruned horizon old new = (target : Target) → map.get new target ≡ above horizon (map.get old target)

-- p is noted for a target that covers the key and tags
abbrev pub IsNotedFor : Positions → Key → Tags → ℕ → Type 0
IsNotedFor stamps key tags p = (target : Target) × (map.get stamps target ≡ Some p) × Covers target key tags

-- p is noted for one of these tags of the subgraph
abbrev pub IsTagNoted : Positions → List ℕ → List (List ℕ) → ℕ → Type 0
IsTagNoted stamps sub tags p = (tag : List ℕ) × Contains tags tag × (map.get stamps (Tag sub tag) ≡ Some p)

-- the greater of two positions, where there are such
abbrev pub later : Option ℕ → Option ℕ → Option ℕ
later None b = b
later (Some a) None = Some a
later (Some a) (Some b) = if nat_lt a b then Some b else Some a

-- the tags that are known
abbrev pub known_tags : Tags → List (List ℕ)
known_tags (Known tags) = tags
known_tags (Many count) = []
known_tags Malformed = []

-- the row at this place has the target
pub record IsRowOf (rows : List (Target × ℕ)) (target : Target) (at : ℕ) : Type 0 where
  pub in_range : at < length rows
  pub has : (d : Target × ℕ) → (slice_index_or rows at d).0 ≡ target

-- the target would go at this place: lesser targets stand before it, and greater ones from it on
pub record IsGapFor (rows : List (Target × ℕ)) (target : Target) (at : ℕ) : Type 0 where
  pub in_range : at ≤ length rows
  pub lesser : (i : ℕ) (d : Target × ℕ) → i < at → target_cmp (slice_index_or rows i d).0 target ≡ Less
  pub greater : (i : ℕ) (d : Target × ℕ) → at ≤ i → i < length rows → target_cmp (slice_index_or rows i d).0 target ≡ Greater
