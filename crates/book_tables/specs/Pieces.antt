-- Serves private clauses and proofs alone: what the indexes say of pieces, each at its position.
use Rattle.std.specs.Prelude.{◌≡◌, ◌⊎◌, ℕ, true, false, List, length, slice_get, Option, Some, None}
use Rattle.std.specs.Option.{option_map}
use Rattle.cache_terms.specs.declared.keys.Key.{Key}
use Rattle.cache_terms.specs.declared.keys.Target.{Target}
use Rattle.cache_terms.specs.declared.tags.Tags.{Tags}
use Rattle.cache_terms.specs.declared.events.Event.{Event}
use Rattle.cache_terms.specs.Keys.{Covers}
use Rattle.cache_model.specs.Journal.{start_of, Kept, IsHeld}
use Rattle.book_index.specs.declared.key_index.KeyIndex.{KeyIndex}
use Rattle.book_index.specs.declared.tag_index.TagIndex.{TagIndex}
use Rattle.book_index.specs.Positions.{position_at}
use Rattle.book_index.specs.Under.{is_under, SetsUnder}
use Rattle.book_tables.specs.declared.refs.KeptRef.{KeptRef}
use Rattle.book_tables.specs.Refs.{kept_shown}

-- where each ticket has its Start
abbrev pub AreStarts : List ℕ → List Event → Type 0
AreStarts positions J = (t : ℕ) → slice_get positions t ≡ option_map (λ s. s.at) (start_of J t)

-- which pieces stand at which positions
abbrev pub Pieces : Type 1
Pieces = ℕ → Kept → Type 0

-- the piece for the key and scope stands at the position, or there is none
abbrev pub IsFor : Pieces → Key → Option (List ℕ) → Option ℕ → Type 0
IsFor H key scope None = (q : ℕ) (k : Kept) → H q k → k.key ≡ key → k.scope ≡ scope → ⊥
IsFor H key scope (Some q) = (k : Kept) × H q k × (k.key ≡ key) × (k.scope ≡ scope)

-- the index has these pieces by key and scope
abbrev pub Keyed : KeyIndex → Pieces → Type 0
Keyed keys H = (key : Key) (scope : Option (List ℕ)) → IsFor H key scope (position_at keys key scope)

-- a piece that the target covers stands at the position
abbrev pub IsCovered : Pieces → Target → ℕ → Type 0
IsCovered H target q = (k : Kept) × H q k × Covers target k.key k.tags

-- the index has these pieces by target
pub record Targeted (holders : TagIndex) (H : Pieces) : Type 0 where
  pub forth : (target : Target) (q : ℕ) → is_under holders target q ≡ true → IsCovered H target q
  pub back : (target : Target) (q : ℕ) (k : Kept) → H q k → Covers target k.key k.tags → is_under holders target q ≡ true

-- what is held, but of what the target covers only what is still under it
abbrev pub Partly : List Event → Target → TagIndex → Pieces
Partly J target holders = λ q k. IsHeld J q k × (Covers target k.key k.tags → is_under holders target q ≡ true)

-- what is held and the target does not cover
abbrev pub Uncovered : List Event → Target → Pieces
Uncovered J target = λ q k. IsHeld J q k × (Covers target k.key k.tags → ⊥)

-- new has the position under no target that covers the superseded piece, and is else as old
abbrev pub DropsBefore : TagIndex → Option (ℕ × KeptRef) → TagIndex → Type 0
DropsBefore old None new = new ≡ old
DropsBefore old (Some (q, kept)) new = SetsUnder old new (kept_shown kept).key (kept_shown kept).tags q false

-- new has the piece at the position in the place of the superseded one
abbrev pub Supersedes : TagIndex → TagIndex → Key → Tags → ℕ → Option (ℕ × KeptRef) → Type 0
Supersedes old new key tags q superseded = (mid : TagIndex) × SetsUnder old mid key tags q true × DropsBefore mid superseded new

-- the position is under no target
abbrev pub IsNewPosition : TagIndex → ℕ → Type 0
IsNewPosition holders q = (target : Target) → is_under holders target q ≡ true → ⊥

-- what is held for the key and scope, with its position, or none where nothing is
abbrev pub IsSuperseded : List Event → Key → Option (List ℕ) → Option (ℕ × KeptRef) → Type 0
IsSuperseded J key scope None = (q : ℕ) (k : Kept) → IsHeld J q k → k.key ≡ key → k.scope ≡ scope → ⊥
IsSuperseded J key scope (Some (q, kept)) = IsHeld J q (kept_shown kept) × ((kept_shown kept).key ≡ key) × ((kept_shown kept).scope ≡ scope)

-- those of other keys or scopes, and this one
abbrev pub Replaced : Pieces → ℕ → Kept → Pieces
Replaced H q k = λ r m. (H r m × (m.key ≡ k.key → m.scope ≡ k.scope → ⊥)) ⊎ ((r ≡ q) × (m ≡ k))

-- the property of what is held where a piece of this key and scope and of these tags is kept next
abbrev pub IsPlaced : List Event → Key → Option (List ℕ) → Tags → (Pieces → Type 0) → Type 0
IsPlaced J key scope tags P = (k : Kept) → k.key ≡ key → k.scope ≡ scope → k.tags ≡ tags → P (Replaced (IsHeld J) (length J) k)
