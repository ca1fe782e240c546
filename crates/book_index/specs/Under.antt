-- Positions by target.
use Rattle.std.specs.Prelude.{◌≡◌, ℕ, Bool, nat_eq, List, []}
use Rattle.std.specs.List.{list_any}
use Rattle.cache_terms.specs.Keys.{Covers}
use Rattle.cache_terms.specs.declared.keys.Key.{Key}
use Rattle.cache_terms.specs.declared.keys.Target.{Target}
use Rattle.cache_terms.specs.declared.keys.Target.TheVariants.{Subgraph, OfType, Tag}
use Rattle.cache_terms.specs.declared.tags.Tags.{Tags}
use Rattle.book_index.specs.declared.tag_index.TagIndex.{TagIndex}
use Rattle.book_index.specs.Holders.{holders_of, holders_in}

-- the positions under a target
abbrev pub under : TagIndex → Target → List ℕ
under index (Subgraph sub) = holders_of index.whole sub
under index (OfType sub type_name) = holders_in index.types sub type_name
under index (Tag sub tag) = holders_in index.tags sub tag

-- whether the position is under the target
abbrev pub is_under : TagIndex → Target → ℕ → Bool
is_under index target p = list_any (nat_eq p) (under index target)

-- new has the position under each target that covers the key and tags, or under none of them, and is else as old
pub record SetsUnder (old new : TagIndex) (key : Key) (tags : Tags) (position : ℕ) (present : Bool) : Type 0 where
  pub covering : (target : Target) → Covers target key tags → is_under new target position ≡ present
  pub others : (target : Target) (p : ℕ) → ((Covers target key tags × (p ≡ position)) → ⊥) → is_under new target p ≡ is_under old target p

-- both have the same positions
abbrev pub HasSameUnder : TagIndex → TagIndex → Type 0
HasSameUnder old new = (target : Target) (p : ℕ) → is_under new target p ≡ is_under old target p

-- there are no positions
abbrev pub HasNoneUnder : TagIndex → Type 0
HasNoneUnder index = (target : Target) → under index target ≡ []
