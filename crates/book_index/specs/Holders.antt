-- Positions by name, and by subgraph and name.
use Rattle.std.specs.Prelude.{◌≡◌, ℕ, Bool, nat_eq, List, [], Contains}
use Rattle.std.specs.List.{list_any}
use Rattle.std.specs.Option.{option_map_or}
use Rattle.std.specs.Str.{bytes_eq}
use Rattle.std.specs.BTreeMap as tree
use Rattle.indexmap.specs.IndexMap.{get}
use Rattle.book_index.specs.Positions.{text_cmp}
use Rattle.book_index.specs.declared.holders.Holders.{Holders}
use Rattle.book_index.specs.declared.subgraph_holders.SubgraphHolders.{SubgraphHolders}

-- the positions under a name
abbrev pub holders_of : Holders → List ℕ → List ℕ
holders_of holders name = option_map_or (λ set. set.keys) (get bytes_eq holders.sets name) []

-- whether the position is under the name
abbrev pub is_holder : Holders → List ℕ → ℕ → Bool
is_holder holders name p = list_any (nat_eq p) (holders_of holders name)

-- new has the position under the name or not, and is else as old
pub record SetsHolder (old new : Holders) (name : List ℕ) (position : ℕ) (present : Bool) : Type 0 where
  pub this : is_holder new name position ≡ present
  pub others : (other : List ℕ) (p : ℕ) → (((other ≡ name) × (p ≡ position)) → ⊥) → is_holder new other p ≡ is_holder old other p

-- both have the same positions
abbrev pub HasSameHolders : Holders → Holders → Type 0
HasSameHolders old new = (name : List ℕ) (p : ℕ) → is_holder new name p ≡ is_holder old name p

-- there are no positions
abbrev pub HasNoHolders : Holders → Type 0
HasNoHolders holders = (name : List ℕ) → holders_of holders name ≡ []

-- the positions under a name of the subgraph
abbrev pub holders_in : SubgraphHolders → List ℕ → List ℕ → List ℕ
holders_in holders sub name = option_map_or (λ h. holders_of h name) (tree.get text_cmp holders.subgraphs sub) []

-- whether the position is under the name of the subgraph
abbrev pub is_holder_in : SubgraphHolders → List ℕ → List ℕ → ℕ → Bool
is_holder_in holders sub name p = list_any (nat_eq p) (holders_in holders sub name)

-- new has the position under the name of the subgraph or not, and is else as old
pub record SetsHolderIn (old new : SubgraphHolders) (sub name : List ℕ) (position : ℕ) (present : Bool) : Type 0 where
  pub this : is_holder_in new sub name position ≡ present
  pub others : (s n : List ℕ) (p : ℕ) → (((s ≡ sub) × (n ≡ name) × (p ≡ position)) → ⊥) → is_holder_in new s n p ≡ is_holder_in old s n p

-- new has the position under each of these names of the subgraph or under none, and is else as old
pub record SetsHolders (old new : SubgraphHolders) (sub : List ℕ) (names : List (List ℕ)) (position : ℕ) (present : Bool) : Type 0 where
  pub these : (name : List ℕ) → Contains names name → is_holder_in new sub name position ≡ present
  pub others : (s n : List ℕ) (p : ℕ) → (((s ≡ sub) × Contains names n × (p ≡ position)) → ⊥) → is_holder_in new s n p ≡ is_holder_in old s n p

-- both have the same positions
abbrev pub HasSameHoldersIn : SubgraphHolders → SubgraphHolders → Type 0
HasSameHoldersIn old new = (sub name : List ℕ) (p : ℕ) → is_holder_in new sub name p ≡ is_holder_in old sub name p

-- there are no positions
abbrev pub HasNoHoldersIn : SubgraphHolders → Type 0
HasNoHoldersIn holders = (sub name : List ℕ) → holders_in holders sub name ≡ []
