-- Positions by key and scope.
use Rattle.std.specs.Prelude.{◌≡◌, ℕ, Bool, ◌&&◌, List, Option, Some, None}
use Rattle.std.specs.Option.{option_and_then}
use Rattle.std.specs.Ordering.{nat_cmp}
use Rattle.std.specs.declared.cmp.Ordering.{Ordering}
use Rattle.std.specs.Cmp.Lexicographic.{slice_cmp}
use Rattle.std.specs.Str.{bytes_eq}
use Rattle.std.specs.BTreeMap as tree
use Rattle.indexmap.specs.IndexMap.{get}
use Rattle.cache_terms.specs.declared.keys.Key.{Key}
use Rattle.book_index.specs.declared.key_index.Slot.{Slot}
use Rattle.book_index.specs.declared.key_index.KeyIndex.{KeyIndex}

abbrev pub text_cmp : List ℕ → List ℕ → Ordering
text_cmp a b = slice_cmp nat_cmp a b

-- whether both have the same subgraph, type, representation and selection
abbrev pub key_eq : Key → Key → Bool
key_eq a b = bytes_eq a.sub b.sub && (bytes_eq a.type_name b.type_name && (bytes_eq a.rep b.rep && bytes_eq a.sel b.sel))

-- the position of a scope. The scope None is public, and Some id is private to that id
abbrev pub in_slot : Slot → Option (List ℕ) → Option ℕ
in_slot slot None = slot.public
in_slot slot (Some id) = tree.get text_cmp slot.private id

-- the position of a key and scope
abbrev pub position_at : KeyIndex → Key → Option (List ℕ) → Option ℕ
position_at index key scope = option_and_then (λ slot. in_slot slot scope) (get key_eq index.slots key)

-- new has the value for the id, and for each other id what old has
pub record SetsText (old new : tree.BTreeMap (List ℕ) ℕ) (id : List ℕ) (value : Option ℕ) : Type 0 where
  pub this : tree.get text_cmp new id ≡ value
  pub others : (other : List ℕ) → (other ≡ id → ⊥) → tree.get text_cmp new other ≡ tree.get text_cmp old other

-- new has the value in the scope, and in each other scope what old has
pub record SetsScope (old new : Slot) (scope : Option (List ℕ)) (value : Option ℕ) : Type 0 where
  pub this : in_slot new scope ≡ value
  pub others : (other : Option (List ℕ)) → (other ≡ scope → ⊥) → in_slot new other ≡ in_slot old other

-- new has the value at the key and scope, and at each other pair what old has
pub record SetsKey (old new : KeyIndex) (key : Key) (scope : Option (List ℕ)) (value : Option ℕ) : Type 0 where
  pub this : position_at new key scope ≡ value
  pub others : (k : Key) (s : Option (List ℕ)) → (((k ≡ key) × (s ≡ scope)) → ⊥) → position_at new k s ≡ position_at old k s

abbrev pub PutsKey : KeyIndex → KeyIndex → Key → Option (List ℕ) → ℕ → Type 0
PutsKey old new key scope position = SetsKey old new key scope (Some position)

-- both have the same positions
abbrev pub HasSame : KeyIndex → KeyIndex → Type 0
HasSame old new = (k : Key) (s : Option (List ℕ)) → position_at new k s ≡ position_at old k s

-- both have the same positions
abbrev pub HasSameTexts : tree.BTreeMap (List ℕ) ℕ → tree.BTreeMap (List ℕ) ℕ → Type 0
HasSameTexts old new = (id : List ℕ) → tree.get text_cmp new id ≡ tree.get text_cmp old id

-- both have the same positions
abbrev pub HasSameScopes : Slot → Slot → Type 0
HasSameScopes old new = (scope : Option (List ℕ)) → in_slot new scope ≡ in_slot old scope

-- no scope has a position
abbrev pub IsVacant : Slot → Type 0
IsVacant slot = (scope : Option (List ℕ)) → in_slot slot scope ≡ None

-- there are no positions
abbrev pub HasNone : KeyIndex → Type 0
HasNone index = (key : Key) (scope : Option (List ℕ)) → position_at index key scope ≡ None
