-- What serves proofs alone: the indexes of a collection, and the collections that shaping keeps. No public clause speaks
-- of them.
use Rattle.std.specs.Prelude.{◌≡◌, ℕ, zero, suc, ◌<◌, ◌≤◌, ◌⊎◌, List, [], ◌∷◌, ◌++◌, Option, Some, None, length, take, drop, get_or, slice_get}
use Rattle.std.specs.Str.{bytes_eq}
use Rattle.indexmap.specs.IndexMap.{IndexMap, get}
use Rattle.json_value.specs.declared.tree.Json.{Json}
use Rattle.gql_terms.specs.declared.documents.Selection.{Selection}
use Rattle.gql_types.specs.declared.definition.TypeDef.{TypeDef}
use Rattle.gql_shape.specs.declared.known.Stretch.{Stretch}
use Rattle.gql_shape.specs.Terms.{Scope, Group}
use Rattle.gql_shape.specs.Collecting.{Selects}
use Rattle.gql_shape.specs.Completing.{selections_of, place_of}
use Rattle.gql_shape.specs.Kept.{KeptRule, kept_rule}

-- the key of the group
abbrev pub key_in : Group → List ℕ
key_in g = g.first.key

-- ---- the groups of all collections, one collection behind the other

-- each group has its rule at the same place
pub record Collections : Type 0 where
  pub scope : Scope
  pub groups : List Group
  pub rules : List KeptRule

-- a group, with what is kept of the rule of its field
pub record RuledGroup : Type 0 where
  pub group : Group
  pub rule : KeptRule

abbrev pub group_in : RuledGroup → Group
group_in r = r.group

abbrev pub rule_in : RuledGroup → KeptRule
rule_in r = r.rule

-- the rule of the group's field, which is the first, for an object of this type
abbrev pub rule_for : List TypeDef → List ℕ → Group → KeptRule
rule_for schema object g = kept_rule schema object g.first.name

abbrev pub with_rule : List TypeDef → List ℕ → Group → RuledGroup
with_rule schema object g = record { group = g; rule = rule_for schema object g }

-- the selections of the group at this place
abbrev pub selections_at : List Group → ℕ → List Selection
selections_at [] i = []
selections_at (g ∷ gs) zero = selections_of g
selections_at (g ∷ gs) (suc i) = selections_at gs i

-- the groups of one collection
abbrev pub groups_in : Stretch → List Group → List Group
groups_in stretch gs = drop stretch.first (take stretch.past gs)

abbrev pub IsStretch : Stretch → List Group → Type 0
IsStretch stretch gs = stretch.past ≤ length gs

-- beside each group of the stretch is its rule for objects of this type
abbrev pub AreRuled : Scope → List ℕ → Stretch → List Group → List KeptRule → Type 0
AreRuled s object stretch gs rules =
    (i : ℕ) (g : Group) → stretch.first ≤ i → i < stretch.past → g ≡ get_or gs i g → slice_get rules i ≡ Some (rule_for s.schema object g)

-- the stretch holds what the group at this place selects of an object of this type
pub record HoldsSelected (s : Scope) (gs : List Group) (rules : List KeptRule) (i : ℕ) (object : List ℕ) (stretch : Stretch) : Type 0 where
  pub there : i < length gs
  pub within : IsStretch stretch gs
  pub selects : Selects s object (selections_at gs i) (groups_in stretch gs)
  pub ruled : AreRuled s object stretch gs rules

-- for the group at this place, the collection that is known for the object type
abbrev pub stretch_known : {S : Type 0} → List (IndexMap (List ℕ) Stretch S) → ℕ → List ℕ → Option Stretch
stretch_known [] i object = None
stretch_known (m ∷ ms) zero object = get bytes_eq m object
stretch_known (m ∷ ms) (suc i) object = stretch_known ms i object

-- each collection that is known is what its group selects
abbrev pub AreSelected : {S : Type 0} → Scope → List Group → List KeptRule → List (IndexMap (List ℕ) Stretch S) → Type 0
AreSelected s gs rules known = (i : ℕ) (object : List ℕ) (stretch : Stretch) → stretch_known known i object ≡ Some stretch → HoldsSelected s gs rules i object stretch

-- what was known before is all that is known
abbrev pub KnowsNoMore : {S : Type 0} → List (IndexMap (List ℕ) Stretch S) → List (IndexMap (List ℕ) Stretch S) → Type 0
KnowsNoMore old new = (i : ℕ) (object : List ℕ) (stretch : Stretch) → stretch_known new i object ≡ Some stretch → stretch_known old i object ≡ Some stretch

-- groups come behind those that are there, with their rules
pub record Extends (old new : Collections) : Type 0 where
  pub scope : new.scope ≡ old.scope
  pub more : List Group
  pub groups : new.groups ≡ old.groups ++ more
  pub more_rules : List KeptRule
  pub rules : new.rules ≡ old.rules ++ more_rules

-- what is known was known before, or is this stretch of the group at this place for this object type
abbrev pub IsNotedBeside : {S : Type 0} → List (IndexMap (List ℕ) Stretch S) → ℕ → List ℕ → Stretch → List (IndexMap (List ℕ) Stretch S) → Type 0
IsNotedBeside old at named noted new =
    (i : ℕ) (object : List ℕ) (stretch : Stretch) → stretch_known new i object ≡ Some stretch →
    (stretch_known old i object ≡ Some stretch) ⊎ ((i ≡ at) × (object ≡ named) × (stretch ≡ noted))

-- ---- members by their names

abbrev pub place_or : Option ℕ → ℕ → ℕ
place_or None n = n
place_or (Some i) n = i

-- the index has the place of the first member of each name
abbrev pub ArePlaces : {S : Type 0} → IndexMap (List ℕ) ℕ S → List (List ℕ × Json) → Type 0
ArePlaces places members = (name : List ℕ) → place_or (get bytes_eq places name) (length members) ≡ place_of name members

-- an index of the members, where there is one
abbrev pub IsIndexOf : {S : Type 0} → Option (IndexMap (List ℕ) ℕ S) → List (List ℕ × Json) → Type 0
IsIndexOf None members = Unit {0}
IsIndexOf (Some places) members = ArePlaces places members
