-- Keys, and what an invalidation covers.
use Rattle.std.specs.Prelude.{◌≡◌, ℕ, ◌+◌, length}
use Rattle.cache_terms.specs.declared.keys.Key.{Key}
use Rattle.cache_terms.specs.declared.keys.Target.{Target}
use Rattle.cache_terms.specs.declared.keys.Target.TheVariants.{Subgraph, OfType, Tag}
use Rattle.cache_terms.specs.declared.tags.Tags.{Tags}
use Rattle.cache_terms.specs.Tags.{HasTag}

-- the length of the four texts
abbrev pub key_bytes : Key → ℕ
key_bytes key = length key.sub + length key.type_name + length key.rep + length key.sel

-- the target is the key's subgraph, its type there or one of the tags there
abbrev pub Covers : Target → Key → Tags → Type 0
Covers (Subgraph sub) key tags = sub ≡ key.sub
Covers (OfType sub type_name) key tags = (sub ≡ key.sub) × (type_name ≡ key.type_name)
Covers (Tag sub tag) key tags = (sub ≡ key.sub) × HasTag tags tag
