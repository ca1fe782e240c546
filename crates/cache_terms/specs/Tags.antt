-- The tags of a piece.
use Rattle.std.specs.Prelude.{ℕ, nat_le, if◌then◌else◌, List, length, sum_by, Contains}
use Rattle.std.specs.List.{list_all}
use Rattle.cache_terms.specs.TagRules.{serves, distinct}
use Rattle.cache_terms.specs.declared.tags.Tags.{Tags}
use Rattle.cache_terms.specs.declared.tags.Tags.TheVariants.{Known, Many, Malformed}

-- the tag is one of the known tags
abbrev pub HasTag : Tags → List ℕ → Type 0
HasTag (Known tags) tag = Contains tags tag
HasTag (Many count) tag = ⊥
HasTag Malformed tag = ⊥

-- the bytes of the known tags
abbrev pub tags_size : Tags → ℕ
tags_size (Known tags) = sum_by (λ t. length t) tags
tags_size (Many count) = 0
tags_size Malformed = 0

-- as many tags are known, or only counted
abbrev pub counted : List (List ℕ) → Tags
counted tags = if nat_le (length tags) 16 then Known tags else Many (length tags)

-- the tags of a piece for which these texts came
abbrev pub tags_of : List (List ℕ) → Tags
tags_of texts = if list_all serves texts then counted (distinct texts) else Malformed
