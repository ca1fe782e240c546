-- The rules of subgraphs by their names.
use Rattle.std.specs.Prelude.{◌≡◌, ℕ, ◌+◌, Bool, List, [], ◌∷◌, Option, Some, None, IsSomeAnd, map, slice_get, if◌then◌else◌}
use Rattle.std.specs.List.{list_any}
use Rattle.std.specs.Str.{bytes_eq}
use Rattle.router_config.specs.declared.config.SubRule.{SubRule}

abbrev pub name_of : SubRule → List ℕ
name_of rule = rule.name

abbrev pub names : List SubRule → List (List ℕ)
names rules = map name_of rules

abbrev pub has_name : List ℕ → SubRule → Bool
has_name name rule = bytes_eq rule.name name

-- one of the rules has this name
abbrev pub is_ruled : List SubRule → List ℕ → Bool
is_ruled rules name = list_any (has_name name) rules

-- the number of the first of these rules with this name, where they are counted from n on
abbrev pub number_from : ℕ → List SubRule → List ℕ → Option ℕ
number_from n [] name = None
number_from n (rule ∷ rules) name = if bytes_eq rule.name name then Some n else number_from (n + 1) rules name

-- the place of the first rule with this name
abbrev pub number_of : List SubRule → List ℕ → Option ℕ
number_of rules name = number_from 0 rules name

-- the rule with this number has the name
abbrev pub IsNumberOf : List SubRule → List ℕ → ℕ → Type 0
IsNumberOf rules name n = IsSomeAnd (slice_get rules n) (λ (rule : SubRule). rule.name ≡ name)
