-- The subgraphs of a case.
use Rattle.std.specs.Prelude.{ℕ, Bool, ◌&&◌, List, [], Option, Some, None, codes}
use Rattle.json_value.specs.declared.tree.Json.{Json}
use Rattle.json_value.specs.Members.{member}
use Rattle.plan_tree.specs.Lawful.{differ, is_some_of}
use Rattle.router_config.specs.declared.config.SubRule.{SubRule}
use Rattle.router_config.specs.Rules.{names}
use Rattle.case_file.specs.Forms.{text_in, flag_in, elements_in, if_fits, each}

abbrev pub rule_with : Option (List ℕ) → Option Bool → Option SubRule
rule_with (Some name) (Some cached) = Some (record { name = name; address = []; path = []; cached = cached })
rule_with _ _ = None

-- `{"name":N,"cached":bool}`; the subgraph has neither address nor path
abbrev pub rule_of : Json → Option SubRule
rule_of v = rule_with (text_in (member v (codes "name"))) (flag_in (member v (codes "cached")))

-- there is a subgraph, and no two have one name
abbrev pub are_rules : List SubRule → Bool
are_rules rules = is_some_of rules && differ (names rules)

abbrev pub subgraphs_in : Option Json → Option (List SubRule)
subgraphs_in o = if_fits are_rules (each rule_of (elements_in o))
