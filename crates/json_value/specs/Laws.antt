-- What holds of the grammar.
use Rattle.std.specs.Prelude.{ℕ, ◌≤◌, List, Contains}
use Rattle.json_value.specs.declared.tree.Json.{Json}
use Rattle.json_value.specs.Grammar.{Rules, Spells, IsText}
use Rattle.json_value.specs.Members.{parts_of}

-- some text stands for the value, as for each value that was read
abbrev pub HasText : Rules → Json → Type 0
HasText r v = (text : List ℕ) × IsText r v text

-- What a text spells where it may open d more levels, it spells where it may open more than d.
abbrev pub SpellsDeeper : Rules → Type 0
SpellsDeeper r = (d e : ℕ) (v : Json) (text : List ℕ) → d ≤ e → Spells r d v text → Spells r e v text

-- Where a text stands for a value, one stands for each element of a list and for the value of each member of an object.
abbrev pub PartsHaveTexts : Rules → Type 0
PartsHaveTexts r = (v part : Json) → HasText r v → Contains (parts_of v) part → HasText r part
