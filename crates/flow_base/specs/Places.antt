-- Which bytes a text has, wherever they lie.
use Rattle.std.specs.Prelude.{ℕ, List}
use Rattle.std.specs.Arc.{arc_str_bytes}
use Rattle.flow_base.specs.declared.text.Place.{Place}
use Rattle.flow_base.specs.declared.text.Place.TheVariants as places

abbrev pub placed : Place → List ℕ
placed (places.Here text) = text
placed (places.Shared text) = arc_str_bytes text
