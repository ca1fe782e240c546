use Rattle.std.proofs.Common.{◌≡◌, take, map}
use Rattle.gql_types.specs.Index.{input_field_name}
use Rattle.gql_types.proofs.index.input_names.Given as goal

abbrev pub invariant-loop-field : goal.invariant-loop-field
invariant-loop-field l = l.made.items ≡ map input_field_name (take l.field-index l.fields)
