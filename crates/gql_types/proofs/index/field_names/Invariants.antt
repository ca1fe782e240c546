use Rattle.std.proofs.Common.{◌≡◌, take, map}
use Rattle.gql_types.specs.Index.{field_def_name}
use Rattle.gql_types.proofs.index.field_names.Given as goal

abbrev pub invariant-loop-field : goal.invariant-loop-field
invariant-loop-field l = l.made.items ≡ map field_def_name (take l.field-index l.fields)
