use Rattle.std.proofs.Common.{◌≡◌, map}
use Rattle.gql_schema.specs.Rules.{field_def}
use Rattle.gql_schema.proofs.making.field_defs.Given as goal

abbrev pub invariant-loop-field : goal.invariant-loop-field
invariant-loop-field l = l.found ≡ map field_def l.yielded
