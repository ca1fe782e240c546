use Rattle.std.proofs.Common.{◌≡◌, map}
use Rattle.gql_types.specs.Index.{type_def_name}
use Rattle.gql_types.specs.Finding.{definition_of}
use Rattle.gql_types.proofs.schema.Schema.of.Given as goal

abbrev pub invariant-loop-definition : goal.invariant-loop-definition
invariant-loop-definition l = record {
  types : map definition_of l.kept.items ≡ l.yielded;
  names : l.names.items ≡ map type_def_name l.yielded;
}
