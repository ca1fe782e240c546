-- Types with indexes, as the types that they are.
use Rattle.gql_types.specs.declared.definition.TypeBody.{TypeBody}
use Rattle.gql_types.specs.declared.definition.TypeDef.{TypeDef}
use Rattle.gql_types.specs.declared.indexed_type.IndexedType.{IndexedType}

abbrev pub definition_of : IndexedType → TypeDef
definition_of t = t.definition

abbrev pub body_in : IndexedType → TypeBody
body_in t = t.definition.body
