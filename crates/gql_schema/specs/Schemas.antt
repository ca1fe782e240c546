-- What each answer of the reader says of the text.
use Rattle.std.specs.Prelude.{◌≡◌, ℕ, List, Some, None}
use Rattle.gql_types.specs.declared.definition.TypeDef.{TypeDef}
use Rattle.gql_schema.specs.declared.fault.SdlFault.{SdlFault}
use Rattle.gql_schema.specs.declared.fault.SdlFault.TheVariants as fault
use Rattle.gql_schema.specs.declared.terms.Part.{Part}
use Rattle.gql_schema.specs.Faults.{IsText, IsMisplaced}
use Rattle.gql_schema.specs.Rules.{first_twice, first_unknown, schema_of}

-- the text is a schema of the grammar in which each name is defined once and each name of a type is known, and these
-- are its types
abbrev pub IsSchemaText : List TypeDef → List ℕ → Type 0
IsSchemaText schema text = (ps : List Part) × IsText ps text × (first_twice ps ≡ None) × (first_unknown ps ≡ None) × (schema ≡ schema_of ps)

-- the first fault of the text: of its syntax, then a name that is defined twice, then a name of a type that is unknown
abbrev pub Explains : List ℕ → SdlFault → Type 0
Explains text (fault.Syntax place) = IsMisplaced text place
Explains text (fault.Twice name) = (ps : List Part) × IsText ps text × (first_twice ps ≡ Some name)
Explains text (fault.UnknownType name) = (ps : List Part) × IsText ps text × (first_twice ps ≡ None) × (first_unknown ps ≡ Some name)
Explains text fault.Memory = Unit {0}
