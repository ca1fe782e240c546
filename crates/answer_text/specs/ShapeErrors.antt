-- The errors of shaping: the message and the code of each. The path is the place of the data at fault.
use Rattle.std.specs.Prelude.{ℕ, List, [], Some, codes}
use Rattle.json_value.specs.declared.tree.Json.{Json}
use Rattle.gql_shape.specs.declared.shaped.ShapeCode.{ShapeCode}
use Rattle.gql_shape.specs.declared.shaped.ShapeCode.TheVariants as shape
use Rattle.gql_shape.specs.declared.shaped.ShapeError.{ShapeError}
use Rattle.answer_text.specs.ErrorValues.{error_value}

abbrev pub code_of : ShapeCode → List ℕ
code_of shape.NullInNonNull = codes "NULL_IN_NON_NULL"
code_of shape.WrongKind = codes "WRONG_KIND"

abbrev pub message_of : ShapeCode → List ℕ
message_of shape.NullInNonNull = codes "null in a non-null place"
message_of shape.WrongKind = codes "value of the wrong kind"

abbrev pub shape_error : ShapeError → Json
shape_error e = error_value (message_of e.code) (Some e.place) (code_of e.code) []
