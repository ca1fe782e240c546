-- The body of an answer (GraphQL October 2021, section 7.1).
use Rattle.std.specs.Prelude.{List, [], ◌∷◌, ◌++◌, map, codes}
use Rattle.json_value.specs.declared.tree.Json.{Json}
use Rattle.gql_shape.specs.declared.shaped.Shaped.{Shaped}
use Rattle.answer_text.specs.declared.fetch_error.FetchError.{FetchError}
use Rattle.answer_text.specs.ErrorValues.{NamedValues, list, object}
use Rattle.answer_text.specs.FetchErrors.{fetch_error}
use Rattle.answer_text.specs.ShapeErrors.{shape_error}

-- there where there is an error
abbrev pub errors_members : List Json → NamedValues
errors_members [] = []
errors_members (e ∷ es) = (codes "errors", list (e ∷ es)) ∷ []

-- the errors of the fetches, and then those of shaping
abbrev pub errors_of : List FetchError → Shaped → List Json
errors_of errors shaped = map fetch_error errors ++ map shape_error shaped.errors

-- the data, also where it is null, and the errors
abbrev pub answer_value : List FetchError → Shaped → Json
answer_value errors shaped = object ((codes "data", shaped.value) ∷ errors_members (errors_of errors shaped))
