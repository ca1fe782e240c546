-- What holds of texts and documents.
use Rattle.std.specs.Prelude.{◌≡◌, ℕ, List}
use Rattle.gql_terms.specs.declared.documents.Document.{Document}
use Rattle.gql_parser.specs.Faults.{IsText}

-- A text is one document at most.
abbrev pub TextsHaveOneDocument : Type 0
TextsHaveOneDocument = (text : List ℕ) (d e : Document) → IsText d text → IsText e text → d ≡ e
