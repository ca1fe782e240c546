-- What holds of canonical texts.
use Rattle.std.specs.Prelude.{◌≡◌, ◌↔◌, ℕ, List}
use Rattle.gql_terms.specs.declared.documents.Document.{Document}
use Rattle.gql_print.specs.Canonical.{canonical_text, AreBytes, IsText}

-- Two documents for which texts stand have one canonical text exactly where they are equal.
abbrev pub CanonicalTextsAreEqual : Document → Document → Type 0
CanonicalTextsAreEqual a b = (s t : List ℕ) → AreBytes s → AreBytes t → IsText a s → IsText b t
    → (canonical_text a ≡ canonical_text b) ↔ (a ≡ b)
