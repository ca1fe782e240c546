-- Which spread of a document can't be followed. A spread's fragment must be there (GraphQL October 2021, section
-- 5.5.2.1), and must not reach itself by spreads (section 5.5.2.2). Where several fragments have one name, the name
-- stands for the first of them.
use Rattle.std.specs.Prelude.{◌≡◌, ℕ, Bool, ◌⊎◌, List, [], ◌∷◌, ◌++◌, Option, Some, None, All, Contains}
use Rattle.std.specs.List.{find, flat_map}
use Rattle.std.specs.Str.{bytes_eq}
use Rattle.gql_terms.specs.declared.documents.Selection.{Selection}
use Rattle.gql_terms.specs.declared.documents.Selection.TheOpen.{Selection-F}
use Rattle.gql_terms.specs.declared.documents.Selection.TheFolds.{fold-Selection}
use Rattle.gql_terms.specs.declared.documents.Operation.{Operation}
use Rattle.gql_terms.specs.declared.documents.Fragment.{Fragment}
use Rattle.gql_terms.specs.declared.documents.Document.{Document}

-- one after another
abbrev pub joined : List (List (List ℕ)) → List (List ℕ)
joined [] = []
joined (xs ∷ xss) = xs ++ joined xss

-- one level, where the names spread in the selections inside stand in their places
abbrev pub spreads_step : Selection-F (List (List ℕ)) → List (List ℕ)
spreads_step (Selection-F.Field alias name arguments directives selections) = joined selections
spreads_step (Selection-F.Spread name directives) = name ∷ []
spreads_step (Selection-F.Inline on directives selections) = joined selections

-- the names that a selection spreads, in the order of the text
abbrev pub spreads_of : Selection → List (List ℕ)
spreads_of = fold-Selection (List (List ℕ)) spreads_step

abbrev pub spreads_in : List Selection → List (List ℕ)
spreads_in selections = flat_map spreads_of selections

abbrev pub operation_spreads : Operation → List (List ℕ)
operation_spreads operation = spreads_in operation.selections

abbrev pub fragment_spreads : Fragment → List (List ℕ)
fragment_spreads fragment = spreads_in fragment.selections

-- in the order of the canonical text: the operations, then the fragments
abbrev pub document_spreads : Document → List (List ℕ)
document_spreads d = flat_map operation_spreads d.operations ++ flat_map fragment_spreads d.fragments

abbrev pub is_named : List ℕ → Fragment → Bool
is_named name fragment = bytes_eq fragment.name name

-- the first fragment of the name
abbrev pub fragment_named : List Fragment → List ℕ → Option Fragment
fragment_named fragments name = find (is_named name) fragments

-- the fragment of the first name spreads the second
abbrev pub Spreads : List Fragment → List ℕ → List ℕ → Type 0
Spreads fragments a b = (f : Fragment) × (fragment_named fragments a ≡ Some f) × Contains (fragment_spreads f) b

-- by one spread or more
pub data Reaches (fragments : List Fragment) : List ℕ → List ℕ → Type 0 where
  spread : {a b : List ℕ} → Spreads fragments a b → Reaches fragments a b
  further : {a b c : List ℕ} → Spreads fragments a b → Reaches fragments b c → Reaches fragments a c

-- the fragment is unknown, or reaches itself
abbrev pub IsBad : List Fragment → List ℕ → Type 0
IsBad fragments name = (fragment_named fragments name ≡ None) ⊎ Reaches fragments name name

-- the first element for which the fact holds
abbrev pub IsFirst : (List ℕ → Type 0) → List (List ℕ) → Option (List ℕ) → Type 0
IsFirst P xs None = All (λ x. P x → ⊥) xs
IsFirst P xs (Some x) = P x × (before : List (List ℕ)) × (after : List (List ℕ)) × (xs ≡ before ++ (x ∷ after)) × All (λ y. P y → ⊥) before

-- the name of the first spread that can't be followed
abbrev pub IsFirstBad : Document → Option (List ℕ) → Type 0
IsFirstBad d name = IsFirst (IsBad d.fragments) (document_spreads d) name
