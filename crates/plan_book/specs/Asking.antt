-- What is made of a part of a plan file, or its fault, where on the way the grammar of GraphQL is asked about texts.
-- What is asked stands in the value itself, and what the grammar answers is said by `IsAnswered`: which texts are documents is
-- said in GraphQL, October 2021, section 2, and which spreads are bad in sections 5.5.2.1 and 5.5.2.2.
use Rattle.std.specs.Prelude.{◌≡◌, ◌≢◌, ℕ, Bool, true, false, List, Option, Some, None, Result, Ok, Err}
use Rattle.gql_terms.specs.declared.documents.Document.{Document}
use Rattle.gql_parser.specs.Faults.{IsText}
use Rattle.gql_spreads.specs.Spreads.{IsFirstBad}
use Rattle.plan_book.specs.declared.fault.PlanFault.{PlanFault}
use Rattle.plan_book.specs.declared.fault.PlanFault.TheVariants as fault

pub data Read (X : Type 0) : Type 0 where
  faulty : PlanFault → Read X
  made : X → Read X
  -- which document the text is, if it is one
  ask_document : List ℕ → (Option Document → Read X) → Read X
  -- the name in the document's first bad spread, if it has one
  ask_spread : Document → (Option (List ℕ) → Read X) → Read X

-- the document that the text is, or that it is none
abbrev pub IsDocumentOf : List ℕ → Option Document → Type 0
IsDocumentOf text None = (d : Document) → IsText d text → ⊥
IsDocumentOf text (Some d) = IsText d text

-- the result, where the grammar answers what is asked
abbrev pub IsAnswered : {X : Type 0} → Read X → Result X PlanFault → Type 0
IsAnswered (faulty f) result = result ≡ Err f
IsAnswered (made x) result = result ≡ Ok x
IsAnswered (ask_document text onward) result = (d : Option Document) × IsDocumentOf text d × IsAnswered (onward d) result
IsAnswered (ask_spread document onward) result = (name : Option (List ℕ)) × IsFirstBad document name × IsAnswered (onward name) result

-- a call answers so, or that memory ran out
abbrev pub OrMemory : {X : Type 0} → (Result X PlanFault → Type 0) → Result X PlanFault → Type 0
OrMemory Answer (Ok x) = Answer (Ok x)
OrMemory Answer (Err f) = f ≢ fault.Memory → Answer (Err f)

-- ---- forms of reading

-- a part that has to be there
abbrev pub needed : {X Y : Type 0} → PlanFault → Option X → (X → Read Y) → Read Y
needed f None onward = faulty f
needed f (Some x) onward = onward x

abbrev pub refused_if : {X : Type 0} → Bool → PlanFault → Read X → Read X
refused_if true f read = faulty f
refused_if false f read = read

abbrev pub stopped_by : {X : Type 0} → Option PlanFault → Read X → Read X
stopped_by None read = read
stopped_by (Some f) read = faulty f

-- the document in a text that may be missing
abbrev pub document_in : {X : Type 0} → Option (List ℕ) → (Option Document → Read X) → Read X
document_in None onward = onward None
document_in (Some text) onward = ask_document text onward

-- what stands for it, where there is a text
abbrev pub StandsIn : Option (List ℕ) → Option Document → Type 0
StandsIn None d = d ≡ None
StandsIn (Some text) d = IsDocumentOf text d
