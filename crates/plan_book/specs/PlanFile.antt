-- What a plan file says, or its first fault: entry by entry, and in an entry its operation, its plan's nodes, and then
-- what concerns the whole_entry entry.
use Rattle.std.specs.Prelude.{◌≡◌, ℕ, suc, Bool, true, false, not, nat_lt, List, [], ◌∷◌, ◌++◌, Option, Some, None, Result, Ok, Err, length, codes}
use Rattle.std.specs.List.{list_any}
use Rattle.std.specs.Str.{bytes_eq}
use Rattle.json_value.specs.declared.tree.Json.{Json}
use Rattle.json_value.specs.Members.{member}
use Rattle.gql_terms.specs.declared.documents.Document.{Document}
use Rattle.gql_print.specs.Canonical.{canonical_text}
use Rattle.plan_tree.specs.declared.plan.Node.{Node}
use Rattle.plan_tree.specs.Lawful.{depth}
use Rattle.plan_book.specs.declared.kinds.Standing.{Standing}
use Rattle.plan_book.specs.declared.book.Entry.{Entry}
use Rattle.plan_book.specs.declared.fault.PlanFault.{PlanFault}
use Rattle.plan_book.specs.declared.fault.PlanFault.TheVariants as fault
use Rattle.plan_book.specs.Asking.{Read, faulty, made, needed, refused_if, stopped_by, document_in, ask_spread, IsAnswered}
use Rattle.plan_book.specs.Forms.{text_in, object_in, elements}
use Rattle.plan_book.specs.Fetches.{only_one}
use Rattle.plan_book.specs.Nodes.{SoFar, nothing, after, IsNode}

-- ---- an entry

-- an entry's document, whether its operation is a mutation, and the value of its plan
pub record Head : Type 0 where
  pub document : Document
  pub mutation : Bool
  pub plan : Json

abbrev pub with_kind : Document → Option Bool → Option (Document × Bool)
with_kind document None = None
with_kind document (Some mutation) = Some (document, mutation)

-- a document with exactly one operation, a query or mutation, and whether it is a mutation
abbrev pub answerable : Option Document → Option (Document × Bool)
answerable None = None
answerable (Some document) = with_kind document (only_one document.operations)

abbrev pub no_bad_spread : {X : Type 0} → ℕ → Option (List ℕ) → Read X → Read X
no_bad_spread n None read = read
no_bad_spread n (Some name) read = faulty (fault.Spread n name)

-- entry n: `operation`, its spreads, and `plan`, which is an object
abbrev pub head : ℕ → Json → Read Head
head n v =
    document_in (text_in (member v (codes "operation"))) (λ document.
    needed (fault.Field n (codes "operation")) (answerable document) (λ operation.
    ask_spread operation.0 (λ name.
    no_bad_spread n name (
    needed (fault.Field n (codes "plan")) (object_in (member v (codes "plan"))) (λ plan.
    made (record { document = operation.0; mutation = operation.1; plan = plan }))))))

abbrev pub entry_of : Head → Node × SoFar → Entry
entry_of h t = record { text = canonical_text h.document; document = h.document; plan = record { root = t.0; fetches = t.1.fetches } }

abbrev pub excess_of : ℕ → ℕ → ℕ → Bool → Bool → Option PlanFault
excess_of n fetches nodes true deep = Some (fault.TooMany n fetches)
excess_of n fetches nodes false true = Some (fault.TooMany n nodes)
excess_of n fetches nodes false false = None

-- at most 64 fetches, and then at most 16 nodes in one another
abbrev pub excess : ℕ → ℕ → ℕ → Option PlanFault
excess n fetches nodes = excess_of n fetches nodes (nat_lt 64 fetches) (nat_lt 16 nodes)

abbrev pub whole_entry : ℕ → Head → Node × SoFar → Read Entry
whole_entry n h t = stopped_by (excess n (length t.1.fetches) (depth t.0)) (made (entry_of h t))

abbrev pub standing : ℕ → Head → Standing
standing n h = record { entry = n; of_query = not h.mutation }

abbrev pub IsWholeEntry : ℕ → Head → Result (Node × SoFar) PlanFault → Result Entry PlanFault → Type 0
IsWholeEntry n h (Err f) r = r ≡ Err f
IsWholeEntry n h (Ok t) r = IsAnswered (whole_entry n h t) r

abbrev pub HasEntry : ℕ → Result Head PlanFault → Result Entry PlanFault → Type 0
HasEntry n (Err f) r = r ≡ Err f
HasEntry n (Ok h) r = (t : Result (Node × SoFar) PlanFault) × IsNode (standing n h) nothing h.plan t × IsWholeEntry n h t r

-- entry n by itself
pub record IsEntry (n : ℕ) (v : Json) (r : Result Entry PlanFault) : Type 0 where
  pub read : Result Head PlanFault
  pub head_is : IsAnswered (head n v) read
  pub plan_is : HasEntry n read r

abbrev pub of_new_text : ℕ → List (List ℕ) → Entry → Read Entry
of_new_text n seen e = refused_if (list_any (bytes_eq e.text) seen) (fault.Twice n) (made e)

abbrev pub IsOfNewText : ℕ → List (List ℕ) → Result Entry PlanFault → Result Entry PlanFault → Type 0
IsOfNewText n seen (Err f) r = r ≡ Err f
IsOfNewText n seen (Ok e) r = IsAnswered (of_new_text n seen e) r

-- entry n after those with these texts: none of them has its text
pub record IsNextEntry (n : ℕ) (seen : List (List ℕ)) (v : Json) (r : Result Entry PlanFault) : Type 0 where
  pub alone : Result Entry PlanFault
  pub entry_is : IsEntry n v alone
  pub fresh_is : IsOfNewText n seen alone r

-- ---- the list

abbrev pub with_first_entry : Entry → List Entry → List Entry
with_first_entry e es = e ∷ es

-- the entries from entry n on, after those with these texts, until one has a fault
pub data AreEntries : List Json → ℕ → List (List ℕ) → Result (List Entry) PlanFault → Type 0 where
  no_more : {n : ℕ} {seen : List (List ℕ)} → AreEntries [] n seen (Ok [])
  stops : {v : Json} {vs : List Json} {n : ℕ} {seen : List (List ℕ)} {f : PlanFault} → IsNextEntry n seen v (Err f) → AreEntries (v ∷ vs) n seen (Err f)
  another : {v : Json} {vs : List Json} {n : ℕ} {seen : List (List ℕ)} {e : Entry} {r : Result (List Entry) PlanFault} →
      IsNextEntry n seen v (Ok e) → AreEntries vs (suc n) (seen ++ (e.text ∷ [])) r → AreEntries (v ∷ vs) n seen (after (with_first_entry e) r)

abbrev pub AreFew : Bool → List Json → Result (List Entry) PlanFault → Type 0
AreFew true items r = r ≡ Err (fault.TooMany 1000 (length items))
AreFew false items r = AreEntries items 0 [] r

abbrev pub IsListOf : Option (List Json) → Result (List Entry) PlanFault → Type 0
IsListOf None r = r ≡ Err (fault.Field 0 [])
IsListOf (Some items) r = AreFew (nat_lt 1000 (length items)) items r

-- a list of at most 1,000 entries
abbrev pub IsPlanFile : Json → Result (List Entry) PlanFault → Type 0
IsPlanFile v r = IsListOf (elements v) r
