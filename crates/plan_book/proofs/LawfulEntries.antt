-- The entries of a plan file are lawful.
use Rattle.std.proofs.Common.{◌≡◌, ℕ, suc, ◌≤◌, Bool, true, false, List, [], ◌∷◌, ◌++◌, Option, Some, None, Ok, Err, Result, length, refl, sym, ap, ◌∙◌, subst, append_assoc, arith, true≢false}
use Rattle.std.specs.Prelude.{map, codes, ◌||◌, All, nat_lt}
use Rattle.std.specs.List.{list_any}
use Rattle.std.specs.Str.{bytes_eq}
use Rattle.std.proofs.lemmas.List.{append-nil}
use Rattle.std.proofs.lemmas.List.Elements.{All-nil, All-cons}
use Rattle.std.proofs.lemmas.Bool.Decides.{nat_tests}
use Rattle.std.proofs.lemmas.Slice.Eq.{bytes_eq-Decides}
use Rattle.json_value.specs.declared.tree.Json.{Json}
use Rattle.json_value.specs.Members.{member}
use Rattle.gql_terms.specs.declared.documents.Document.{Document}
use Rattle.gql_terms.specs.declared.documents.Operation.{Operation}
use Rattle.plan_tree.specs.declared.plan.Node.{Node}
use Rattle.plan_tree.specs.declared.plan.Fetch.{Fetch}
use Rattle.plan_tree.specs.Lawful.{depth, is_well_placed, all_true, fetch_formed, differ}
use Rattle.plan_tree.specs.Numbers.{numbers_from}
use Rattle.plan_book.specs.declared.book.Entry.{Entry}
use Rattle.plan_book.specs.declared.fault.PlanFault.{PlanFault}
use Rattle.plan_book.specs.declared.fault.PlanFault.TheVariants as fault
use Rattle.plan_book.specs.Asking.{Read, made, ask_spread, needed, document_in, refused_if, stopped_by, IsAnswered}
use Rattle.plan_book.specs.Forms.{text_in, object_in}
use Rattle.plan_book.specs.Fetches.{only_one}
use Rattle.plan_book.specs.Nodes.{SoFar, nothing, after}
use Rattle.plan_book.specs.Book.{text_of, IsLawfulEntry, AreLawful}
use Rattle.plan_book.specs.PlanFile.{Head, head, excess_of, excess, answerable, with_kind, no_bad_spread, entry_of, whole_entry, IsWholeEntry, HasEntry, IsEntry, IsOfNewText, IsNextEntry, with_first_entry, AreEntries, no_more, stops, another}
use Rattle.plan_book.proofs.Keeping.{Keeps, NodeKept, node_kept}

-- ---- one operation

one_operation : (operations : List Operation) (mutation : Bool) → only_one operations ≡ Some mutation → length operations ≡ 1
one_operation [] mutation is = absurd cc
one_operation (o ∷ []) mutation is = refl
one_operation (o ∷ (p ∷ ps)) mutation is = absurd cc

abbrev OneOperation : Head → Type 0
OneOperation h = length h.document.operations ≡ 1

has_spread : (n : ℕ) (document : Document) (mutation : Bool) (spread : Option (List ℕ)) (plan : Option Json) (h : Head) → length document.operations ≡ 1 →
    IsAnswered (no_bad_spread n spread (needed (fault.Field n (codes "plan")) plan (λ plan. made (record { document = document; mutation = mutation; plan = plan })))) (Ok h) → OneOperation h
has_spread n document mutation (Some name) plan h one says = absurd cc
has_spread n document mutation None None h one says = absurd cc
has_spread n document mutation None (Some plan) h one says =
    let e : ◌≡◌ {A = Head} h (record { document = document; mutation = mutation; plan = plan }) = cc in
    ap (λ (x : Head). length x.document.operations) e ∙ one

abbrev head_by : ℕ → Option (Document × Bool) → Option Json → Read Head
head_by n operation plan =
    needed (fault.Field n (codes "operation")) operation (λ operation.
    ask_spread operation.0 (λ name.
    no_bad_spread n name (
    needed (fault.Field n (codes "plan")) plan (λ plan.
    made (record { document = operation.0; mutation = operation.1; plan = plan })))))

by_kind : (n : ℕ) (document : Document) (mutation : Option Bool) (plan : Option Json) (h : Head) → only_one document.operations ≡ mutation → IsAnswered (head_by n (with_kind document mutation) plan) (Ok h) → OneOperation h
by_kind n document None plan h is says = absurd cc
by_kind n document (Some mutation) plan h is (name, first, says) = has_spread n document mutation name plan h (one_operation document.operations mutation is) says

by_document : (n : ℕ) (document : Option Document) (plan : Option Json) (h : Head) → IsAnswered (head_by n (answerable document) plan) (Ok h) → OneOperation h
by_document n None plan h says = absurd cc
by_document n (Some document) plan h says = by_kind n document (only_one document.operations) plan h refl says

by_text : (n : ℕ) (text : Option (List ℕ)) (plan : Option Json) (h : Head) → IsAnswered (document_in text (λ document. head_by n (answerable document) plan)) (Ok h) → OneOperation h
by_text n None plan h says = by_document n None plan h says
by_text n (Some text) plan h (d, stands, says) = by_document n d plan h says

head_one : (n : ℕ) (v : Json) (h : Head) → IsAnswered (head n v) (Ok h) → OneOperation h
head_one n v h says = by_text n (text_in (member v (codes "operation"))) (object_in (member v (codes "plan"))) h says

-- ---- a lawful plan

within : (a b : ℕ) → nat_lt a b ≡ false → b ≤ a
within a b e = grind (arith, nat_tests)

-- what is not refused
passed : {X : Type 0} (b : Bool) (f : PlanFault) (read : Read X) (x : X) → IsAnswered (refused_if b f read) (Ok x) → (b ≡ false) × IsAnswered read (Ok x)
passed true f read x says = absurd cc
passed false f read x says = (refl, says)

unstopped : {X : Type 0} (o : Option PlanFault) (read : Read X) (x : X) → IsAnswered (stopped_by o read) (Ok x) → (o ≡ None) × IsAnswered read (Ok x)
unstopped None read x says = (refl, says)
unstopped (Some f) read x says = absurd cc

no_excess : (n fetches nodes : ℕ) (many deep : Bool) → excess_of n fetches nodes many deep ≡ None → (many ≡ false) × (deep ≡ false)
no_excess n fetches nodes true deep is = absurd cc
no_excess n fetches nodes false true is = absurd cc
no_excess n fetches nodes false false is = (refl, refl)

lawful_plan : (n : ℕ) (h : Head) (t : Node × SoFar) (e : Entry) → OneOperation h → Keeps [] t.0 t.1.fetches → IsAnswered (whole_entry n h t) (Ok e) → IsLawfulEntry e
lawful_plan n h t e one keeps says =
    let parts = unstopped (excess n (length t.1.fetches) (depth t.0)) (made (entry_of h t)) e says in
    let sizes = no_excess n (length t.1.fetches) (depth t.0) (nat_lt 64 (length t.1.fetches)) (nat_lt 16 (depth t.0)) parts.0 in
    let said : ◌≡◌ {A = Result Entry PlanFault} (Ok e) (Ok (entry_of h t)) = parts.1 in
    let e_is : entry_of h t ≡ e = cc in
    let own_is : t.1.fetches ≡ keeps.own = keeps.fetches_are in
    subst IsLawfulEntry e_is (record {
      one = one;
      plan = record {
        numbered = keeps.numbered ∙ ap (λ (fs : List Fetch). numbers_from (length fs) 0) (sym own_is);
        few = within 64 (length t.1.fetches) sizes.0;
        flat = within 16 (depth t.0) sizes.1;
        fit = ap (λ (fs : List Fetch). is_well_placed fs t.0) (own_is ∙ sym (append-nil keeps.own)) ∙ keeps.fit [];
        well_formed = ap (λ (fs : List Fetch). all_true (map fetch_formed fs)) own_is ∙ keeps.formed;
      };
    })

by_nodes : (n : ℕ) (h : Head) (t : Result (Node × SoFar) PlanFault) (e : Entry) → OneOperation h → NodeKept nothing t → IsWholeEntry n h t (Ok e) → IsLawfulEntry e
by_nodes n h (Err f) e one keeps says = absurd cc
by_nodes n h (Ok t) e one keeps says = lawful_plan n h t e one keeps says

by_head : (n : ℕ) (v : Json) (read : Result Head PlanFault) (e : Entry) → IsAnswered (head n v) read → HasEntry n read (Ok e) → IsLawfulEntry e
by_head n v (Err f) e says is = absurd cc
by_head n v (Ok h) e says (t, nodes, is) = by_nodes n h t e (head_one n v h says) (node_kept nodes) is

entry_lawful : (n : ℕ) (v : Json) (e : Entry) → IsEntry n v (Ok e) → IsLawfulEntry e
entry_lawful n v e h = by_head n v h.read e h.head_is h.plan_is

by_fresh : (n : ℕ) (seen : List (List ℕ)) (v : Json) (alone : Result Entry PlanFault) (e : Entry) → IsEntry n v alone → IsOfNewText n seen alone (Ok e) → IsLawfulEntry e × (list_any (bytes_eq e.text) seen ≡ false)
by_fresh n seen v (Err f) e h k = absurd cc
by_fresh n seen v (Ok d) e h k =
    let new = passed (list_any (bytes_eq d.text) seen) (fault.Twice n) (made d) e k in
    let said : ◌≡◌ {A = Result Entry PlanFault} (Ok e) (Ok d) = new.1 in
    let e_is : d ≡ e = cc in
    (subst IsLawfulEntry e_is (entry_lawful n v d h), ap (λ (x : Entry). list_any (bytes_eq x.text) seen) (sym e_is) ∙ new.0)

next_lawful : (n : ℕ) (seen : List (List ℕ)) (v : Json) (e : Entry) → IsNextEntry n seen v (Ok e) → IsLawfulEntry e × (list_any (bytes_eq e.text) seen ≡ false)
next_lawful n seen v e h = by_fresh n seen v h.alone e h.entry_is h.fresh_is

-- ---- distinct texts

turned : (a b : List ℕ) → bytes_eq a b ≡ false → bytes_eq b a ≡ false
turned a b e = by_test (bytes_eq b a) refl
  where
    by_test : (c : Bool) → bytes_eq b a ≡ c → bytes_eq b a ≡ false
    by_test true is =
        let same : b ≡ a = (bytes_eq-Decides b a).0 is in
        let there : bytes_eq a b ≡ true = (bytes_eq-Decides a b).1 (sym same) in
        absurd (true≢false (sym there ∙ e))
    by_test false is = is

apart : (t u : List ℕ) (before later : List (List ℕ)) → list_any (bytes_eq t) (before ++ (u ∷ later)) ≡ false → bytes_eq t u ≡ false
apart t u [] later e = either (bytes_eq t u) (list_any (bytes_eq t) later) e
  where
    either : (a b : Bool) → (a || b) ≡ false → a ≡ false
    either true b e = absurd cc
    either false b e = refl
apart t u (x ∷ before) later e = apart t u before later (second (bytes_eq t x) (list_any (bytes_eq t) (before ++ (u ∷ later))) e)
  where
    second : (a b : Bool) → (a || b) ≡ false → b ≡ false
    second true b e = absurd cc
    second false b e = e

-- what is kept of the entries that were read
abbrev Kept : List Json → List (List ℕ) → Result (List Entry) PlanFault → Type 0
Kept vs seen (Err f) = Unit {0}
Kept vs seen (Ok es) =
    (length es ≡ length vs) × All IsLawfulEntry es × (differ (map text_of es) ≡ true)
    × ((t : List ℕ) (before later : List (List ℕ)) → seen ≡ before ++ (t ∷ later) → list_any (bytes_eq t) (map text_of es) ≡ false)

one_more : (v : Json) (vs : List Json) (n : ℕ) (seen : List (List ℕ)) (e : Entry) (r : Result (List Entry) PlanFault) → IsNextEntry n seen v (Ok e) → Kept vs (seen ++ (e.text ∷ [])) r → Kept (v ∷ vs) seen (after (with_first_entry e) r)
one_more v vs n seen e (Err f) h k = tt
one_more v vs n seen e (Ok es) h (long, lawful, distinct, others) =
    let this = next_lawful n seen v e h in (
      ap suc long,
      All-cons IsLawfulEntry e es this.0 lawful,
      rw (others e.text seen [] refl, distinct) refl,
      λ t before later is.
          let here : bytes_eq t e.text ≡ false = turned e.text t (apart e.text t before later (ap (list_any (bytes_eq e.text)) (sym is) ∙ this.1)) in
          let there : list_any (bytes_eq t) (map text_of es) ≡ false = others t before (later ++ (e.text ∷ [])) (ap (λ (ts : List (List ℕ)). ts ++ (e.text ∷ [])) is ∙ append_assoc before (t ∷ later) (e.text ∷ [])) in
          rw (here, there) refl,
    )

entries_kept : {vs : List Json} {n : ℕ} {seen : List (List ℕ)} {r : Result (List Entry) PlanFault} → AreEntries vs n seen r → Kept vs seen r
entries_kept no_more = (refl, All-nil IsLawfulEntry, refl, λ t before later is. refl)
entries_kept (stops h) = tt
entries_kept (another {v = v} {vs = vs} {n = n} {seen = seen} {e = e} {r = r} h k) = one_more v vs n seen e r h (entries_kept k)

-- ---- the file

pub entries_lawful : (items : List Json) (es : List Entry) → length items ≤ 1000 → AreEntries items 0 [] (Ok es) → AreLawful es
entries_lawful items es low h =
    let kept = entries_kept h in
    record { few = rw kept.0 low; texts = kept.2; each = kept.1 }
