-- What a lawful site gives of an entry that was found.
use Rattle.std.proofs.Common.{◌≡◌, ◌⊎◌, inl, inr, ℕ, zero, suc, ◌+◌, Bool, true, false, not, arith, true≢false, List, [], ◌∷◌, length, map, Option, Some, None, All, get_or, refl, ap, sym, ◌∙◌, subst}
use Rattle.std.specs.Prelude.{if◌then◌else◌, IsSome, Contains}
use Rattle.std.specs.Str.{bytes_eq}
use Rattle.std.proofs.lemmas.Option.{same_Some}
use Rattle.std.proofs.lemmas.Cmp.{nat_list_eq_equiv}
use Rattle.std.proofs.lemmas.List.Elements.{All-cons, All-nil, All-head, All-tail, All-weaker}
use Rattle.plan_book.specs.declared.book.Entry.{Entry}
use Rattle.plan_book.specs.Book.{entry_with, IsLawfulEntry}
use Rattle.plan_tree.specs.declared.plan.Fetch.{Fetch}
use Rattle.plan_run.specs.Subgraphs.{found_from, found_by, AreFrom}
use Rattle.gql_terms.specs.declared.documents.Operation.{Operation}
use Rattle.gql_print.specs.Canonical.{canonical_text}
use Rattle.router_config.specs.declared.config.SubRule.{SubRule}
use Rattle.router_config.specs.declared.config.Request.{Request}
use Rattle.router_config.specs.declared.site.Site.{Site}
use Rattle.router_config.specs.Rules.{names}
use Rattle.router_config.specs.Faults.{sub_of}
use Rattle.router_config.specs.Lawful.{IsLawful, EntryFits}
use Rattle.partial_fetch.specs.Answering.{subgraphs_of}
use Rattle.partial_fetch.specs.Accepting.{HasPlan}

-- what holds of all entries holds of the one that is found
pub found_so : (P : Entry → Type 0) (text : List ℕ) (entries : List Entry) (entry : Entry) → entry_with text entries ≡ Some entry → All P entries → P entry
found_so P text [] entry is all = absurd (cc is)
found_so P text (e ∷ es) entry is all = by_test (bytes_eq text e.text) (λ h. found_so P text es entry h (All-tail P e es all)) is
  where
    by_test : (b : Bool) → (entry_with text es ≡ Some entry → P entry) → (if b then Some e else entry_with text es) ≡ Some entry → P entry
    by_test true later h = subst P (same_Some e entry h) (All-head P e es all)
    by_test false later h = later h

-- WHERE A FETCH IS FROM

-- a subgraph that a rule names is found
found_rule : (n : ℕ) (rules : List SubRule) (name : List ℕ) → Contains (names rules) name → IsSome (found_from n (subgraphs_of rules) name)
found_rule n [] name h = absurd (omega (arith, h.1))
found_rule n (r ∷ rs) name h = by_test (bytes_eq r.name name) refl (λ other. found_rule (n + 1) rs name (later h other))
  where
    later : (h : Contains (names (r ∷ rs)) name) → bytes_eq r.name name ≡ false → Contains (names rs) name
    later (zero, below, is) other = absurd (true≢false (sym (nat_list_eq_equiv.refl name) ∙ (ap (λ (x : List ℕ). bytes_eq x name) (sym is) ∙ other)))
    later (suc i, below, is) other = (i, omega (arith, below), is)

    by_test : (b : Bool) → bytes_eq r.name name ≡ b → (bytes_eq r.name name ≡ false → IsSome (found_from (n + 1) (subgraphs_of rs) name))
        → IsSome (if b then Some (n, not r.cached) else found_from (n + 1) (subgraphs_of rs) name)
    by_test true is next = refl
    by_test false is next = next is

found_fetches : (rules : List SubRule) (fetches : List Fetch) → All (Contains (names rules)) (map sub_of fetches) → AreFrom (subgraphs_of rules) fetches
found_fetches rules [] h = All-nil (λ (fetch : Fetch). IsSome (found_by (subgraphs_of rules) fetch.sub))
found_fetches rules (f ∷ fs) h =
    All-cons (λ (fetch : Fetch). IsSome (found_by (subgraphs_of rules) fetch.sub)) f fs (found_rule 0 rules f.sub (All-head (Contains (names rules)) f.sub (map sub_of fs) h)) (found_fetches rules fs (All-tail (Contains (names rules)) f.sub (map sub_of fs) h))

-- WHAT A LAWFUL SITE GIVES

pub one_operation : (site : Site) (request : Request) (entry : Entry) → IsLawful site → HasPlan site request entry → IsLawfulEntry entry
one_operation site request entry lawful has = found_so IsLawfulEntry (canonical_text has.document) site.plans.entries.items entry has.found lawful.plans.each

pub known_subgraphs : (site : Site) (request : Request) (entry : Entry) → IsLawful site → HasPlan site request entry → AreFrom (subgraphs_of site.config.subs) entry.plan.fetches
known_subgraphs site request entry lawful has =
    found_fetches site.config.subs entry.plan.fetches
    (found_so (EntryFits site.config.subs site.schema) (canonical_text has.document) site.plans.entries.items entry has.found lawful.fit).subs

-- the operation of an entry with one
pub only_operation : (ops xs : List Operation) (x : Operation) → length ops ≡ 1 → xs ≡ ops → x ≡ get_or xs 0 x → ops ≡ x ∷ []
only_operation [] xs x one same is = absurd (omega (arith, one))
only_operation (o ∷ []) xs x one same is = ap (λ (y : Operation). y ∷ []) (sym (is ∙ ap (λ (ys : List Operation). get_or ys 0 x) same))
only_operation (o ∷ p ∷ ps) xs x one same is = absurd (omega (arith, one))
