-- Which field a name finds first, and what the fields of a head declare.
use Rattle.std.proofs.Common.{◌≡◌, ◌∙◌, sym, ap, ℕ, ◌+◌, ◌-◌, List, [], ◌∷◌, length, take, drop, subst, ◌<◌, ◌≤◌, arith, Bool, true, false, get_or, Option, Some, None}
use Rattle.std.specs.Prelude.{nat_eq, if◌then◌else◌}
use Rattle.std.proofs.lemmas.List.{drop_more, drop_all}
use Rattle.std.proofs.lemmas.Grind.{common_steps}
use Rattle.std.specs.Cmp.Lexicographic.{pointwise}
use Rattle.httparse.specs.Grammar.{RequestHead, ReadsRequest}
use Rattle.httparse.proofs.GrammarLemmas.{request_unique}
use Rattle.http_wire.specs.declared.message.Field.{Field}
use Rattle.http_wire.specs.Heads.{HeadSays, values_of, kept_fields, declared_length, Opens}

pub rest_whole : (fields : List Field) (at : ℕ) → take (length fields - at) (drop at fields) ≡ drop at fields
rest_whole fields at = grind (arith, common_steps)

hit : (name : List ℕ) (f : Field) (fields : List Field) → pointwise nat_eq f.name name ≡ true → values_of name (f ∷ fields) ≡ f.value ∷ values_of name fields
hit name f fields same = ap (λ (b : Bool). if b then f.value ∷ values_of name fields else values_of name fields) same

pub miss : (name : List ℕ) (f : Field) (fields : List Field) → pointwise nat_eq f.name name ≡ false → values_of name (f ∷ fields) ≡ values_of name fields
miss name f fields other = ap (λ (b : Bool). if b then f.value ∷ values_of name fields else values_of name fields) other

pub named_here : (name : List ℕ) (fields : List Field) (at : ℕ) (d : Field) → at < length fields → pointwise nat_eq (get_or fields at d).name name ≡ true
    → values_of name (drop at fields) ≡ (get_or fields at d).value ∷ values_of name (drop (at + 1) fields)
named_here name fields at d lt same = ap (values_of name) (drop_more fields at d lt) ∙ hit name (get_or fields at d) (drop (at + 1) fields) same

pub named_past : (name : List ℕ) (fields : List Field) (at : ℕ) (d : Field) → at < length fields → pointwise nat_eq (get_or fields at d).name name ≡ false
    → values_of name (drop at fields) ≡ values_of name (drop (at + 1) fields)
named_past name fields at d lt other = ap (values_of name) (drop_more fields at d lt) ∙ miss name (get_or fields at d) (drop (at + 1) fields) other

pub named_nowhere : (name : List ℕ) (fields : List Field) (at : ℕ) → length fields ≤ at → values_of name (drop at fields) ≡ []
named_nowhere name fields at le = ap (values_of name) (drop_all at fields le)

Nothing : Option ℕ → Type 0
Nothing None = Unit {0}
Nothing (Some n) = ⊥

-- one head declares one length
pub declares_none : (bytes : List ℕ) (h : RequestHead) (fields : List Field) (o : HeadSays) → ReadsRequest bytes h [] → fields ≡ kept_fields h → None ≡ declared_length fields → ¬ (Opens bytes o)
unfolding Nothing
declares_none bytes h fields o reads kept none opens =
    let one = request_unique bytes opens.head h [] [] opens.reads reads in
    let same : o.fields ≡ fields = opens.fields ∙ ap kept_fields one.0 ∙ sym kept in
    subst (λ (x : Option ℕ). Nothing x) (none ∙ sym (ap declared_length same) ∙ opens.declared) tt
