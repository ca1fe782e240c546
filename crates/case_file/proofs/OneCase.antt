-- A text is one case, or has one fault.
use Rattle.std.proofs.Common.{◌≡◌, ℕ, List, Result, Ok, Err, refl, sym, ap, ◌∙◌, subst}
use Rattle.json_value.specs.declared.tree.Json.{Json}
use Rattle.json_value.specs.Grammar.{IsText, strict}
use Rattle.json_read.proofs.OneValue.{one_value}
use Rattle.gql_types.specs.declared.definition.TypeDef.{TypeDef}
use Rattle.gql_schema.proofs.OneAnswer.{schema_once}
use Rattle.plan_book.specs.declared.book.Entry.{Entry}
use Rattle.plan_book.specs.declared.fault.PlanFault.{PlanFault}
use Rattle.plan_book.proofs.Determined.{plan_file_once}
use Rattle.case_file.specs.declared.fault.CaseMember.{CaseMember}
use Rattle.case_file.specs.declared.fault.CaseFault.{CaseFault}
use Rattle.case_file.specs.Parts.{Parts, parts_of}
use Rattle.case_file.specs.Cases.{Content, site_of, IsPlanned, no_plans, planned, IsTyped, no_schema, typed, IsMadeOf, IsCase, no_json, json}

abbrev as_read : List Entry → Result (List Entry) PlanFault
as_read entries = Ok entries

same_entries : (a b : List Entry) → as_read a ≡ as_read b → a ≡ b
same_entries a b e = cc

planned_once : (parts : Parts) (schema : List TypeDef) (a b : Result Content CaseFault) → IsPlanned parts schema a → IsPlanned parts schema b → a ≡ b
planned_once parts schema _ _ (no_plans f x) (no_plans g y) = refl
planned_once parts schema _ _ (no_plans f x) (planned entries y) = let e = plan_file_once parts.plans (Err f) (Ok entries) x y in absurd cc
planned_once parts schema _ _ (planned entries x) (no_plans g y) = let e = plan_file_once parts.plans (Ok entries) (Err g) x y in absurd cc
planned_once parts schema _ _ (planned entries x) (planned others y) =
    let e = plan_file_once parts.plans (Ok entries) (Ok others) x y in
    ap (site_of parts schema) (same_entries entries others e)

typed_once : (parts : Parts) (a b : Result Content CaseFault) → IsTyped parts a → IsTyped parts b → a ≡ b
typed_once parts _ _ (no_schema x) (no_schema y) = refl
typed_once parts _ _ (no_schema x) (typed schema r s y) = absurd (x schema s)
typed_once parts _ _ (typed schema r s x) (no_schema y) = absurd (y schema s)
typed_once parts _ _ (typed schema r s x) (typed other q t y) =
    planned_once parts schema r q x (subst (λ (z : List TypeDef). IsPlanned parts z q) (schema_once parts.schema other schema t s) y)

made_once : (parts : Result Parts CaseMember) (a b : Result Content CaseFault) → IsMadeOf parts a → IsMadeOf parts b → a ≡ b
made_once (Err m) a b x y = x ∙ sym y
made_once (Ok parts) a b x y = typed_once parts a b x y

pub case_once : (bytes : List ℕ) (a b : Result Content CaseFault) → IsCase bytes a → IsCase bytes b → a ≡ b
case_once bytes _ _ (no_json x) (no_json y) = refl
case_once bytes _ _ (no_json x) (json v r t y) = absurd (x v t)
case_once bytes _ _ (json v r t x) (no_json y) = absurd (y v t)
case_once bytes _ _ (json v r t x) (json w q u y) =
    made_once (parts_of v) r q x (subst (λ (z : Json). IsMadeOf (parts_of z) q) (one_value strict w v bytes u t) y)
