-- What the parts of a case make.
use Rattle.std.proofs.Common.{◌≡◌, ◌≢◌, List, [], ◌∷◌, ℕ, true, false, Option, Some, None, Result, Ok, Err, IfOk, IfErr, refl, sym, ap, ◌∙◌, subst, arith}
use Rattle.std.specs.Prelude.{IsTrue}
use Rattle.cache_terms.specs.declared.events.Limits.{Limits}
use Rattle.cache_model.specs.State.{IsWithinRanges}
use Rattle.json_value.specs.declared.tree.Json.{Json}
use Rattle.json_value.specs.declared.fault.JsonFault.{JsonFault}
use Rattle.json_value.specs.declared.fault.JsonFault.TheVariants as unjson
use Rattle.json_value.specs.Grammar.{IsText, strict}
use Rattle.gql_types.specs.declared.definition.TypeDef.{TypeDef}
use Rattle.gql_schema.specs.declared.fault.SdlFault.{SdlFault}
use Rattle.gql_schema.specs.Schemas.{IsSchemaText, Explains}
use Rattle.gql_schema.proofs.OneAnswer.{schema_no_fault}
use Rattle.plan_book.specs.declared.book.Entry.{Entry}
use Rattle.plan_book.specs.declared.fault.PlanFault.{PlanFault}
use Rattle.plan_book.specs.declared.fault.PlanFault.TheVariants as plan
use Rattle.plan_book.specs.PlanFile.{IsPlanFile}
use Rattle.plan_tree.specs.Lawful.{differ}
use Rattle.router_config.specs.declared.config.SubRule.{SubRule}
use Rattle.router_config.specs.declared.config.Config.{Config}
use Rattle.router_config.specs.declared.site.Site.{Site}
use Rattle.router_config.specs.Rules.{names}
use Rattle.router_config.specs.Lawful.{IsLawfulConfig}
use Rattle.router_config.specs.declared.fault.SiteFault.{SiteFault}
use Rattle.router_config.specs.Faults.{faults_of}
use Rattle.case_file.specs.declared.content.Case.{Case}
use Rattle.case_file.specs.declared.fault.CaseMember.{CaseMember}
use Rattle.case_file.specs.declared.fault.CaseFault.{CaseFault}
use Rattle.case_file.specs.declared.fault.CaseFault.TheVariants as fault
use Rattle.case_file.specs.Parts.{Parts, parts_of, LacksPart}
use Rattle.case_file.specs.Cases.{Content, config_of, content_of, content, sited, site_of, IsPlanned, no_plans, planned, IsTyped, no_schema, typed, IsMadeOf, IsCase, no_json, json, OrMemory, Builds, unread, is_sdl_memory, is_plan_memory}

module _ (parts : Parts) where
  pub without_schema : ((schema : List TypeDef) → IsSchemaText schema parts.schema → ⊥) → IsTyped parts (Err fault.Schema)
  without_schema none = no_schema none

  module _ (schema : List TypeDef) (is_schema : IsSchemaText schema parts.schema) where
    pub without_plans : ((f : PlanFault) × IsPlanFile parts.plans (Err f)) → IsTyped parts (Err fault.Plans)
    without_plans (f, is) = typed schema (Err fault.Plans) is_schema (no_plans f is)

    module _ (entries : List Entry) (is_plans : IsPlanFile parts.plans (Ok entries)) where
      some_fault : (faults : List SiteFault) (c : Content) → (faults ≡ [] → ⊥) → sited faults c ≡ Err fault.Site
      some_fault [] c bad = absurd (bad refl)
      some_fault (f ∷ fs) c bad = refl

      pub without_site : (faults_of parts.subs schema entries ≡ [] → ⊥) → IsTyped parts (Err fault.Site)
      without_site bad =
          typed schema (Err fault.Site) is_schema (subst (λ (r : Result Content CaseFault). IsPlanned parts schema r) (some_fault (faults_of parts.subs schema entries) (content_of parts schema entries) bad) (planned entries is_plans))

      pub with_site : (c : Content) → faults_of parts.subs schema entries ≡ [] → c ≡ content_of parts schema entries → IsTyped parts (Ok c)
      with_site c none is =
          let built : site_of parts schema entries ≡ Ok c = ap (λ fs. sited fs (content_of parts schema entries)) none ∙ ap (λ x. Ok x) (sym is) in
          typed schema (Ok c) is_schema (subst (λ (r : Result Content CaseFault). IsPlanned parts schema r) built (planned entries is_plans))

-- where a site was built, the parts are a case
pub site_made : (parts : Parts) (schema : List TypeDef) → IsSchemaText schema parts.schema → (entries : List Entry) → IsPlanFile parts.plans (Ok entries)
    → (config : Config) → config ≡ config_of parts.subs parts.limits → (site : Site) → Builds config schema entries (Some site)
    → IsTyped parts (Ok (record { config = site.config; schema = site.schema; entries = site.plans.entries.items; requests = parts.requests; replies = parts.replies }))
site_made parts schema is_schema entries is_plans config is site (none, configured, typed_so, planned_so, fits) =
    with_site parts schema is_schema entries is_plans (record { config = site.config; schema = site.schema; entries = site.plans.entries.items; requests = parts.requests; replies = parts.replies })
    (ap (λ (k : Config). faults_of k.subs schema entries) (sym is) ∙ none)
    (rw (configured, is, typed_so, planned_so) refl)

-- where none was built, they make no site
pub site_none : (parts : Parts) (schema : List TypeDef) → IsSchemaText schema parts.schema → (entries : List Entry) → IsPlanFile parts.plans (Ok entries)
    → (config : Config) → config ≡ config_of parts.subs parts.limits → Builds config schema entries None → IsTyped parts (Err fault.Site)
site_none parts schema is_schema entries is_plans config is bad =
    without_site parts schema is_schema entries is_plans (λ e. bad (ap (λ (k : Config). faults_of k.subs schema entries) is ∙ e))

pub lacking : (v : Json) (f : CaseFault) → LacksPart (parts_of v) f → IsMadeOf (parts_of v) (Err f)
lacking v f h = lacks (parts_of v) h
  where
    lacks : (parts : Result Parts CaseMember) → LacksPart parts f → IsMadeOf parts (Err f)
    lacks (Err m) is = ap (λ g. Err g) is
    lacks (Ok parts) is = absurd is

pub made : (v : Json) (parts : Parts) (r : Result Content CaseFault) → parts_of v ≡ Ok parts → IsTyped parts r → IsMadeOf (parts_of v) r
made v parts r is h = rw is h

-- a case's configuration keeps its ranges
pub lawful_config : (c : Config) (subs : List SubRule) (limits : Limits) → c ≡ config_of subs limits → IsWithinRanges limits → IsTrue (differ (names subs)) → IsLawfulConfig c
lawful_config c subs limits is ranges distinct =
    rw is (record { limits = ranges; some_workers = omega arith; most_workers = omega arith; some_lines = omega arith; most_lines = omega arith; distinct = distinct })

-- ---- what is read

pub no_schema_there : (text : List ℕ) (f : SdlFault) → is_sdl_memory f ≡ false → Explains text f → (schema : List TypeDef) → IsSchemaText schema text → ⊥
no_schema_there text f other explains schema is = schema_no_fault text schema f (λ e. let h : true ≡ false = sym (ap is_sdl_memory e) ∙ other in absurd cc) is explains

pub no_plans_there : (v : Json) (f : PlanFault) → is_plan_memory f ≡ false → (f ≢ plan.Memory → IsPlanFile v (Err f)) → (g : PlanFault) × IsPlanFile v (Err g)
no_plans_there v f other is = (f, is (λ e. let h : true ≡ false = sym (ap is_plan_memory e) ∙ other in absurd cc))

is_no_json : (bytes : List ℕ) (x : JsonFault) → (x ≡ unjson.Memory → ⊥) → ((v : Json) → IsText strict v bytes → x ≡ unjson.Memory) → IsCase bytes (Err fault.Json)
is_no_json bytes x other only = no_json (λ v is. other (only v is))

pub unread_is : (bytes : List ℕ) (x : JsonFault) → ((v : Json) → IsText strict v bytes → x ≡ unjson.Memory) → unread x ≢ fault.Memory → IsCase bytes (Err (unread x))
unread_is bytes unjson.Memory only ne = absurd (ne refl)
unread_is bytes (unjson.Syntax p) only ne = is_no_json bytes (unjson.Syntax p) (λ e. cc) only
unread_is bytes unjson.Ended only ne = is_no_json bytes unjson.Ended (λ e. cc) only
unread_is bytes (unjson.Deep p) only ne = is_no_json bytes (unjson.Deep p) (λ e. cc) only
unread_is bytes (unjson.Twice p) only ne = is_no_json bytes (unjson.Twice p) (λ e. cc) only
unread_is bytes (unjson.Surrogate p) only ne = is_no_json bytes (unjson.Surrogate p) (λ e. cc) only

pub case_read : (bytes : List ℕ) (v : Json) (r : Result Case CaseFault) → IsText strict v bytes → OrMemory (IsMadeOf (parts_of v)) r → IfOk r (λ c. IsCase bytes (Ok (content c)))
case_read bytes v (Ok c) is h = json v (Ok (content c)) is h
case_read bytes v (Err f) is h = tt

pub fault_read : (bytes : List ℕ) (v : Json) (r : Result Case CaseFault) → IsText strict v bytes → OrMemory (IsMadeOf (parts_of v)) r → IfErr r (λ f. f ≢ fault.Memory → IsCase bytes (Err f))
fault_read bytes v (Ok c) is h = tt
fault_read bytes v (Err f) is h = λ ne. json v (Err f) is (h ne)
