-- What a case is, or its first fault: its text, its members, its schema, its plans, and then what they make together.
use Rattle.std.specs.Prelude.{◌≡◌, ◌≢◌, ℕ, Bool, true, false, List, [], ◌∷◌, Option, Some, None, Result, Ok, Err}
use Rattle.cache_terms.specs.declared.events.Limits.{Limits}
use Rattle.json_value.specs.declared.tree.Json.{Json}
use Rattle.json_value.specs.declared.fault.JsonFault.{JsonFault}
use Rattle.json_value.specs.declared.fault.JsonFault.TheVariants as unjson
use Rattle.json_value.specs.Grammar.{IsText, strict}
use Rattle.gql_types.specs.declared.definition.TypeDef.{TypeDef}
use Rattle.gql_schema.specs.declared.fault.SdlFault.{SdlFault}
use Rattle.gql_schema.specs.declared.fault.SdlFault.TheVariants as sdl
use Rattle.gql_schema.specs.Schemas.{IsSchemaText}
use Rattle.plan_book.specs.declared.book.Entry.{Entry}
use Rattle.plan_book.specs.declared.fault.PlanFault.{PlanFault}
use Rattle.plan_book.specs.declared.fault.PlanFault.TheVariants as plan
use Rattle.plan_book.specs.declared.book.PlanBook.{PlanBook}
use Rattle.plan_book.specs.Book.{AreLawful}
use Rattle.plan_book.specs.PlanFile.{IsPlanFile}
use Rattle.line_base.specs.declared.script.Scripted.{Scripted}
use Rattle.router_config.specs.declared.config.SubRule.{SubRule}
use Rattle.router_config.specs.declared.config.Config.{Config}
use Rattle.router_config.specs.declared.fault.SiteFault.{SiteFault}
use Rattle.router_config.specs.declared.site.Site.{Site}
use Rattle.router_config.specs.Faults.{faults_of}
use Rattle.router_config.specs.Lawful.{IsLawful}
use Rattle.case_file.specs.declared.content.Timed.{Timed}
use Rattle.case_file.specs.declared.content.Case.{Case}
use Rattle.case_file.specs.declared.fault.CaseMember.{CaseMember}
use Rattle.case_file.specs.declared.fault.CaseFault.{CaseFault}
use Rattle.case_file.specs.declared.fault.CaseFault.TheVariants as fault
use Rattle.case_file.specs.Parts.{Parts, parts_of}

-- what a case holds
pub record Content : Type 0 where
  pub config : Config
  pub schema : List TypeDef
  pub entries : List Entry
  pub requests : List Timed
  pub replies : List Scripted

abbrev pub content : Case → Content
content c = record { config = c.site.config; schema = c.site.schema; entries = c.site.plans.entries.items; requests = c.requests; replies = c.replies }

-- no files, no address, no key and no id header; one worker, one line, and connections without end
abbrev pub config_of : List SubRule → Limits → Config
config_of subs limits = record {
  schema = [];
  plans = [];
  listen = [];
  workers = 1;
  lines = 1;
  connections = 0;
  key = [];
  id_header = None;
  limits = limits;
  subs = subs;
}

abbrev pub content_of : Parts → List TypeDef → List Entry → Content
content_of parts schema entries = record { config = config_of parts.subs parts.limits; schema = schema; entries = entries; requests = parts.requests; replies = parts.replies }

-- where something is wrong with the site, it is none
abbrev pub sited : List SiteFault → Content → Result Content CaseFault
sited [] c = Ok c
sited (f ∷ fs) c = Err fault.Site

abbrev pub site_of : Parts → List TypeDef → List Entry → Result Content CaseFault
site_of parts schema entries = sited (faults_of parts.subs schema entries) (content_of parts schema entries)

-- with this schema
pub data IsPlanned (parts : Parts) (schema : List TypeDef) : Result Content CaseFault → Type 0 where
  no_plans : (f : PlanFault) → IsPlanFile parts.plans (Err f) → IsPlanned parts schema (Err fault.Plans)
  planned : (entries : List Entry) → IsPlanFile parts.plans (Ok entries) → IsPlanned parts schema (site_of parts schema entries)

-- with these members
pub data IsTyped (parts : Parts) : Result Content CaseFault → Type 0 where
  no_schema : ((schema : List TypeDef) → IsSchemaText schema parts.schema → ⊥) → IsTyped parts (Err fault.Schema)
  typed : (schema : List TypeDef) (r : Result Content CaseFault) → IsSchemaText schema parts.schema → IsPlanned parts schema r → IsTyped parts r

abbrev pub IsMadeOf : Result Parts CaseMember → Result Content CaseFault → Type 0
IsMadeOf (Err m) r = r ≡ Err (fault.Member m)
IsMadeOf (Ok parts) r = IsTyped parts r

-- the bytes are a case with this content, or have this fault
pub data IsCase (bytes : List ℕ) : Result Content CaseFault → Type 0 where
  no_json : ((v : Json) → IsText strict v bytes → ⊥) → IsCase bytes (Err fault.Json)
  json : (v : Json) (r : Result Content CaseFault) → IsText strict v bytes → IsMadeOf (parts_of v) r → IsCase bytes r

-- a call answers so, or that memory ran out
abbrev pub OrMemory : (Result Content CaseFault → Type 0) → Result Case CaseFault → Type 0
OrMemory Answer (Ok c) = Answer (Ok (content c))
OrMemory Answer (Err f) = f ≢ fault.Memory → Answer (Err f)

-- ---- what the parts of a case are read as

-- a text that is not read is no JSON, but for want of memory
abbrev pub unread : JsonFault → CaseFault
unread unjson.Memory = fault.Memory
unread _ = fault.Json

abbrev pub is_sdl_memory : SdlFault → Bool
is_sdl_memory sdl.Memory = true
is_sdl_memory _ = false

abbrev pub is_plan_memory : PlanFault → Bool
is_plan_memory plan.Memory = true
is_plan_memory _ = false

abbrev pub ReadsSchema : List ℕ → Option (List TypeDef) → Type 0
ReadsSchema text None = (schema : List TypeDef) → IsSchemaText schema text → ⊥
ReadsSchema text (Some schema) = IsSchemaText schema text

abbrev pub ReadsPlans : Json → Option PlanBook → Type 0
ReadsPlans v None = (f : PlanFault) × IsPlanFile v (Err f)
ReadsPlans v (Some plans) = IsPlanFile v (Ok plans.entries.items) × AreLawful plans.entries.items

abbrev pub Builds : Config → List TypeDef → List Entry → Option Site → Type 0
Builds config schema entries None = faults_of config.subs schema entries ≡ [] → ⊥
Builds config schema entries (Some site) = (faults_of config.subs schema entries ≡ []) × (site.config ≡ config) × (site.schema ≡ schema) × (site.plans.entries.items ≡ entries) × IsLawful site
