-- The members of a case, or the first bad one.
use Rattle.std.specs.Prelude.{◌≡◌, ℕ, List, Option, Some, None, Result, Ok, Err, codes}
use Rattle.json_value.specs.declared.tree.Json.{Json}
use Rattle.json_value.specs.Members.{member}
use Rattle.cache_terms.specs.declared.events.Limits.{Limits}
use Rattle.line_base.specs.declared.script.Scripted.{Scripted}
use Rattle.router_config.specs.declared.config.SubRule.{SubRule}
use Rattle.case_file.specs.declared.content.Timed.{Timed}
use Rattle.case_file.specs.declared.parts.Parts as drawn
use Rattle.case_file.specs.declared.fault.CaseMember.{CaseMember}
use Rattle.case_file.specs.declared.fault.CaseMember.TheVariants as members
use Rattle.case_file.specs.declared.fault.CaseFault.{CaseFault}
use Rattle.case_file.specs.declared.fault.CaseFault.TheVariants as fault
use Rattle.case_file.specs.Forms.{text_in, number_within}
use Rattle.case_file.specs.Subgraphs.{subgraphs_in}
use Rattle.case_file.specs.Requests.{requests_in}
use Rattle.case_file.specs.Replies.{replies_in}

abbrev pub name_of : CaseMember → List ℕ
name_of members.Schema = codes "schema"
name_of members.Plans = codes "plans"
name_of members.Subgraphs = codes "subgraphs"
name_of members.Events = codes "events"
name_of members.Bytes = codes "bytes"
name_of members.Requests = codes "requests"
name_of members.Replies = codes "replies"

-- what the members say
pub record Parts : Type 0 where
  pub schema : List ℕ
  pub plans : Json
  pub subs : List SubRule
  pub limits : Limits
  pub requests : List Timed
  pub replies : List Scripted

-- what was drawn from them
abbrev pub parts_said : drawn.Parts → Parts
parts_said p = record { schema = p.schema.now; plans = p.plans.now; subs = p.subs; limits = p.limits; requests = p.requests; replies = p.replies }

-- a member that has to be there, in its form
abbrev pub needed : {X Y : Type 0} → CaseMember → Option X → (X → Result Y CaseMember) → Result Y CaseMember
needed m None onward = Err m
needed m (Some x) onward = onward x

-- each member in turn, until one is missing or of another form; what is no object has none
abbrev pub parts_of : Json → Result Parts CaseMember
parts_of v =
    needed members.Schema (text_in (member v (codes "schema"))) (λ schema.
    needed members.Plans (member v (codes "plans")) (λ plans.
    needed members.Subgraphs (subgraphs_in (member v (codes "subgraphs"))) (λ subs.
    needed members.Events (number_within 8 65536 (member v (codes "events"))) (λ events.
    needed members.Bytes (number_within 16 268435456 (member v (codes "bytes"))) (λ bytes.
    needed members.Requests (requests_in (member v (codes "requests"))) (λ requests.
    needed members.Replies (replies_in subs (member v (codes "replies"))) (λ replies.
    Ok (record { schema = schema; plans = plans; subs = subs; limits = record { events = events; bytes = bytes }; requests = requests; replies = replies }))))))))

-- the fault names the bad member
abbrev pub LacksPart : Result Parts CaseMember → CaseFault → Type 0
LacksPart (Err m) f = f ≡ fault.Member m
LacksPart (Ok parts) f = ⊥
