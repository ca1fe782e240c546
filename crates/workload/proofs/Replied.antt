-- What is replied to a body that is read, and to one that is no JSON.
use Rattle.std.proofs.Common.{◌≡◌, ◌≢◌, ℕ, List, Option, None, Result, Ok, Err, IfOk, sym, ap, ◌∙◌, subst}
use Rattle.std.specs.Prelude.{codes}
use Rattle.json_value.specs.declared.tree.Json.{Json}
use Rattle.json_value.specs.declared.fault.JsonFault.{JsonFault}
use Rattle.json_value.specs.declared.fault.JsonFault.TheVariants as faults
use Rattle.json_value.specs.Grammar.{IsText, strict}
use Rattle.json_value.specs.Members.{member}
use Rattle.cache_terms.specs.declared.events.Reply.{Reply}
use Rattle.line_base.specs.declared.line.Call as calls
use Rattle.workload.specs.Replying.{IsReplied, reply_to, reads, unread}

pub no_json : {E : Type 0} (call : calls.Call) (bytes : List ℕ) (f : JsonFault) (r : Result (Option Reply) E) → bytes ≡ call.body → ((v : Json) → IsText strict v bytes → f ≡ faults.Memory)
    → IfOk r (λ o. (o ≡ None) × (f ≢ faults.Memory)) → IfOk r (λ o. IsReplied call o)
no_json call bytes f (Ok o) same only h = subst (IsReplied call) (sym h.0) (unread (λ v is. h.1 (only v (subst (IsText strict v) (sym same) is))))
no_json call bytes f (Err e) same only h = tt

pub read_as : {E : Type 0} (call : calls.Call) (bytes name : List ℕ) (v : Json) (r : Result (Option Reply) E) → bytes ≡ call.body → name ≡ call.name → IsText strict v bytes
    → IfOk r (λ o. o ≡ reply_to name (member v (codes "variables"))) → IfOk r (λ o. IsReplied call o)
read_as call bytes name v (Ok o) same named is h = reads v o (subst (IsText strict v) same is) (h ∙ ap (λ (n : List ℕ). reply_to n (member v (codes "variables"))) named)
read_as call bytes name v (Err e) same named is h = tt
