-- The replies of a case.
use Rattle.std.specs.Prelude.{ℕ, Bool, true, false, List, Option, Some, None, codes}
use Rattle.json_value.specs.declared.tree.Json.{Json}
use Rattle.json_value.specs.Members.{member}
use Rattle.json_print.specs.Print.{print}
use Rattle.cache_terms.specs.declared.events.Reply.{Reply}
use Rattle.line_base.specs.declared.script.Scripted.{Scripted}
use Rattle.router_config.specs.declared.config.SubRule.{SubRule}
use Rattle.router_config.specs.Rules as rules
use Rattle.case_file.specs.Forms.{text_in, text_or_null_in, flag_in, number_within, elements_in, each}

abbrev pub numbered : List SubRule → Option (List ℕ) → Option ℕ
numbered subs None = None
numbered subs (Some name) = rules.number_of subs name

-- the number of the subgraph that is named
abbrev pub subgraph_of : List SubRule → Json → Option ℕ
subgraph_of subs v = numbered subs (text_in (member v (codes "subgraph")))

abbrev pub body_or : Option Json → Option Json → Option (List ℕ)
body_or (Some body) text = Some (print body)
body_or None text = text_in text

-- `body` as it is printed, or else `text` as it stands
abbrev pub body_of : Json → Option (List ℕ)
body_of v = body_or (member v (codes "body")) (member v (codes "text"))

abbrev pub reply_with : Option ℕ → Option (Option (List ℕ)) → Option (Option (List ℕ)) → Option (List ℕ) → Option Reply
reply_with (Some status) (Some cache_control) (Some age) (Some body) = Some (record { status = status; cache_control = cache_control; age = age; body = body })
reply_with _ _ _ _ = None

-- `"status":N,"cacheControl":text or null,"age":text or null,"body":value`, or `"text":T` in place of `body`
abbrev pub reply_of : Json → Option Reply
reply_of v = reply_with (number_within 0 65535 (member v (codes "status"))) (text_or_null_in (member v (codes "cacheControl"))) (text_or_null_in (member v (codes "age"))) (body_of v)

abbrev pub is_set : Option Bool → Bool
is_set None = false
is_set (Some flag) = flag

-- `"fail":true`
abbrev pub fails : Json → Bool
fails v = is_set (flag_in (member v (codes "fail")))

abbrev pub answered_with : Option Reply → Option (Option Reply)
answered_with None = None
answered_with (Some reply) = Some (Some reply)

-- no reply where it fails
abbrev pub reply_unless : Bool → Json → Option (Option Reply)
reply_unless true v = Some None
reply_unless false v = answered_with (reply_of v)

abbrev pub scripted_with : Option ℕ → Option (Option Reply) → Option Scripted
scripted_with (Some sub) (Some reply) = Some (record { sub = sub; reply = reply })
scripted_with _ _ = None

abbrev pub scripted_of : List SubRule → Json → Option Scripted
scripted_of subs v = scripted_with (subgraph_of subs v) (reply_unless (fails v) v)

abbrev pub replies_in : List SubRule → Option Json → Option (List Scripted)
replies_in subs o = each (scripted_of subs) (elements_in o)
