-- What the shop replies to a call.
use Rattle.std.specs.Prelude.{◌≡◌, ℕ, ◌+◌, ◌%◌, ◌^◌, ◌&&◌, nat_lt, if◌then◌else◌, List, [], ◌∷◌, ◌++◌, map, codes, Option, Some, None}
use Rattle.std.specs.Fmt.{decimal}
use Rattle.std.specs.Str.{bytes_eq}
use Rattle.std.specs.Str.Parse.{digits_value}
use Rattle.json_value.specs.declared.tree.Json.{Json}
use Rattle.json_value.specs.Grammar.{IsText, strict}
use Rattle.json_value.specs.Members.{member}
use Rattle.cache_terms.specs.declared.events.Reply.{Reply}
use Rattle.line_base.specs.declared.line.Call as calls
use Rattle.fetch_asks.specs.Asking.{joined}
use Rattle.case_file.specs.Forms.{text_in, number_in, elements_in, each}
use Rattle.workload.specs.declared.form.Form.{Form}
use Rattle.workload.specs.declared.form.Form.TheVariants as form
use Rattle.workload.specs.Site.{item_of}

-- ---- the texts of a reply

-- an item as an entity; its stars; and its one tag, in a list
abbrev pub form_text : Form → ℕ → List ℕ
form_text form.Item n = codes "{\"__typename\":\"Item\",\"id\":\"" ++ (decimal n ++ codes "\"}")
form_text form.Stars n = codes "{\"stars\":" ++ (decimal (n % 5) ++ codes "}")
form_text form.Tag n = codes "[\"p" ++ (decimal n ++ codes "\"]")

-- those of these items, with commas between them
abbrev pub forms_text : Form → List ℕ → List ℕ
forms_text f ns = joined (map (form_text f) ns)

-- the five items from this one on; the last is followed by the first
abbrev pub five_from : ℕ → List ℕ
five_from n =
    let first = item_of n in
    first ∷ item_of (first + 1) ∷ item_of (first + 2) ∷ item_of (first + 3) ∷ item_of (first + 4) ∷ []

abbrev pub items_body : ℕ → List ℕ
items_body n = codes "{\"data\":{\"items\":[" ++ (forms_text form.Item (five_from n) ++ codes "]}}")

abbrev pub stars_body : List ℕ → List ℕ
stars_body ns = codes "{\"data\":{\"_entities\":[" ++ (forms_text form.Stars ns ++ (codes "]},\"extensions\":{\"entityCacheTags\":[" ++ (forms_text form.Tag ns ++ codes "]}}")))

abbrev pub shop_reply : List ℕ → Reply
shop_reply body = record { status = 200; cache_control = Some (codes "max-age=60"); age = None; body = body }

-- ---- what a call asks for

-- the number that the text writes as it is printed, below 10 ^ 15
abbrev pub number_printed : List ℕ → Option ℕ
number_printed text = if bytes_eq text (decimal (digits_value 10 text)) && nat_lt (digits_value 10 text) (10 ^ 15) then Some (digits_value 10 text) else None

abbrev pub number_if : Option (List ℕ) → Option ℕ
number_if None = None
number_if (Some text) = number_printed text

-- the item that an entity names
abbrev pub id_of : Json → Option ℕ
id_of v = number_if (text_in (member v (codes "id")))

-- of the variables `from`
abbrev pub from_in : Option Json → Option ℕ
from_in None = None
from_in (Some variables) = number_in (member variables (codes "from"))

-- of the variables the items that `representations` name, where each names one
abbrev pub ids_in : Option Json → Option (List ℕ)
ids_in None = None
ids_in (Some variables) = each id_of (elements_in (member variables (codes "representations")))

abbrev pub items_reply : Option ℕ → Option Reply
items_reply None = None
items_reply (Some from) = Some (shop_reply (items_body from))

abbrev pub stars_reply : Option (List ℕ) → Option Reply
stars_reply None = None
stars_reply (Some ids) = Some (shop_reply (stars_body ids))

-- what is replied to a body of this value
abbrev pub reply_to : List ℕ → Option Json → Option Reply
reply_to name variables =
    if bytes_eq name (codes "catalog") then items_reply (from_in variables) else
    (if bytes_eq name (codes "reviews") then stars_reply (ids_in variables) else None)

-- WHAT IS REPLIED TO A CALL: what its body asks for; and nothing where that is no JSON, or asks for nothing that the shop has
pub data IsReplied (call : calls.Call) : Option Reply → Type 0 where
  reads : (v : Json) (o : Option Reply) → IsText strict v call.body → o ≡ reply_to call.name (member v (codes "variables")) → IsReplied call o
  unread : ((v : Json) → IsText strict v call.body → ⊥) → IsReplied call None
