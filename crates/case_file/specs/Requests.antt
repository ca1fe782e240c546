-- The requests of a case.
use Rattle.std.specs.Prelude.{ℕ, List, Option, Some, None, codes}
use Rattle.json_value.specs.declared.tree.Json.{Json}
use Rattle.json_value.specs.Members.{member}
use Rattle.case_file.specs.declared.content.Timed.{Timed}
use Rattle.case_file.specs.Forms.{text_in, text_or_null_in, number_in, object_in, elements_in, each}

abbrev pub timed_with : Option ℕ → Option (Option (List ℕ)) → Option (List ℕ) → Option Json → Option Timed
timed_with (Some moment) (Some id) (Some query) (Some variables) = Some (record { moment = moment; request = record { query = query; operation_name = None; variables = variables; id = id } })
timed_with _ _ _ _ = None

-- `{"now":N,"id":text or null,"query":text,"variables":object}`
abbrev pub timed_of : Json → Option Timed
timed_of v = timed_with (number_in (member v (codes "now"))) (text_or_null_in (member v (codes "id"))) (text_in (member v (codes "query"))) (object_in (member v (codes "variables")))

abbrev pub requests_in : Option Json → Option (List Timed)
requests_in o = each timed_of (elements_in o)
