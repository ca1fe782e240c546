-- Blanks between tokens.
use Rattle.std.proofs.Common.{ℕ, List}
use Rattle.std.proofs.lemmas.Bool.{cond-true}
use Rattle.json_value.specs.declared.tree.Json.{Json}
use Rattle.json_value.specs.Grammar.{is_blank}
use Rattle.json_machine.specs.Mode as m
use Rattle.json_machine.specs.Machine.{Pairs, step, value_step, first_step, after_step, first_name_step, next_name_step, colon_step}
use Rattle.json_machine.specs.Onward.{Skips}

pub value_skips : Skips m.Value
unfolding step value_step
value_skips at b fs blank = cond-true (is_blank b) _ _ blank

pub first_skips : Skips m.First
unfolding step first_step
first_skips at b fs blank = cond-true (is_blank b) _ _ blank

pub after_skips : (v : Json) → Skips (m.After v)
unfolding step after_step
after_skips v at b fs blank = cond-true (is_blank b) _ _ blank

pub first_name_skips : Skips m.FirstName
unfolding step first_name_step
first_name_skips at b fs blank = cond-true (is_blank b) _ _ blank

pub next_name_skips : (ms : Pairs) → Skips (m.NextName ms)
unfolding step next_name_step
next_name_skips ms at b fs blank = cond-true (is_blank b) _ _ blank

pub colon_skips : (ms : Pairs) (name : List ℕ) → Skips (m.Colon ms name)
unfolding step colon_step
colon_skips ms name at b fs blank = cond-true (is_blank b) _ _ blank
