use Rattle.std.proofs.Common.{◌≡◌, ◌++◌, drop}
use Rattle.std.specs.Prelude.{map, string_bytes}
use Rattle.piece_fetch.specs.Between.{after_commas}
use Rattle.workload.specs.Replying.{form_text}
use Rattle.workload.proofs.replying.put_behind.Given as goal

-- what is written so far and what is left are the whole
abbrev pub invariant-loop-item : goal.invariant-loop-item
invariant-loop-item l = string_bytes l.text ++ after_commas (map (form_text l.form) (drop l.item-index l.items)) ≡ string_bytes l.fn.text ++ after_commas (map (form_text l.form) l.items)
