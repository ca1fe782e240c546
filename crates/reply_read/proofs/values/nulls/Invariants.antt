use Rattle.std.proofs.Common.{◌≡◌, replicate}
use Rattle.json_value.specs.declared.tree.Json.TheVariants as json
use Rattle.reply_read.proofs.values.nulls.Given as goal

abbrev pub invariant-loop : goal.invariant-loop
invariant-loop l = l.values.items ≡ replicate l.counter json.Null
