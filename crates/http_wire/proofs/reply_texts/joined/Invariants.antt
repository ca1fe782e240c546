use Rattle.std.proofs.Common.{◌≡◌, ◌++◌, Some, length, string_bytes}
use Rattle.http_wire.specs.Heads.{values_of}
use Rattle.http_wire.specs.Framings.{joined, further_values}
use Rattle.http_wire.proofs.reply_texts.joined.Given as goal

abbrev pub invariant-loop-value : goal.invariant-loop-value
invariant-loop-value l = Some (string_bytes l.list ++ further_values (values_of l.name l.rest)) ≡ joined (values_of l.name l.fields)

abbrev pub decreases-loop-value : goal.decreases-loop-value
decreases-loop-value l = length l.rest
