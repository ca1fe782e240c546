use Rattle.std.proofs.Common.{◌≡◌, drop}
use Rattle.json_value.specs.Members.{named}
use Rattle.reply_read.proofs.kinds.take_named.Given as goal

abbrev pub invariant-loop-i : goal.invariant-loop-i
invariant-loop-i l = named l.name (drop l.i l.members.items) ≡ named l.name l.fn.members.items
