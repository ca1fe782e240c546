use Rattle.std.proofs.Common.{◌≡◌, take}
use Rattle.std.specs.Prelude.{string_bytes}
use Rattle.fetch_asks.specs.Asks.{picked}
use Rattle.fetch_asks.specs.Texts.{members_text}
use Rattle.fetch_asks.proofs.members.picked_text.Given as goal

abbrev pub invariant-loop-name : goal.invariant-loop-name
invariant-loop-name l = string_bytes l.out ≡ members_text (picked (take l.name-index l.names) l.variables)
