use Rattle.std.proofs.Common.{◌≡◌, take}
use Rattle.json_paths.proofs.needs.+copy.Given as goal

abbrev pub invariant-copy_needs-loop-need : goal.invariant-copy_needs-loop-need
invariant-copy_needs-loop-need l = l.copies.items ≡ take l.need-index l.needs
