use Rattle.std.proofs.Common.{List, ℕ, drop, bit_and, ap, ◌∙◌}
use Rattle.json_members.specs.Slots.{stands}
use Rattle.json_members.proofs.Digested.{none_in_zeros}
use Rattle.json_members.proofs.digests.Digests.new.Goals as goal

pub returns : goal.returns
returns c d =
    ap (λ (xs : List ℕ). stands (drop (bit_and d c.args.mask) xs) d) (c.in_ok-from_elem.ensures.items_if_clones_equal (λ y is. is))
    ∙ none_in_zeros (bit_and d c.args.mask) c.saturating_add-room.result d
