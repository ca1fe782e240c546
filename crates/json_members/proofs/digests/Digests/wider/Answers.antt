use Rattle.std.proofs.Common.{◌≡◌, ◌<◌, ℕ, true, bit_and, subst, sym, ◌∙◌, arith}
use Rattle.json_members.specs.Slots.{has_digest}
use Rattle.json_members.proofs.Digested.{in_a_slot}
use Rattle.json_members.proofs.digests.Digests.wider.Goals as goal

pub returns : goal.returns
returns c d is =
    let r = in_a_slot (bit_and d c.args.self.now.mask) c.args.self.now.slots.items d is in
    let lt : r.0 < c.loop-i.i = omega (arith, r.1, c.args.self.now.slots.ok.0, c.len-i-end.ensures, c.loop-i-test.false) in
    subst (λ (e : ℕ). has_digest c.loop-i.wider e ≡ true) r.2 (c.loop-i.invariant r.0 lt (λ empty. r.3 (sym r.2 ∙ empty)))
