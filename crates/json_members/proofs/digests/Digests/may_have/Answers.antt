use Rattle.std.proofs.Common.{bit_and}
use Rattle.json_members.proofs.Digested.{not_there}
use Rattle.json_members.proofs.digests.Digests.may_have.Goals as goal

pub returns-in-Some : goal.returns-in-Some
returns-in-Some c =
    not_there c.args.self.now.slots.items c.as_slice.result.now (bit_and c.args.digest c.args.self.now.mask) c.args.digest c.in-Some.i c.index.result.now c.as_slice.ensures.value c.in-Some.ensures.within
    c.in-Some.ensures.place c.index.ensures
