use Rattle.std.proofs.Common.{bit_and}
use Rattle.json_members.proofs.Digested.{put_there, others_stay}
use Rattle.json_members.proofs.digests.Digests.put.Goals as goal

pub returns-in-Some-clause-has : goal.returns-in-Some-clause-has
returns-in-Some-clause-has c _ =
    put_there c.args.self.now.slots.items c.as_slice.result.now (bit_and c.args.digest c.args.self.now.mask) c.args.digest c.in-Some.i c.as_slice.ensures.value c.in-Some.ensures.within c.in-Some.ensures.place
    c.if-digest-eq0.false

pub returns-in-Some-clause-keeps : goal.returns-in-Some-clause-keeps
returns-in-Some-clause-keeps c d =
    others_stay c.args.self.now.slots.items c.as_slice.result.now (bit_and c.args.digest c.args.self.now.mask) c.args.digest c.in-Some.i c.as_slice.ensures.value c.in-Some.ensures.within c.in-Some.ensures.place
    (bit_and d c.args.self.now.mask) d
