use Rattle.json_members.proofs.Names.{digest_step}
use Rattle.json_members.proofs.open_members.digests_of.Goals as goal

pub loop-i-preserved : goal.loop-i-preserved
loop-i-preserved c =
    digest_step c.loop-i.digests c.add.new.self c.args.members.now c.loop-i.i c.index-members-i.result c.digest.result c.loop-i-test.true
    c.loop-i.invariant c.digest.ensures (c.in_ok-add.ensures.has c.if-not-branch.false) c.in_ok-add.ensures.keeps
