use Rattle.json_members.proofs.Names.{name_step}
use Rattle.json_members.proofs.open_members.names_of.Goals as goal

pub loop-i-preserved : goal.loop-i-preserved
loop-i-preserved c =
    name_step c.loop-i.names c.in_ok-names.names c.args.members.now c.loop-i.i c.index-members-i.result c.loop-i-test.true c.loop-i.invariant c.in_ok-names.ensures
