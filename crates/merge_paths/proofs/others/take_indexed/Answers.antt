use Rattle.std.proofs.Common.{◌≡◌, sym, ◌∙◌, ap, None, Some, rules}
use Rattle.json_value.specs.Members.{named}
use Rattle.merge_paths.specs.Merge.{without}
use Rattle.merge_paths.specs.Taking.{taken_back}
use Rattle.merge_paths.proofs.Progress.{without-absent}
use Rattle.merge_paths.proofs.Taken.{back-lacks, taken}
use Rattle.merge_paths.proofs.others.take_indexed.Goals as goal

pub returns-in_default-clause-value : goal.returns-in_default-clause-value
returns-in_default-clause-value c = sym (back-lacks c.args.name.now c.args.names.now.keys c.args.values.now.items (sym c.in_default.ensures.found))

pub returns-in_default-clause-rest : goal.returns-in_default-clause-rest
returns-in_default-clause-rest c = sym (without-absent c.args.name.now (taken_back c.args.names.now.keys c.args.values.now.items) (back-lacks c.args.name.now c.args.names.now.keys c.args.values.now.items (sym c.in_default.ensures.found)))

pub returns-clause-value : goal.returns-clause-value
returns-clause-value c = (taken c.args.name.now c.args.names.now.keys c.args.values.now.items c.in-Some.index c.args.name.now c.index_mut.result.now c.take.result c.requires.differ c.in-Some.ensures.index c.requires.long c.index_mut.ensures.value c.take.ensures.value).0

pub returns-clause-rest : goal.returns-clause-rest
returns-clause-rest c = rw c.take.ensures.after ((taken c.args.name.now c.args.names.now.keys c.args.values.now.items c.in-Some.index c.args.name.now c.index_mut.result.now c.take.result c.requires.differ c.in-Some.ensures.index c.requires.long c.index_mut.ensures.value c.take.ensures.value).1)
