use Rattle.std.proofs.Common.{◌<◌, length, arith}
use Rattle.gql_shape.proofs.Indexed.{not-noted, is-noted}
use Rattle.gql_shape.proofs.known.note_known.Goals as goal

pub returns-in_err-insert : goal.returns-in_err-insert
returns-in_err-insert c =
    let short : c.args.group < length c.args.known.now.items = omega arith in
    not-noted c.args.known.now.items c.args.group c.index_mut.result.now c.insert.new.self c.args.object c.args.stretch short c.index_mut.ensures.value c.in_err-insert.ensures.err

pub returns-in_ok-insert : goal.returns-in_ok-insert
returns-in_ok-insert c =
    let short : c.args.group < length c.args.known.now.items = omega arith in
    is-noted c.args.known.now.items c.args.group c.index_mut.result.now c.insert.new.self c.args.object c.args.stretch short c.index_mut.ensures.value c.in_ok-insert.ensures.updates.0
