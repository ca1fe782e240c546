use Rattle.std.proofs.Common.{◌≤◌, arith}
use Rattle.cache_model.specs.Journal.{bytes}
use Rattle.cache_model.proofs.Sound.{bytes_within}
use Rattle.book_cases.proofs.weighing.plain_bytes.Goals as goal

pub bytes_of-requires : goal.bytes_of-requires
bytes_of-requires c =
    let s = c.args.book.now in
    let within : bytes s.journal ≤ s.limits.bytes = bytes_within s.limits s.journal c.journal.ensures.legal.each in
    let most : s.limits.bytes ≤ 268435456 = c.journal.ensures.ranges.most_bytes in
    rw (c.deref.ensures.value, c.journal.ensures.same) (omega arith)
