use Rattle.std.proofs.Common.{arith, ◌≤◌}
use Rattle.cache_model.specs.Journal.{bytes}
use Rattle.cache_model.proofs.Sound.{bytes_within}
use Rattle.cache_book.proofs.journal.Journal.is_half_used.Goals as goal

pub overflow_mul-twice_bytes : goal.overflow_mul-twice_bytes
overflow_mul-twice_bytes c =
    let within : bytes c.self.inside.events.items ≤ c.self.inside.limits.bytes = bytes_within c.self.inside.limits c.self.inside.events.items c.self.invariant.0.each in
    let here : bytes c.args.self.now.events ≤ c.self.inside.limits.bytes = rw (← c.self.view_is) within in
    omega (arith, here, c.self.invariant.1.most_bytes, c.bytes-twice_bytes.ensures)
