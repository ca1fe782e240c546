use Rattle.cache_book.specs.Calls as call
use Rattle.cache_seam.proofs.LoneCalls.{lone_calls}
use Rattle.cache_seam.proofs.alone.AloneCache.tally.Goals as goal

pub returns : goal.returns
returns c =
    rw (← c.self.view_is)
    (lone_calls c.self.inside.book c.self.inside.begun call.Tally (call.Tallied c.tally.result) c.self.inside.book c.self.invariant.0 tt tt tt c.tally.ensures)
