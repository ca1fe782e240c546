use Rattle.std.proofs.Common.{All}
use Rattle.cache_seam.specs.Meddling.{IsFitting, steps_of}
use Rattle.cache_seam.proofs.Opening.{meddled_opened}
use Rattle.cache_seam.proofs.meddled.Meddled.open.Goals as goal

pub invariant_of-result : goal.invariant_of-result
invariant_of-result c =
    let fitting : All (All IsFitting) (steps_of c.from.result.items) = rw c.from.ensures.0 c.requires.offers in
    rw c.new.ensures.items (meddled_opened c.args.limits (steps_of c.from.result.items) c.in_ok-book.book c.begin-pass.new.self c.begin-second.new.self c.begin-pass.result c.begin-second.result c.requires.limits fitting c.in_ok-book.ensures c.begin-pass.ensures.step c.begin-second.ensures.step)
