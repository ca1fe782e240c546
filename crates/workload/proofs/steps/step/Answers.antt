use Rattle.std.proofs.lemmas.Result.{on_ok_weaker}
use Rattle.workload.specs.Between.{midway}
use Rattle.workload.proofs.Stepping.{does_void, does_request}
use Rattle.workload.proofs.steps.step.Goals as goal

pub returns-then-drawn-eq0-clause-ok : goal.returns-then-drawn-eq0-clause-ok
returns-then-drawn-eq0-clause-ok c =
    on_ok_weaker c.invalidate.result (does_void c.args.site.now c.args.drawn c.args.moment (midway c.args.shop.now) (midway c.invalidate.new.shop) c.if-drawn-eq0.true) c.invalidate.ensures.ok

pub returns-else-drawn-eq0-clause-ok : goal.returns-else-drawn-eq0-clause-ok
returns-else-drawn-eq0-clause-ok c =
    on_ok_weaker c.request.result (does_request c.args.site.now c.args.drawn c.args.moment (midway c.args.shop.now) (midway c.request.new.shop) c.if-drawn-eq0.false) c.request.ensures.ok
