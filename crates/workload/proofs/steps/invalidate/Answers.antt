use Rattle.workload.specs.Between.{first_line}
use Rattle.workload.proofs.Stepping.{invalidated}
use Rattle.workload.proofs.steps.invalidate.Goals as goal

pub returns-clause-ok : goal.returns-clause-ok
returns-clause-ok c =
    invalidated c.args.drawn c.args.shop.now.cache c.invalidate-voided.new.self (first_line c.args.shop.now.lines.items) c.args.shop.now.counts c.in_ok-notice.notice c.invalidate-voided.result _
    c.in_ok-notice.ensures c.invalidate-voided.ensures c.saturating_add-shop.ensures
