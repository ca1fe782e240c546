use Rattle.std.proofs.Common.{◌≡◌, ◌++◌}
use Rattle.std.specs.Option.{option_copied}
use Rattle.std.specs.Vec.Iter.{into_iter_items}
use Rattle.plan_run.specs.Outcomes.{errors_from}
use Rattle.plan_run.proofs.outcome.add_errors.Given as goal

-- the errors so far and those of what is left are all
abbrev pub invariant-telling : goal.invariant-telling
invariant-telling l =
    l.errors.items ++ errors_from l.fetch l.sub (option_copied l.path) (into_iter_items l.cause-iterator)
    ≡ l.fn.errors.items ++ errors_from l.fetch l.sub (option_copied l.path) l.fn.causes.items
