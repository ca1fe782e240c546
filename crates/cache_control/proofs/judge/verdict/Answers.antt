use Rattle.std.proofs.Common.{sym, subst}
use Rattle.std.specs.Option.{option_copied}
use Rattle.cache_control.specs.Rules.{IsVerdict}
use Rattle.cache_control.proofs.Laws.{verdict_stands}
use Rattle.cache_control.proofs.judge.verdict.Goals as goal

pub returns-clause-verdict : goal.returns-clause-verdict
returns-clause-verdict c = subst (IsVerdict (option_copied c.args.cache_control) (option_copied c.args.age)) (sym c.said_by.ensures) (verdict_stands (option_copied c.args.cache_control) (option_copied c.args.age))
