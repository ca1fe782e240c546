use Rattle.plan_book.proofs.Determined.{plan_file_once}
use Rattle.plan_book.proofs.laws.plan_file_is_one.Goals as goal

pub returns : goal.returns
returns c = plan_file_once c.args.value.now
