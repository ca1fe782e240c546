use Rattle.std.proofs.Common.{length}
use Rattle.cache_model.specs.Journal.{IsHeldUnder}
use Rattle.cache_model.proofs.Unique.{count_unique}
use Rattle.cache_model.proofs.journals.count_is_unique.Goals as goal

pub returns : goal.returns
returns c = λ J target. count_unique (IsHeldUnder J target) (length J)
