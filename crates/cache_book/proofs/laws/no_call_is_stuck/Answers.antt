use Rattle.cache_book.proofs.Answered.{not_stuck}
use Rattle.cache_book.proofs.laws.no_call_is_stuck.Goals as goal

pub returns : goal.returns
returns c = not_stuck
