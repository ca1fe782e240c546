use Rattle.cache_book.proofs.Stepping.{permit_without}
use Rattle.cache_book.proofs.laws.permit_outlives_others.Goals as goal

pub returns : goal.returns
returns c = permit_without
