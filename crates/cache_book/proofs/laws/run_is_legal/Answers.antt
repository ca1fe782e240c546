use Rattle.cache_model.specs.State.{opened}
use Rattle.cache_book.proofs.Stepping.{run_legal, opened_legal}
use Rattle.cache_book.proofs.laws.run_is_legal.Goals as goal

pub returns : goal.returns
returns c = λ limits first calls answers new ranges. run_legal (opened limits first) calls answers new (opened_legal limits first ranges)
