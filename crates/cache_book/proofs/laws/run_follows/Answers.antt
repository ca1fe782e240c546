use Rattle.cache_book.proofs.Stepping as lemma
use Rattle.cache_book.proofs.laws.run_follows.Goals as goal

pub returns : goal.returns
returns c = lemma.run_follows
