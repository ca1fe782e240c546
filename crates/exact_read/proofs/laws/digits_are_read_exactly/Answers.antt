use Rattle.exact_read.proofs.Digits.{digits_exact}
use Rattle.exact_read.proofs.laws.digits_are_read_exactly.Goals as goal

pub returns : goal.returns
returns c = digits_exact
