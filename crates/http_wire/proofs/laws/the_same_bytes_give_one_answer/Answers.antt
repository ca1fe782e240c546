use Rattle.http_wire.proofs.OneAnswer.{one_answer}
use Rattle.http_wire.proofs.laws.the_same_bytes_give_one_answer.Goals as goal

pub returns : goal.returns
returns c = one_answer
