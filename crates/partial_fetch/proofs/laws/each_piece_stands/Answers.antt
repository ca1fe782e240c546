use Rattle.partial_fetch.proofs.Promise.{answer_promised}
use Rattle.partial_fetch.proofs.laws.each_piece_stands.Goals as goal

pub returns : goal.returns
returns c = answer_promised c.found_pieces_stand.ensures
