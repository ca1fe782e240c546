use Rattle.piece_fetch.proofs.Counting.{fetch_has_each}
use Rattle.piece_fetch.proofs.laws.each_key_has_its_piece.Goals as goal

pub returns : goal.returns
returns c = fetch_has_each
