use Rattle.piece_fetch.proofs.FoundPieces.{does_found}
use Rattle.piece_fetch.proofs.laws.found_pieces_are_recorded.Goals as goal

pub returns : goal.returns
returns c = does_found c.looks_find_what_is_recorded.ensures c.recorded_hits_stay.ensures
