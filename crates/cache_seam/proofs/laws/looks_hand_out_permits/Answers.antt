use Rattle.cache_seam.proofs.Hands.{hand_of_look}
use Rattle.cache_seam.proofs.laws.looks_hand_out_permits.Goals as goal

pub returns : goal.returns
returns c = hand_of_look
