use Rattle.cache_model.proofs.Legality.{room_of}
use Rattle.cache_model.proofs.Sound.{bytes_within}
use Rattle.cache_model.proofs.journals.legal_has_room.Goals as goal

pub returns-clause-events : goal.returns-clause-events
returns-clause-events c = λ limits J legal. room_of limits J legal.each

pub returns-clause-bytes : goal.returns-clause-bytes
returns-clause-bytes c = λ limits J legal. bytes_within limits J legal.each
