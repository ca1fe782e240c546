use Rattle.line_base.proofs.Gaining.{place_of_call}
use Rattle.line_base.proofs.laws.calls_are_places_in_the_log.Goals as goal

pub returns : goal.returns
returns c = λ old new entries log j counted gains told less. place_of_call old new entries log j counted gains told
