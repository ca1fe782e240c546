use Rattle.line_base.proofs.Gaining.{gains_lane}
use Rattle.line_base.proofs.laws.lanes_gain_their_fetches.Goals as goal

pub returns : goal.returns
returns c = gains_lane
