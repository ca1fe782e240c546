use Rattle.fetch_asks.proofs.Bodies.{body}
use Rattle.fetch_asks.proofs.laws.the_body_is_its_text.Goals as goal

pub returns : goal.returns
returns c = body c.args.fetch.now c.args.asked.now c.args.variables.now
