use Rattle.json_print.proofs.RoundTrip.{text_again}
use Rattle.json_print.proofs.laws.compact_text_stands_for_its_value.Goals as goal

pub returns : goal.returns
returns c = text_again c.args.value.now
