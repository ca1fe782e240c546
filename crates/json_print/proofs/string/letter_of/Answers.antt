use Rattle.json_print.proofs.Letters.{letter_is}
use Rattle.json_print.proofs.string.letter_of.Goals as goal

pub returns : goal.returns
returns c = record { letter = letter_is c.args.byte c.requires }
