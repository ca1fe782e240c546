use Rattle.script_lines.proofs.Pieces.{pieces_at, shorter_at}
use Rattle.script_lines.proofs.lines.first_piece.Goals as goal

pub returns-in-Some-clause-pieces : goal.returns-in-Some-clause-pieces
returns-in-Some-clause-pieces c = rw c.in-Some.is at (pieces_at c.args.separator c.args.text.now c.split_once.result c.split_once.ensures.cases c.requires)

pub returns-in-None-clause-pieces : goal.returns-in-None-clause-pieces
returns-in-None-clause-pieces c = rw c.in-None.is at (pieces_at c.args.separator c.args.text.now c.split_once.result c.split_once.ensures.cases c.requires)

pub returns-in-Some-clause-shorter : goal.returns-in-Some-clause-shorter
returns-in-Some-clause-shorter c = rw c.in-Some.is at (shorter_at c.args.separator c.args.text.now c.split_once.result c.split_once.ensures.cases c.requires)
