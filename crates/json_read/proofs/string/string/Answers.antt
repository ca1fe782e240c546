use Rattle.json_read.proofs.Strings.{plain_read, text_utf8, text_read}
use Rattle.json_read.proofs.string.string.Goals as goal

pub text_of-requires : goal.text_of-requires
text_of-requires c =
    (text_utf8 c.args.bytes.now c.args.at c.in_ok-end.end _ _ (plain_read c.args.bytes.now c.args.at c.in_ok-end.end c.in_ok-end.ensures c.if-bytes-end-ne34.false))

pub returns : goal.returns
returns c =
    text_read c.args.bytes.now c.args.at c.in_ok-end.end _ c.in_ok-text.text c.in_ok-end.ensures.0 c.in_ok-end.ensures.1 (plain_read c.args.bytes.now c.args.at c.in_ok-end.end c.in_ok-end.ensures c.if-bytes-end-ne34.false)
    c.in_ok-text.ensures
