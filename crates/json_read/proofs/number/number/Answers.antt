use Rattle.std.proofs.Common.{sym, ◌∙◌}
use Rattle.json_read.proofs.Tokens.{number_utf8, number_ok, number_bad, number_ended}
use Rattle.json_read.proofs.number.number.Goals as goal

pub text_of-requires : goal.text_of-requires
text_of-requires c =
    (number_utf8 c.args.bytes.now c.args.at c.number_run-end.result.0 c.args.start c.number_run-end.result.1 c.requires.within c.number_run-end.ensures.after c.requires.begins c.number_run-end.ensures.follows (sym c.may_end.ensures ∙ c.if-may_end.true))

pub returns-then-may_end : goal.returns-then-may_end
returns-then-may_end c =
    number_ok c.args.bytes.now c.args.at c.number_run-end.result.0 c.args.start c.number_run-end.result.1 _ c.requires.within c.number_run-end.ensures.after c.number_run-end.ensures.within c.requires.begins c.number_run-end.ensures.follows (sym c.may_end.ensures ∙ c.if-may_end.true)
    c.number_run-end.ensures.stops c.in_ok-text.ensures

pub returns-then-end-bytes : goal.returns-then-end-bytes
returns-then-end-bytes c =
    number_bad c.args.bytes.now c.args.at c.number_run-end.result.0 c.args.start c.number_run-end.result.1 c.requires.within c.number_run-end.ensures.after c.if-end-bytes.true c.requires.begins c.number_run-end.ensures.follows (sym c.may_end.ensures ∙ c.if-may_end.false)
    (c.number_run-end.ensures.stops c.if-end-bytes.true)

pub returns : goal.returns
returns c =
    number_ended c.args.bytes.now c.args.at c.number_run-end.result.0 c.args.start c.number_run-end.result.1 c.requires.within c.number_run-end.ensures.after c.number_run-end.ensures.within c.if-end-bytes.false c.requires.begins c.number_run-end.ensures.follows
    (sym c.may_end.ensures ∙ c.if-may_end.false)
