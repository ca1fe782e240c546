use Rattle.json_read.proofs.Strings.{first_run, one_more, text_closed, text_utf8, text_read}
use Rattle.json_read.proofs.string.with_escapes.Goals as goal

pub loop-i-init : goal.loop-i-init
loop-i-init c = first_run c.args.bytes.now c.args.at c.args.first c.in_ok-text.text c.requires c.in_ok-text.ensures

pub loop-i-preserved : goal.loop-i-preserved
loop-i-preserved c =
    one_more c.args.bytes.now c.args.at c.loop-i.i c.in_ok-c.from c.in_ok-end.end c.in_ok-c.c c.loop-i.text c.push_char.new.self c.append.new.self c.loop-i.invariant c.in_ok-c.ensures c.in_ok-end.ensures c.in_ok-push_char.ensures c.in_ok-append.ensures

pub into_text-requires : goal.into_text-requires
into_text-requires c = text_utf8 c.args.bytes.now c.args.at c.loop-i.i c.loop-i.text _ (text_closed c.args.bytes.now c.args.at c.loop-i.i c.loop-i.text c.loop-i.invariant c.loop-i-test.false)

pub returns : goal.returns
returns c =
    text_read c.args.bytes.now c.args.at c.loop-i.i c.loop-i.text c.in_ok-whole.whole c.loop-i.invariant.after c.loop-i.invariant.within (text_closed c.args.bytes.now c.args.at c.loop-i.i c.loop-i.text c.loop-i.invariant c.loop-i-test.false) c.in_ok-whole.ensures
