use Rattle.fedrouter.proofs.Given.{name_passed}
use Rattle.fedrouter.proofs.run.texts_after_name.Goals as goal

pub loop-word-init : goal.loop-word-init
loop-word-init c = rw c.new-words.ensures.items (name_passed c.args.args c.next-name.result c.next-name.new.self c.next-name.ensures.cases)
