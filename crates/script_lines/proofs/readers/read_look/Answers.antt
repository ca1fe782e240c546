use Rattle.script_lines.specs.Script.{words}
use Rattle.script_lines.proofs.Forms.{no_look}
use Rattle.script_lines.proofs.readers.read_look.Goals as goal

pub returns-in_default-2 : goal.returns-in_default-2
returns-in_default-2 c = no_look (words c.args.line.now) c.requires.verb_is (λ who id now key h. (rw c.in_default-2.is at c.in_ok-key.ensures) key h.key_is)
