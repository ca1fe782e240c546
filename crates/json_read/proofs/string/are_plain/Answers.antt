use Rattle.std.proofs.Common.{◌≡◌, true, false, sym, ◌∙◌}
use Rattle.json_machine.specs.Scan.{none}
use Rattle.json_read.proofs.Strings.{plain_more}
use Rattle.json_read.proofs.string.are_plain.Goals as goal
use Rattle.json_read.proofs.string.are_plain.Goals.{then-not-is_plain, else-not-is_plain}

pub loop-i-init : goal.loop-i-init
loop-i-init c = λ _. none

pub loop-i-preserved : goal.loop-i-preserved
loop-i-preserved c = elim c.if-not-is_plain.branch [
  | then-not-is_plain w ↦ λ is. absurd (never (sym w.plain-is ∙ is))
  | else-not-is_plain w ↦ λ is. plain_more c.args.bytes.now c.loop-i.i c.loop-i-test.true (sym c.is_plain.ensures ∙ w.if-not-is_plain.false) (c.loop-i.invariant (sym w.plain-is ∙ is))
]
  where
    never : false ≡ true → ⊥
    never h = cc
