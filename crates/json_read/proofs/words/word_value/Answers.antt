use Rattle.std.proofs.Common.{List, ℕ, sym, ap, arith, ◌∙◌, length}
use Rattle.std.specs.Prelude.{slice_index}
use Rattle.json_read.proofs.Tokens.{word_ended, word_bad, word_more}
use Rattle.json_read.proofs.words.word_value.Goals as goal

pub returns-then-i-bytes : goal.returns-then-i-bytes
returns-then-i-bytes c = word_ended c.args.bytes.now c.args.at c.loop-read.i c.args.word c.loop-read.read c.if-i-bytes.true (omega (arith, ap length c.letters-letters.ensures)) c.loop-read.invariant.2

pub returns-then-bytes-i : goal.returns-then-bytes-i
returns-then-bytes-i c =
    word_bad c.args.bytes.now c.args.at c.loop-read.i c.args.word c.loop-read.read (omega arith) (omega (arith, ap length c.letters-letters.ensures)) (λ same. c.if-bytes-i.true (same ∙ ap (λ (l : List ℕ). slice_index l c.loop-read.read) (sym c.letters-letters.ensures)))
    c.loop-read.invariant.2

pub loop-read-preserved : goal.loop-read-preserved
loop-read-preserved c = (
  omega (arith, c.loop-read.invariant.0),
  omega arith,
  word_more c.args.bytes.now c.args.at c.loop-read.i c.args.word c.loop-read.read (omega arith) (omega (arith, ap length c.letters-letters.ensures))
      (c.if-bytes-i.false ∙ ap (λ (l : List ℕ). slice_index l c.loop-read.read) c.letters-letters.ensures) c.loop-read.invariant.2,
)
