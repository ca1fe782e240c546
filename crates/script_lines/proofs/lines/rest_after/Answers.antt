use Rattle.std.proofs.Common.{◌≡◌, ◌∷◌, ◌+◌, ◌<◌, ℕ, List, [], length, arith, rules, drop, ap, length-drop}
use Rattle.std.proofs.lemmas.Bool.{false≢true}
use Rattle.script_lines.specs.Script.{words}
use Rattle.script_lines.proofs.Pieces.{words_some, last_left, more_left}
use Rattle.script_lines.proofs.lines.rest_after.Goals as goal

pub returns-in_err-rest-clause-found : goal.returns-in_err-rest-clause-found
returns-in_err-rest-clause-found c =
    let ws : List (List ℕ) = words c.args.line.now in
    let only : words c.loop-passed.rest.now ≡ c.first_piece.result.0.now ∷ [] = rw c.in_err-rest.was at c.first_piece.ensures.pieces in
    let n : length ws ≡ c.loop-passed._passed + 1 = last_left ws (words c.loop-passed.rest.now) c.loop-passed._passed c.first_piece.result.0.now c.loop-passed.invariant.1 only in
    let t : c.loop-passed._passed < c.args.count = c.loop-passed-test.true in
    (λ s. absurd (false≢true (rw c.from_residual.ensures at s)), λ h. absurd (omega (arith, n, h, t)))

pub loop-passed-preserved : goal.loop-passed-preserved
loop-passed-preserved c =
    let ws : List (List ℕ) = words c.args.line.now in
    let more : words c.loop-passed.rest.now ≡ c.first_piece.result.0.now ∷ words c.in_ok-rest.rest.now = rw c.in_ok-rest.was at c.first_piece.ensures.pieces in
    (search rules, more_left ws (words c.loop-passed.rest.now) (words c.in_ok-rest.rest.now) c.loop-passed._passed c.first_piece.result.0.now c.loop-passed.invariant.1 more)

pub returns-clause-found : goal.returns-clause-found
returns-clause-found c =
    let ws : List (List ℕ) = words c.args.line.now in
    let some : 0 < length (words c.loop-passed.rest.now) = words_some c.loop-passed.rest.now in
    let left : length (words c.loop-passed.rest.now) ≡ length (drop c.loop-passed._passed ws) = ap length c.loop-passed.invariant.1 in
    (λ t. omega (arith, some, left, length-drop c.loop-passed._passed ws), λ h. search rules)
