use Rattle.std.proofs.Common.{◌≡◌, ◌+◌, ◌<◌, ◌≤◌, ◌∷◌, [], List, ℕ, Option, Bor, length, arith, rules, ap, ◌∙◌, subst}
use Rattle.std.specs.Option.{option_copied}
use Rattle.std.proofs.KnownBytes.{Appends-trans}
use Rattle.script_lines.specs.Script.{lines, lines_after}
use Rattle.rehearsal.specs.Outside.{output}
use Rattle.rehearsal.proofs.Playing.{Continues, continues_more, continues_whole, line_ended}
use Rattle.rehearsal.proofs.play.play.Goals as goal

pub returns-in-Some-clause-ends : goal.returns-in-Some-clause-ends
returns-in-Some-clause-ends g c =
    let all = lines c.args.script.now in
    let inv = c.loop-ending.invariant in
    let goes = subst (λ (ls : List (List ℕ)). Continues 1 c.args.stage.now all inv.1.0 c.loop-ending.number c.loop-ending.stage ls) c.first_line.ensures.lines inv.1.2 in
    line_ended c.args.stage.now all inv.1.0 c.loop-ending.number c.loop-ending.stage c.first_line.result.0.now (lines_after (option_copied c.first_line.result.1)) c.play_line.new.stage
    (output (g.K.Sink.written c.args.sink.now) (g.K.Sink.faults c.args.sink.now)) (output (g.K.Sink.written c.loop-ending.sink) (g.K.Sink.faults c.loop-ending.sink))
    (output (g.K.Sink.written c.play_line.new.sink) (g.K.Sink.faults c.play_line.new.sink)) c.in-Some.ending goes inv.1.1 inv.2 c.in-Some.ensures.plays

pub returns-in_default-after-clause-ends : goal.returns-in_default-after-clause-ends
returns-in_default-after-clause-ends g c =
    let all = lines c.args.script.now in
    let inv = c.loop-ending.invariant in
    let t = c.in_default.ensures.plays in
    let line = c.first_line.result.0.now in
    let e : lines c.loop-ending.rest.now ≡ line ∷ [] = c.first_line.ensures.lines ∙ ap (λ (o : Option (Bor (List ℕ))). line ∷ lines_after (option_copied o)) c.in_default-after.is in
    let goes = subst (λ (ls : List (List ℕ)). Continues 1 c.args.stage.now all inv.1.0 c.loop-ending.number c.loop-ending.stage ls) e inv.1.2 in
    (_, continues_whole 1 c.args.stage.now all _ (c.loop-ending.number + 1) c.play_line.new.stage (continues_more 1 c.args.stage.now all inv.1.0 c.loop-ending.number c.loop-ending.stage line [] t.0 c.play_line.new.stage goes t.1), Appends-trans _ _ _ _ _ inv.1.1 t.2)

pub loop-ending-preserved : goal.loop-ending-preserved
loop-ending-preserved g c =
    let all = lines c.args.script.now in
    let inv = c.loop-ending.invariant in
    let t = c.in_default.ensures.plays in
    let line = c.first_line.result.0.now in
    let more = c.in-Some-after.more.now in
    let e : lines c.loop-ending.rest.now ≡ line ∷ lines more = c.first_line.ensures.lines ∙ ap (λ (o : Option (Bor (List ℕ))). line ∷ lines_after (option_copied o)) c.in-Some-after.is in
    let goes = subst (λ (ls : List (List ℕ)). Continues 1 c.args.stage.now all inv.1.0 c.loop-ending.number c.loop-ending.stage ls) e inv.1.2 in
    let shorter : length more < length c.loop-ending.rest.now = rw c.in-Some-after.is at c.first_line.ensures.shorter in
    let counted : c.loop-ending.number + length c.loop-ending.rest.now ≤ length c.args.script.now + 1 = inv.3 in (
      search rules,
      (_, Appends-trans _ _ _ _ _ inv.1.1 t.2, continues_more 1 c.args.stage.now all inv.1.0 c.loop-ending.number c.loop-ending.stage line (lines more) t.0 c.play_line.new.stage goes t.1),
      omega (arith, inv.2, c.in_default.ensures.later),
      omega arith,
    )
