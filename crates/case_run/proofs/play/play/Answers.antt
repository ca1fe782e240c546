use Rattle.std.proofs.Common.{◌≡◌, ℕ, ◌+◌, ◌≤◌, List, [], length, drop, arith, subst}
use Rattle.std.proofs.KnownBytes.{Appends-trans}
use Rattle.std.proofs.lemmas.List.{drop_all}
use Rattle.rehearsal.specs.Outside.{output}
use Rattle.case_file.specs.declared.content.Timed.{Timed}
use Rattle.case_run.specs.Playing.{case_state}
use Rattle.case_run.proofs.Going.{Continues, continues_more, continues_whole, request_ended, timed_here}
use Rattle.case_run.proofs.play.play.Goals as goal

pub returns-in-Some-clause-ends : goal.returns-in-Some-clause-ends
returns-in-Some-clause-ends g c =
    let inv = c.loop-timed.invariant in
    let s = case_state c.args.cache.now c.args.lines.now.items in
    let t = case_state c.loop-timed.cache c.loop-timed.lines.items in
    let next = case_state c.play_one.new.cache c.play_one.new.lines.items in
    let goes = subst (λ (ts : List Timed). Continues c.args.site.now s c.args.timeds.now inv.1.0 t ts) (timed_here c.args.timeds.now c.loop-timed.timed-index c.timed-item.result c.loop-timed-test.true c.timed-item.is) inv.1.2 in
    request_ended c.args.site.now s c.args.timeds.now inv.1.0 t c.timed-item.result (drop (c.loop-timed.timed-index + 1) c.args.timeds.now) next
    (output (g.K.Sink.written c.args.sink.now) (g.K.Sink.faults c.args.sink.now)) (output (g.K.Sink.written c.loop-timed.sink) (g.K.Sink.faults c.loop-timed.sink))
    (output (g.K.Sink.written c.play_one.new.sink) (g.K.Sink.faults c.play_one.new.sink)) c.in-Some.ending goes inv.1.1 inv.2 c.in-Some.ensures.plays

pub loop-timed-preserved : goal.loop-timed-preserved
loop-timed-preserved g c =
    let inv = c.loop-timed.invariant in
    let s = case_state c.args.cache.now c.args.lines.now.items in
    let t = case_state c.loop-timed.cache c.loop-timed.lines.items in
    let next = case_state c.play_one.new.cache c.play_one.new.lines.items in
    let rest = drop (c.loop-timed.timed-index + 1) c.args.timeds.now in
    let goes = subst (λ (ts : List Timed). Continues c.args.site.now s c.args.timeds.now inv.1.0 t ts) (timed_here c.args.timeds.now c.loop-timed.timed-index c.timed-item.result c.loop-timed-test.true c.timed-item.is) inv.1.2 in
    let p = c.in_default.ensures.plays in (
      c.play_one.ensures.one,
      (_, Appends-trans _ _ _ _ _ inv.1.1 p.2, continues_more c.args.site.now s c.args.timeds.now inv.1.0 t c.timed-item.result rest next p.0 goes p.1),
      omega (arith, inv.2, c.play_one.ensures.later),
    )

pub returns-clause-ends : goal.returns-clause-ends
returns-clause-ends g c =
    let inv = c.loop-timed.invariant in
    let s = case_state c.args.cache.now c.args.lines.now.items in
    let t = case_state c.loop-timed.cache c.loop-timed.lines.items in
    let past : length c.args.timeds.now ≤ c.loop-timed.timed-index = omega (arith, c.loop-timed-test.false) in
    let goes = subst (λ (ts : List Timed). Continues c.args.site.now s c.args.timeds.now inv.1.0 t ts) (drop_all c.loop-timed.timed-index c.args.timeds.now past) inv.1.2 in
    (_, continues_whole c.args.site.now s c.args.timeds.now inv.1.0 t goes, inv.1.1)
