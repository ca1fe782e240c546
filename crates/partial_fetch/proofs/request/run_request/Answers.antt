use Rattle.partial_fetch.specs.declared.answer.Answer.{Answer}
use Rattle.partial_fetch.specs.Answering.{Answers, RunsOut}
use Rattle.partial_fetch.specs.Causes.{HasCauses}
use Rattle.partial_fetch.specs.Headline.{KeepsPromise}
use Rattle.partial_fetch.proofs.Causing.{answer_caused}
use Rattle.partial_fetch.proofs.Ending.{all_ok, over_ok, over_err}
use Rattle.partial_fetch.proofs.request.run_request.Goals as goal

pub returns-clause-ok : goal.returns-clause-ok
returns-clause-ok g c =
    over_ok c.args.lines.now.items c.index_mut.result.now c.answer_request.new.line c.requires.some c.index_mut.ensures.value
    (λ l m a. Answers c.args.site.now c.args.request.now (g.C.Cache.seen c.args.cache.now) (g.C.Cache.seen c.answer_request.new.cache) (g.L.Line.line l) (g.L.Line.line m) (g.T.Clock.log c.args.clock.now) (g.T.Clock.log c.answer_request.new.clock) a)
    c.answer_request.result c.answer_request.ensures.ok

pub returns-clause-headline : goal.returns-clause-headline
returns-clause-headline g c =
    let old = g.C.Cache.seen c.args.cache.now in
    let new = g.C.Cache.seen c.answer_request.new.cache in
    let l = g.L.Line.line c.index_mut.result.now in
    let m = g.L.Line.line c.answer_request.new.line in
    let before = g.T.Clock.log c.args.clock.now in
    let after = g.T.Clock.log c.answer_request.new.clock in
    over_ok c.args.lines.now.items c.index_mut.result.now c.answer_request.new.line c.requires.some c.index_mut.ensures.value
    (λ x y a. KeepsPromise c.args.site.now c.args.request.now new (g.L.Line.line x) (g.L.Line.line y) a) c.answer_request.result
    (all_ok (λ (a : Answer). Answers c.args.site.now c.args.request.now old new l m before after a) (λ (a : Answer). KeepsPromise c.args.site.now c.args.request.now new l m a) c.answer_request.result
    (λ a h. c.each_piece_stands.ensures c.args.site.now c.args.request.now old new l m before after a h) c.answer_request.ensures.ok)

pub returns-clause-causes : goal.returns-clause-causes
returns-clause-causes g c =
    let old = g.C.Cache.seen c.args.cache.now in
    let new = g.C.Cache.seen c.answer_request.new.cache in
    let l = g.L.Line.line c.index_mut.result.now in
    let m = g.L.Line.line c.answer_request.new.line in
    let before = g.T.Clock.log c.args.clock.now in
    let after = g.T.Clock.log c.answer_request.new.clock in
    over_ok c.args.lines.now.items c.index_mut.result.now c.answer_request.new.line c.requires.some c.index_mut.ensures.value (λ x y a. HasCauses (g.L.Line.line x) (g.L.Line.line y) a) c.answer_request.result
    (all_ok (λ (a : Answer). Answers c.args.site.now c.args.request.now old new l m before after a) (λ (a : Answer). HasCauses l m a) c.answer_request.result
    (λ a h. answer_caused c.args.site.now c.args.request.now old new l m before after a h) c.answer_request.ensures.ok)

pub returns-clause-err : goal.returns-clause-err
returns-clause-err g c =
    over_err c.args.lines.now.items c.index_mut.result.now c.answer_request.new.line c.requires.some c.index_mut.ensures.value
    (λ l m. RunsOut c.args.site.now c.args.request.now (g.C.Cache.seen c.args.cache.now) (g.C.Cache.seen c.answer_request.new.cache) (g.L.Line.line l) (g.L.Line.line m) (g.T.Clock.log c.args.clock.now) (g.T.Clock.log c.answer_request.new.clock))
    c.answer_request.result c.answer_request.ensures.err
