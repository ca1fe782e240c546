use Rattle.std.proofs.Common.{◌≤◌, List, [], drop, length, refl, sym, subst, arith}
use Rattle.std.specs.Prelude.{Result}
use Rattle.std.proofs.Math.ListN.{drop_of_length-le}
use Rattle.std.proofs.lemmas.List.{append-nil}
use Rattle.cache_terms.specs.declared.events.Reply.{Reply}
use Rattle.line_base.specs.declared.line.LineFault.{LineFault}
use Rattle.line_base.specs.declared.lane.Work.{Work}
use Rattle.line_base.specs.Lanes.{AreFetched}
use Rattle.line_base.proofs.lane.fetch_all.Goals as goal

pub returns-clause-fetched : goal.returns-clause-fetched
returns-clause-fetched g c =
    let line = g.L.Line.line in
    let works = c.args.works.now in
    let past : length works ≤ c.fetching.work-index = omega (arith, c.fetching-test.false) in
    let rest : AreFetched (line c.fetching.line) (drop c.fetching.work-index works) [] (line c.fetching.line) = subst (λ (ws : List Work). AreFetched (line c.fetching.line) ws [] (line c.fetching.line)) (sym (drop_of_length-le works past)) refl in
    subst (λ (xs : List (Result Reply LineFault)). AreFetched (line c.args.line.now) works xs (line c.fetching.line)) (append-nil c.fetching.answers.items) (c.fetching.invariant.done (line c.fetching.line) [] rest)
