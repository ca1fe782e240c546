use Rattle.std.proofs.Common.{◌≡◌, List, ap, sym, ◌∙◌, subst}
use Rattle.std.specs.Option.{option_copied}
use Rattle.plan_run.specs.declared.subgraphs.Subgraph.{Subgraph}
use Rattle.plan_run.specs.Subgraphs.{AreFrom}
use Rattle.partial_fetch.specs.Answering.{subgraphs_of}
use Rattle.partial_fetch.proofs.Ending.{answered_so, unanswered_so, dropped_so}
use Rattle.partial_fetch.proofs.Entries.{one_operation, known_subgraphs}
use Rattle.partial_fetch.proofs.request.answer_plan.Goals as goal

pub execute-requires-clause-lawful : goal.execute-requires-clause-lawful
execute-requires-clause-lawful g c = (one_operation c.args.site.now c.args.request.now c.args.entry.now c.requires.lawful c.requires.accepted.has.plan).plan

pub execute-requires-clause-known : goal.execute-requires-clause-known
execute-requires-clause-known g c =
    subst (λ (subgraphs : List Subgraph). AreFrom subgraphs c.args.entry.now.plan.fetches) (sym (c.as_slice-2.ensures.value ∙ c.in_ok-subgraphs.ensures ∙ ap subgraphs_of c.as_slice.ensures))
    (known_subgraphs c.args.site.now c.args.request.now c.args.entry.now c.requires.lawful c.requires.accepted.has.plan)

pub returns-in-Ok-clause-ok : goal.returns-in-Ok-clause-ok
returns-in-Ok-clause-ok g c =
    answered_so c.args.site.now c.args.request.now c.args.entry.now c.args.variables.now c.requires.accepted c.as_slice-2.result.now (option_copied c.as_ref-id.result) (c.as_slice-2.ensures.value ∙ c.in_ok-subgraphs.ensures ∙ ap subgraphs_of c.as_slice.ensures) c.as_ref-id.ensures.value
    (g.C.Cache.seen c.args.cache.now) (g.C.Cache.seen c.execute.new.cache) (g.L.Line.line c.args.line.now) (g.L.Line.line c.execute.new.line) (g.T.Clock.log c.args.clock.now) (g.T.Clock.log c.execute.new.clock)
    c.in-Ok.value c.in-Ok.outcome c.write_answer.result c.in-Ok.ensures.ok c.write_answer.ensures

pub returns-in-Ok-clause-err : goal.returns-in-Ok-clause-err
returns-in-Ok-clause-err g c =
    unanswered_so c.args.site.now c.args.request.now c.args.entry.now c.args.variables.now c.requires.accepted c.as_slice-2.result.now (option_copied c.as_ref-id.result) (c.as_slice-2.ensures.value ∙ c.in_ok-subgraphs.ensures ∙ ap subgraphs_of c.as_slice.ensures) c.as_ref-id.ensures.value
    (g.C.Cache.seen c.args.cache.now) (g.C.Cache.seen c.execute.new.cache) (g.L.Line.line c.args.line.now) (g.L.Line.line c.execute.new.line) (g.T.Clock.log c.args.clock.now) (g.T.Clock.log c.execute.new.clock)
    c.in-Ok.value c.in-Ok.outcome c.write_answer.result c.in-Ok.ensures.ok

pub returns-clause-err : goal.returns-clause-err
returns-clause-err g c =
    dropped_so c.args.site.now c.args.request.now c.args.entry.now c.args.variables.now c.requires.accepted c.as_slice-2.result.now (option_copied c.as_ref-id.result) (c.as_slice-2.ensures.value ∙ c.in_ok-subgraphs.ensures ∙ ap subgraphs_of c.as_slice.ensures) c.as_ref-id.ensures.value
    (g.C.Cache.seen c.args.cache.now) (g.C.Cache.seen c.execute.new.cache) (g.L.Line.line c.args.line.now) (g.L.Line.line c.execute.new.line) (g.T.Clock.log c.args.clock.now) (g.T.Clock.log c.execute.new.clock)
    c.in-Err.ensures.err
