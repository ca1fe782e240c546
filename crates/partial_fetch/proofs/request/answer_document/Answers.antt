use Rattle.std.proofs.Common.{◌≡◌, sym}
use Rattle.answer_text.specs.declared.refusal.Refusal.TheVariants as refusal
use Rattle.partial_fetch.proofs.Accepted.{no_plan}
use Rattle.partial_fetch.proofs.Ending.{refused_so}
use Rattle.partial_fetch.proofs.request.answer_document.Goals as goal

pub returns-clause-ok : goal.returns-clause-ok
returns-clause-ok g c =
    refused_so c.args.site.now c.args.request.now (g.C.Cache.seen c.args.cache.now) (g.L.Line.line c.args.line.now) (g.T.Clock.log c.args.clock.now) refusal.OperationUnknown c.refuse.result
    (no_plan c.args.site.now c.args.request.now c.args.document.now c.in_ok-text.text c.requires.read c.in_ok-text.ensures.text (sym c.in-None.ensures)) c.refuse.ensures
