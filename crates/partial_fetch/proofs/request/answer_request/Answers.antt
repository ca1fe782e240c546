use Rattle.partial_fetch.proofs.Accepted.{unread_document}
use Rattle.partial_fetch.proofs.Ending.{refused_so}
use Rattle.partial_fetch.proofs.request.answer_request.Goals as goal

pub returns-in_ok-unread-in-Err-clause-ok : goal.returns-in_ok-unread-in-Err-clause-ok
returns-in_ok-unread-in-Err-clause-ok g c =
    refused_so c.args.site.now c.args.request.now (g.C.Cache.seen c.args.cache.now) (g.L.Line.line c.args.line.now) (g.T.Clock.log c.args.clock.now) c.in_ok-unread-in-Err.field-0 c.refuse.result
    (unread_document c.args.site.now c.args.request.now c.in-Err.fault c.in_ok-unread-in-Err.field-0 c.in_ok-unread-in-Err.ensures.memory c.in-Err.ensures.refused c.in-Err.ensures.fault c.in_ok-unread-in-Err.ensures.why) c.refuse.ensures
