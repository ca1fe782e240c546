use Rattle.std.proofs.Common.{◌≡◌, length, subst}
use Rattle.std.specs.Prelude.{Ok, Err}
use Rattle.std.specs.Option.{option_copied}
use Rattle.piece_fetch.specs.declared.came.Coming.{Coming}
use Rattle.reply_read.specs.declared.replies.Sent.{Sent}
use Rattle.piece_fetch.specs.Coming.{ComesOf, sent_of}
use Rattle.piece_fetch.specs.Between.{HasSent}
use Rattle.piece_fetch.proofs.Sending.{has_sent, if_ok_then}
use Rattle.piece_fetch.proofs.calls.send.Goals as goal

pub returns-clause-ok : goal.returns-clause-ok
returns-clause-ok g c =
    let ask = c.args.ask.now in
    let id = option_copied c.args.id in
    let permits = c.args.permits.now in
    let old = g.L.Line.line c.args.line.now in
    let new = g.L.Line.line c.fetch.new.self in
    if_ok_then (λ (coming : Coming). (sent : Sent) → ComesOf sent (Err c.in-Err.fault) coming) (λ (coming : Coming). HasSent ask id permits old new coming) c.lost.result c.lost.ensures
    (λ coming comes. has_sent ask id permits old new c.in_ok-call.call (Err c.in-Err.fault) coming c.requires.some c.in_ok-call.ensures c.in-Err.ensures (comes (sent_of ask (length permits))))

pub returns-in-Ok-clause-ok : goal.returns-in-Ok-clause-ok
returns-in-Ok-clause-ok g c =
    let ask = c.args.ask.now in
    let id = option_copied c.args.id in
    let permits = c.args.permits.now in
    let old = g.L.Line.line c.args.line.now in
    let new = g.L.Line.line c.fetch.new.self in
    let sent : c.sent_of.result ≡ sent_of ask (length permits) = c.sent_of.ensures in
    if_ok_then (λ (coming : Coming). ComesOf c.sent_of.result (Ok c.in-Ok.reply) coming) (λ (coming : Coming). HasSent ask id permits old new coming) c.read_coming.result c.read_coming.ensures
    (λ coming comes. has_sent ask id permits old new c.in_ok-call.call (Ok c.in-Ok.reply) coming c.requires.some c.in_ok-call.ensures c.in-Ok.ensures (subst (λ (s : Sent). ComesOf s (Ok c.in-Ok.reply) coming) sent comes))
