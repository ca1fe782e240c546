use Rattle.std.proofs.Common.{ap, sym, ◌∙◌, length}
use Rattle.std.specs.Option.{option_copied}
use Rattle.piece_fetch.proofs.Reporting.{sent_whole, sent_reports}
use Rattle.piece_fetch.proofs.Sending.{has_may_send}
use Rattle.piece_fetch.proofs.FetchParts.{any_err}
use Rattle.piece_fetch.proofs.prepare.prepare.Goals as goal

pub unpack-requires : goal.unpack-requires
unpack-requires g c =
    let s = c.in_ok-coming.ensures.ok in
    sent_whole c.args.ask.now (option_copied c.args.id) c.args.permits.now s.entries c.in_ok-coming.coming s.sends

pub gather-requires-clause-count : goal.gather-requires-clause-count
gather-requires-clause-count g c =
    let s = c.in_ok-coming.ensures.ok in
    c.requires.count ∙ sym ((sent_reports c.args.ask.now (option_copied c.args.id) c.is_named.result c.args.permits.now s.entries c.in_ok-coming.coming c.requires.one s.sends).1) ∙ sym (ap length c.in_ok-reports.ensures.brought_are)

pub returns-in_err-pieces-clause-err : goal.returns-in_err-pieces-clause-err
returns-in_err-pieces-clause-err g c =
    any_err c.from_residual-in_err-pieces.result _ (has_may_send c.args.ask.now (option_copied c.args.id) c.args.permits.now (g.L.Line.line c.args.line.now) (g.L.Line.line c.send_any.new.line) c.in_ok-coming.coming c.in_ok-coming.ensures.ok)
