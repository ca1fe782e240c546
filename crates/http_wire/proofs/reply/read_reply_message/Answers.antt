use Rattle.std.proofs.Common.{ℕ, List, Option, inl, take, subst, sym}
use Rattle.std.specs.Prelude.{Ok, Err}
use Rattle.http_wire.specs.declared.head.HeadFault.{HeadFault}
use Rattle.http_wire.specs.Framings.{OpensReply, OpensReplyOr}
use Rattle.http_wire.specs.Replies.{BeginsReply}
use Rattle.http_wire.specs.Taking.{Gathers}
use Rattle.http_wire.proofs.ReplyFacts.{all_came, no_body_came, reply_came}
use Rattle.http_wire.proofs.reply.read_reply_message.Goals as goal

pub returns-in-Err-Bad-clause-reads : goal.returns-in-Err-Bad-clause-reads
returns-in-Err-Bad-clause-reads g c =
    let count = c.in-Ok-Some.count in
    let found = subst (λ (r : Option ℕ). Gathers c.empty-kept.result c.gather_head.new.kept (g.S.Source.left c.args.source.now) (g.S.Source.left c.gather_head.new.source) (g.S.Source.faults c.args.source.now) (g.S.Source.faults c.gather_head.new.source) (Ok r)) c.in-Ok-Some.field-0-is c.in-Ok-Some.ensures.gathers in
    let never = subst (λ (f : HeadFault). OpensReplyOr (take count c.as_slice.result.now) (Err f)) c.in-Err-Bad.field-0-is c.in-Err-Bad.ensures.opens in (
      c.gather_head.new.kept,
      all_came _ _ _ _ c.empty-kept.ensures found.0,
      inl (found.2, found.1, λ h opens. never h (subst (λ (bytes : List ℕ). OpensReply (take count bytes) h) (sym c.as_slice.ensures) opens)),
    )

pub returns-in-Err-read_body-clause-reads : goal.returns-in-Err-read_body-clause-reads
returns-in-Err-read_body-clause-reads g c =
    let count = c.in-Ok-Some.count in
    let found = subst (λ (r : Option ℕ). Gathers c.empty-kept.result c.gather_head.new.kept (g.S.Source.left c.args.source.now) (g.S.Source.left c.gather_head.new.source) (g.S.Source.faults c.args.source.now) (g.S.Source.faults c.gather_head.new.source) (Ok r)) c.in-Ok-Some.field-0-is c.in-Ok-Some.ensures.gathers in
    let opens = subst (λ (bytes : List ℕ). OpensReply (take count bytes) c.in-Ok.head) c.as_slice.ensures c.in-Ok.ensures.opens in
    let begins : BeginsReply c.gather_head.new.kept count c.in-Ok.head = record { head = found.2; short = found.1; opens = opens } in
    no_body_came c.in-Err-read_body.fault count c.in-Ok.head _ c.gather_head.new.kept _ _ (g.S.Source.left c.gather_head.new.source) _ _ (g.S.Source.faults c.gather_head.new.source) _ c.in-Ok-Some.ensures.later c.empty-kept.ensures found.0 begins c.in-Err-read_body.ensures.body

pub returns-clause-reads : goal.returns-clause-reads
returns-clause-reads g c =
    let count = c.in-Ok-Some.count in
    let found = subst (λ (r : Option ℕ). Gathers c.empty-kept.result c.gather_head.new.kept (g.S.Source.left c.args.source.now) (g.S.Source.left c.gather_head.new.source) (g.S.Source.faults c.args.source.now) (g.S.Source.faults c.gather_head.new.source) (Ok r)) c.in-Ok-Some.field-0-is c.in-Ok-Some.ensures.gathers in
    let opens = subst (λ (bytes : List ℕ). OpensReply (take count bytes) c.in-Ok.head) c.as_slice.ensures c.in-Ok.ensures.opens in
    let begins : BeginsReply c.gather_head.new.kept count c.in-Ok.head = record { head = found.2; short = found.1; opens = opens } in
    reply_came count c.in-Ok.head c.with_body.result c.in-Ok-read_body.body _ c.gather_head.new.kept _ _ (g.S.Source.left c.gather_head.new.source) _ c.empty-kept.ensures found.0 begins c.with_body.ensures.head c.with_body.ensures.body c.in-Ok-read_body.ensures.body.0 c.in-Ok-read_body.ensures.body.1
