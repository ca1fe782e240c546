use Rattle.std.proofs.Common.{ℕ, List, Option, sym, subst}
use Rattle.std.specs.Option.{option_copied}
use Rattle.std.specs.Prelude.{Ok}
use Rattle.std.proofs.lemmas.Result.{IfOk-weaker}
use Rattle.cache_control.specs.Rules.{IsVerdict}
use Rattle.piece_fetch.specs.declared.came.Coming.{Coming}
use Rattle.piece_fetch.specs.Coming.{ComesOf}
use Rattle.piece_fetch.proofs.Replying.{read_comes, refused_comes}
use Rattle.piece_fetch.proofs.calls.read_coming.Goals as goal

pub returns-in-Ok : goal.returns-in-Ok
returns-in-Ok c =
    let reply = c.args.reply.now in
    let v = c.verdict.result in
    let judged : IsVerdict reply.cache_control reply.age v =
    subst (λ (o : Option (List ℕ)). IsVerdict o reply.age v) c.as_ref.ensures.value (subst (λ (o : Option (List ℕ)). IsVerdict (option_copied c.as_ref.result) o v) c.as_ref-in-Ok.ensures.value c.verdict.ensures.verdict) in
    read_comes reply c.args.sent.now c.in-Ok.pieces v (record { status = c.in-Ok.ensures.status; body = c.in-Ok.ensures.body }) judged

pub returns-in-Err : goal.returns-in-Err
returns-in-Err c =
    let reply = c.args.reply.now in
    let s = c.args.sent.now in
    let f = c.in-Err.fault in
    IfOk-weaker c.refused.result _ (λ (coming : Coming). ComesOf s (Ok reply) coming) (λ coming h. subst (ComesOf s (Ok reply)) (sym h.0) (refused_comes reply s f (record { status = c.in-Err.ensures.status; body = c.in-Err.ensures.body }) h.1)) c.refused.ensures
