use Rattle.std.proofs.Common.{◌∙◌, ap}
use Rattle.http_wire.proofs.Lists.{close_here, close_later, close_never}
use Rattle.http_wire.specs.Heads.{lists_close}
use Rattle.http_wire.proofs.close.lists_close.Goals as goal

pub returns-then-is_close : goal.returns-then-is_close
returns-then-is_close c =
    close_here c.loop-rest.rest.now c.comma_at-end.result c.comma_at-end.ensures.found c.comma_at-end.ensures.none c.if-is_close.ensures ∙ c.loop-rest.invariant

pub returns-then-end-rest : goal.returns-then-end-rest
returns-then-end-rest c =
    close_never c.loop-rest.rest.now c.comma_at-end.result c.if-end-rest.true c.comma_at-end.ensures.none c.if-is_close.ensures ∙ c.loop-rest.invariant

pub loop-rest-preserved : goal.loop-rest-preserved
loop-rest-preserved c =
    ap lists_close c.past-rest.ensures ∙ close_later c.loop-rest.rest.now c.comma_at-end.result c.if-end-rest.false c.comma_at-end.ensures.found c.comma_at-end.ensures.none c.if-is_close.ensures ∙ c.loop-rest.invariant
