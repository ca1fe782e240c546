use Rattle.std.proofs.Common.{sym, ◌∙◌}
use Rattle.std.proofs.lemmas.Result.{err_from_is_err_and}
use Rattle.gql_schema.specs.Grammar.{rooted_by}
use Rattle.gql_schema.specs.Reading.{begins_definition, definition}
use Rattle.gql_schema.proofs.Loops.{link_exits, link_read, links_end, no_links_left}
use Rattle.gql_schema.proofs.definitions.more_definitions.Goals as goal

pub returns-in_err-part : goal.returns-in_err-part
returns-in_err-part c =
    let p = err_from_is_err_and c.from_residual.result c.from_residual.ensures.1 in
    rw (p.1, p.2) (link_exits rooted_by begins_definition definition _ _ _ _ _ _ _ _ c.loop-test.true (sym c.sees.ensures ∙ c.if-not-sees.false) c.in_err-part.ensures c.loop.invariant)

pub loop-preserved : goal.loop-preserved
loop-preserved c = rw c.in_ok-push.ensures.ok
    (link_read rooted_by begins_definition definition _ _ _ _ _ _ _ _ _ c.loop-test.true (sym c.sees.ensures ∙ c.if-not-sees.false) c.in_ok-part.ensures c.rooted_by-rooted.ensures c.loop.invariant)

pub returns-then-not-sees : goal.returns-then-not-sees
returns-then-not-sees c = links_end rooted_by begins_definition definition c.loop.found c.len-end.result c.loop.counter c.loop.rooted c.loop.left _ (sym c.sees.ensures ∙ c.if-not-sees.true) c.loop.invariant

pub returns : goal.returns
returns c = no_links_left rooted_by begins_definition definition c.loop.found c.len-end.result c.loop.counter c.loop.rooted c.loop.left _ c.loop-test.false c.loop.invariant
