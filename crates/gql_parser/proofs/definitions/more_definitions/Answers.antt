use Rattle.std.proofs.Common.{sym, ap, ◌∙◌, refl, [], ◌∷◌, ◌++◌}
use Rattle.std.proofs.lemmas.Result.{err_from_is_err_and}
use Rattle.gql_terms.specs.declared.documents.Document.{Document}
use Rattle.gql_terms.specs.Grammar.{strict}
use Rattle.gql_parser.specs.Reading.{begins_definition, definition}
use Rattle.gql_parser.specs.Reads.{with_definition}
use Rattle.gql_parser.proofs.Loops.{item_read, items_end, no_turns_left}
use Rattle.gql_parser.proofs.Adding.{withs_last, loop_begins, exits_all}
use Rattle.gql_parser.proofs.definitions.more_definitions.Goals as goal

pub loop-init : goal.loop-init
loop-init c = ([], refl, loop_begins _ _ (definition strict) c.len-end.ensures)

pub loop-preserved : goal.loop-preserved
loop-preserved c =
    let i = c.loop.invariant in
    let d = c.in_ok-definition.ensures in (
      i.0 ++ (d.0 ∷ []),
      d.2 ∙ ap (λ (q : Document). with_definition q d.0) i.1 ∙ sym (withs_last _ i.0 d.0),
      item_read begins_definition (definition strict) _ _ _ _ _ _ _ c.loop-test.true (sym c.sees.ensures ∙ c.if-not-sees.false) d.1 i.2,
    )

pub returns-in_err-definition : goal.returns-in_err-definition
returns-in_err-definition c =
    let p = err_from_is_err_and c.from_residual.result c.from_residual.ensures.1 in
    rw (p.1, p.2) (exits_all (definition strict) _ _ _ _ _ _ _ _ _ _ _ c.loop-test.true (sym c.sees.ensures ∙ c.if-not-sees.false) c.in_err-definition.ensures c.loop.invariant.2)

pub returns-then-not-sees : goal.returns-then-not-sees
returns-then-not-sees c = (c.loop.invariant.0, items_end begins_definition (definition strict) _ _ _ _ _ (sym c.sees.ensures ∙ c.if-not-sees.true) c.loop.invariant.2, c.loop.invariant.1)

pub returns : goal.returns
returns c = (c.loop.invariant.0, no_turns_left begins_definition (definition strict) _ _ _ _ _ c.loop-test.false c.loop.invariant.2, c.loop.invariant.1)
