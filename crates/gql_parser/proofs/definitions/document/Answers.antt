use Rattle.std.proofs.Common.{ap, ◌∙◌}
use Rattle.gql_terms.specs.declared.documents.Document.{Document}
use Rattle.gql_parser.specs.Reads.{withs}
use Rattle.std.proofs.lemmas.Result.{err_from_is_err_and}
use Rattle.gql_terms.specs.Grammar.{strict}
use Rattle.gql_parser.proofs.Adding.{document_read, document_stops_first, document_stops_later}
use Rattle.gql_parser.proofs.definitions.document.Goals as goal

pub returns : goal.returns
returns c = document_read strict _ _ _ _ _ _ _ _ c.new.ensures c.new-2.ensures c.in_ok-definition.ensures.1 c.in_ok-more_definitions.ensures.1 (c.in_ok-more_definitions.ensures.2 ∙ ap (λ (q : Document). withs q c.in_ok-more_definitions.ensures.0) c.in_ok-definition.ensures.2)

pub returns-in_err-definition : goal.returns-in_err-definition
returns-in_err-definition c =
    let p = err_from_is_err_and c.from_residual.result c.from_residual.ensures.1 in
    rw (p.1, p.2) (document_stops_first strict _ _ _ _ _ c.in_err-definition.ensures)

pub returns-in_err-more_definitions : goal.returns-in_err-more_definitions
returns-in_err-more_definitions c =
    let p = err_from_is_err_and c.from_residual-in_err-more_definitions.result c.from_residual-in_err-more_definitions.ensures.1 in
    rw (p.1, p.2) (document_stops_later strict _ _ _ _ _ _ _ c.in_ok-definition.ensures.1 c.in_err-more_definitions.ensures)
