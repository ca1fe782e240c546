use Rattle.std.proofs.Common.{IfSome, subst}
use Rattle.gql_tokens.specs.Lexical.{Lexes}
use Rattle.gql_terms.specs.Grammar.{strict}
use Rattle.gql_parser.specs.Reading.{all}
use Rattle.gql_parser.proofs.Explained.{text_is}
use Rattle.gql_syntax.specs.Readings.{IsReading}
use Rattle.gql_syntax.proofs.parsing.document_of.Goals as goal

pub returns-in-Read : goal.returns-in-Read
returns-in-Read c =
    let lexes = subst (λ found. IfSome found (λ tokens. Lexes tokens.items c.args.source.now)) c.in-Ok-Some.field-0-is c.in-Ok-Some.ensures in
    let r = subst (IsReading (all strict c.in-Ok-Some.tokens.items)) c.in-Read.is c.read.ensures in
    text_is c.args.source.now c.in-Ok-Some.tokens.items lexes c.in-Read.document r.0 r.1
