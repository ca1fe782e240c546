use Rattle.gql_terms.specs.Grammar as document
use Rattle.gql_terms.specs.Grammar.{strict}
use Rattle.gql_parser.specs.Reading as documents
use Rattle.gql_tokens.specs.declared.kinds.Kind.TheVariants as k
use Rattle.gql_parser.proofs.DocumentsExact.{type_exact}
use Rattle.gql_schema.specs.Reading.{type_ref}
use Rattle.gql_schema.proofs.Over.{reads_ok, reads_err, left_ok, left_err}
use Rattle.gql_schema.proofs.tokens.Left.type_ref.Goals as goal

pub keep-requires : goal.keep-requires
keep-requires c = left_err (documents.type_ref strict.types) c.args.self.now c.self.inside.rest.now c.new-tokens.result c.self.view_is c.new-tokens.ensures (document.is k.Bang) (document.IsType strict.types) (type_exact strict.types) c.in-Err-Refused.why c.type_ref.new.tokens c.len.result (rw c.in-Err-Refused.field-0-is at c.in-Err-Refused.ensures) c.len.ensures

pub keep-requires-in-Ok : goal.keep-requires-in-Ok
keep-requires-in-Ok c = left_ok (documents.type_ref strict.types) c.args.self.now c.self.inside.rest.now c.new-tokens.result c.self.view_is c.new-tokens.ensures (document.is k.Bang) (document.IsType strict.types) (type_exact strict.types) c.in-Ok.of c.type_ref.new.tokens c.len-in-Ok.result c.in-Ok.ensures c.len-in-Ok.ensures

pub returns-in-Err-Refused : goal.returns-in-Err-Refused
unfolding type_ref
returns-in-Err-Refused c = reads_err (documents.type_ref strict.types) c.args.self.now c.self.inside.rest.now c.new-tokens.result c.self.view_is c.new-tokens.ensures c.in-Err-Refused.why c.type_ref.new.tokens c.len.result c.keep.new.self (rw c.in-Err-Refused.field-0-is at c.in-Err-Refused.ensures) c.len.ensures c.keep.ensures

pub returns-in-Ok : goal.returns-in-Ok
unfolding type_ref
returns-in-Ok c = reads_ok (documents.type_ref strict.types) c.args.self.now c.self.inside.rest.now c.new-tokens.result c.self.view_is c.new-tokens.ensures c.in-Ok.of c.type_ref.new.tokens c.len-in-Ok.result c.keep-in-Ok.new.self c.in-Ok.ensures c.len-in-Ok.ensures c.keep-in-Ok.ensures
