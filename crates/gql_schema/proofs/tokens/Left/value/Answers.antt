use Rattle.std.proofs.Common.{true}
use Rattle.gql_terms.specs.Grammar as document
use Rattle.gql_terms.specs.Grammar.{strict}
use Rattle.gql_parser.specs.Reading as documents
use Rattle.token_read.proofs.Productions.{never}
use Rattle.gql_parser.proofs.ValuesExact.{value_exact}
use Rattle.gql_schema.proofs.Over.{reads_ok, reads_err, left_ok, left_err}
use Rattle.gql_schema.proofs.tokens.Left.value.Goals as goal

pub keep-requires : goal.keep-requires
keep-requires c = left_err (documents.value true strict.values) c.args.self.now c.self.inside.rest.now c.new-tokens.result c.self.view_is c.new-tokens.ensures (never) (document.IsValue true strict.values) (value_exact true strict.values) c.in-Err-Refused.why c.value.new.tokens c.len.result (rw c.in-Err-Refused.field-0-is at c.in-Err-Refused.ensures) c.len.ensures

pub keep-requires-in-Ok : goal.keep-requires-in-Ok
keep-requires-in-Ok c = left_ok (documents.value true strict.values) c.args.self.now c.self.inside.rest.now c.new-tokens.result c.self.view_is c.new-tokens.ensures (never) (document.IsValue true strict.values) (value_exact true strict.values) c.in-Ok.value c.value.new.tokens c.len-in-Ok.result c.in-Ok.ensures c.len-in-Ok.ensures

pub returns-in-Err-Refused : goal.returns-in-Err-Refused
returns-in-Err-Refused c = reads_err (documents.value true strict.values) c.args.self.now c.self.inside.rest.now c.new-tokens.result c.self.view_is c.new-tokens.ensures c.in-Err-Refused.why c.value.new.tokens c.len.result c.keep.new.self (rw c.in-Err-Refused.field-0-is at c.in-Err-Refused.ensures) c.len.ensures c.keep.ensures

pub returns-in-Ok : goal.returns-in-Ok
returns-in-Ok c = reads_ok (documents.value true strict.values) c.args.self.now c.self.inside.rest.now c.new-tokens.result c.self.view_is c.new-tokens.ensures c.in-Ok.value c.value.new.tokens c.len-in-Ok.result c.keep-in-Ok.new.self c.in-Ok.ensures c.len-in-Ok.ensures c.keep-in-Ok.ensures
