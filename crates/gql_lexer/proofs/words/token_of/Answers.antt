use Rattle.std.proofs.Common.{subst}
use Rattle.gql_tokens.specs.declared.scanner.Class.{Class}
use Rattle.gql_tokens.specs.Lexical.{IsLexeme}
use Rattle.gql_lexer.proofs.Bounds.{string_quoted, block_quoted}
use Rattle.gql_lexer.proofs.words.token_of.Goals as goal

pub between-requires : goal.between-requires
between-requires c = string_quoted c.args.text.now c.utf8.text (subst (λ (q : Class). IsLexeme q c.args.text.now) c.in-Str.is c.requires)

pub between-requires-in-Block : goal.between-requires-in-Block
between-requires-in-Block c = block_quoted c.args.text.now c.utf8.text (subst (λ (q : Class). IsLexeme q c.args.text.now) c.in-Block.is c.requires)
