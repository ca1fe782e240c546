use Rattle.std.proofs.Common.{sym, ◌∙◌}
use Rattle.gql_terms.specs.Grammar.{strict}
use Rattle.gql_parser.proofs.Adding.{all_over, all_more}
use Rattle.gql_parser.proofs.definitions.all.Goals as goal

pub returns : goal.returns
returns c = all_over strict _ _ _ c.in_ok-found.ensures (sym c.len.ensures ∙ c.if-len-ne0.false)

pub returns-then-len-ne0 : goal.returns-then-len-ne0
returns-then-len-ne0 c = all_more strict _ _ _ c.in_ok-found.ensures (λ e. c.if-len-ne0.true (c.len.ensures ∙ e))
