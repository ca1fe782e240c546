use Rattle.std.proofs.Common.{sym, ◌∙◌, refl}
use Rattle.gql_terms.specs.Grammar.{strict, operation, fragment}
use Rattle.gql_parser.proofs.Adding.{defines_fragment, defines_operation}
use Rattle.gql_parser.proofs.definitions.definition.Goals as goal

pub returns-in_ok-push : goal.returns-in_ok-push
returns-in_ok-push c = (fragment _, defines_fragment strict _ _ _ (sym c.sees.ensures ∙ c.if-sees.true) c.in_ok-found.ensures, rw c.in_ok-push.ensures.ok refl)

pub returns-in_ok-push-2 : goal.returns-in_ok-push-2
returns-in_ok-push-2 c = (operation _, defines_operation strict _ _ _ (sym c.sees.ensures ∙ c.if-sees.false) c.in_ok-found-2.ensures, rw c.in_ok-push-2.ensures.ok refl)
