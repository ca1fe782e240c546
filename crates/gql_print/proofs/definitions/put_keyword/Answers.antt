use Rattle.std.proofs.Common.{◌++◌, ◌∷◌, [], ◌∙◌, ap, sym, string_bytes}
use Rattle.gql_terms.specs.declared.documents.OpKind.{OpKind}
use Rattle.gql_print.specs.Words as w
use Rattle.gql_print.specs.Canonical.{spaced}
use Rattle.gql_print.proofs.definitions.put_keyword.Goals as goal

pub returns-in_ok-push_str-in-Subscription : goal.returns-in_ok-push_str-in-Subscription
returns-in_ok-push_str-in-Subscription c = c.in_ok-push_str-in-Subscription.ensures.bytes ∙ ap (λ (q : OpKind). string_bytes c.args.out.now ++ spaced (w.keyword q ∷ [])) (sym c.in-Subscription.is)
