use Rattle.std.proofs.Common.{◌≡◌, ℕ, ◌++◌, ◌∷◌, [], ◌∙◌, ap, List, length, map, string_bytes}
use Rattle.std.specs.Prelude.{codes}
use Rattle.gql_tokens.specs.declared.kinds.Kind.TheVariants as k
use Rattle.gql_terms.specs.declared.documents.Value.{Value}
use Rattle.gql_print.specs.Words as w
use Rattle.gql_print.specs.Canonical.{spaced}
use Rattle.gql_print.proofs.Appending.{and_then, in_brackets, not_empty, appended}
use Rattle.gql_print.proofs.values.put_directive.Goals as goal

pub returns : goal.returns
returns c =
    let e1 : string_bytes c.push_str.new.self ≡ string_bytes c.args.out.now ++ spaced (w.at_sign ∷ []) = c.in_ok-push_str.ensures.bytes in
    let e2 : string_bytes c.put_name.new.out ≡ string_bytes c.push_str.new.self ++ spaced (w.name c.args.directive.now.name ∷ []) = c.in_ok-put_name.ensures in
    let e3 : string_bytes c.put_arguments.new.out ≡ string_bytes c.put_name.new.out ++ spaced (w.arguments_words c.args.directive.now.arguments) = c.in_ok-put_arguments.ensures ∙ ap (λ (q : List (List ℕ × Value)). string_bytes c.put_name.new.out ++ spaced (w.arguments_words q)) c.as_slice.ensures in
    (and_then (string_bytes c.args.out.now) (string_bytes c.push_str.new.self) (string_bytes c.put_arguments.new.out) (w.at_sign ∷ []) ((w.name c.args.directive.now.name ∷ []) ++ (w.arguments_words c.args.directive.now.arguments)) e1 (and_then (string_bytes c.push_str.new.self) (string_bytes c.put_name.new.out) (string_bytes c.put_arguments.new.out) (w.name c.args.directive.now.name ∷ []) (w.arguments_words c.args.directive.now.arguments) e2 e3))
