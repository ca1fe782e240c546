use Rattle.std.proofs.Common.{◌≡◌, ℕ, ◌++◌, ◌∷◌, [], ◌∙◌, ap, List, length, map, string_bytes}
use Rattle.std.specs.Prelude.{codes}
use Rattle.gql_tokens.specs.declared.kinds.Kind.TheVariants as k
use Rattle.gql_terms.specs.declared.documents.Directive.{Directive}
use Rattle.gql_terms.specs.declared.documents.Selection.{Selection}
use Rattle.gql_terms.specs.declared.documents.VarDef.{VarDef}
use Rattle.gql_print.specs.Words as w
use Rattle.gql_print.specs.Canonical.{spaced}
use Rattle.gql_print.proofs.Appending.{and_then, in_brackets, not_empty, appended}
use Rattle.gql_print.proofs.definitions.put_operation.Goals as goal

pub returns : goal.returns
returns c =
    let e1 : string_bytes c.put_keyword.new.out ≡ string_bytes c.args.out.now ++ spaced (w.keyword c.args.operation.now.kind ∷ []) = c.in_ok-put_keyword.ensures in
    let e2 : string_bytes c.put_operation_name.new.out ≡ string_bytes c.put_keyword.new.out ++ spaced (w.name_words c.args.operation.now.name) = c.in_ok-put_operation_name.ensures in
    let e3 : string_bytes c.put_variables.new.out ≡ string_bytes c.put_operation_name.new.out ++ spaced (w.variables_words c.args.operation.now.variables) = c.in_ok-put_variables.ensures ∙ ap (λ (q : List VarDef). string_bytes c.put_operation_name.new.out ++ spaced (w.variables_words q)) c.as_slice.ensures in
    let e4 : string_bytes c.put_directives.new.out ≡ string_bytes c.put_variables.new.out ++ spaced (w.directives_words c.args.operation.now.directives) = c.in_ok-put_directives.ensures ∙ ap (λ (q : List Directive). string_bytes c.put_variables.new.out ++ spaced (w.directives_words q)) c.as_slice-2.ensures in
    let e5 : string_bytes c.put_set.new.out ≡ string_bytes c.put_directives.new.out ++ spaced (w.set_words c.args.operation.now.selections) = c.in_ok-put_set.ensures ∙ ap (λ (q : List Selection). string_bytes c.put_directives.new.out ++ spaced (w.set_words q)) c.as_slice-3.ensures in
    (and_then (string_bytes c.args.out.now) (string_bytes c.put_keyword.new.out) (string_bytes c.put_set.new.out) (w.keyword c.args.operation.now.kind ∷ []) ((w.name_words c.args.operation.now.name) ++ ((w.variables_words c.args.operation.now.variables) ++ ((w.directives_words c.args.operation.now.directives) ++ (w.set_words c.args.operation.now.selections)))) e1 (and_then (string_bytes c.put_keyword.new.out) (string_bytes c.put_operation_name.new.out) (string_bytes c.put_set.new.out) (w.name_words c.args.operation.now.name) ((w.variables_words c.args.operation.now.variables) ++ ((w.directives_words c.args.operation.now.directives) ++ (w.set_words c.args.operation.now.selections))) e2 (and_then (string_bytes c.put_operation_name.new.out) (string_bytes c.put_variables.new.out) (string_bytes c.put_set.new.out) (w.variables_words c.args.operation.now.variables) ((w.directives_words c.args.operation.now.directives) ++ (w.set_words c.args.operation.now.selections)) e3 (and_then (string_bytes c.put_variables.new.out) (string_bytes c.put_directives.new.out) (string_bytes c.put_set.new.out) (w.directives_words c.args.operation.now.directives) (w.set_words c.args.operation.now.selections) e4 e5))))
