use Rattle.std.proofs.Common.{◌≡◌, ℕ, ◌++◌, ◌∷◌, [], ◌∙◌, ap, List, length, map, string_bytes}
use Rattle.std.specs.Prelude.{codes}
use Rattle.gql_tokens.specs.declared.kinds.Kind.TheVariants as k
use Rattle.gql_terms.specs.declared.documents.Directive.{Directive}
use Rattle.gql_print.specs.Words as w
use Rattle.gql_print.specs.Canonical.{spaced}
use Rattle.gql_print.proofs.Appending.{and_then, in_brackets, not_empty, appended}
use Rattle.gql_print.proofs.types.put_definition.Goals as goal

pub returns : goal.returns
returns c =
    let e1 : string_bytes c.put_variable.new.out ≡ string_bytes c.args.out.now ++ spaced (w.dollar ∷ (w.name c.args.variable.now.name ∷ [])) = c.in_ok-put_variable.ensures in
    let e2 : string_bytes c.push_str.new.self ≡ string_bytes c.put_variable.new.out ++ spaced (w.colon ∷ []) = c.in_ok-push_str.ensures.bytes in
    let e3 : string_bytes c.put_type.new.out ≡ string_bytes c.push_str.new.self ++ spaced (w.type_words c.args.variable.now.of) = c.in_ok-put_type.ensures in
    let e4 : string_bytes c.put_default.new.out ≡ string_bytes c.put_type.new.out ++ spaced (w.default_words c.args.variable.now.default) = c.in_ok-put_default.ensures in
    let e5 : string_bytes c.put_directives.new.out ≡ string_bytes c.put_default.new.out ++ spaced (w.directives_words c.args.variable.now.directives) = c.in_ok-put_directives.ensures ∙ ap (λ (q : List Directive). string_bytes c.put_default.new.out ++ spaced (w.directives_words q)) c.as_slice.ensures in
    (and_then (string_bytes c.args.out.now) (string_bytes c.put_variable.new.out) (string_bytes c.put_directives.new.out) (w.dollar ∷ (w.name c.args.variable.now.name ∷ [])) ((w.colon ∷ []) ++ ((w.type_words c.args.variable.now.of) ++ ((w.default_words c.args.variable.now.default) ++ (w.directives_words c.args.variable.now.directives)))) e1 (and_then (string_bytes c.put_variable.new.out) (string_bytes c.push_str.new.self) (string_bytes c.put_directives.new.out) (w.colon ∷ []) ((w.type_words c.args.variable.now.of) ++ ((w.default_words c.args.variable.now.default) ++ (w.directives_words c.args.variable.now.directives))) e2 (and_then (string_bytes c.push_str.new.self) (string_bytes c.put_type.new.out) (string_bytes c.put_directives.new.out) (w.type_words c.args.variable.now.of) ((w.default_words c.args.variable.now.default) ++ (w.directives_words c.args.variable.now.directives)) e3 (and_then (string_bytes c.put_type.new.out) (string_bytes c.put_default.new.out) (string_bytes c.put_directives.new.out) (w.default_words c.args.variable.now.default) (w.directives_words c.args.variable.now.directives) e4 e5))))
