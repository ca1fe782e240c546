use Rattle.std.proofs.Common.{◌≡◌, ℕ, ◌++◌, ◌∷◌, [], ◌∙◌, ap, List, length, map, string_bytes}
use Rattle.std.specs.Prelude.{codes}
use Rattle.gql_tokens.specs.declared.kinds.Kind.TheVariants as k
use Rattle.gql_terms.specs.declared.documents.Directive.{Directive}
use Rattle.gql_terms.specs.declared.documents.Selection.{Selection}
use Rattle.gql_print.specs.Words as w
use Rattle.gql_print.specs.Canonical.{spaced}
use Rattle.gql_print.proofs.Appending.{and_then, in_brackets, not_empty, appended}
use Rattle.gql_print.proofs.definitions.put_fragment.Goals as goal

pub returns : goal.returns
returns c =
    let e1 : string_bytes c.push_str.new.self ≡ string_bytes c.args.out.now ++ spaced (w.token k.Fragment (codes "fragment") ∷ []) = c.in_ok-push_str.ensures.bytes in
    let e2 : string_bytes c.put_name.new.out ≡ string_bytes c.push_str.new.self ++ spaced (w.name c.args.fragment.now.name ∷ []) = c.in_ok-put_name.ensures in
    let e3 : string_bytes c.push_str-2.new.self ≡ string_bytes c.put_name.new.out ++ spaced (w.token k.On (codes "on") ∷ []) = c.in_ok-push_str-2.ensures.bytes in
    let e4 : string_bytes c.put_name-2.new.out ≡ string_bytes c.push_str-2.new.self ++ spaced (w.name c.args.fragment.now.on ∷ []) = c.in_ok-put_name-2.ensures in
    let e5 : string_bytes c.put_directives.new.out ≡ string_bytes c.put_name-2.new.out ++ spaced (w.directives_words c.args.fragment.now.directives) = c.in_ok-put_directives.ensures ∙ ap (λ (q : List Directive). string_bytes c.put_name-2.new.out ++ spaced (w.directives_words q)) c.as_slice.ensures in
    let e6 : string_bytes c.put_set.new.out ≡ string_bytes c.put_directives.new.out ++ spaced (w.set_words c.args.fragment.now.selections) = c.in_ok-put_set.ensures ∙ ap (λ (q : List Selection). string_bytes c.put_directives.new.out ++ spaced (w.set_words q)) c.as_slice-2.ensures in
    (and_then (string_bytes c.args.out.now) (string_bytes c.push_str.new.self) (string_bytes c.put_set.new.out) (w.token k.Fragment (codes "fragment") ∷ []) ((w.name c.args.fragment.now.name ∷ []) ++ ((w.token k.On (codes "on") ∷ []) ++ ((w.name c.args.fragment.now.on ∷ []) ++ ((w.directives_words c.args.fragment.now.directives) ++ (w.set_words c.args.fragment.now.selections))))) e1 (and_then (string_bytes c.push_str.new.self) (string_bytes c.put_name.new.out) (string_bytes c.put_set.new.out) (w.name c.args.fragment.now.name ∷ []) ((w.token k.On (codes "on") ∷ []) ++ ((w.name c.args.fragment.now.on ∷ []) ++ ((w.directives_words c.args.fragment.now.directives) ++ (w.set_words c.args.fragment.now.selections)))) e2 (and_then (string_bytes c.put_name.new.out) (string_bytes c.push_str-2.new.self) (string_bytes c.put_set.new.out) (w.token k.On (codes "on") ∷ []) ((w.name c.args.fragment.now.on ∷ []) ++ ((w.directives_words c.args.fragment.now.directives) ++ (w.set_words c.args.fragment.now.selections))) e3 (and_then (string_bytes c.push_str-2.new.self) (string_bytes c.put_name-2.new.out) (string_bytes c.put_set.new.out) (w.name c.args.fragment.now.on ∷ []) ((w.directives_words c.args.fragment.now.directives) ++ (w.set_words c.args.fragment.now.selections)) e4 (and_then (string_bytes c.put_name-2.new.out) (string_bytes c.put_directives.new.out) (string_bytes c.put_set.new.out) (w.directives_words c.args.fragment.now.directives) (w.set_words c.args.fragment.now.selections) e5 e6)))))
