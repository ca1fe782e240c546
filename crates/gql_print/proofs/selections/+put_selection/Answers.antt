use Rattle.std.proofs.Common.{◌≡◌, ℕ, ◌++◌, ◌∷◌, [], ◌∙◌, ap, List, length, map, string_bytes}
use Rattle.std.specs.Prelude.{codes}
use Rattle.gql_tokens.specs.declared.kinds.Kind.TheVariants as k
use Rattle.gql_print.specs.Words as w
use Rattle.gql_print.specs.Canonical.{spaced}
use Rattle.gql_print.proofs.Appending.{and_then, in_brackets, not_empty, appended}
use Rattle.gql_print.proofs.selections.+put_selection.Goals as goal

pub put_set-returns : goal.put_set-returns
put_set-returns t c =
    let e1 : string_bytes c.push_str.new.self ≡ string_bytes c.args.out.now ++ spaced (w.open_brace ∷ []) = c.in_ok-push_str.ensures.bytes in
    let e2 : string_bytes c.put_selections.new.out ≡ string_bytes c.push_str.new.self ++ spaced (w.joined (map w.selection_words c.args.selections.now)) = c.in_ok-put_selections.ensures in
    let e3 : string_bytes c.push_str-2.new.self ≡ string_bytes c.put_selections.new.out ++ spaced (w.close_brace ∷ []) = c.in_ok-push_str-2.ensures.bytes in
    in_brackets w.selection_words w.open_brace w.close_brace c.args.selections.now (string_bytes c.args.out.now) (string_bytes c.push_str-2.new.self) (not_empty (length c.args.selections.now) c.is_empty.result c.is_empty.ensures c.if-is_empty.false) ((and_then (string_bytes c.args.out.now) (string_bytes c.push_str.new.self) (string_bytes c.push_str-2.new.self) (w.open_brace ∷ []) ((w.joined (map w.selection_words c.args.selections.now)) ++ (w.close_brace ∷ [])) e1 (and_then (string_bytes c.push_str.new.self) (string_bytes c.put_selections.new.out) (string_bytes c.push_str-2.new.self) (w.joined (map w.selection_words c.args.selections.now)) (w.close_brace ∷ []) e2 e3)))
