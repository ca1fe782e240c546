use Rattle.std.proofs.Common.{◌≡◌, ℕ, ◌++◌, ◌∷◌, [], ◌∙◌, ap, List, length, map, string_bytes}
use Rattle.std.specs.Prelude.{codes}
use Rattle.gql_tokens.specs.declared.kinds.Kind.TheVariants as k
use Rattle.gql_print.specs.Words as w
use Rattle.gql_print.specs.Canonical.{spaced}
use Rattle.gql_print.proofs.Appending.{and_then, in_brackets, not_empty, appended}
use Rattle.gql_print.proofs.values.put_arguments.Goals as goal

pub returns : goal.returns
returns c =
    let e1 : string_bytes c.push_str.new.self ≡ string_bytes c.args.out.now ++ spaced (w.open_paren ∷ []) = c.in_ok-push_str.ensures.bytes in
    let e2 : string_bytes c.put_pairs.new.out ≡ string_bytes c.push_str.new.self ++ spaced (w.joined (map w.pair_words c.args.arguments.now)) = c.in_ok-put_pairs.ensures in
    let e3 : string_bytes c.push_str-2.new.self ≡ string_bytes c.put_pairs.new.out ++ spaced (w.close_paren ∷ []) = c.in_ok-push_str-2.ensures.bytes in
    in_brackets w.pair_words w.open_paren w.close_paren c.args.arguments.now (string_bytes c.args.out.now) (string_bytes c.push_str-2.new.self) (not_empty (length c.args.arguments.now) c.is_empty.result c.is_empty.ensures c.if-is_empty.false) ((and_then (string_bytes c.args.out.now) (string_bytes c.push_str.new.self) (string_bytes c.push_str-2.new.self) (w.open_paren ∷ []) ((w.joined (map w.pair_words c.args.arguments.now)) ++ (w.close_paren ∷ [])) e1 (and_then (string_bytes c.push_str.new.self) (string_bytes c.put_pairs.new.out) (string_bytes c.push_str-2.new.self) (w.joined (map w.pair_words c.args.arguments.now)) (w.close_paren ∷ []) e2 e3)))
