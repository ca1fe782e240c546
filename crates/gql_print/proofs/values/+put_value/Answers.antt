use Rattle.std.proofs.Common.{◌≡◌, ◌++◌, List, string_bytes}
use Rattle.gql_tokens.specs.Lexical.{Token}
use Rattle.gql_print.specs.Canonical.{spaced}
use Rattle.gql_print.proofs.Appending.{object_words}
use Rattle.gql_print.proofs.values.+put_value.Goals as goal

pub put_value-returns-in_ok-put_object-in-Object : goal.put_value-returns-in_ok-put_object-in-Object
put_value-returns-in_ok-put_object-in-Object t c = object_words (λ (q : List Token). string_bytes c.put_object.new.out ≡ string_bytes c.args.out.now ++ spaced q) _ _ _ c.in-Object.is c.as_slice-in-Object.ensures c.in_ok-put_object-in-Object.ensures
