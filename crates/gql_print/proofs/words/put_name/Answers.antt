use Rattle.std.proofs.Common.{string_bytes}
use Rattle.gql_print.proofs.Appending.{name_pushed}
use Rattle.gql_print.proofs.words.put_name.Goals as goal

pub returns : goal.returns
returns c = name_pushed (string_bytes c.args.out.now) (string_bytes c.push_str.new.self) (string_bytes c.push_str-2.new.self) c.args.text.now c.as_str.result.now c.in_ok-push_str-2.ensures.bytes c.in_ok-push_str.ensures.bytes c.as_str.ensures
