use Rattle.std.proofs.Common.{◌≡◌, ◌<◌, ◌++◌, Some, None, length, get_or, take, arith, rules}
use Rattle.std.specs.Prelude.{string_bytes, encode_utf8}
use Rattle.gql_inputs.specs.Strings as spec
use Rattle.gql_inputs.proofs.Strings.{escape_cut, cut_escape, cut_backslash, goes_plain, goes_escape, goes_backslash}
use Rattle.gql_inputs.proofs.string.put_front.Goals as goal

pub returns-then-n-gt0-clause-goes_on : goal.returns-then-n-gt0-clause-goes_on
returns-then-n-gt0-clause-goes_on c =
    let is : string_bytes c.push_str.new.self ≡ string_bytes c.args.text.now ++ take c.plain_length-n.result c.args.source.now = search rules in
    goes_plain (string_bytes c.args.text.now) c.args.source.now (string_bytes c.push_str.new.self) c.plain_length-n.result
    (rw c.as_bytes-bytes.ensures.value at c.plain_length-n.ensures.within) (rw c.as_bytes-bytes.ensures.value at c.plain_length-n.ensures.plain) is

pub returns-in_ok-push-in-Some-clause-some : goal.returns-in_ok-push-in-Some-clause-some
returns-in_ok-push-in-Some-clause-some c =
    let found : spec.escape_read c.args.source.now ≡ Some (c.in-Some.c, c.in-Some.length) = cc in
    (escape_cut c.args.source.now (c.in-Some.c, c.in-Some.length) found).some

pub returns-in_ok-push-in-Some-clause-cut : goal.returns-in_ok-push-in-Some-clause-cut
returns-in_ok-push-in-Some-clause-cut c =
    let found : spec.escape_read c.args.source.now ≡ Some (c.in-Some.c, c.in-Some.length) = cc in
    cut_escape c.args.source.now (c.in-Some.c, c.in-Some.length) c.utf8.source found

pub returns-in_ok-push-in-Some-clause-goes_on : goal.returns-in_ok-push-in-Some-clause-goes_on
returns-in_ok-push-in-Some-clause-goes_on c =
    let found : spec.escape_read c.args.source.now ≡ Some (c.in-Some.c, c.in-Some.length) = cc in
    let is : string_bytes c.push.new.self ≡ string_bytes c.args.text.now ++ encode_utf8 c.in-Some.c = search rules in
    goes_escape (string_bytes c.args.text.now) c.args.source.now (string_bytes c.push.new.self) (c.in-Some.c, c.in-Some.length) found is

pub returns-in_ok-push-in-None-clause-cut : goal.returns-in_ok-push-in-None-clause-cut
returns-in_ok-push-in-None-clause-cut c =
    let front : c.plain_length-n.result ≡ 0 = omega arith in
    let first : 0 < length c.args.source.now → get_or c.args.source.now 0 0 ≡ 92 = rw (c.as_bytes-bytes.ensures.value, front) at c.plain_length-n.ensures.ends in
    cut_backslash c.args.source.now c.utf8.source c.requires (first c.requires)

pub returns-in_ok-push-in-None-clause-goes_on : goal.returns-in_ok-push-in-None-clause-goes_on
returns-in_ok-push-in-None-clause-goes_on c =
    let front : c.plain_length-n.result ≡ 0 = omega arith in
    let first : 0 < length c.args.source.now → get_or c.args.source.now 0 0 ≡ 92 = rw (c.as_bytes-bytes.ensures.value, front) at c.plain_length-n.ensures.ends in
    let none : spec.escape_read c.args.source.now ≡ None = cc in
    let is : string_bytes c.push-in-None.new.self ≡ string_bytes c.args.text.now ++ encode_utf8 92 = search rules in
    goes_backslash (string_bytes c.args.text.now) c.args.source.now (string_bytes c.push-in-None.new.self) none c.requires (first c.requires) is
