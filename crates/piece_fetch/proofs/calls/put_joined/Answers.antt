use Rattle.std.proofs.Common.{◌≡◌, ◌∷◌, ◌++◌, List}
use Rattle.std.specs.Prelude.{string_bytes}
use Rattle.std.proofs.lemmas.Grind.{common_steps}
use Rattle.std.proofs.lemmas.Result.{on_ok_weaker}
use Rattle.std.proofs.Common.{arith}
use Rattle.cache_book.specs.Permits.{Granted}
use Rattle.fetch_asks.specs.Asking.{representation_of}
use Rattle.piece_fetch.proofs.Joining.{joined_put}
use Rattle.piece_fetch.proofs.calls.put_joined.Goals as goal

pub returns-in_ok-push_str-in-Some : goal.returns-in_ok-push_str-in-Some
returns-in_ok-push_str-in-Some c =
    let first : Granted = c.in-Some.first.now in
    let others : List Granted = c.in-Some.others.now in
    let split : c.args.permits.now ≡ first ∷ others = c.in-Some.ensures.cases.0 in
    let one : string_bytes c.push_str.new.self ≡ string_bytes c.args.body.now ++ representation_of first = grind (arith, common_steps) in
    on_ok_weaker c.put_behind.result (λ rest. joined_put c.args.permits.now others first (string_bytes c.args.body.now) (string_bytes c.push_str.new.self) (string_bytes c.put_behind.new.body) split one rest) c.put_behind.ensures
