use Rattle.std.proofs.Common.{List, ℕ, ◌||◌, subst, bytes_eq}
use Rattle.json_value.specs.declared.tree.Json.{Json}
use Rattle.json_value.specs.Grammar.{has}
use Rattle.json_members.specs.Covers.{IndexesNames}
use Rattle.json_members.proofs.Names.{covers_push}
use Rattle.json_members.proofs.open_members.Members.with.Goals as goal

pub invariant_of-result : goal.invariant_of-result
invariant_of-result c =
    covers_push c.in_ok-index.index c.self.inside.list c.push.new.self c.args.name c.args.value
    (subst (λ (ms : List (List ℕ × Json)). IndexesNames c.in_ok-index.index (λ k. has ms k || bytes_eq c.args.name k)) c.as_slice.ensures c.in_ok-index.ensures) c.in_ok-push.ensures.ok
