use Rattle.std.proofs.Common.{◌≡◌, ◌<◌, Some, sym, subst, length, get_or}
use Rattle.std.specs.Prelude.{map, slice_get}
use Rattle.gql_shape.specs.Indexed.{Collections, group_in}
use Rattle.gql_shape.proofs.Indexed.{rule-at}
use Rattle.gql_shape.proofs.collections.Collections.rule.Goals as goal

pub returns : goal.returns
returns c =
    let short : c.args.at < length (map group_in c.self.inside.ruled) = subst (λ (v : Collections). c.args.at < length v.groups) (sym c.self.view_is) c.requires in
    let is : c.index-as_slice-at.result ≡ get_or c.self.inside.ruled c.args.at c.index-as_slice-at.result = rw c.as_slice.ensures at c.index-as_slice-at.is in
    rw c.rule.ensures (subst (λ (v : Collections). slice_get v.rules c.args.at ≡ Some c.index-as_slice-at.result.rule) c.self.view_is (rule-at c.self.inside.ruled c.args.at c.index-as_slice-at.result short is))
