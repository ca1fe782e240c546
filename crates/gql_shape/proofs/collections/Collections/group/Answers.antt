use Rattle.std.proofs.Common.{◌≡◌, ◌<◌, sym, subst, length, get_or}
use Rattle.std.specs.Prelude.{map}
use Rattle.gql_shape.specs.Indexed.{Collections, group_in}
use Rattle.gql_shape.proofs.Indexed.{group-in-at}
use Rattle.gql_shape.proofs.collections.Collections.group.Goals as goal

pub returns : goal.returns
returns c =
    let short : c.args.at < length (map group_in c.self.inside.ruled) = subst (λ (v : Collections). c.args.at < length v.groups) (sym c.self.view_is) c.requires in
    let is : c.index-as_slice-at.result ≡ get_or c.self.inside.ruled c.args.at c.index-as_slice-at.result = rw c.as_slice.ensures at c.index-as_slice-at.is in
    rw c.group.ensures (subst (λ (v : Collections). c.index-as_slice-at.result.group ≡ get_or v.groups c.args.at c.index-as_slice-at.result.group) c.self.view_is
    (group-in-at c.self.inside.ruled c.args.at c.index-as_slice-at.result short is))
