use Rattle.std.proofs.Common.{◌≡◌, ◌∙◌, ap, false, List, ℕ, [], ◌∷◌, ◌++◌}
use Rattle.gql_types.specs.Schemas.{is_among}
use Rattle.gql_shape.specs.Terms.{Collection}
use Rattle.gql_shape.proofs.Indexed.{noted-last}
use Rattle.gql_shape.proofs.collection.Collection.note.Goals as goal

pub returns : goal.returns
returns c =
    let new : is_among c.self.inside.seen.keys c.args.name.now ≡ false = ap (λ (v : Collection). is_among v.seen c.args.name.now) c.self.view_is ∙ c.requires in
    let last : c.insert.new.self.keys ≡ c.self.inside.seen.keys ++ (c.args.name.now ∷ []) =
    noted-last c.self.inside.seen.keys c.insert.new.self.keys c.args.name.now c.in_ok-copy.field-0 new c.in_ok-copy.ensures c.in_ok-insert.ensures.keys in
    let shown : List (List ℕ) → Collection = λ names. record { seen = names; groups = c.self.inside.groups.items } in
    rw (← c.self.view_is) (ap shown last)
