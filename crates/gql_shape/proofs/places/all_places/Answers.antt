use Rattle.std.proofs.Common.{◌≡◌, ℕ, suc, ◌-◌, ◌<◌, List, length, sym, ap, ◌∙◌, arith}
use Rattle.json_value.specs.declared.tree.Json.{Json}
use Rattle.std.specs.Str.{bytes_eq}
use Rattle.indexmap.specs.IndexMap.{get}
use Rattle.gql_shape.proofs.MemberPlaces.{places-put}
use Rattle.gql_shape.proofs.places.all_places.Goals as goal

pub loop-i-preserved : goal.loop-i-preserved
loop-i-preserved c =
    let same : c.loop-i.i ≡ suc (c.loop-i.i - 1) = omega arith in
    let inside : c.loop-i.i - 1 < length c.args.members.now = omega arith in
    record {
      within = omega arith;
      places = places-put c.args.members.now c.loop-i.i (c.loop-i.i - 1) c.index-members-i.result same inside c.index-members-i.is (get bytes_eq c.loop-i.places) (get bytes_eq c.insert.new.self)
          c.in_ok-copy.field-0 (c.in_ok-copy.ensures ∙ ap (λ (m : List ℕ × Json). m.0) (sym c.index-members-i.is)) c.loop-i.invariant.places c.in_ok-insert.ensures.updates.0;
    }
