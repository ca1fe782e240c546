use Rattle.std.proofs.Common.{List, ℕ, ◌∷◌, [], sym, ◌∙◌, append-nil}
use Rattle.std.specs.Str.{bytes_eq}
use Rattle.indexmap.specs.IndexMap.{get}
use Rattle.gql_types.proofs.Standing.{one_more, moved, got_none}
use Rattle.gql_types.proofs.index.places_of.Goals as goal

pub loop-name-init : goal.loop-name-init
loop-name-init c = record {
  taken = [];
  are = sym (append-nil c.args.names.items);
  places = λ q. got_none q c.in_ok-places.places.entries c.in_ok-places.ensures.empty;
}

pub loop-name-preserved : goal.loop-name-preserved
loop-name-preserved c =
    let left : List (List ℕ) = c.loop-name.names.items in
    let rest : List (List ℕ) = c.pop.new.self.items in
    record {
      taken = c.in-Some.name ∷ c.loop-name.invariant.taken;
      are = moved c.args.names.items left rest c.loop-name.invariant.taken c.in-Some.name c.loop-name.invariant.are c.in-Some.ensures.items;
      places = one_more c.args.names.items left rest c.loop-name.invariant.taken c.in-Some.name c.len-place.result (get bytes_eq c.loop-name.places) (get bytes_eq c.insert.new.self)
          c.loop-name.invariant.are c.in-Some.ensures.items (c.len-place.ensures ∙ c.pop.new.self.ok.0) c.loop-name.invariant.places c.in_ok-insert.ensures.updates.0;
    }
