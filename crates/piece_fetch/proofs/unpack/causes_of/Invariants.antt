use Rattle.std.proofs.Common.{◌≡◌, ◌++◌}
use Rattle.std.specs.Prelude.{map}
use Rattle.std.specs.Vec.Iter.{into_iter_items}
use Rattle.piece_fetch.specs.declared.fetched.Cause.TheVariants as cause
use Rattle.piece_fetch.proofs.unpack.causes_of.Given as goal

abbrev pub invariant-listing : goal.invariant-listing
invariant-listing l = l.causes.items ++ map (λ text. cause.Subgraph text) (into_iter_items l.text-iterator) ≡ map (λ text. cause.Subgraph text) l.fn.errors.items
