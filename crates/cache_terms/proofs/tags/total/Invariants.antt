use Rattle.std.proofs.Common.{◌≡◌, ◌-◌, ◌^◌, min, length, take}
use Rattle.std.specs.Prelude.{sum_by}
use Rattle.cache_terms.proofs.tags.total.Given as goal

abbrev pub invariant-loop-tag : goal.invariant-loop-tag
invariant-loop-tag l = l.size ≡ min (sum_by (λ t. length t) (take l.tag-index l.tags)) (2 ^ 64 - 1)
