use Rattle.std.proofs.Common.{◌≡◌}
use Rattle.cache_terms.specs.TagRules.{distinct}
use Rattle.cache_terms.proofs.tags.without_doubles.Given as goal

abbrev pub invariant-loop-text : goal.invariant-loop-text
invariant-loop-text l = l.seen.keys ≡ distinct l.yielded
