use Rattle.std.proofs.Common.{◌∙◌, sym, ap, ◌==◌}
use Rattle.std.specs.Cmp.Lexicographic.{pointwise}
use Rattle.indexmap.specs.IndexSet.{insert_key}
use Rattle.cache_terms.proofs.Doubles.{distinct_last}
use Rattle.cache_terms.proofs.tags.without_doubles.Goals as goal

pub loop-text-preserved : goal.loop-text-preserved
loop-text-preserved c = c.in_ok-insert.ensures.keys ∙ ap (λ ks. insert_key (pointwise ◌==◌) ks c.in-Some.text) c.loop-text.invariant ∙ sym (distinct_last c.loop-text.yielded c.in-Some.text)
