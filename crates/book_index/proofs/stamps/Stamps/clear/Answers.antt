use Rattle.std.proofs.Common.{ℕ, ap, ◌∙◌}
use Rattle.std.specs.FinMap as map
use Rattle.book_index.specs.Targets.{target_cmp}
use Rattle.book_index.specs.Stamps.{Stamped}
use Rattle.book_index.proofs.stamps.Stamps.clear.Goals as goal

pub returns-clause-none : goal.returns-clause-none
returns-clause-none c = ap (λ (s : Stamped). map.len s.stamps) c.clear.ensures ∙ map.len-empty target_cmp ℕ
