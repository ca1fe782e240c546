-- Serves private clauses and proofs alone: what the code asks of a journal that it looks through.
use Rattle.std.specs.Prelude.{◌≡◌, ℕ, ◌≤◌, true, List, is_some, Some}
use Rattle.cache_terms.specs.declared.events.Event.{Event}
use Rattle.cache_model.specs.Journal.{Kept, kept_at}

-- what is kept at each position has its value, and a lifetime in range
pub record IsSound (J : List Event) : Type 0 where
  pub lifetime : (q : ℕ) (k : Kept) → kept_at J q ≡ Some k → k.verdict.lifetime ≤ 2147483648
  pub value : (q : ℕ) (k : Kept) → kept_at J q ≡ Some k → is_some k.value ≡ true
