-- What a pass and a permit say.
use Rattle.std.specs.Prelude.{ℕ, Bool}
use Rattle.cache_terms.specs.declared.keys.Key.{Key}
use Rattle.cache_terms.specs.declared.events.Mark.{Mark}

-- who asks, and the epoch in which the request began
pub record Pinned : Type 0 where
  pub who : ℕ
  pub epoch : ℕ

-- what a permit says: of its pass the caller and the epoch, why it has no ticket or which it has, the key that was
-- asked for, and whether the caller has an id
pub record Granted : Type 0 where
  pub who : ℕ
  pub epoch : ℕ
  pub mark : Mark
  pub key : Key
  pub named : Bool
