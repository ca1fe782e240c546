-- Which permits may be settled after a call.
use Rattle.std.specs.Prelude.{◌≡◌, ◌≤◌, List, [], ◌∷◌}
use Rattle.cache_book.specs.declared.found.Found.{Found}
use Rattle.cache_book.specs.declared.found.Found.TheVariants as found
use Rattle.cache_model.specs.State.{State}
use Rattle.cache_book.specs.Permits.{Granted}
use Rattle.cache_book.specs.Settling.{MaySettle}

-- the permit of the answer may be settled
abbrev pub IsOwedAnswer : State → Found → Type 0
IsOwedAnswer s (found.Hit lookup stored value left_ms private) = Unit {0}
IsOwedAnswer s (found.Miss lookup permit) = MaySettle s permit
IsOwedAnswer s (found.Bypass permit) = MaySettle s permit

abbrev pub AreOwed : State → List Found → Type 0
AreOwed s [] = Unit {0}
AreOwed s (answer ∷ answers) = IsOwedAnswer s answer × AreOwed s answers

-- each permit that may be settled in old may be settled in new
abbrev pub KeepsPermits : State → State → Type 0
KeepsPermits old new = (p : Granted) → MaySettle old p → MaySettle new p

-- the permits are two: their marks or their epochs differ
abbrev pub Differ : Granted → Granted → Type 0
Differ p q = p.mark ≡ q.mark → p.epoch ≡ q.epoch → ⊥

-- so may each but this one
abbrev pub KeepsOthers : State → Granted → State → Type 0
KeepsOthers old spent new = (p : Granted) → Differ p spent → MaySettle old p → MaySettle new p

-- so may each of an epoch that has begun
abbrev pub KeepsEarlier : State → State → Type 0
KeepsEarlier old new = (p : Granted) → p.epoch ≤ old.epoch → MaySettle old p → MaySettle new p
