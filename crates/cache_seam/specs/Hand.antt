-- The permits in a user's hand.
use Rattle.std.specs.Prelude.{◌≡◌, ℕ, ◌≤◌, List, [], ◌∷◌, All, is_some, Option}
use Rattle.cache_terms.specs.declared.keys.Key.{Key}
use Rattle.cache_terms.specs.declared.events.Mark.TheVariants as mark
use Rattle.cache_book.specs.declared.found.Found.{Found}
use Rattle.cache_book.specs.declared.found.Found.TheVariants as found
use Rattle.cache_book.specs.Permits.{Pinned, Granted}
use Rattle.cache_book.specs.Settling.{MaySettle}
use Rattle.cache_seam.specs.Objects.{IsObjectText}
use Rattle.cache_seam.specs.Seen.{Seen}

-- the permits in the answers to a look, in order
abbrev pub permits_of : List Found → List Granted
permits_of [] = []
permits_of (found.Hit lookup stored value left_ms private ∷ answers) = permits_of answers
permits_of (found.Miss lookup permit ∷ answers) = permit ∷ permits_of answers
permits_of (found.Bypass permit ∷ answers) = permit ∷ permits_of answers

-- the permit is for this key, under this pass
pub record IsGranted (pass : Pinned) (id : Option (List ℕ)) (key : Key) (p : Granted) : Type 0 where
  pub who : p.who ≡ pass.who
  pub epoch : p.epoch ≡ pass.epoch
  pub key_is : p.key ≡ key
  pub named : p.named ≡ is_some id

-- each ask has its answer, and each permit is for its ask
abbrev pub AreAnswers : Pinned → Option (List ℕ) → List Key → List Found → Type 0
AreAnswers pass id [] [] = Unit {0}
AreAnswers pass id (key ∷ keys) (found.Hit lookup stored value left_ms private ∷ answers) = AreAnswers pass id keys answers
AreAnswers pass id (key ∷ keys) (found.Miss lookup permit ∷ answers) = IsGranted pass id key permit × AreAnswers pass id keys answers
AreAnswers pass id (key ∷ keys) (found.Bypass permit ∷ answers) = IsGranted pass id key permit × AreAnswers pass id keys answers
AreAnswers pass id [] (answer ∷ answers) = ⊥
AreAnswers pass id (key ∷ keys) [] = ⊥

-- the two are not for one ticket
abbrev pub AreOfTwoTickets : Granted → Granted → Type 0
AreOfTwoTickets p q = (t : ℕ) → p.mark ≡ mark.Ticket t → q.mark ≡ mark.Ticket t → p.epoch ≡ q.epoch → ⊥

-- the user may settle the permit
pub record IsSpendable (c : Seen) (p : Granted) : Type 0 where
  pub own : p.who ≡ c.number
  pub begun : p.epoch ≤ c.left.epoch
  pub may : MaySettle c.left p

-- the user may settle the permits, one after another
abbrev pub IsHand : Seen → List Granted → Type 0
IsHand c [] = Unit {0}
IsHand c (p ∷ ps) = IsSpendable c p × All (AreOfTwoTickets p) ps × IsHand c ps

-- what was found is the text of an object
abbrev pub FindObjects : List Found → Type 0
FindObjects [] = Unit {0}
FindObjects (found.Hit lookup stored value left_ms private ∷ answers) = IsObjectText value × FindObjects answers
FindObjects (found.Miss lookup permit ∷ answers) = FindObjects answers
FindObjects (found.Bypass permit ∷ answers) = FindObjects answers
