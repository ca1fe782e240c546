-- What a caller may rely on in the answers of a look: its tickets are new, and no other caller's own piece shows.
use Rattle.std.specs.Prelude.{◌≡◌, ℕ, Bool, List, [], ◌∷◌, ◌++◌, Contains, Option, Some, None}
use Rattle.cache_terms.specs.declared.keys.Key.{Key}
use Rattle.cache_terms.specs.declared.events.Event.{Event}
use Rattle.cache_terms.specs.declared.events.Mark.{Mark}
use Rattle.cache_terms.specs.declared.events.Mark.TheVariants as mark
use Rattle.cache_book.specs.declared.found.Found.{Found}
use Rattle.cache_book.specs.declared.found.Found.TheVariants as found
use Rattle.cache_model.specs.Journal.{start_of, Kept, kept_at, remaining, IsChoice}
use Rattle.cache_model.specs.Masked.{masked}

abbrev pub ticket_of : Mark → List ℕ
ticket_of (mark.Ticket ticket) = ticket ∷ []
ticket_of (mark.Over pinned current) = []
ticket_of (mark.Full events open_tickets needed limit) = []
ticket_of (mark.Wide bytes limit) = []
ticket_of mark.Retired = []

-- the tickets of the permits in the answers
abbrev pub tickets_of : List Found → List ℕ
tickets_of [] = []
tickets_of (found.Hit lookup stored value left_ms private ∷ answers) = tickets_of answers
tickets_of (found.Miss lookup permit ∷ answers) = ticket_of permit.mark ++ tickets_of answers
tickets_of (found.Bypass permit ∷ answers) = ticket_of permit.mark ++ tickets_of answers

-- no ticket was started before, and none stands twice
abbrev pub AreNew : List Event → List ℕ → Type 0
AreNew J [] = Unit {0}
AreNew J (ticket ∷ tickets) = (start_of J ticket ≡ None) × (Contains tickets ticket → ⊥) × AreNew J tickets

-- a hit over a journal: the piece at `stored` is the choice there, and the value, the milliseconds that are left and
-- whether it is private are those of what the journal keeps there
pub record Shows (J : List Event) (id : Option (List ℕ)) (now : ℕ) (key : Key) (stored : ℕ) (value : List ℕ) (left_ms : ℕ) (private : Bool) : Type 0 where
  pub choice : IsChoice J key id now (Some stored)
  pub kept : Kept
  pub kept_is : kept_at J stored ≡ Some kept
  pub value_is : kept.value ≡ Some value
  pub left_is : left_ms ≡ remaining kept now
  pub private_is : private ≡ kept.verdict.private

-- an answer that is not bypassed is, as a whole, the one over the journal without other callers' own pieces
abbrev pub IsChosen : List Event → Option (List ℕ) → ℕ → Key → Found → Type 0
IsChosen J id now key (found.Hit lookup stored value left_ms private) = Shows (masked J id) id now key stored value left_ms private
IsChosen J id now key (found.Miss lookup permit) = IsChoice (masked J id) key id now None
IsChosen J id now key (found.Bypass permit) = Unit {0}

abbrev pub AreChosen : List Event → Option (List ℕ) → ℕ → List Key → List Found → Type 0
AreChosen J id now [] [] = Unit {0}
AreChosen J id now (key ∷ keys) (answer ∷ answers) = IsChosen J id now key answer × AreChosen J id now keys answers
AreChosen J id now [] (answer ∷ answers) = ⊥
AreChosen J id now (key ∷ keys) [] = ⊥
