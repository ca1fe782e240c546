-- What all the bytes of a connection give, in whatever pieces they come.
use Rattle.std.specs.Prelude.{◌≡◌, ◌⊎◌, ℕ, ◌<◌, ◌≤◌, List, [], ◌++◌, length, Option, Some, None, Result, Ok, Err}
use Rattle.http_wire.specs.declared.faults.WireFault.{WireFault}
use Rattle.http_wire.specs.declared.faults.WireFault.TheVariants as fault
use Rattle.http_wire.specs.declared.message.Message.{Message}
use Rattle.http_wire.specs.EmptyLine.{NoEmptyLine}
use Rattle.http_wire.specs.Heads.{HeadSays}
use Rattle.http_wire.specs.Messages.{BeginsWith, IsMessage, IsBadHead, IsUnfinished}

-- no head ends in the first 16384 of more bytes, of which so many were read; or an accepted head declares so many
abbrev pub IsOverLong : List ℕ → ℕ → Type 0
IsOverLong all n =
    ((16384 < n) × (n ≤ length all) × NoEmptyLine all 0 16384)
    ⊎ ((k : ℕ) × (o : HeadSays) × BeginsWith all k o × (n ≡ o.length) × (1048576 < n))

abbrev pub GivesFault : WireFault → List ℕ → Type 0
GivesFault fault.Failed all = Unit {0}
GivesFault fault.Memory all = Unit {0}
GivesFault (fault.Bad n) all = IsBadHead all n
GivesFault (fault.TooLong n) all = IsOverLong all n
GivesFault (fault.Cut n) all = (n ≡ length all) × IsUnfinished all

-- the bytes give this answer, and the rest is left for the next one; a fault leaves all
abbrev pub GivesMessage : List ℕ → Result (Option Message) WireFault → List ℕ → Type 0
GivesMessage all (Ok (Some m)) rest = (used : List ℕ) × IsMessage used m × (all ≡ used ++ rest)
GivesMessage all (Ok None) rest = (all ≡ []) × (rest ≡ [])
GivesMessage all (Err e) rest = GivesFault e all × (rest ≡ all)

-- where the source tells its bytes: those that were kept and those that were left give the answer, and those that are
-- kept and left now are the rest
abbrev pub GivesWhereTold : List ℕ → List ℕ → Option (List ℕ) → Option (List ℕ) → Result (Option Message) WireFault → Type 0
GivesWhereTold kept now None after result = Unit {0}
GivesWhereTold kept now (Some left) None result = ⊥
GivesWhereTold kept now (Some left) (Some after) result = GivesMessage (kept ++ left) result (now ++ after)

-- the source did not fail, and memory did not run out
abbrev pub IsInside : Result (Option Message) WireFault → Type 0
IsInside (Ok m) = Unit {0}
IsInside (Err fault.Failed) = ⊥
IsInside (Err fault.Memory) = ⊥
IsInside (Err (fault.Bad n)) = Unit {0}
IsInside (Err (fault.TooLong n)) = Unit {0}
IsInside (Err (fault.Cut n)) = Unit {0}

-- the same method, target, fields and body, and the connection ends after both or after neither
pub record SameMessage (m q : Message) : Type 0 where
  pub method : m.method ≡ q.method
  pub target : m.target ≡ q.target
  pub fields : m.fields.items ≡ q.fields.items
  pub body : m.body ≡ q.body
  pub close : m.close ≡ q.close

-- the same fault and number; where no head ends within the limit, the number says how many bytes were read
abbrev pub SameFault : List ℕ → WireFault → WireFault → Type 0
SameFault all fault.Failed f = ⊥
SameFault all fault.Memory f = ⊥
SameFault all (fault.Bad n) fault.Failed = ⊥
SameFault all (fault.Bad n) fault.Memory = ⊥
SameFault all (fault.Bad n) (fault.Bad k) = n ≡ k
SameFault all (fault.Bad n) (fault.TooLong k) = ⊥
SameFault all (fault.Bad n) (fault.Cut k) = ⊥
SameFault all (fault.TooLong n) fault.Failed = ⊥
SameFault all (fault.TooLong n) fault.Memory = ⊥
SameFault all (fault.TooLong n) (fault.Bad k) = ⊥
SameFault all (fault.TooLong n) (fault.TooLong k) = (n ≡ k) ⊎ NoEmptyLine all 0 16384
SameFault all (fault.TooLong n) (fault.Cut k) = ⊥
SameFault all (fault.Cut n) fault.Failed = ⊥
SameFault all (fault.Cut n) fault.Memory = ⊥
SameFault all (fault.Cut n) (fault.Bad k) = ⊥
SameFault all (fault.Cut n) (fault.TooLong k) = ⊥
SameFault all (fault.Cut n) (fault.Cut k) = n ≡ k

-- the same answer
abbrev pub SameAnswer : List ℕ → Result (Option Message) WireFault → Result (Option Message) WireFault → Type 0
SameAnswer all (Ok None) (Ok None) = Unit {0}
SameAnswer all (Ok None) (Ok (Some q)) = ⊥
SameAnswer all (Ok None) (Err f) = ⊥
SameAnswer all (Ok (Some m)) (Ok None) = ⊥
SameAnswer all (Ok (Some m)) (Ok (Some q)) = SameMessage m q
SameAnswer all (Ok (Some m)) (Err f) = ⊥
SameAnswer all (Err e) (Ok q) = ⊥
SameAnswer all (Err e) (Err f) = SameFault all e f

-- the same bytes give one answer and leave one rest, but for a source that failed and for memory
abbrev pub OneAnswer : Type 0
OneAnswer =
    (all rest left : List ℕ) (first second : Result (Option Message) WireFault)
    → IsInside first → IsInside second → GivesMessage all first rest → GivesMessage all second left
    → SameAnswer all first second × (rest ≡ left)
