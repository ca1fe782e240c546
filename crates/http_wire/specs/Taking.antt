-- What a read takes from the bytes that are kept and the bytes of the source.
use Rattle.std.specs.Prelude.{◌≡◌, ◌≢◌, ℕ, ◌<◌, ◌≤◌, Bool, true, false, List, [], ◌++◌, length, Option, Some, None, Result, Ok, Err}
use Rattle.std.specs.Io.KnownBytes.{Consumes, IsAtEnd}
use Rattle.flow_base.specs.Causes.{Rose}
use Rattle.http_wire.specs.declared.faults.WireFault.{WireFault}
use Rattle.http_wire.specs.declared.faults.WireFault.TheVariants as fault
use Rattle.http_wire.specs.EmptyLine.{IsHeadLength, NoEmptyLine}

-- what was kept and what the source gave since are these bytes and then what is kept now
pub record Uses (kept now : List ℕ) (left after : Option (List ℕ)) (used : List ℕ) : Type 0 where
  pub given : List ℕ
  pub consumed : Consumes left after given
  pub whole : kept ++ given ≡ used ++ now

-- so many more bytes are kept, and none only at the end
pub record Fills (kept now : List ℕ) (left after : Option (List ℕ)) (count : ℕ) : Type 0 where
  pub given : List ℕ
  pub consumed : Consumes left after given
  pub whole : now ≡ kept ++ given
  pub counted : length given ≡ count
  pub ended : count ≡ 0 → IsAtEnd after

abbrev pub FillsBut : WireFault → List ℕ → List ℕ → Option (List ℕ) → Option (List ℕ) → ℕ → ℕ → Type 0
FillsBut fault.Failed kept now left after before count = Uses kept now left after [] × Rose before count
FillsBut fault.Memory kept now left after before count = Uses kept now left after []
FillsBut (fault.Bad n) kept now left after before count = ⊥
FillsBut (fault.TooLong n) kept now left after before count = ⊥
FillsBut (fault.Cut n) kept now left after before count = ⊥

-- what keeping one more piece does; a fault leaves all that there was
abbrev pub FillsOr : List ℕ → List ℕ → Option (List ℕ) → Option (List ℕ) → ℕ → ℕ → Result ℕ WireFault → Type 0
FillsOr kept now left after before count (Ok n) = Fills kept now left after n
FillsOr kept now left after before count (Err e) = FillsBut e kept now left after before count

-- the bytes that are kept now are what was kept and what came since, and nothing follows
pub record KeepsAll (kept now : List ℕ) (left after : Option (List ℕ)) : Type 0 where
  pub used : Uses kept now left after []
  pub ended : IsAtEnd after

abbrev pub GathersBut : WireFault → List ℕ → List ℕ → Option (List ℕ) → Option (List ℕ) → ℕ → ℕ → Type 0
GathersBut fault.Failed kept now left after before count = Uses kept now left after [] × Rose before count
GathersBut fault.Memory kept now left after before count = Uses kept now left after []
GathersBut (fault.Bad n) kept now left after before count = ⊥
GathersBut (fault.TooLong n) kept now left after before count =
    Uses kept now left after [] × (n ≡ length now) × (16384 < n) × NoEmptyLine now 0 16384
GathersBut (fault.Cut n) kept now left after before count =
    KeepsAll kept now left after × (n ≡ length now) × (n ≢ 0) × (n ≤ 16384) × NoEmptyLine now 0 n

-- a whole head is kept, or the input ended with nothing kept, or it can't be had
abbrev pub Gathers : List ℕ → List ℕ → Option (List ℕ) → Option (List ℕ) → ℕ → ℕ → Result (Option ℕ) WireFault → Type 0
Gathers kept now left after before count (Ok (Some n)) =
    Uses kept now left after [] × (n ≤ 16384) × IsHeadLength now n
Gathers kept now left after before count (Ok None) = KeepsAll kept now left after × (now ≡ [])
Gathers kept now left after before count (Err e) = GathersBut e kept now left after before count

abbrev pub StopsShort : WireFault → ℕ → List ℕ → List ℕ → Option (List ℕ) → Option (List ℕ) → ℕ → ℕ → Type 0
StopsShort fault.Failed want kept now left after before count = Uses kept now left after [] × Rose before count
StopsShort fault.Memory want kept now left after before count = Uses kept now left after []
StopsShort (fault.Bad n) want kept now left after before count = ⊥
StopsShort (fault.TooLong n) want kept now left after before count = ⊥
StopsShort (fault.Cut n) want kept now left after before count =
    KeepsAll kept now left after × (n ≡ length now) × (n < want)

-- so many bytes are kept, or they can't be had
abbrev pub GathersTo : ℕ → List ℕ → List ℕ → Option (List ℕ) → Option (List ℕ) → ℕ → ℕ → Result (Unit {0}) WireFault → Type 0
GathersTo want kept now left after before count (Ok u) = Uses kept now left after [] × (want ≤ length now)
GathersTo want kept now left after before count (Err e) = StopsShort e want kept now left after before count

-- more bytes are kept, or the input ended, or they can't be had
abbrev pub GathersMore : List ℕ → List ℕ → Option (List ℕ) → Option (List ℕ) → ℕ → ℕ → Result Bool WireFault → Type 0
GathersMore kept now left after before count (Ok ended) =
    Uses kept now left after [] × (length kept ≤ length now) × (ended ≡ false → length kept < length now) × (ended ≡ true → IsAtEnd after)
GathersMore kept now left after before count (Err e) = FillsBut e kept now left after before count
