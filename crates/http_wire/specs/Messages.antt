-- Which message or fault the bytes of a connection give.
use Rattle.std.specs.Prelude.{◌≡◌, ◌≢◌, ◌⊎◌, ℕ, ◌+◌, ◌<◌, ◌≤◌, List, [], ◌++◌, length, take, Option, Some, None, Result, Ok, Err}
use Rattle.flow_base.specs.Causes.{Rose}
use Rattle.http_wire.specs.declared.faults.WireFault.{WireFault}
use Rattle.http_wire.specs.declared.faults.WireFault.TheVariants as fault
use Rattle.http_wire.specs.declared.message.Message.{Message}
use Rattle.http_wire.specs.EmptyLine.{IsHeadLength, NoEmptyLine}
use Rattle.http_wire.specs.Heads.{HeadSays, Opens}
use Rattle.http_wire.specs.Taking.{Uses, KeepsAll}

-- the bytes begin with a head of n bytes that says this
pub record BeginsWith (bytes : List ℕ) (n : ℕ) (o : HeadSays) : Type 0 where
  pub head : IsHeadLength bytes n
  pub short : n ≤ 16384
  pub opens : Opens (take n bytes) o

-- the message is the one that this head and this body make
pub record IsMessageOf (m : Message) (o : HeadSays) : Type 0 where
  pub method : m.method ≡ o.method
  pub target : m.target ≡ o.target
  pub fields : m.fields.items ≡ o.fields
  pub close : m.close ≡ o.close

-- these bytes are the message: an accepted head, and a body of the declared length
pub record IsMessage (bytes : List ℕ) (m : Message) : Type 0 where
  pub n : ℕ
  pub o : HeadSays
  pub begins : BeginsWith bytes n o
  pub carries : IsMessageOf m o
  pub whole : bytes ≡ take n bytes ++ m.body
  pub declared : o.length ≡ length m.body
  pub within : o.length ≤ 1048576

-- the first head of these bytes, of n bytes, is no accepted one
pub record IsBadHead (bytes : List ℕ) (n : ℕ) : Type 0 where
  pub head : IsHeadLength bytes n
  pub short : n ≤ 16384
  pub refused : (o : HeadSays) → ¬ (Opens (take n bytes) o)

-- no head ends in the first 16384 of more bytes, or an accepted head declares more than 1048576
abbrev pub HeadIsTooLong : List ℕ → ℕ → Type 0
HeadIsTooLong bytes n =
    ((n ≡ length bytes) × (16384 < n) × NoEmptyLine bytes 0 16384)
    ⊎ ((k : ℕ) × (o : HeadSays) × BeginsWith bytes k o × (n ≡ o.length) × (1048576 < n))

-- the bytes are the front of a head, or an accepted head and less than its body
abbrev pub IsUnfinished : List ℕ → Type 0
IsUnfinished bytes =
    ((length bytes ≢ 0) × (length bytes ≤ 16384) × NoEmptyLine bytes 0 (length bytes))
    ⊎ ((k : ℕ) × (o : HeadSays) × BeginsWith bytes k o × (o.length ≤ 1048576) × (length bytes < k + o.length))

abbrev pub ReadsBut : WireFault → List ℕ → List ℕ → Option (List ℕ) → Option (List ℕ) → ℕ → ℕ → Type 0
ReadsBut fault.Failed kept now left after before count = Uses kept now left after [] × Rose before count
ReadsBut fault.Memory kept now left after before count = Uses kept now left after []
ReadsBut (fault.Bad n) kept now left after before count = Uses kept now left after [] × IsBadHead now n
ReadsBut (fault.TooLong n) kept now left after before count = Uses kept now left after [] × HeadIsTooLong now n
ReadsBut (fault.Cut n) kept now left after before count = KeepsAll kept now left after × (n ≡ length now) × IsUnfinished now

-- the message that was used, or none at the end, or what the bytes are instead
abbrev pub ReadsMessage : List ℕ → List ℕ → Option (List ℕ) → Option (List ℕ) → ℕ → ℕ → Result (Option Message) WireFault → Type 0
ReadsMessage kept now left after before count (Ok (Some m)) = (used : List ℕ) × Uses kept now left after used × IsMessage used m
ReadsMessage kept now left after before count (Ok None) = KeepsAll kept now left after × (now ≡ [])
ReadsMessage kept now left after before count (Err e) = ReadsBut e kept now left after before count
