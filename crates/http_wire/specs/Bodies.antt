-- The body of a reply: what its framing makes of the bytes after the head.
use Rattle.std.specs.Prelude.{◌≡◌, ℕ, ◌+◌, ◌<◌, ◌≤◌, Bool, List, [], ◌++◌, length, take, drop, Option, Result, Ok, Err}
use Rattle.std.specs.Io.KnownBytes.{IsAtEnd}
use Rattle.flow_base.specs.Causes.{Rose}
use Rattle.http_wire.specs.declared.faults.WireFault.{WireFault}
use Rattle.http_wire.specs.declared.faults.WireFault.TheVariants as fault
use Rattle.http_wire.specs.declared.framing.Framing.{Framing}
use Rattle.http_wire.specs.declared.framing.Framing.TheVariants as framing
use Rattle.http_wire.specs.Chunks.{ReadsChunks, AreUnfinishedChunks}
use Rattle.http_wire.specs.Taking.{Uses, KeepsAll, GathersMore}

-- these bytes are the body, framed so, and then the rest
abbrev pub ReadsBody : Framing → List ℕ → List ℕ → List ℕ → Type 0
ReadsBody (framing.Length n) bytes body rest = (bytes ≡ body ++ rest) × (length body ≡ n)
ReadsBody framing.Chunked bytes body rest = ReadsChunks bytes body rest
ReadsBody framing.ToEnd bytes body rest = (bytes ≡ body) × (rest ≡ [])

-- a body that goes to the end of the input is whole only there
abbrev pub EndsWell : Framing → Option (List ℕ) → Type 0
EndsWell (framing.Length n) after = Unit {0}
EndsWell framing.Chunked after = Unit {0}
EndsWell framing.ToEnd after = IsAtEnd after

-- the bytes begin with this body, which ends within 4194304 bytes
pub record HasBody (f : Framing) (bytes body : List ℕ) (after : Option (List ℕ)) : Type 0 where
  pub rest : List ℕ
  pub reads : ReadsBody f bytes body rest
  pub within : length bytes ≤ 4194304 + length rest
  pub ended : EndsWell f after

-- whatever follows the first 4194304 bytes, they begin with no body
abbrev pub IsBadBody : Framing → List ℕ → Type 0
IsBadBody f bytes = (more body rest : List ℕ) → ¬ (ReadsBody f (take 4194304 bytes ++ more) body rest)

-- the declared length is above 4194304, or so many bytes came, and of them that many are an unfinished body
abbrev pub IsLongBody : Framing → List ℕ → ℕ → Type 0
IsLongBody (framing.Length m) bytes n = (n ≡ m) × (4194304 < n)
IsLongBody framing.Chunked bytes n = (n ≡ length bytes) × (4194304 < n) × AreUnfinishedChunks (take 4194304 bytes)
IsLongBody framing.ToEnd bytes n = (n ≡ length bytes) × (4194304 < n)

-- the bytes are less than a body, and can become one
abbrev pub IsShortBody : Framing → List ℕ → Type 0
IsShortBody (framing.Length m) bytes = (length bytes < m) × (m ≤ 4194304)
IsShortBody framing.Chunked bytes = (length bytes ≤ 4194304) × AreUnfinishedChunks bytes
IsShortBody framing.ToEnd bytes = ⊥

abbrev pub BodyBut : WireFault → Framing → ℕ → List ℕ → List ℕ → Option (List ℕ) → Option (List ℕ) → ℕ → ℕ → Type 0
BodyBut fault.Failed f head kept now left after before count = Uses kept now left after [] × Rose before count
BodyBut fault.Memory f head kept now left after before count = Uses kept now left after []
BodyBut (fault.Bad n) f head kept now left after before count = Uses kept now left after [] × (n ≡ length now) × IsBadBody f (drop head now)
BodyBut (fault.TooLong n) f head kept now left after before count = Uses kept now left after [] × IsLongBody f (drop head now) n
BodyBut (fault.Cut n) f head kept now left after before count = KeepsAll kept now left after × (n ≡ length now) × IsShortBody f (drop head now)

-- the body that stands after the head, or why there is none
abbrev pub BodyOr : Framing → ℕ → List ℕ → List ℕ → Option (List ℕ) → Option (List ℕ) → ℕ → ℕ → Result (List ℕ) WireFault → Type 0
BodyOr f head kept now left after before count (Ok body) = Uses kept now left after [] × HasBody f (drop head now) body after
BodyOr f head kept now left after before count (Err e) = BodyBut e f head kept now left after before count

-- more of a chunked body is kept, or the input ended, or it can't be had
abbrev pub GoesOnOr : ℕ → List ℕ → List ℕ → Option (List ℕ) → Option (List ℕ) → ℕ → ℕ → Result Bool WireFault → Type 0
GoesOnOr head kept now left after before count (Ok ended) = GathersMore kept now left after before count (Ok ended)
GoesOnOr head kept now left after before count (Err e) = BodyBut e framing.Chunked head kept now left after before count
