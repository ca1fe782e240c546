-- Which reply or fault the bytes of a connection to a subgraph give.
use Rattle.std.specs.Prelude.{◌≡◌, ◌⊎◌, ℕ, ◌<◌, ◌≤◌, List, length, take, drop, Option, Result, Ok, Err}
use Rattle.std.specs.Io.KnownBytes.{Consumes, IsAtEnd}
use Rattle.flow_base.specs.Causes.{Rose}
use Rattle.cache_terms.specs.declared.events.Reply.{Reply}
use Rattle.http_wire.specs.declared.faults.WireFault.{WireFault}
use Rattle.http_wire.specs.declared.faults.WireFault.TheVariants as fault
use Rattle.http_wire.specs.declared.reply_head.ReplyHead.{ReplyHead}
use Rattle.http_wire.specs.EmptyLine.{IsHeadLength, NoEmptyLine}
use Rattle.http_wire.specs.Framings.{OpensReply}
use Rattle.http_wire.specs.Bodies.{HasBody, IsBadBody, IsLongBody, IsShortBody}

-- the bytes begin with a head of n bytes that says this
pub record BeginsReply (bytes : List ℕ) (n : ℕ) (h : ReplyHead) : Type 0 where
  pub head : IsHeadLength bytes n
  pub short : n ≤ 16384
  pub opens : OpensReply (take n bytes) h

-- the reply says what this head says
pub record IsReplyOf (reply : Reply) (h : ReplyHead) : Type 0 where
  pub status : reply.status ≡ h.status
  pub cache_control : reply.cache_control ≡ h.cache_control
  pub age : reply.age ≡ h.age

-- the bytes begin with this reply: an accepted head, and a body framed as it says
pub record IsReply (bytes : List ℕ) (reply : Reply) (after : Option (List ℕ)) : Type 0 where
  pub n : ℕ
  pub h : ReplyHead
  pub begins : BeginsReply bytes n h
  pub answers : IsReplyOf reply h
  pub body : HasBody h.framing (drop n bytes) reply.body after

-- the first head of these bytes, of n bytes, is no accepted one, or no body can follow it, whatever comes
abbrev pub IsBadReply : List ℕ → ℕ → Type 0
IsBadReply bytes n =
    (IsHeadLength bytes n × (n ≤ 16384) × ((h : ReplyHead) → ¬ (OpensReply (take n bytes) h)))
    ⊎ ((k : ℕ) × (h : ReplyHead) × BeginsReply bytes k h × (n ≡ length bytes) × IsBadBody h.framing (drop k bytes))

-- no head ends in the first 16384 of more bytes, or the body is too long
abbrev pub IsLongReply : List ℕ → ℕ → Type 0
IsLongReply bytes n =
    ((n ≡ length bytes) × (16384 < n) × NoEmptyLine bytes 0 16384)
    ⊎ ((k : ℕ) × (h : ReplyHead) × BeginsReply bytes k h × IsLongBody h.framing (drop k bytes) n)

-- the bytes are the front of a head, which may be nothing, or an accepted head and less than its body
abbrev pub IsShortReply : List ℕ → Type 0
IsShortReply bytes =
    ((length bytes ≤ 16384) × NoEmptyLine bytes 0 (length bytes))
    ⊎ ((k : ℕ) × (h : ReplyHead) × BeginsReply bytes k h × IsShortBody h.framing (drop k bytes))

abbrev pub ReplyBut : WireFault → List ℕ → Option (List ℕ) → ℕ → ℕ → Type 0
ReplyBut fault.Failed taken after before count = Rose before count
ReplyBut fault.Memory taken after before count = Unit {0}
ReplyBut (fault.Bad n) taken after before count = IsBadReply taken n
ReplyBut (fault.TooLong n) taken after before count = IsLongReply taken n
ReplyBut (fault.Cut n) taken after before count = IsAtEnd after × (n ≡ length taken) × IsShortReply taken

-- the reply that the bytes begin with that were taken, or why there is none
abbrev pub ReplyOr : Option (List ℕ) → Option (List ℕ) → ℕ → ℕ → Result Reply WireFault → Type 0
ReplyOr left after before count (Ok reply) = (taken : List ℕ) × Consumes left after taken × IsReply taken reply after
ReplyOr left after before count (Err e) = (taken : List ℕ) × Consumes left after taken × ReplyBut e taken after before count
