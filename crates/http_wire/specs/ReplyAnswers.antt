-- What the bytes that a source has left give, where a reply is read from them.
use Rattle.std.specs.Prelude.{◌≡◌, ◌⊎◌, ℕ, List, Some, Result, Ok, Err}
use Rattle.cache_terms.specs.declared.events.Reply.{Reply}
use Rattle.http_wire.specs.declared.faults.WireFault.{WireFault}
use Rattle.http_wire.specs.declared.faults.WireFault.TheVariants as fault
use Rattle.http_wire.specs.declared.framing.Framing.{Framing}
use Rattle.http_wire.specs.declared.framing.Framing.TheVariants as framing
use Rattle.http_wire.specs.declared.reply_head.ReplyHead.{ReplyHead}
use Rattle.http_wire.specs.EmptyLine.{NoEmptyLine}
use Rattle.http_wire.specs.Replies.{BeginsReply, ReplyOr}

-- a read from a source that has these bytes left may answer so
abbrev pub MayAnswer : List ℕ → Result Reply WireFault → Type 0
MayAnswer all answer =
    (after : List ℕ) × (before : ℕ) × (count : ℕ) × ReplyOr (Some all) (Some after) before count answer

-- the source did not fail, and memory did not run out
abbrev pub IsSettled : Result Reply WireFault → Type 0
IsSettled (Ok reply) = Unit {0}
IsSettled (Err fault.Failed) = ⊥
IsSettled (Err fault.Memory) = ⊥
IsSettled (Err (fault.Bad n)) = Unit {0}
IsSettled (Err (fault.TooLong n)) = Unit {0}
IsSettled (Err (fault.Cut n)) = Unit {0}

-- the head does not declare the body's length
abbrev pub IsUndeclared : Framing → Type 0
IsUndeclared (framing.Length n) = ⊥
IsUndeclared framing.Chunked = Unit {0}
IsUndeclared framing.ToEnd = Unit {0}

-- the bytes begin with an accepted head that does not declare the body's length
abbrev pub HasOpenBody : List ℕ → Type 0
HasOpenBody all = (k : ℕ) × (h : ReplyHead) × BeginsReply all k h × IsUndeclared h.framing

-- the same status, texts and body
pub record SameReply (m q : Reply) : Type 0 where
  pub status : m.status ≡ q.status
  pub cache_control : m.cache_control ≡ q.cache_control
  pub age : m.age ≡ q.age
  pub body : m.body ≡ q.body

-- the same fault and number; the number of bytes that were taken depends on the pieces in a body of no declared
-- length, and where no head ends within its limit
abbrev pub SameReplyFault : List ℕ → WireFault → WireFault → Type 0
SameReplyFault all (fault.Bad n) (fault.Bad k) = (n ≡ k) ⊎ HasOpenBody all
SameReplyFault all (fault.TooLong n) (fault.TooLong k) = (n ≡ k) ⊎ (NoEmptyLine all 0 16384 ⊎ HasOpenBody all)
SameReplyFault all (fault.Cut n) (fault.Cut k) = n ≡ k
SameReplyFault all e f = ⊥

-- the same answer
abbrev pub SameReplyAnswer : List ℕ → Result Reply WireFault → Result Reply WireFault → Type 0
SameReplyAnswer all (Ok m) (Ok q) = SameReply m q
SameReplyAnswer all (Err e) (Err f) = SameReplyFault all e f
SameReplyAnswer all (Ok m) (Err f) = ⊥
SameReplyAnswer all (Err e) (Ok q) = ⊥

-- the same bytes give one answer, but for a source that failed and for memory
abbrev pub OneReply : Type 0
OneReply =
    (all : List ℕ) (first second : Result Reply WireFault)
    → IsSettled first → IsSettled second → MayAnswer all first → MayAnswer all second → SameReplyAnswer all first second
