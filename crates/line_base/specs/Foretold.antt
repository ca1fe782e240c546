-- What a line will answer, where that is told: the entries that are unused.
use Rattle.std.specs.Prelude.{◌≡◌, ℕ, ◌==◌, if◌then◌else◌, List, [], ◌∷◌, Option, Some, None, Result, Ok, Err}
use Rattle.cache_terms.specs.declared.events.Reply.{Reply}
use Rattle.line_base.specs.declared.line.Call as calls
use Rattle.line_base.specs.declared.line.LineFault.{LineFault}
use Rattle.line_base.specs.declared.line.LineFault.TheVariants as fault
use Rattle.line_base.specs.declared.script.Scripted.{Scripted}

abbrev pub answer_told : Option Reply → Result Reply LineFault
answer_told None = Err fault.Failed
answer_told (Some reply) = Ok reply

-- what the first entry of the subgraph answers; none in it, or no entry of the subgraph, is no answer
abbrev pub answer_for : ℕ → List Scripted → Option Reply
answer_for sub [] = None
answer_for sub (s ∷ ss) = if s.sub == sub then s.reply else answer_for sub ss

-- the entries without that one, which stand as before
abbrev pub left_for : ℕ → List Scripted → List Scripted
left_for sub [] = []
left_for sub (s ∷ ss) = if s.sub == sub then ss else s ∷ left_for sub ss

-- the answer is that of the first entry of the call's subgraph, which is used
pub record UsesFirst (old : List Scripted) (call : calls.Call) (answer : Result Reply LineFault) (new : Option (List Scripted)) : Type 0 where
  pub answer_is : answer ≡ answer_told (answer_for call.sub old)
  pub left : new ≡ Some (left_for call.sub old)

-- THE ANSWER IS FORETOLD, where answers are: it is that of the first entry, or memory ran out and none is used
abbrev pub IsForetold : Option (List Scripted) → calls.Call → Result Reply LineFault → Option (List Scripted) → Type 0
IsForetold None call answer new = new ≡ None
IsForetold (Some ss) call (Ok reply) new = UsesFirst ss call (Ok reply) new
IsForetold (Some ss) call (Err fault.Failed) new = UsesFirst ss call (Err fault.Failed) new
IsForetold (Some ss) call (Err (fault.TooLong n)) new = UsesFirst ss call (Err (fault.TooLong n)) new
IsForetold (Some ss) call (Err fault.Memory) new = new ≡ Some ss
