use Rattle.std.proofs.Common.{◌≡◌, ◌+◌, ◌≤◌, ◌++◌, vec_len, vec_capacity}
use Rattle.std.specs.VecDeque.{deque_len}
use Rattle.cache_seam.specs.Hand.{permits_of}
use Rattle.piece_fetch.specs.Fetching.{slots_of}
use Rattle.piece_fetch.proofs.slots.divide.Given as goal

-- what is parted so far and what is left are the whole
abbrev pub invariant-dividing : goal.invariant-dividing
invariant-dividing l = record {
  slots : l.slots.items ++ slots_of l.answers.items ≡ slots_of l.fn.answers.items;
  permits : l.permits.items ++ permits_of l.answers.items ≡ permits_of l.fn.answers.items;
  room_for_slots : vec_len l.slots + deque_len l.answers ≤ vec_capacity l.slots;
  room_for_permits : vec_len l.permits + deque_len l.answers ≤ vec_capacity l.permits;
}

abbrev pub decreases-dividing : goal.decreases-dividing
decreases-dividing l = deque_len l.answers
