-- The name of a permit: its epoch and its ticket.
use Rattle.std.specs.Prelude.{ℕ}
use Rattle.std.specs.declared.cmp.Ordering.{Ordering}
use Rattle.std.specs.Ordering.{nat_cmp, ordering_then}

-- the order of names: by epoch, and then by ticket
abbrev pub name_cmp : ℕ × ℕ → ℕ × ℕ → Ordering
name_cmp a b = ordering_then (nat_cmp a.0 b.0) (nat_cmp a.1 b.1)
