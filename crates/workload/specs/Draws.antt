-- The numbers that are drawn.
use Rattle.std.specs.Prelude.{ℕ, ◌+◌, ◌*◌, ◌/◌, ◌%◌}
use Rattle.std.proofs.Common.{zero, suc}

-- a linear congruential generator, with its modulus 2 ^ 31
abbrev pub generated_after : ℕ → ℕ
generated_after n = (1103515245 * n + 12345) % 2147483648

unfoldable pub generated : ℕ → ℕ
generated zero = 1
generated (suc k) = generated_after (generated k)

-- what step k draws, from 1 on
abbrev pub drawn_at : ℕ → ℕ
drawn_at k = generated k / 65536

-- the moment of step k, in milliseconds
abbrev pub moment_of : ℕ → ℕ
moment_of k = 100 * k
