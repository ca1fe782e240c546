-- The example is read exactly.
use Rattle.std.proofs.Common.{ℕ, Bool, false, refl, ap, ◌∙◌}
use Rattle.exact_read.specs.Exact.{IsExact, Token}
use Rattle.exact_read.specs.Parse.{sees, one}
use Rattle.exact_read.specs.Digits.{is_digit, AreDigits, read_digits}
use Rattle.exact_read.proofs.Exact.{one_is_exact, many_is_exact}

nothing : ℕ → Bool
nothing b = false

-- each item is one digit, which nothing lengthens; a byte that is no digit ends them
pub digits_exact : IsExact is_digit read_digits AreDigits
unfolding nothing
digits_exact = many_is_exact nothing is_digit is_digit (one tt is_digit) (Token is_digit) (one_is_exact tt nothing is_digit 48 refl) (λ b used is. ap (sees is_digit) is.1 ∙ is.0) (λ b is. refl) (λ b is. refl) (λ b is. is)
