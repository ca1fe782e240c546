-- An example: texts of digits, and their parser.
use Rattle.std.specs.Prelude.{ℕ, Bool, ◌&&◌, nat_le, List}
use Rattle.exact_read.specs.Exact.{Token, Each}
use Rattle.exact_read.specs.Parse.{Parser, one, many}

abbrev pub is_digit : ℕ → Bool
is_digit b = nat_le 48 b && nat_le b 57

-- the grammar: digit after digit
abbrev pub AreDigits : List ℕ → List ℕ → Type 0
AreDigits = Each (Token is_digit)

abbrev pub read_digits : Parser ℕ (Unit {0}) (List ℕ)
read_digits = many is_digit (one tt is_digit)
