-- A number byte by byte.
use Rattle.std.specs.Prelude.{ℕ, Bool, true, false, ◌||◌, ◌==◌, if◌then◌else◌, Option, Some, None}
use Rattle.json_machine.specs.declared.begun.Digit.{Digit}
use Rattle.json_machine.specs.declared.begun.Digit.TheVariants as d
use Rattle.json_value.specs.Numbers.{is_digit, is_e}

-- what a number begins with
abbrev pub number_start : ℕ → Option Digit
number_start b = if b == 45 then Some d.Minus else (if b == 48 then Some d.Zero else (if is_digit b then Some d.Whole else None))

-- what the next byte of a number is, after what was read last
abbrev pub number_next : Digit → ℕ → Option Digit
number_next d.Minus b = if b == 48 then Some d.Zero else (if is_digit b then Some d.Whole else None)
number_next d.Zero b = if b == 46 then Some d.Dot else (if is_e b then Some d.E else None)
number_next d.Whole b = if is_digit b then Some d.Whole else (if b == 46 then Some d.Dot else (if is_e b then Some d.E else None))
number_next d.Dot b = if is_digit b then Some d.Fraction else None
number_next d.Fraction b = if is_digit b then Some d.Fraction else (if is_e b then Some d.E else None)
number_next d.E b = if b == 43 || b == 45 then Some d.Sign else (if is_digit b then Some d.Exponent else None)
number_next d.Sign b = if is_digit b then Some d.Exponent else None
number_next d.Exponent b = if is_digit b then Some d.Exponent else None

abbrev pub may_end : Digit → Bool
may_end d.Zero = true
may_end d.Whole = true
may_end d.Fraction = true
may_end d.Exponent = true
may_end _ = false
