-- The texts of numbers (RFC 8259, section 6).
use Rattle.std.specs.Prelude.{◌≡◌, ℕ, Bool, true, ◌||◌, ◌&&◌, ◌==◌, nat_le, List, [], ◌∷◌, ◌++◌}

-- DIGIT = %x30-39
abbrev pub is_digit : ℕ → Bool
is_digit b = nat_le 48 b && nat_le b 57

-- digit1-9 = %x31-39
abbrev pub is_digit_1_9 : ℕ → Bool
is_digit_1_9 b = nat_le 49 b && nat_le b 57

-- e = %x65 / %x45
abbrev pub is_e : ℕ → Bool
is_e b = b == 101 || b == 69

-- *DIGIT
abbrev pub AreDigits : List ℕ → Type 0
AreDigits [] = Unit {0}
AreDigits (b ∷ bs) = (is_digit b ≡ true) × AreDigits bs

-- minus, or nothing
pub data IsMinus : List ℕ → Type 0 where
  positive : IsMinus []
  minus : IsMinus (45 ∷ [])

-- int = zero / ( digit1-9 *DIGIT )
pub data IsInt : List ℕ → Type 0 where
  zero : IsInt (48 ∷ [])
  digits : (b : ℕ) (bs : List ℕ) → is_digit_1_9 b ≡ true → AreDigits bs → IsInt (b ∷ bs)

-- frac = decimal-point 1*DIGIT, or nothing
pub data IsFrac : List ℕ → Type 0 where
  no_frac : IsFrac []
  frac : (b : ℕ) (bs : List ℕ) → is_digit b ≡ true → AreDigits bs → IsFrac (46 ∷ (b ∷ bs))

-- exp = e [ minus / plus ] 1*DIGIT, or nothing
pub data IsExp : List ℕ → Type 0 where
  no_exp : IsExp []
  exp : (e b : ℕ) (bs : List ℕ) → is_e e ≡ true → is_digit b ≡ true → AreDigits bs → IsExp (e ∷ (b ∷ bs))
  signed_exp : (e sign b : ℕ) (bs : List ℕ) → is_e e ≡ true → (sign == 45 || sign == 43) ≡ true → is_digit b ≡ true → AreDigits bs → IsExp (e ∷ (sign ∷ (b ∷ bs)))

-- number = [ minus ] int [ frac ] [ exp ]
pub data IsNumber : List ℕ → Type 0 where
  number : (m i f e : List ℕ) → IsMinus m → IsInt i → IsFrac f → IsExp e → IsNumber (m ++ (i ++ (f ++ e)))
