-- What each answer of the reader says of the text: the fault is the first from the left, and its place is this one.
use Rattle.std.specs.Prelude.{◌≡◌, ℕ, ◌+◌, ◌<◌, true, false, List, [], ◌∷◌, ◌++◌, take, length, codes, ◌⊎◌}
use Rattle.json_value.specs.declared.tree.Json.{Json}
use Rattle.json_value.specs.declared.fault.JsonFault.{JsonFault}
use Rattle.json_value.specs.declared.fault.JsonFault.TheVariants as faults
use Rattle.json_value.specs.Strings.{IsWide, IsUnit, is_high, is_low, Chars}
use Rattle.json_value.specs.Grammar.{Rules, strict, IsText, IsViable}

-- The rules under which faults are looked for: the escape of a low surrogate outside a pair counts as accepted until
-- its fourth digit is there.
abbrev pub lone : Rules
lone = record { depth = 64; distinct = true; cut = true }

-- with one level more
abbrev pub deeper : Rules
deeper = record { depth = 65; distinct = true; cut = true }

-- with names that are not distinct
abbrev pub any_names : Rules
any_names = record { depth = 64; distinct = false; cut = true }

-- byte q is the first that no text continues
pub record StopsAt (bytes : List ℕ) (q : ℕ) : Type 0 where
  pub within : q < length bytes
  pub before : IsViable lone (take q bytes)
  pub here : IsViable lone (take (q + 1) bytes) → ⊥

-- A character of a string may begin after these bytes: white space may follow them, and so may an escape.
abbrev pub InString : List ℕ → Type 0
InString front = IsViable lone (front ++ codes " ") × IsViable lone (front ++ (92 ∷ []))

-- A name may begin after these bytes: white space and the empty name with its colon may follow them.
abbrev pub AtName : List ℕ → Type 0
AtName front = IsViable any_names (front ++ codes " \"\":")

-- the bytes end within a character of several bytes, which begins at the place
pub record SequenceAt (place : ℕ) (front : List ℕ) : Type 0 where
  pub before : List ℕ
  pub first : ℕ
  pub others : List ℕ
  pub missing : ℕ
  pub more : List ℕ
  pub parts : front ≡ before ++ (first ∷ others)
  pub place_is : length before ≡ place
  pub is_wide : IsWide (first ∷ (others ++ (missing ∷ more)))

-- the bytes end after the escape of a high surrogate, which begins at the place, or within that of the low one after it
pub record HighAt (place : ℕ) (front : List ℕ) : Type 0 where
  pub before : List ℕ
  pub unit : ℕ
  pub digits : List ℕ
  pub others : List ℕ
  pub low : ℕ
  pub low_digits : List ℕ
  pub missing : ℕ
  pub more : List ℕ
  pub parts : front ≡ before ++ (92 ∷ (117 ∷ (digits ++ others)))
  pub place_is : length before ≡ place
  pub in_string : InString before
  pub is_unit : IsUnit unit digits
  pub high : is_high unit ≡ true
  pub is_low_unit : IsUnit low low_digits
  pub is_low_one : is_low low ≡ true
  pub begun : others ++ (missing ∷ more) ≡ 92 ∷ (117 ∷ low_digits)

-- the bytes end with the escape of a low surrogate, which begins at the place and is not one of a pair
pub record LowAt (place : ℕ) (front : List ℕ) : Type 0 where
  pub before : List ℕ
  pub unit : ℕ
  pub digits : List ℕ
  pub parts : front ≡ before ++ (92 ∷ (117 ∷ digits))
  pub place_is : length before ≡ place
  pub in_string : InString before
  pub is_unit : IsUnit unit digits
  pub low : is_low unit ≡ true

-- byte q is where the escape of a surrogate at the place is found to stand outside a pair
abbrev pub SurrogateAt : List ℕ → ℕ → ℕ → Type 0
SurrogateAt bytes q place = HighAt place (take q bytes) ⊎ LowAt place (take (q + 1) bytes)

-- the bytes end with a whole name, whose opening quote stands at the place
pub record NameAt (place : ℕ) (front : List ℕ) : Type 0 where
  pub before : List ℕ
  pub name : List ℕ
  pub spelled : List ℕ
  pub parts : front ≡ before ++ (34 ∷ spelled)
  pub place_is : length before ≡ place
  pub at_name : AtName before
  pub is_name : Chars true name spelled

-- no rule of this project refuses byte q
pub record NoRule (bytes : List ℕ) (q : ℕ) : Type 0 where
  pub depth : IsViable deeper (take (q + 1) bytes) → ⊥
  pub names : IsViable any_names (take (q + 1) bytes) → ⊥
  pub surrogates : (place : ℕ) → SurrogateAt bytes q place → ⊥

-- the first byte of the character that byte q breaks, or else q
abbrev pub MalformedAt : List ℕ → ℕ → ℕ → Type 0
MalformedAt bytes q p = SequenceAt p (take q bytes) ⊎ ((p ≡ q) × ((place : ℕ) → SequenceAt place (take q bytes) → ⊥))

abbrev pub Explains : List ℕ → JsonFault → Type 0
Explains bytes faults.Memory = Unit {0}
Explains bytes (faults.Syntax p) = (q : ℕ) × StopsAt bytes q × NoRule bytes q × MalformedAt bytes q p
Explains bytes faults.Ended = IsViable lone bytes × ((v : Json) → IsText strict v bytes → ⊥)
Explains bytes (faults.Deep p) = StopsAt bytes p × IsViable deeper (take (p + 1) bytes)
Explains bytes (faults.Twice p) = (q : ℕ) × StopsAt bytes q × IsViable any_names (take (q + 1) bytes) × NameAt p (take (q + 1) bytes)
Explains bytes (faults.Surrogate p) = (q : ℕ) × StopsAt bytes q × SurrogateAt bytes q p
