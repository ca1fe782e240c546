-- What may still come of a number or a string that is begun.
use Rattle.std.specs.Prelude.{◌≡◌, ℕ, Bool, true, false, List, [], ◌∷◌, ◌++◌, Some, ◌⊎◌, encode_utf8}
use Rattle.json_machine.specs.declared.begun.Digit.{Digit}
use Rattle.json_machine.specs.Part.{Part}
use Rattle.json_machine.specs.Part as p
use Rattle.json_machine.specs.declared.begun.Tail.{Tail}
use Rattle.json_machine.specs.declared.begun.Tail.TheVariants as tails
use Rattle.json_machine.specs.Quad.{Quad}
use Rattle.json_machine.specs.Quad as q
use Rattle.json_value.specs.Strings.{within, hex_digit, is_high, is_low, join, four_digits, Chars}
use Rattle.json_machine.specs.Numbers.{number_next, may_end}

-- the bytes complete a number, after what was read of it
abbrev pub CompletesNumber : Digit → List ℕ → Type 0
CompletesNumber part [] = may_end part ≡ true
CompletesNumber part (b ∷ bs) = (next : Digit) × (number_next part b ≡ Some next) × CompletesNumber next bs

pub record OneByte (low high : ℕ) (K : List ℕ → List ℕ → Type 0) (u w : List ℕ) : Type 0 where
  pub byte : ℕ
  pub others : List ℕ
  pub after : List ℕ
  pub made : u ≡ byte ∷ others
  pub parts : w ≡ byte ∷ after
  pub is : within low high byte ≡ true
  pub onward : K others after

abbrev pub EndsValue : List ℕ → List ℕ → List ℕ → Type 0
EndsValue l u w = (u ≡ []) × (w ≡ l)

-- w begins with the rest u of a character, and l follows
abbrev pub Tails : Tail → List ℕ → List ℕ → List ℕ → Type 0
Tails (tails.One low high) l u w = OneByte low high (EndsValue l) u w
Tails (tails.Two low high) l u w = OneByte low high (OneByte 128 191 (EndsValue l)) u w
Tails (tails.Three low high) l u w = OneByte low high (OneByte 128 191 (OneByte 128 191 (EndsValue l))) u w

-- w begins with a hexadecimal digit, and after it K holds
pub record OneDigit (K : ℕ → List ℕ → Type 0) (w : List ℕ) : Type 0 where
  pub byte : ℕ
  pub value : ℕ
  pub after : List ℕ
  pub parts : w ≡ byte ∷ after
  pub is : hex_digit byte ≡ Some value
  pub onward : K value after

-- after some digits of the unit u, w begins with the others, and l folcut
abbrev pub Digits : Quad → ℕ → List ℕ → List ℕ → Type 0
Digits (q.Three a b c) u l w = OneDigit (λ d rest. (four_digits a b c d ≡ u) × (rest ≡ l)) w
Digits (q.Two a b) u l w = OneDigit (λ c. OneDigit (λ d rest. (four_digits a b c d ≡ u) × (rest ≡ l))) w
Digits (q.One a) u l w = OneDigit (λ b. OneDigit (λ c. OneDigit (λ d rest. (four_digits a b c d ≡ u) × (rest ≡ l)))) w
Digits q.Nothing u l w = OneDigit (λ a. OneDigit (λ b. OneDigit (λ c. OneDigit (λ d rest. (four_digits a b c d ≡ u) × (rest ≡ l))))) w

-- after some digits of a low surrogate, w begins with the others through the third and with 256, and l folcut
abbrev pub CutDigits : Quad → List ℕ → List ℕ → Type 0
CutDigits (q.Three a b c) l w = (is_low (four_digits a b c 0) ≡ true) × (w ≡ 256 ∷ l)
CutDigits (q.Two a b) l w = OneDigit (λ c rest. (is_low (four_digits a b c 0) ≡ true) × (rest ≡ 256 ∷ l)) w
CutDigits (q.One a) l w = OneDigit (λ b. OneDigit (λ c rest. (is_low (four_digits a b c 0) ≡ true) × (rest ≡ 256 ∷ l))) w
CutDigits q.Nothing l w = OneDigit (λ a. OneDigit (λ b. OneDigit (λ c rest. (is_low (four_digits a b c 0) ≡ true) × (rest ≡ 256 ∷ l)))) w

-- what a unit stands for with what folcut its escape
pub data Unit_ (cut : Bool) : ℕ → List ℕ → List ℕ → Type 0 where
  alone : (u : ℕ) (t w : List ℕ) → is_high u ≡ false → is_low u ≡ false → Chars cut t w → Unit_ cut u (encode_utf8 u ++ t) w
  two : (u v : ℕ) (t w l : List ℕ) → is_high u ≡ true → is_low v ≡ true → Digits q.Nothing v l w → Chars cut t l → Unit_ cut u (encode_utf8 (join u v) ++ t) (92 ∷ (117 ∷ w))

-- the digits of an escape and what folcut
abbrev pub HexLeft : Bool → Quad → List ℕ → List ℕ → Type 0
HexLeft cut quad t w = ((u : ℕ) × (l : List ℕ) × Digits quad u l w × Unit_ cut u t l) ⊎ ((on : cut ≡ true) × (l : List ℕ) × CutDigits quad l w × Chars cut t l)

-- the text t is still to come, in these bytes
abbrev pub PartLeft : Bool → Part → List ℕ → List ℕ → Type 0
PartLeft cut p.Plain t w = Chars cut t w
PartLeft cut (p.Escape at) t w = Chars cut t (92 ∷ w)
PartLeft cut (p.Hex at quad) t w = HexLeft cut quad t w
PartLeft cut (p.Slash at high) t w = Unit_ cut high t w
PartLeft cut (p.Letter at high) t w = Unit_ cut high t (92 ∷ w)
PartLeft cut (p.Low at high quad) t w = (v : ℕ) × (l : List ℕ) × (t' : List ℕ) × (is_high high ≡ true) × (is_low v ≡ true) × Digits quad v l w × Chars cut t' l × (t ≡ encode_utf8 (join high v) ++ t')
PartLeft cut (p.Wide at tail) t w = (u : List ℕ) × (l : List ℕ) × (t' : List ℕ) × Tails tail l u w × Chars cut t' l × (t ≡ u ++ t')

-- the whole text is f
abbrev pub TextLeft : Bool → Part → List ℕ → List ℕ → List ℕ → Type 0
TextLeft cut part text w f = (t : List ℕ) × PartLeft cut part t w × (f ≡ text ++ t)
