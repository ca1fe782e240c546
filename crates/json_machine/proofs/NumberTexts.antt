-- The texts of numbers byte by byte are those of the grammar.
use Rattle.std.proofs.Common.{◌≡◌, ℕ, true, false, List, [], ◌∷◌, ◌++◌, Some, refl, sym, ap, ◌∙◌, subst, arith, ◌⊎◌, inl, inr}
use Rattle.std.specs.Prelude.{◌==◌, ◌||◌}
use Rattle.std.proofs.lemmas.Bool.{eqb-true, or_cases}
use Rattle.std.proofs.lemmas.List.{append-nil}
use Rattle.std.proofs.lemmas.Bool.Decides.{nat_tests}
use Rattle.json_machine.specs.declared.begun.Digit.{Digit}
use Rattle.json_machine.specs.declared.begun.Digit.TheVariants as d
use Rattle.json_machine.specs.Numbers.{number_start, number_next, may_end}
use Rattle.json_machine.specs.Left.{CompletesNumber}
use Rattle.json_value.specs.Numbers.{is_digit, is_digit_1_9, is_e, AreDigits, positive, minus, IsInt, zero, digits, IsFrac, no_frac, frac, IsExp, no_exp, exp, signed_exp, IsNumber, number}

pub record ReadsNumber (a : List ℕ) : Type 0 where
  pub first : ℕ
  pub others : List ℕ
  pub part : Digit
  pub parts : a ≡ first ∷ others
  pub begins : number_start first ≡ Some part
  pub completes : CompletesNumber part others

-- ---- what the grammar allows is read

-- a part that stays while digits come
abbrev Stays : Digit → Type 0
Stays part = (b : ℕ) → is_digit b ≡ true → number_next part b ≡ Some part

whole_stays : Stays d.Whole
whole_stays b is = rw is refl

fraction_stays : Stays d.Fraction
fraction_stays b is = rw is refl

exponent_stays : Stays d.Exponent
exponent_stays b is = rw is refl

digits_complete : (part : Digit) (bs rest : List ℕ) → Stays part → AreDigits bs → CompletesNumber part rest → CompletesNumber part (bs ++ rest)
digits_complete part [] rest stays are then = then
digits_complete part (b ∷ bs) rest stays are then = (part, stays b are.0, digits_complete part bs rest stays are.1 then)

e_is : (b : ℕ) → is_e b ≡ true → (b ≡ 101) ⊎ (b ≡ 69)
e_is b is = elim (or_cases (b == 101) (b == 69) is) [ inl h ↦ inl (eqb-true b 101 h) | inr h ↦ inr (eqb-true b 69 h) ]

at_e : (part : Digit) (b : ℕ) → number_next part 101 ≡ Some d.E → number_next part 69 ≡ Some d.E → is_e b ≡ true → number_next part b ≡ Some d.E
at_e part b small large is = elim (e_is b is) [ inl h ↦ rw h small | inr h ↦ rw h large ]

digit_at_e : (b : ℕ) → is_digit b ≡ true → number_next d.E b ≡ Some d.Exponent
digit_at_e b is = grind (arith, nat_tests)

sign_at_e : (b : ℕ) → (b == 45 || b == 43) ≡ true → number_next d.E b ≡ Some d.Sign
sign_at_e b is = grind (arith, nat_tests)

no_more : (part : Digit) (bs : List ℕ) → CompletesNumber part (bs ++ []) → CompletesNumber part bs
no_more part bs h = subst (CompletesNumber part) (append-nil bs) h

exp_completes : (part : Digit) (x : List ℕ) → may_end part ≡ true → ((b : ℕ) → is_e b ≡ true → number_next part b ≡ Some d.E) → IsExp x → CompletesNumber part x
exp_completes part _ ends at no_exp = ends
exp_completes part _ ends at (exp e b bs is_letter is are) = (d.E, at e is_letter, (d.Exponent, digit_at_e b is, no_more d.Exponent bs (digits_complete d.Exponent bs [] exponent_stays are refl)))
exp_completes part _ ends at (signed_exp e sign b bs is_letter is_sign is are) =
    (d.E, at e is_letter, (d.Sign, sign_at_e sign is_sign, (d.Exponent, rw is refl, no_more d.Exponent bs (digits_complete d.Exponent bs [] exponent_stays are refl))))

frac_completes : (part : Digit) (f x : List ℕ) → may_end part ≡ true → number_next part 46 ≡ Some d.Dot → ((b : ℕ) → is_e b ≡ true → number_next part b ≡ Some d.E) → IsFrac f → IsExp x → CompletesNumber part (f ++ x)
frac_completes part _ x ends dot at no_frac e = exp_completes part x ends at e
frac_completes part _ x ends dot at (frac b bs is are) e =
    (d.Dot, dot, (d.Fraction, rw is refl, digits_complete d.Fraction bs x fraction_stays are (exp_completes d.Fraction x refl (λ b. at_e d.Fraction b refl refl) e)))

digit_of_1_9 : (b : ℕ) → is_digit_1_9 b ≡ true → (is_digit b ≡ true) × ((b == 48) ≡ false) × ((b == 45) ≡ false)
digit_of_1_9 b is = (grind (arith, nat_tests), grind (arith, nat_tests), grind (arith, nat_tests))

int_reads : (i f x : List ℕ) → IsInt i → IsFrac f → IsExp x → ReadsNumber (i ++ (f ++ x))
int_reads _ f x zero fr e = record { first = 48; others = f ++ x; part = d.Zero; parts = refl; begins = refl; completes = frac_completes d.Zero f x refl refl (λ b. at_e d.Zero b refl refl) fr e }
int_reads _ f x (digits b bs is are) fr e =
    let k = digit_of_1_9 b is in
    record {
      first = b;
      others = bs ++ (f ++ x);
      part = d.Whole;
      parts = refl;
      begins = rw (k.2, k.1, k.0) refl;
      completes = digits_complete d.Whole bs (f ++ x) whole_stays are (frac_completes d.Whole f x refl refl (λ b. at_e d.Whole b refl refl) fr e);
    }

minus_reads : (i f x : List ℕ) → IsInt i → IsFrac f → IsExp x → CompletesNumber d.Minus (i ++ (f ++ x))
minus_reads _ f x zero fr e = (d.Zero, refl, frac_completes d.Zero f x refl refl (λ b. at_e d.Zero b refl refl) fr e)
minus_reads _ f x (digits b bs is are) fr e =
    let k = digit_of_1_9 b is in
    (d.Whole, rw (k.1, k.0) refl, digits_complete d.Whole bs (f ++ x) whole_stays are (frac_completes d.Whole f x refl refl (λ b. at_e d.Whole b refl refl) fr e))

pub number_reads : (a : List ℕ) → IsNumber a → ReadsNumber a
number_reads _ (number _ i f x positive is_int is_frac is_exp) = int_reads i f x is_int is_frac is_exp
number_reads _ (number _ i f x minus is_int is_frac is_exp) = record { first = 45; others = i ++ (f ++ x); part = d.Minus; parts = refl; begins = refl; completes = minus_reads i f x is_int is_frac is_exp }

-- ---- what is read the grammar allows

-- which byte led to which part
start_is : (b : ℕ) (part : Digit) → number_start b ≡ Some part → ((b ≡ 45) × (part ≡ d.Minus)) ⊎ (((b ≡ 48) × (part ≡ d.Zero)) ⊎ ((is_digit_1_9 b ≡ true) × (part ≡ d.Whole)))
start_is b part is = grind (arith, nat_tests)

after_minus_is : (b : ℕ) (next : Digit) → number_next d.Minus b ≡ Some next → ((b ≡ 48) × (next ≡ d.Zero)) ⊎ ((is_digit_1_9 b ≡ true) × (next ≡ d.Whole))
after_minus_is b next is = grind (arith, nat_tests)

abbrev Onward : ℕ → Digit → Type 0
Onward b next = ((b ≡ 46) × (next ≡ d.Dot)) ⊎ ((is_e b ≡ true) × (next ≡ d.E))

after_zero_is : (b : ℕ) (next : Digit) → number_next d.Zero b ≡ Some next → Onward b next
after_zero_is b next is = grind (arith, nat_tests)

after_whole_is : (b : ℕ) (next : Digit) → number_next d.Whole b ≡ Some next → ((is_digit b ≡ true) × (next ≡ d.Whole)) ⊎ Onward b next
after_whole_is b next is = grind (arith, nat_tests)

after_dot_is : (b : ℕ) (next : Digit) → number_next d.Dot b ≡ Some next → (is_digit b ≡ true) × (next ≡ d.Fraction)
after_dot_is b next is = (grind (arith, nat_tests), grind (arith, nat_tests))

after_fraction_is : (b : ℕ) (next : Digit) → number_next d.Fraction b ≡ Some next → ((is_digit b ≡ true) × (next ≡ d.Fraction)) ⊎ ((is_e b ≡ true) × (next ≡ d.E))
after_fraction_is b next is = grind (arith, nat_tests)

after_e_is : (b : ℕ) (next : Digit) → number_next d.E b ≡ Some next → (((b == 45 || b == 43) ≡ true) × (next ≡ d.Sign)) ⊎ ((is_digit b ≡ true) × (next ≡ d.Exponent))
after_e_is b next is = grind (arith, nat_tests)

after_sign_is : (b : ℕ) (next : Digit) → number_next d.Sign b ≡ Some next → (is_digit b ≡ true) × (next ≡ d.Exponent)
after_sign_is b next is = (grind (arith, nat_tests), grind (arith, nat_tests))

after_exponent_is : (b : ℕ) (next : Digit) → number_next d.Exponent b ≡ Some next → (is_digit b ≡ true) × (next ≡ d.Exponent)
after_exponent_is b next is = (grind (arith, nat_tests), grind (arith, nat_tests))

becomes : (next part : Digit) (bs : List ℕ) → next ≡ part → CompletesNumber next bs → CompletesNumber part bs
becomes next part bs same rest = subst (λ (k : Digit). CompletesNumber k bs) same rest

after_exponent : (bs : List ℕ) → CompletesNumber d.Exponent bs → AreDigits bs
after_exponent [] h = tt
after_exponent (b ∷ bs) (next, is, rest) =
    let k = after_exponent_is b next is in
    (k.0, after_exponent bs (becomes next d.Exponent bs k.1 rest))

after_sign : (e sign : ℕ) (bs : List ℕ) → is_e e ≡ true → (sign == 45 || sign == 43) ≡ true → CompletesNumber d.Sign bs → IsExp (e ∷ (sign ∷ bs))
after_sign e sign [] is_letter is_sign h = absurd cc
after_sign e sign (b ∷ bs) is_letter is_sign (next, is, rest) =
    let k = after_sign_is b next is in
    signed_exp e sign b bs is_letter is_sign k.0 (after_exponent bs (becomes next d.Exponent bs k.1 rest))

after_e : (e : ℕ) (bs : List ℕ) → is_e e ≡ true → CompletesNumber d.E bs → IsExp (e ∷ bs)
after_e e [] is_letter h = absurd cc
after_e e (b ∷ bs) is_letter (next, is, rest) = elim (after_e_is b next is) [
  | inl k ↦ after_sign e b bs is_letter k.0 (becomes next d.Sign bs k.1 rest)
  | inr k ↦ exp e b bs is_letter k.0 (after_exponent bs (becomes next d.Exponent bs k.1 rest))
]

-- digits, and an exponent or nothing
record Fractional (bs : List ℕ) : Type 0 where
  ds : List ℕ
  x : List ℕ
  parts : bs ≡ ds ++ x
  are : AreDigits ds
  exponent : IsExp x

one_more : (b : ℕ) (bs : List ℕ) → is_digit b ≡ true → Fractional bs → Fractional (b ∷ bs)
one_more b bs is k = record { ds = b ∷ k.ds; x = k.x; parts = ap (λ (q : List ℕ). b ∷ q) k.parts; are = (is, k.are); exponent = k.exponent }

after_fraction : (bs : List ℕ) → CompletesNumber d.Fraction bs → Fractional bs
after_fraction [] h = record { ds = []; x = []; parts = refl; are = tt; exponent = no_exp }
after_fraction (b ∷ bs) (next, is, rest) = elim (after_fraction_is b next is) [
  | inl k ↦ one_more b bs k.0 (after_fraction bs (becomes next d.Fraction bs k.1 rest))
  | inr k ↦ record { ds = []; x = b ∷ bs; parts = refl; are = tt; exponent = after_e b bs k.0 (becomes next d.E bs k.1 rest) }
]

-- a fraction or nothing, and an exponent or nothing
record Ending (bs : List ℕ) : Type 0 where
  f : List ℕ
  x : List ℕ
  parts : bs ≡ f ++ x
  fraction : IsFrac f
  exponent : IsExp x

after_dot : (b : ℕ) (bs : List ℕ) → b ≡ 46 → CompletesNumber d.Dot bs → Ending (b ∷ bs)
after_dot b [] dot h = absurd cc
after_dot b (c ∷ bs) dot (next, is, rest) =
    let h = after_dot_is c next is in
    let k = after_fraction bs (becomes next d.Fraction bs h.1 rest) in
    record { f = 46 ∷ (c ∷ k.ds); x = k.x; parts = rw dot (ap (λ (q : List ℕ). 46 ∷ (c ∷ q)) k.parts); fraction = frac c k.ds h.0 k.are; exponent = k.exponent }

-- after the digits before the point
ending : (b : ℕ) (bs : List ℕ) (next : Digit) → CompletesNumber next bs → Onward b next → Ending (b ∷ bs)
ending b bs next rest (inl (here, same)) = after_dot b bs here (becomes next d.Dot bs same rest)
ending b bs next rest (inr (here, same)) = record { f = []; x = b ∷ bs; parts = refl; fraction = no_frac; exponent = after_e b bs here (becomes next d.E bs same rest) }

after_zero : (bs : List ℕ) → CompletesNumber d.Zero bs → Ending bs
after_zero [] h = record { f = []; x = []; parts = refl; fraction = no_frac; exponent = no_exp }
after_zero (b ∷ bs) (next, is, rest) = ending b bs next rest (after_zero_is b next is)

-- digits, and such an ending
record Wholly (bs : List ℕ) : Type 0 where
  ds : List ℕ
  others : List ℕ
  parts : bs ≡ ds ++ others
  are : AreDigits ds
  ends : Ending others

one_wholly : (b : ℕ) (bs : List ℕ) → is_digit b ≡ true → Wholly bs → Wholly (b ∷ bs)
one_wholly b bs is k = record { ds = b ∷ k.ds; others = k.others; parts = ap (λ (q : List ℕ). b ∷ q) k.parts; are = (is, k.are); ends = k.ends }

after_whole : (bs : List ℕ) → CompletesNumber d.Whole bs → Wholly bs
after_whole [] h = record { ds = []; others = []; parts = refl; are = tt; ends = record { f = []; x = []; parts = refl; fraction = no_frac; exponent = no_exp } }
after_whole (b ∷ bs) (next, is, rest) = elim (after_whole_is b next is) [
  | inl k ↦ one_wholly b bs k.0 (after_whole bs (becomes next d.Whole bs k.1 rest))
  | inr after ↦ record { ds = []; others = b ∷ bs; parts = refl; are = tt; ends = ending b bs next rest after }
]

-- a number without its sign
record Unsigned (a : List ℕ) : Type 0 where
  i : List ℕ
  f : List ℕ
  x : List ℕ
  parts : a ≡ i ++ (f ++ x)
  int : IsInt i
  fraction : IsFrac f
  exponent : IsExp x

zero_first : (b : ℕ) (bs : List ℕ) → b ≡ 48 → CompletesNumber d.Zero bs → Unsigned (b ∷ bs)
zero_first b bs is rest =
    let k = after_zero bs rest in
    record { i = 48 ∷ []; f = k.f; x = k.x; parts = rw is (ap (λ (q : List ℕ). 48 ∷ q) k.parts); int = zero; fraction = k.fraction; exponent = k.exponent }

whole_first : (b : ℕ) (bs : List ℕ) → is_digit_1_9 b ≡ true → CompletesNumber d.Whole bs → Unsigned (b ∷ bs)
whole_first b bs is rest =
    let k = after_whole bs rest in
    let e = k.ends in
    record { i = b ∷ k.ds; f = e.f; x = e.x; parts = ap (λ (q : List ℕ). b ∷ q) (k.parts ∙ ap (λ (q : List ℕ). k.ds ++ q) e.parts); int = digits b k.ds is k.are; fraction = e.fraction; exponent = e.exponent }

after_minus : (bs : List ℕ) → CompletesNumber d.Minus bs → Unsigned bs
after_minus [] h = absurd cc
after_minus (b ∷ bs) (next, is, rest) = elim (after_minus_is b next is) [
  | inl k ↦ zero_first b bs k.0 (becomes next d.Zero bs k.1 rest)
  | inr k ↦ whole_first b bs k.0 (becomes next d.Whole bs k.1 rest)
]

unsigned_is : (a : List ℕ) → Unsigned a → IsNumber a
unsigned_is a k = subst IsNumber (sym k.parts) (number [] k.i k.f k.x positive k.int k.fraction k.exponent)

signed_is : (a : List ℕ) → Unsigned a → IsNumber (45 ∷ a)
signed_is a k = subst (λ (q : List ℕ). IsNumber (45 ∷ q)) (sym k.parts) (number (45 ∷ []) k.i k.f k.x minus k.int k.fraction k.exponent)

pub reads_number : (b : ℕ) (bs : List ℕ) (part : Digit) → number_start b ≡ Some part → CompletesNumber part bs → IsNumber (b ∷ bs)
reads_number b bs part is rest = by_part (start_is b part is)
  where
    by_part : ((b ≡ 45) × (part ≡ d.Minus)) ⊎ (((b ≡ 48) × (part ≡ d.Zero)) ⊎ ((is_digit_1_9 b ≡ true) × (part ≡ d.Whole))) → IsNumber (b ∷ bs)
    by_part (inl (here, same)) = subst (λ (k : ℕ). IsNumber (k ∷ bs)) (sym here) (signed_is bs (after_minus bs (becomes part d.Minus bs same rest)))
    by_part (inr (inl (here, same))) = unsigned_is (b ∷ bs) (zero_first b bs here (becomes part d.Zero bs same rest))
    by_part (inr (inr (here, same))) = unsigned_is (b ∷ bs) (whole_first b bs here (becomes part d.Whole bs same rest))
