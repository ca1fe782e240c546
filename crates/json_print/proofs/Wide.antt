-- A character of more than one byte, as it is encoded, is one that the grammar lets stand for itself.
use Rattle.std.proofs.Common.{◌≡◌, ℕ, ◌+◌, ◌/◌, ◌%◌, ◌<◌, ◌≤◌, true, false, [], ◌∷◌, refl, sym, ◌∙◌, arith, ◌⊎◌, inl, inr}
use Rattle.std.specs.Prelude.{nat_le, encode_utf8}
use Rattle.std.proofs.Math.Utf8.{encode}
use Rattle.std.proofs.lemmas.Bool.{leb-true, le-leb, lt-ltb, le-ltb, and_parts, and_from, cases_lt}
use Rattle.json_value.specs.Strings.{within, is_tail, is_high, is_low, join, IsWide, two, three_first, three, three_below, three_above, four_first, four, four_last}

pub bounds : (low high b : ℕ) → within low high b ≡ true → (low ≤ b) × (b ≤ high)
bounds low high b is = let h = and_parts (nat_le low b) (nat_le b high) is in (leb-true low b h.0, leb-true b high h.1)

pub within-true : (low high b : ℕ) → low ≤ b → b ≤ high → within low high b ≡ true
within-true low high b l h = and_from (nat_le low b) (nat_le b high) (le-leb low b l) (le-leb b high h)

not_within : (low high b : ℕ) → within low high b ≡ false → low ≤ b → b ≤ high → ⊥
not_within low high b is l h = let k : within low high b ≡ true = within-true low high b l h in let e : true ≡ false = sym k ∙ is in absurd cc

encode_two : (c : ℕ) → 128 ≤ c → c < 2048 → encode_utf8 c ≡ (192 + c / 64) ∷ ((128 + c % 64) ∷ [])
unfolding encode
encode_two c low high = rw (le-ltb c 128 low, lt-ltb c 2048 high) refl

encode_three : (c : ℕ) → 2048 ≤ c → c < 65536 → encode_utf8 c ≡ (224 + c / 4096) ∷ ((128 + (c / 64) % 64) ∷ ((128 + c % 64) ∷ []))
unfolding encode
encode_three c low high = rw (le-ltb c 128 (omega arith), le-ltb c 2048 low, lt-ltb c 65536 high) refl

encode_four : (c : ℕ) → 65536 ≤ c → encode_utf8 c ≡ (240 + c / 262144) ∷ ((128 + (c / 4096) % 64) ∷ ((128 + (c / 64) % 64) ∷ ((128 + c % 64) ∷ [])))
unfolding encode
encode_four c low = rw (le-ltb c 128 (omega arith), le-ltb c 2048 (omega arith), le-ltb c 65536 low) refl

tail : (n : ℕ) → is_tail (128 + n % 64) ≡ true
tail n = within-true 128 191 (128 + n % 64) (omega arith) (omega arith)

wide_two : (c : ℕ) → 128 ≤ c → c < 2048 → IsWide (encode_utf8 c)
wide_two c low high = rw (encode_two c low high) (two (192 + c / 64) (128 + c % 64) (within-true 0xC2 0xDF (192 + c / 64) (omega arith) (omega arith)) (tail c))

-- by the first byte a
three_by : (a b c : ℕ) → 224 ≤ a → a ≤ 239 → 128 ≤ b → b ≤ 191 → is_tail c ≡ true → (a ≡ 224 → 160 ≤ b) → (a ≡ 237 → b ≤ 159) → IsWide (a ∷ (b ∷ (c ∷ [])))
three_by a b c la ha lb hb tc first below = by_case (cases_lt 224 a) (cases_lt a 237) (cases_lt 237 a)
  where
    tb : is_tail b ≡ true
    tb = within-true 128 191 b lb hb

    by_case : (224 < a) ⊎ (a ≤ 224) → (a < 237) ⊎ (237 ≤ a) → (237 < a) ⊎ (a ≤ 237) → IsWide (a ∷ (b ∷ (c ∷ [])))
    by_case (inr le) y z =
        let e : a ≡ 224 = omega arith in
        let l : 160 ≤ b = first e in
        rw e (three_first b c (within-true 0xA0 0xBF b l hb) tc)
    by_case (inl gt) (inl lt) z = three a b c (within-true 0xE1 0xEC a (omega arith) (omega arith)) tb tc
    by_case (inl gt) (inr ge) (inl gt') = three_above a b c (within-true 0xEE 0xEF a (omega arith) ha) tb tc
    by_case (inl gt) (inr ge) (inr le) =
        let e : a ≡ 237 = omega arith in
        let h : b ≤ 159 = below e in
        rw e (three_below b c (within-true 0x80 0x9F b lb h) tc)

wide_three : (c : ℕ) → 2048 ≤ c → c < 65536 → (c < 55296) ⊎ (57344 ≤ c) → IsWide (encode_utf8 c)
wide_three c low high apart = rw (encode_three c low high)
    (three_by (224 + c / 4096) (128 + (c / 64) % 64) (128 + c % 64) (omega arith) (omega arith) (omega arith) (omega arith) (tail c) first (below apart))
  where
    first : 224 + c / 4096 ≡ 224 → 160 ≤ 128 + (c / 64) % 64
    first e = omega arith

    below : (c < 55296) ⊎ (57344 ≤ c) → 224 + c / 4096 ≡ 237 → 128 + (c / 64) % 64 ≤ 159
    below (inl lt) e = omega arith
    below (inr ge) e = omega arith

four_by : (a b c d : ℕ) → 240 ≤ a → a ≤ 244 → 128 ≤ b → b ≤ 191 → is_tail c ≡ true → is_tail d ≡ true → (a ≡ 240 → 144 ≤ b) → (a ≡ 244 → b ≤ 143) → IsWide (a ∷ (b ∷ (c ∷ (d ∷ []))))
four_by a b c d la ha lb hb tc td first last = by_case (cases_lt 240 a) (cases_lt a 244)
  where
    by_case : (240 < a) ⊎ (a ≤ 240) → (a < 244) ⊎ (244 ≤ a) → IsWide (a ∷ (b ∷ (c ∷ (d ∷ []))))
    by_case (inr le) y =
        let e : a ≡ 240 = omega arith in
        let l : 144 ≤ b = first e in
        rw e (four_first b c d (within-true 0x90 0xBF b l hb) tc td)
    by_case (inl gt) (inl lt) = four a b c d (within-true 0xF1 0xF3 a (omega arith) (omega arith)) (within-true 128 191 b lb hb) tc td
    by_case (inl gt) (inr ge) =
        let e : a ≡ 244 = omega arith in
        let h : b ≤ 143 = last e in
        rw e (four_last b c d (within-true 0x80 0x8F b lb h) tc td)

wide_four : (c : ℕ) → 65536 ≤ c → c < 1114112 → IsWide (encode_utf8 c)
wide_four c low high = rw (encode_four c low)
    (four_by (240 + c / 262144) (128 + (c / 4096) % 64) (128 + (c / 64) % 64) (128 + c % 64) (omega arith) (omega arith) (omega arith) (omega arith) (tail (c / 64)) (tail c) first last)
  where
    first : 240 + c / 262144 ≡ 240 → 144 ≤ 128 + (c / 4096) % 64
    first e = omega arith

    last : 240 + c / 262144 ≡ 244 → 128 + (c / 4096) % 64 ≤ 143
    last e = omega arith

-- a number past ASCII that is no surrogate
pub wide_below : (c : ℕ) → 128 ≤ c → c ≤ 65535 → is_high c ≡ false → is_low c ≡ false → IsWide (encode_utf8 c)
wide_below c low small hi lo = by_case (cases_lt c 2048) (cases_lt c 55296) (cases_lt 57343 c)
  where
    by_case : (c < 2048) ⊎ (2048 ≤ c) → (c < 55296) ⊎ (55296 ≤ c) → (57343 < c) ⊎ (c ≤ 57343) → IsWide (encode_utf8 c)
    by_case (inl lt) y z = wide_two c low lt
    by_case (inr ge) (inl lt) z = wide_three c ge (omega arith) (inl lt)
    by_case (inr ge) (inr ge') (inl gt) = wide_three c ge (omega arith) (inr gt)
    by_case (inr ge) (inr ge') (inr le) = elim (cases_lt 56319 c) [ inl gt ↦ absurd (not_within 0xDC00 0xDFFF c lo gt le) | inr le' ↦ absurd (not_within 0xD800 0xDBFF c hi ge' le') ]

-- the character of a pair
pub wide_join : (u v : ℕ) → is_high u ≡ true → is_low v ≡ true → IsWide (encode_utf8 (join u v))
wide_join u v hi lo =
    let h = bounds 0xD800 0xDBFF u hi in
    let l = bounds 0xDC00 0xDFFF v lo in
    wide_four (join u v) (omega arith) (omega arith)
