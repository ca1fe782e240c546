-- The longest front whose bytes pass a test.
use Rattle.std.proofs.Common.{◌≡◌, ℕ, ◌+◌, suc, Bool, true, false, ◌&&◌, cond, List, [], ◌∷◌, ◌++◌, length, take, refl, sym, ap, subst, ◌∙◌, true≢false, arith}
use Rattle.std.specs.List.{take_while, prefix_len, list_all}
use Rattle.std.proofs.lemmas.List.Folds.{length-prefix_len}

-- a test of two parts holds where each does
pub both_hold : (a b : Bool) → (a && b) ≡ true → (a ≡ true) × (b ≡ true)
both_hold true b h = (refl, h)
both_hold false b h = absurd (true≢false (sym h))

module _ (p : ℕ → Bool) where
  -- how long that front is
  abbrev pub span : List ℕ → ℕ
  span text = length (take_while p text)

  pub span-cons : (b : ℕ) (rest : List ℕ) → span (b ∷ rest) ≡ cond (p b) (1 + span rest) 0
  span-cons b rest = length-prefix_len p (b ∷ rest) ∙ sym (ap (λ n. cond (p b) (1 + n) 0) (length-prefix_len p rest))

  -- it is the front, where that passes and what follows does not
  pub span-append : (front rest : List ℕ) → list_all p front ≡ true → span rest ≡ 0 → span (front ++ rest) ≡ length front
  span-append [] rest h stop = stop
  span-append (b ∷ front) rest h stop =
      let parts : (p b ≡ true) × (list_all p front ≡ true) = both_hold (p b) (list_all p front) h in
      let one_more : 1 + length front ≡ suc (length front) = omega arith in
      span-cons b (front ++ rest) ∙ ap (λ t. cond t (1 + span (front ++ rest)) 0) parts.0 ∙ ap (λ n. 1 + n) (span-append front rest parts.1 stop) ∙ one_more

  passing : (text : List ℕ) → list_all p (take (prefix_len p text) text) ≡ true
  passing [] = refl
  passing (b ∷ rest) = by (p b) refl (passing rest)
    where
      by : (t : Bool) → p b ≡ t → list_all p (take (prefix_len p rest) rest) ≡ true → list_all p (take (cond t (1 + prefix_len p rest) 0) (b ∷ rest)) ≡ true
      by true e more =
          let one_more : suc (prefix_len p rest) ≡ 1 + prefix_len p rest = omega arith in
          subst (λ n. list_all p (take n (b ∷ rest)) ≡ true) one_more (ap (λ t. t && list_all p (take (prefix_len p rest) rest)) e ∙ more)
      by false e more = refl

  -- and it passes
  pub passes : (text : List ℕ) → list_all p (take (span text) text) ≡ true
  passes text = subst (λ n. list_all p (take n text) ≡ true) (sym (length-prefix_len p text)) (passing text)

  -- a front of no bytes is short
  pub empty_front : (text : List ℕ) → take (span text) text ≡ [] → span text ≡ 0
  empty_front text h = ap length (sym (ap (λ n. take n text) (length-prefix_len p text)) ∙ h)
