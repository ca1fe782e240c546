-- The table of letters says how a byte is escaped.
use Rattle.std.proofs.Common.{◌≡◌, ℕ, zero, suc, ◌+◌, ◌<◌, ◌≤◌, refl, arith, inl, inr, get_or}
use Rattle.std.proofs.lemmas.Bool.{cases_lt}
use Rattle.json_print.specs.Escapes.{NeedsEscape, IsLetterOf}
use Rattle.json_print.specs.declared.string.TheConstants.{LETTERS}

abbrev HasLetter : ℕ → Type 0
HasLetter b = IsLetterOf b (get_or LETTERS b 0)

abbrev AllBelow : ℕ → Type 0
AllBelow zero = Unit {0}
AllBelow (suc n) = HasLetter n × AllBelow n

at : (n b : ℕ) → AllBelow n → b < n → HasLetter b
at zero b all lt = absurd (omega arith)
at (suc n) b all lt = elim (cases_lt b n) [
  | inl under ↦ at n b all.1 under
  | inr top ↦
      let e : b ≡ n = omega arith in
      rw e all.0
]

controls : AllBelow 32
controls = (
  (refl, omega arith),
  (
    (refl, omega arith),
    (
      (refl, omega arith),
      (
        (refl, omega arith),
        (
          (refl, omega arith),
          (
            (refl, omega arith),
            (
              (refl, omega arith),
              (
                (refl, omega arith),
                (
                  (refl, omega arith),
                  (
                    (refl, omega arith),
                    (
                      (refl, omega arith),
                      (
                        (refl, omega arith),
                        (
                          (refl, omega arith),
                          (
                            (refl, omega arith),
                            (
                              (refl, omega arith),
                              (
                                (refl, omega arith),
                                (
                                  (refl, omega arith),
                                  (
                                    (refl, omega arith),
                                    (
                                      (refl, omega arith),
                                      (
                                        (refl, omega arith),
                                        (
                                          (refl, omega arith),
                                          (
                                            (refl, omega arith),
                                            (
                                              (refl, omega arith),
                                              (
                                                (refl, omega arith),
                                                (
                                                  (refl, omega arith),
                                                  (
                                                    (refl, omega arith),
                                                    (
                                                      (refl, omega arith),
                                                      (
                                                        (refl, omega arith),
                                                        (
                                                          (refl, omega arith),
                                                          ((refl, omega arith), ((refl, omega arith), ((refl, omega arith), tt))),
                                                        ),
                                                      ),
                                                    ),
                                                  ),
                                                ),
                                              ),
                                            ),
                                          ),
                                        ),
                                      ),
                                    ),
                                  ),
                                ),
                              ),
                            ),
                          ),
                        ),
                      ),
                    ),
                  ),
                ),
              ),
            ),
          ),
        ),
      ),
    ),
  ),
)

pub letter_is : (b : ℕ) → NeedsEscape b → HasLetter b
letter_is b (inl low) = at 32 b controls low
letter_is b (inr (inl quote)) = rw quote (refl, omega arith)
letter_is b (inr (inr backslash)) = rw backslash (refl, omega arith)
