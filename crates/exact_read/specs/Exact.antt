-- When a parser reads exactly a grammar. A grammar is a relation of values and lists of tokens.
use Rattle.std.specs.Prelude.{◌≡◌, Bool, true, false, List, [], ◌∷◌, ◌++◌, Ok, Err, ◌⊎◌}
use Rattle.exact_read.specs.Parse.{Parser, sees}

module _ {T : Type 0} where
  -- no token that would go on follows
  abbrev pub Stops : (T → Bool) → List T → Type 0
  Stops goes rest = sees goes rest ≡ false

  -- the next token is the same
  abbrev pub SameHead : List T → List T → Type 0
  SameHead [] [] = Unit {0}
  SameHead [] (u ∷ us) = ⊥
  SameHead (t ∷ ts) [] = ⊥
  SameHead (t ∷ ts) (u ∷ us) = t ≡ u

  -- some continuation of these tokens is in the grammar
  abbrev pub Viable : {A : Type 0} → (A → List T → Type 0) → List T → Type 0
  Viable {A} G front = (a : A) × (w : List T) × G a (front ++ w)

  -- the grammars of parsers: one after another, one token, none, one of two, and as many as there are
  abbrev pub Then : {A B : Type 0} → (A → List T → Type 0) → (A → B → List T → Type 0) → B → List T → Type 0
  Then {A} G H b ts = (a : A) × (u : List T) × (v : List T) × G a u × H a b v × (ts ≡ u ++ v)

  abbrev pub Token : (T → Bool) → T → List T → Type 0
  Token test t ts = (test t ≡ true) × (ts ≡ t ∷ [])

  abbrev pub Nothing : {A : Type 0} → A → A → List T → Type 0
  Nothing a b ts = (a ≡ b) × (ts ≡ [])

  abbrev pub Either : {A : Type 0} → (A → List T → Type 0) → (A → List T → Type 0) → A → List T → Type 0
  Either G H a ts = G a ts ⊎ H a ts

  abbrev pub Each : {A : Type 0} → (A → List T → Type 0) → List A → List T → Type 0
  Each G [] ts = ts ≡ []
  Each G (x ∷ xs) ts = (u : List T) × (v : List T) × G x u × Each G xs v × (ts ≡ u ++ v)

module _ {T R : Type 0} where
  -- What was read is in the grammar; and so it is read wherever the next token is the same.
  pub record IsRead {A : Type 0} (p : Parser T R A) (G : A → List T → Type 0) (ts : List T) (a : A) (rest : List T) : Type 0 where
    pub used : List T
    pub parts : ts ≡ used ++ rest
    pub is : G a used
    pub always : (more : List T) → SameHead rest more → p (used ++ more) ≡ Ok (a, more)

  -- What stands before the refused token can be continued; and it is refused whatever follows that token.
  pub record IsRefused {A : Type 0} (p : Parser T R A) (G : A → List T → Type 0) (ts : List T) (r : R) (rest : List T) : Type 0 where
    pub front : List T
    pub parts : ts ≡ front ++ rest
    pub viable : Viable G front
    pub always : (more : List T) → SameHead rest more → p (front ++ more) ≡ Err (r, more)

  -- Read exactly what is in the grammar, up to a token that would not go on, and stop at the first token that nothing continues.
  pub record IsExact {A : Type 0} (goes : T → Bool) (p : Parser T R A) (G : A → List T → Type 0) : Type 0 where
    pub sound : (ts : List T) (a : A) (rest : List T) → p ts ≡ Ok (a, rest) → IsRead p G ts a rest
    pub complete : (a : A) (used rest : List T) → G a used → Stops goes rest → p (used ++ rest) ≡ Ok (a, rest)
    pub stops : (ts : List T) (r : R) (rest : List T) → p ts ≡ Err (r, rest) → IsRefused p G ts r rest
    pub some : (a : A) × (used : List T) × G a used
