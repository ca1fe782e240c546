-- Trying one after another.
use Rattle.std.proofs.Common.{◌≡◌, ℕ, zero, suc, ◌+◌, ◌<◌, ◌≤◌, Bool, true, false, List, [], ◌∷◌, take, length, get_or, refl, sym, subst, ◌∙◌, arith, ◌⊎◌, inl, inr}
use Rattle.std.proofs.lemmas.List.{take_all}
use Rattle.token_read.specs.Texts.{Among}
use Rattle.gql_parser.specs.Judging.{TellsWhether}

module _ {X : Type 0} (P : X → Type 0) where
  -- one of these
  abbrev pub Any : List X → Type 0
  Any xs = (x : X) × Among x xs × P x

  among_at : (xs : List X) (i : ℕ) (d : X) → i < length xs → Among (get_or xs i d) xs
  among_at [] i d lt = absurd (omega arith)
  among_at (x ∷ xs) zero d lt = inl refl
  among_at (x ∷ xs) (suc i) d lt = inr (among_at xs i d (omega arith))

  among_more : (xs : List X) (i : ℕ) (d x : X) → i < length xs → Among x (take (suc i) xs) → Among x (take i xs) ⊎ (x ≡ get_or xs i d)
  among_more [] i d x lt h = absurd (omega arith)
  among_more (y ∷ ys) zero d x lt (inl e) = inr e
  among_more (y ∷ ys) zero d x lt (inr h) = absurd h
  among_more (y ∷ ys) (suc i) d x lt (inl e) = inl (inl e)
  among_more (y ∷ ys) (suc i) d x lt (inr h) = elim (among_more ys i d x (omega arith) h) [ inl z ↦ inl (inr z) | inr e ↦ inr e ]

  pub any_over : (xs : List X) (i : ℕ) → length xs ≤ i → (Any (take i xs) → ⊥) → Any xs → ⊥
  any_over xs i le none c = none (subst Any (sym (take_all i xs le)) c)

  pub any_none : (xs : List X) (i : ℕ) (y : X) (b : Bool) → i < length xs → y ≡ get_or xs i y → (Any (take i xs) → ⊥) → TellsWhether b (P y) → b ≡ false → Any (take (i + 1) xs) → ⊥
  any_none xs i y true lt is before tells e found = absurd cc
  any_none xs i y false lt is before tells e (x, among, h) =
      let same : i + 1 ≡ suc i = omega arith in
      go (among_more xs i y x lt (subst (λ (q : ℕ). Among x (take q xs)) same among))
    where
      go : Among x (take i xs) ⊎ (x ≡ get_or xs i y) → ⊥
      go (inl z) = before (x, z, h)
      go (inr z) = tells (subst P (z ∙ sym is) h)

  pub any_here : (xs : List X) (i : ℕ) (y : X) (b : Bool) → i < length xs → y ≡ get_or xs i y → TellsWhether b (P y) → b ≡ true → Any xs
  any_here xs i y false lt is tells e = absurd cc
  any_here xs i y true lt is tells e = (y, subst (λ (q : X). Among q xs) (sym is) (among_at xs i y lt), tells)
