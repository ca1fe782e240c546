-- What a single member learns.
use Rattle.std.proofs.Common.{◌≡◌, ◌∙◌, ◌≤◌, ℕ, ◌+◌, List, [], ◌∷◌, ◌++◌, All, get_or, sym, refl, ap, subst, ⊎_elim, arith}
use Rattle.std.specs.List.{Contains}
use Rattle.std.proofs.lemmas.List.Elements.{Contains-push, Contains-append_cases, Contains-append_left, Contains-append_right, Contains-get_or, All-contains}
use Rattle.turn_lock.specs.declared.seats.Turn.{Turn}
use Rattle.turn_lock.specs.declared.seats.Part.{Part}
use Rattle.turn_lock.specs.Turns.{total, one_if, served, turns_in, LearnsState}
use Rattle.atomic_table.specs.Seated.{TableId}
use Rattle.std.proofs.Common.{zero, suc, ◌<◌}
use Rattle.std.proofs.lemmas.List.Elements.{All-append}
use Rattle.turn_lock.specs.declared.seats.Stage.TheVariants.{Outside}
use Rattle.turn_lock.specs.Members.{MemberState, part_for, turns_of, backwards, InOrder, newcomer, newcomers, AreOutside}
use Rattle.turn_lock.proofs.Sums.{total_append, none_there, single, turns_append}

module _ {S : Type 0} (F : S → S → Type 0) (W : S → S → ℕ → Type 0) where
  pub found_one : (t : ℕ) (x : S) (ps : List (Part S)) (p : Part S) → ps ≡ p ∷ [] → LearnsState F W t x ps → W p.last x p.number
  found_one t x ps p e f = f.without p (subst (λ (qs : List (Part S)). Contains qs p) (sym e) (0, (omega arith), refl))

module _ {S : Type 0} where
  pub part_there : (ms : List (MemberState S)) (m : MemberState S) → Contains ms m → Contains (backwards ms) (part_for m)
  part_there [] m c = absurd (none_there m c)
  part_there (x ∷ ms) m c = ⊎_elim
      (λ (h : Contains (x ∷ []) m). subst (λ (z : MemberState S). Contains (backwards ms ++ part_for x ∷ []) (part_for z)) (single x m h) (Contains-push (backwards ms) (part_for x)))
      (λ (h : Contains ms m). Contains-append_left (backwards ms) (part_for x ∷ []) (part_for m) (part_there ms m h))
      (Contains-append_cases (x ∷ []) ms m c)

  pub turn_there : (ms : List (MemberState S)) (t : Turn S) → Contains (turns_of ms) t → Contains (turns_in (backwards ms)) t
  turn_there [] t c = c
  turn_there (x ∷ ms) t c = subst (λ (ts : List (Turn S)). Contains ts t) (sym (turns_append (backwards ms) (part_for x ∷ []))) (⊎_elim
      (λ (h : Contains x.turns t). Contains-append_right (turns_in (backwards ms)) (x.turns ++ []) t (Contains-append_left x.turns [] t h))
      (λ (h : Contains (turns_of ms) t). Contains-append_left (turns_in (backwards ms)) (x.turns ++ []) t (turn_there ms t h))
      (Contains-append_cases x.turns (turns_of ms) t c))

  pub served_all : (n : ℕ) (ms : List (MemberState S)) → served n (turns_in (backwards ms)) ≡ served n (turns_of ms)
  served_all n [] = refl
  served_all n (x ∷ ms) = let f : Turn S → ℕ = λ t. one_if t.serving n in
      let a = ap (total f) (turns_append (backwards ms) (part_for x ∷ [])) in let b = total_append f (turns_in (backwards ms)) (x.turns ++ []) in let d = total_append f x.turns [] in let e = total_append f x.turns (turns_of ms) in
      let h = served_all n ms in let i : ℕ = total f (turns_in (backwards ms)) in let h' : i ≡ total f (turns_of ms) = h in
      let b' : total f (turns_in (backwards ms) ++ (x.turns ++ [])) ≡ i + total f (x.turns ++ []) = b in let a' : total f (turns_in (backwards ms ++ part_for x ∷ [])) ≡ total f (turns_in (backwards ms) ++ (x.turns ++ [])) = a in omega arith

  pub all_of : (P : MemberState S → Type 0) (ms : List (MemberState S)) → ((m : MemberState S) → Contains ms m → P m) → All P ms
  all_of P ms f = λ k d less. f (get_or ms k d) (Contains-get_or ms k d less)

  pub each_of : (P : Turn S → Type 0) (ts : List (Turn S)) → ((t : Turn S) → Contains ts t → P t) → All P ts
  each_of P ts f = λ k d less. f (get_or ts k d) (Contains-get_or ts k d less)

module _ {S : Type 0} (F : S → S → Type 0) (W : S → S → ℕ → Type 0) where
  -- what the joined seat finds tells of each member
  pub record Told (x : S) (ms : List (MemberState S)) : Type 0 where
    pub without : All (λ (m : MemberState S). W m.last x m.number) ms
    pub follows : All (λ (t : Turn S). F t.left x) (turns_of ms)
    pub once : (n : ℕ) → served n (turns_of ms) ≤ 1
    pub order : InOrder F (turns_of ms)

  tells_these : (x : S) (ms : List (MemberState S)) → All (λ (p : Part S). W p.last x p.number) (backwards ms) → All (λ (t : Turn S). F t.left x) (turns_in (backwards ms)) → ((n : ℕ) → served n (turns_in (backwards ms)) ≤ 1)
      → InOrder F (turns_in (backwards ms)) → Told x ms
  tells_these x ms w f o r = record {
    without = all_of (λ m. W m.last x m.number) ms (λ m c. All-contains (λ (p : Part S). W p.last x p.number) (backwards ms) (part_for m) w (part_there ms m c));
    follows = each_of (λ u. F u.left x) (turns_of ms) (λ u c. All-contains (λ (t : Turn S). F t.left x) (turns_in (backwards ms)) u f (turn_there ms u c));
    once = λ n. let a = o n in let b = served_all n ms in omega arith;
    order = λ a b i j. r a b (turn_there ms a i) (turn_there ms b j);
  }

  pub tells : (x : S) (ps : List (Part S)) (all left ms : List (MemberState S)) → ps ≡ backwards ms → all ≡ left ++ ms → left ≡ [] → All (λ (p : Part S). W p.last x p.number) ps → All (λ (t : Turn S). F t.left x) (turns_in ps)
      → ((n : ℕ) → served n (turns_in ps) ≤ 1) → InOrder F (turns_in ps) → Told x all
  tells x ps all left ms e is none w f o r = subst (Told x) (sym (is ∙ ap (λ (l : List (MemberState S)). l ++ ms) none)) (tells_these x ms
      (subst (λ (qs : List (Part S)). All (λ (p : Part S). W p.last x p.number) qs) e w) (subst (λ (qs : List (Part S)). All (λ (t : Turn S). F t.left x) (turns_in qs)) e f)
      (subst (λ (qs : List (Part S)). (n : ℕ) → served n (turns_in qs) ≤ 1) e o) (subst (λ (qs : List (Part S)). InOrder F (turns_in qs)) e r))

module _ {S : Type 0} where
  one_outside : (z : TableId) (x : S) (n k : ℕ) (d : MemberState S) → k < 1 → (get_or (newcomer z x n ∷ []) k d).stage ≡ Outside × (get_or (newcomer z x n ∷ []) k d).home ≡ z
  one_outside z x n zero d less = (refl, refl)
  one_outside z x n (suc k) d less = absurd (omega arith)

  pub new_are_outside : (z : TableId) (x : S) (n : ℕ) → AreOutside z (newcomers z x n)
  new_are_outside z x zero = λ k d less. absurd (omega arith)
  new_are_outside z x (suc n) = All-append (λ (m : MemberState S). m.stage ≡ Outside × m.home ≡ z) (newcomers z x n) (newcomer z x n ∷ []) (new_are_outside z x n) (one_outside z x n)
