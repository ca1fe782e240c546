-- A whole text is read exactly.
use Rattle.std.proofs.Common.{◌≡◌, ℕ, ◌<◌, ◌≤◌, Bool, true, false, List, [], ◌∷◌, ◌++◌, length, Ok, Err, refl, sym, ap, subst, ◌∙◌, arith}
use Rattle.std.proofs.lemmas.List.{append-nil}
use Rattle.token_read.specs.Lexeme.{Lexeme}
use Rattle.token_read.specs.Parse.{Answer, Parser, and_then, bind, sees}
use Rattle.token_read.specs.Exact.{Stops, SameHead, Then, Nothing, IsRead, IsRefused, IsExact}
use Rattle.token_read.specs.Productions.{Grammar, ended, whole}
use Rattle.token_read.proofs.Exact.{ok, err, ok_is, err_is, bind_is_exact, retyped}
use Rattle.token_read.proofs.Relax.{Relaxes, Within, itself, bind_relaxes}

module _ {K R : Type 0} (Real : Lexeme K → Type 0) (r : R) where
  -- a text that is whole would go on with any token
  abbrev pub always : K → Bool
  always k = true

  nothing_left : (rest : List (Lexeme K)) → Stops always rest → rest ≡ []
  nothing_left [] h = refl
  nothing_left (t ∷ rest) h = absurd cc

  ended_is_exact : {A : Type 0} (a : A) → IsExact Real always (ended r a) (Nothing a)
  ended_is_exact {A} a = record {
    sound = λ ts b rest e. sound ts b rest e;
    complete = λ b used rest is ends. ap (ended r a) (ap (λ (q : List (Lexeme K)). q ++ rest) is.1 ∙ nothing_left rest ends) ∙ ap (λ (q : A × List (Lexeme K)). ok {R = R} q) (pair is.0 (sym (nothing_left rest ends)));
    stops = λ ts k rest e. stops ts k rest e;
    some = (a, [], tt, (refl, refl));
  }
    where
      pair : {b : A} {rest : List (Lexeme K)} → a ≡ b → [] ≡ rest → ◌≡◌ {A = A × List (Lexeme K)} (a, []) (b, rest)
      pair e f = cc

      sound : (ts : List (Lexeme K)) (b : A) (rest : List (Lexeme K)) → ended r a ts ≡ Ok (b, rest) → IsRead Real (ended r a) (Nothing a) ts b rest
      sound [] b rest e =
          let same : (a, []) ≡ (b, rest) = ok_is (a, []) (b, rest) e in
          let last : [] ≡ rest = ap (λ (q : A × List (Lexeme K)). q.1) same in
          record {
            used = [];
            parts = last;
            is = (ap (λ (q : A × List (Lexeme K)). q.0) same, refl);
            always = λ more heads. again more (subst (λ (q : List (Lexeme K)). SameHead q more) (sym last) heads) (ap (λ (q : A × List (Lexeme K)). q.0) same);
          }
        where
          again : (more : List (Lexeme K)) → SameHead [] more → a ≡ b → ended r a more ≡ Ok (b, more)
          again [] heads same = ap (λ (q : A). ok {R = R} (q, [])) same
          again (t ∷ more) heads same = absurd heads
      sound (t ∷ ts) b rest e = absurd cc

      stops : (ts : List (Lexeme K)) (k : R) (rest : List (Lexeme K)) → ended r a ts ≡ Err (k, rest) → IsRefused Real (ended r a) (Nothing a) ts k rest
      stops [] k rest e = absurd cc
      stops (t ∷ ts) k rest e =
          let same : (r, t ∷ ts) ≡ (k, rest) = err_is {A = A} (r, t ∷ ts) (k, rest) e in
          let last : t ∷ ts ≡ rest = ap (λ (q : R × List (Lexeme K)). q.1) same in
          record {
            front = [];
            parts = last;
            viable = (a, [], tt, (refl, refl));
            always = λ more heads. again more (subst (λ (q : List (Lexeme K)). SameHead q more) (sym last) heads) (ap (λ (q : R × List (Lexeme K)). q.0) same);
          }
        where
          again : (more : List (Lexeme K)) → SameHead (t ∷ ts) more → r ≡ k → ended r a more ≡ Err (k, more)
          again [] heads same = absurd heads
          again (u ∷ more) heads same = ap (λ (q : R). err {A = A} (q, u ∷ more)) same

  pub whole_is_exact : {A : Type 0} (goes : K → Bool) (p : Parser K R A) (G : Grammar K A) → IsExact Real goes p G → IsExact Real always (whole r p) G
  whole_is_exact {A} goes p G exact = retyped Real always (whole r p) (Then G (λ a. Nothing a)) G
      (λ b ts g. subst (λ (q : A). G q ts) g.4.0 (subst (G g.0) (sym (g.5 ∙ ap (λ (q : List (Lexeme K)). g.1 ++ q) g.4.1 ∙ append-nil g.1)) g.3))
      (λ b ts g. (b, ts, [], g, (refl, refl), sym (append-nil ts)))
      (bind_is_exact Real goes always p G (λ a. ended r a) (λ a. Nothing a) exact (λ a. ended_is_exact a)
      (λ a b v rest h ends. subst (λ (q : List (Lexeme K)). Stops goes q) (sym (ap (λ (q : List (Lexeme K)). q ++ rest) h.1 ∙ nothing_left rest ends)) refl))

module _ {K R : Type 0} (by_rule : R → Bool) (r : R) (plain : by_rule r ≡ false) where
  ended_relaxes : {A : Type 0} (a : A) → Relaxes by_rule (ended {K = K} r a) (ended r a)
  ended_relaxes {A} a = itself by_rule (ended r a) within refused
    where
      within : (ts : List (Lexeme K)) → Within by_rule (ended r a ts) ts
      within [] = omega arith
      within (t ∷ ts) = omega arith

      refused : (ts : List (Lexeme K)) (k : R) (rest : List (Lexeme K)) → ended r a ts ≡ Err (k, rest) → by_rule k ≡ false
      refused [] k rest e = absurd cc
      refused (t ∷ ts) k rest e = subst (λ (x : R × List (Lexeme K)). by_rule x.0 ≡ false) (err_is {A = A} (r, t ∷ ts) (k, rest) e) plain

  pub whole_relaxes : {A : Type 0} (p q : Parser K R A) → Relaxes by_rule p q → Relaxes by_rule (whole r p) (whole r q)
  whole_relaxes p q h = bind_relaxes by_rule p q (λ a. ended r a) (λ a. ended r a) h (λ a. ended_relaxes a)

-- nothing is left of what is read whole
pub whole_left : {K R A : Type 0} (r : R) (p : Parser K R A) (ts : List (Lexeme K)) (a : A) (rest : List (Lexeme K)) → whole r p ts ≡ Ok (a, rest) → rest ≡ []
whole_left {K} {R} {A} r p ts a rest e = go (p ts) e
  where
    left : (b : A) (us : List (Lexeme K)) → ended r b us ≡ Ok (a, rest) → rest ≡ []
    left b [] e = sym (ap (λ (q : A × List (Lexeme K)). q.1) (ok_is {R = R} (b, []) (a, rest) e))
    left b (u ∷ us) e = absurd cc

    go : (o : Answer K R A) → and_then o (λ b. ended r b) ≡ Ok (a, rest) → rest ≡ []
    go (Ok x) e = left x.0 x.1 e
    go (Err x) e = absurd cc
