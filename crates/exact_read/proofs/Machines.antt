-- A machine each of whose steps takes one token of what may follow reads exactly, and refuses at the first token that nothing continues.
use Rattle.std.proofs.Common.{◌≡◌, ℕ, suc, ◌+◌, List, [], ◌∷◌, ◌++◌, length, Result, Ok, Err, refl, sym, ap, subst, ◌∙◌, arith, append_assoc}
use Rattle.exact_read.specs.Steps.{run, on_step}
pub use Rattle.exact_read.specs.Steps.{Refused}

abbrev pub ok : {S R : Type 0} → S → Result S R
ok s = Ok s

abbrev pub err : {S R : Type 0} → R → Result S R
err r = Err r

pub ok_is : {S R : Type 0} (x y : S) → ok {R = R} x ≡ ok y → x ≡ y
ok_is x y e = cc

pub err_is : {S R : Type 0} (x y : R) → err {S = S} x ≡ err y → x ≡ y
err_is x y e = cc

pub differ : {S R : Type 0} {x : S} {r : R} → ok x ≡ Err r → ⊥
differ e = cc

module _ {S T R : Type 0} (step : ℕ → S → T → Result S R) where
  pub refused : (ts : List T) (at : ℕ) (s : S) (r : R) (p : ℕ) → run step ts at s ≡ Err (r, p) → Refused step ts at s r p
  unfolding run
  refused [] at s r p e = absurd cc
  refused (t ∷ ts) at s r p e = go (step at s t) refl (λ next. refused ts (at + 1) next r p) e
    where
      go : (o : Result S R) → step at s t ≡ o → ((next : S) → run step ts (at + 1) next ≡ Err (r, p) → Refused step ts (at + 1) next r p) → on_step step at o (run step ts (at + 1)) ≡ Err (r, p) → Refused step (t ∷ ts) at s r p
      go (Err q) is tail e =
          let pair : (q, at) ≡ (r, p) = err_is {S = S} (q, at) (r, p) e in
          let same : (q ≡ r) × (at ≡ p) = (ap (λ (k : R × ℕ). k.0) pair, ap (λ (k : R × ℕ). k.1) pair) in
          record { front = []; token = t; rest = ts; state = s; parts = refl; place = omega (arith, same.1); reaches = refl; stops = ap (λ (k : ℕ). step k s t) (sym same.1) ∙ (is ∙ ap (λ (k : R). Err k) same.0) }
      go (Ok next) is tail e =
          let later = tail next e in
          record {
            front = t ∷ later.front;
            token = later.token;
            rest = later.rest;
            state = later.state;
            parts = ap (λ (q : List T). t ∷ q) later.parts;
            place = omega (arith, later.place);
            reaches = rw is later.reaches;
            stops = later.stops;
          }

  module _ {V : Type 0} (Valid : S → Type 0) (Left : S → List T → V → Type 0)
      (sound : (at : ℕ) (s : S) (t : T) (next : S) (w : List T) (v : V) → step at s t ≡ Ok next → Left next w v → Left s (t ∷ w) v)
      (goes : (at : ℕ) (s : S) (t : T) (w : List T) (v : V) → Valid s → Left s (t ∷ w) v → (next : S) × (step at s t ≡ Ok next) × Left next w v)
      (keeps : (at : ℕ) (s : S) (t : T) (next : S) → Valid s → step at s t ≡ Ok next → Valid next) where
    pub run_sound : (ts : List T) (at : ℕ) (s next : S) (w : List T) (v : V) → run step ts at s ≡ Ok next → Left next w v → Left s (ts ++ w) v
    unfolding run
    run_sound [] at s next w v e left = subst (λ (q : S). Left q w v) (sym (ok_is s next e)) left
    run_sound (t ∷ ts) at s next w v e left = go (step at s t) refl (λ mid h. run_sound ts (at + 1) mid next w v h left) e
      where
        go : (o : Result S R) → step at s t ≡ o → ((mid : S) → run step ts (at + 1) mid ≡ Ok next → Left mid (ts ++ w) v)
            → on_step step at o (run step ts (at + 1)) ≡ Ok next → Left s (t ∷ (ts ++ w)) v
        go (Ok mid) is tail e = sound at s t mid (ts ++ w) v is (tail mid e)
        go (Err q) is tail e = absurd cc

    pub run_goes : (ts : List T) (at : ℕ) (s : S) (w : List T) (v : V) → Valid s → Left s (ts ++ w) v → (next : S) × (run step ts at s ≡ Ok next) × Left next w v
    unfolding run
    run_goes [] at s w v valid left = (s, refl, left)
    run_goes (t ∷ ts) at s w v valid left =
        let one = goes at s t (ts ++ w) v valid left in
        let others = run_goes ts (at + 1) one.0 w v (keeps at s t one.0 valid one.1) one.2 in
        (others.0, rw one.1 others.1, others.2)

    pub run_keeps : (ts : List T) (at : ℕ) (s next : S) → Valid s → run step ts at s ≡ Ok next → Valid next
    unfolding run
    run_keeps [] at s next valid e = subst Valid (ok_is s next e) valid
    run_keeps (t ∷ ts) at s next valid e = go (step at s t) refl (λ mid. run_keeps ts (at + 1) mid next) e
      where
        go : (o : Result S R) → step at s t ≡ o → ((mid : S) → Valid mid → run step ts (at + 1) mid ≡ Ok next → Valid next)
            → on_step step at o (run step ts (at + 1)) ≡ Ok next → Valid next
        go (Ok mid) is tail e = tail mid (keeps at s t mid valid is) e
        go (Err q) is tail e = absurd cc

    -- what some text continues
    abbrev pub Viable : S → List T → Type 0
    Viable s ts = (w : List T) × (v : V) × Left s (ts ++ w) v

    pub reached_is_viable : ((s : S) → Valid s → (w : List T) × (v : V) × Left s w v) → (ts : List T) (at : ℕ) (s next : S) → Valid s → run step ts at s ≡ Ok next → Viable s ts
    reached_is_viable ends ts at s next valid e =
        let end = ends next (run_keeps ts at s next valid e) in
        (end.0, end.1, run_sound ts at s next end.0 end.1 e end.2)

    pub refused_is_not_viable : (ts : List T) (at : ℕ) (s : S) (r : R) (p : ℕ) (f : Refused step ts at s r p) → Valid s → Viable s (f.front ++ (f.token ∷ [])) → ⊥
    refused_is_not_viable ts at s r p f valid (w, v, left) =
        let there = run_goes f.front at s (f.token ∷ w) v valid (subst (λ (q : List T). Left s q v) (append_assoc f.front (f.token ∷ []) w) left) in
        let same : there.0 ≡ f.state = ok_is there.0 f.state (sym there.1 ∙ f.reaches) in
        let next = goes p there.0 f.token w v (run_keeps f.front at s there.0 valid there.1) there.2 in
        let taken : step p f.state f.token ≡ Ok next.0 = ap (λ (q : S). step p q f.token) (sym same) ∙ next.1 in
        differ (sym taken ∙ f.stops)

-- ---- a run over two parts of a text

module _ {S T R : Type 0} (step : ℕ → S → T → Result S R) where
  pub run_one : (t : T) (ts : List T) (at : ℕ) (x z : S) → run step (t ∷ ts) at x ≡ Ok z → (y : S) × (step at x t ≡ Ok y) × (run step ts (at + 1) y ≡ Ok z)
  unfolding run
  run_one t ts at x z e = go (step at x t) refl e
    where
      go : (o : Result S R) → step at x t ≡ o → on_step step at o (run step ts (at + 1)) ≡ Ok z → (y : S) × (step at x t ≡ Ok y) × (run step ts (at + 1) y ≡ Ok z)
      go (Ok mid) same e = (mid, same, e)
      go (Err q) same e = absurd cc

  pub run_split : (a b : List T) (at : ℕ) (x z : S) → run step (a ++ b) at x ≡ Ok z → (y : S) × (run step a at x ≡ Ok y) × (run step b (at + length a) y ≡ Ok z)
  unfolding run
  run_split [] b at x z e = (x, refl, ap (λ (n : ℕ). run step b n x) (omega arith) ∙ e)
  run_split (t ∷ a) b at x z e = go (step at x t) refl (λ mid h. run_split a b (at + 1) mid z h) e
    where
      go : (o : Result S R) → step at x t ≡ o → ((mid : S) → run step (a ++ b) (at + 1) mid ≡ Ok z → (y : S) × (run step a (at + 1) mid ≡ Ok y) × (run step b (at + 1 + length a) y ≡ Ok z))
          → on_step step at o (run step (a ++ b) (at + 1)) ≡ Ok z → (y : S) × (on_step step at (step at x t) (run step a (at + 1)) ≡ Ok y) × (run step b (at + suc (length a)) y ≡ Ok z)
      go (Ok mid) same tail e =
          let k = tail mid e in
          (k.0, rw same k.1, ap (λ (n : ℕ). run step b n k.0) (omega arith) ∙ k.2)
      go (Err q) same tail e = absurd cc

  pub run_both : (a b : List T) (at : ℕ) (x y : S) → run step a at x ≡ Ok y → run step (a ++ b) at x ≡ run step b (at + length a) y
  unfolding run
  run_both [] b at x y is = go (ok_is x y is)
    where
      go : x ≡ y → run step b at x ≡ run step b (at + 0) y
      go same = ap (λ (k : S). run step b at k) same ∙ ap (λ (n : ℕ). run step b n y) (omega arith)
  run_both (t ∷ a) b at x y is = go (step at x t) refl (λ mid h. run_both a b (at + 1) mid y h) is
    where
      go : (o : Result S R) → step at x t ≡ o → ((mid : S) → run step a (at + 1) mid ≡ Ok y → run step (a ++ b) (at + 1) mid ≡ run step b (at + 1 + length a) y)
          → on_step step at o (run step a (at + 1)) ≡ Ok y → on_step step at o (run step (a ++ b) (at + 1)) ≡ run step b (at + suc (length a)) y
      go (Ok mid) same tail e = tail mid e ∙ ap (λ (n : ℕ). run step b n y) (omega arith)
      go (Err why) same tail e = absurd cc
