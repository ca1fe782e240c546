-- When a parser reads exactly a grammar, and refuses at the first token that nothing continues.
use Rattle.std.proofs.Common.{◌≡◌, ℕ, zero, suc, ◌<◌, ◌≤◌, Bool, true, false, cond, List, [], ◌∷◌, ◌++◌, length, Ok, Err, refl, sym, ap, subst, ◌∙◌, arith, append_assoc, length-append, inl, inr}
use Rattle.std.proofs.lemmas.List.{append-nil}
use Rattle.std.proofs.lemmas.Bool.{cond-true, cond-false}
use Rattle.exact_read.specs.Parse.{Answer, Parser, and_then, bind, pure, refuse, sees, one, choose, many_in, many}
pub use Rattle.exact_read.specs.Exact.{Stops, SameHead, Viable, Then, Token, Nothing, Either, Each, IsRead, IsRefused, IsExact}

module _ {T : Type 0} where
  -- the next token is the same, whatever stands before
  same_front : (front rest more : List T) → SameHead rest more → SameHead (front ++ rest) (front ++ more)
  same_front (t ∷ front) rest more same = refl
  same_front [] rest more same = same

  sees_same : (test : T → Bool) (rest more : List T) → SameHead rest more → sees test rest ≡ sees test more
  sees_same test [] [] same = refl
  sees_same test [] (u ∷ us) same = absurd same
  sees_same test (t ∷ ts) [] same = absurd same
  sees_same test (t ∷ ts) (u ∷ us) same = ap test same

  sees_front : (test : T → Bool) (front rest : List T) → sees test front ≡ true → sees test (front ++ rest) ≡ true
  sees_front test [] rest h = absurd cc
  sees_front test (t ∷ front) rest h = h

module _ {T R : Type 0} where
  abbrev pub ok : {A : Type 0} → A × List T → Answer T R A
  ok x = Ok x

  abbrev pub err : {A : Type 0} → R × List T → Answer T R A
  err x = Err x

  pub ok_is : {A : Type 0} (x y : A × List T) → ok x ≡ ok y → x ≡ y
  ok_is x y e = cc

  pub err_is : {A : Type 0} (x y : R × List T) → err {A = A} x ≡ err y → x ≡ y
  err_is x y e = cc

  pub differ : {A : Type 0} {x : A × List T} {y : R × List T} → ok x ≡ err y → ⊥
  differ e = cc

  -- ---- one after another

  pub bind_is_exact : {A B : Type 0} (goes go_on : T → Bool) (p : Parser T R A) (G : A → List T → Type 0) (q : A → Parser T R B) (H : A → B → List T → Type 0)
      → IsExact goes p G → ((a : A) → IsExact go_on (q a) (H a))
      → ((a : A) (b : B) (v rest : List T) → H a b v → Stops go_on rest → Stops goes (v ++ rest))
      → IsExact go_on (bind p q) (Then G H)
  bind_is_exact {A} {B} goes go_on p G q H left right joins = record {
    sound = λ ts b rest e. sound ts b rest (p ts) refl e;
    complete = λ b used rest is ends. complete b used rest is ends;
    stops = λ ts r rest e. stops ts r rest (p ts) refl e;
    some =
        let a = left.some in
        let b = (right a.0).some in
        (b.0, a.1 ++ b.1, (a.0, a.1, b.1, a.2, b.2, refl));
  }
    where
      sound : (ts : List T) (b : B) (rest : List T) (o : Answer T R A) → p ts ≡ o → and_then o q ≡ Ok (b, rest) → IsRead (bind p q) (Then G H) ts b rest
      sound ts b rest (Ok x) is e =
          let one = left.sound ts x.0 x.1 is in
          let two = (right x.0).sound x.1 b rest e in
          record {
            used = one.used ++ two.used;
            parts = one.parts ∙ ap (λ (k : List T). one.used ++ k) two.parts ∙ sym (append_assoc one.used two.used rest);
            is = (x.0, one.used, two.used, one.is, two.is, refl);
            always = λ more same.
                let again : SameHead x.1 (two.used ++ more) = subst (λ (k : List T). SameHead k (two.used ++ more)) (sym two.parts) (same_front two.used rest more same) in
                let first : p ((one.used ++ two.used) ++ more) ≡ Ok (x.0, two.used ++ more) = ap p (append_assoc one.used two.used more) ∙ one.always (two.used ++ more) again in
                ap (λ (o : Answer T R A). and_then o q) first ∙ two.always more same;
          }
      sound ts b rest (Err x) is e = absurd cc

      complete : (b : B) (used rest : List T) → Then G H b used → Stops go_on rest → and_then (p (used ++ rest)) q ≡ Ok (b, rest)
      complete b used rest (a, u, v, g, h, cut) ends =
          let regrouped : used ++ rest ≡ u ++ (v ++ rest) = ap (λ (k : List T). k ++ rest) cut ∙ append_assoc u v rest in
          let one : p (used ++ rest) ≡ Ok (a, v ++ rest) = ap p regrouped ∙ left.complete a u (v ++ rest) g (joins a b v rest h ends) in
          ap (λ (o : Answer T R A). and_then o q) one ∙ (right a).complete b v rest h ends

      stops : (ts : List T) (r : R) (rest : List T) (o : Answer T R A) → p ts ≡ o → and_then o q ≡ Err (r, rest) → IsRefused (bind p q) (Then G H) ts r rest
      stops ts r rest (Err x) is e =
          let same : x ≡ (r, rest) = err_is {A = B} x (r, rest) e in
          let one = left.stops ts r rest (is ∙ ap (λ (k : R × List T). err {A = A} k) same) in
          let b = (right one.viable.0).some in
          record {
            front = one.front;
            parts = one.parts;
            viable = (b.0, one.viable.1 ++ b.1, (one.viable.0, one.front ++ one.viable.1, b.1, one.viable.2, b.2, sym (append_assoc one.front one.viable.1 b.1)));
            always = λ more same. ap (λ (o : Answer T R A). and_then o q) (one.always more same);
          }
      stops ts r rest (Ok x) is e =
          let one = left.sound ts x.0 x.1 is in
          let two = (right x.0).stops x.1 r rest e in
          record {
            front = one.used ++ two.front;
            parts = one.parts ∙ ap (λ (k : List T). one.used ++ k) two.parts ∙ sym (append_assoc one.used two.front rest);
            viable = (two.viable.0, two.viable.1, (x.0, one.used, two.front ++ two.viable.1, one.is, two.viable.2, append_assoc one.used two.front two.viable.1));
            always = λ more same.
                let again : SameHead x.1 (two.front ++ more) = subst (λ (k : List T). SameHead k (two.front ++ more)) (sym two.parts) (same_front two.front rest more same) in
                let first : p ((one.used ++ two.front) ++ more) ≡ Ok (x.0, two.front ++ more) = ap p (append_assoc one.used two.front more) ∙ one.always (two.front ++ more) again in
                ap (λ (o : Answer T R A). and_then o q) first ∙ two.always more same;
          }

  -- ---- one token, or none

  pub one_is_exact : (refusal : R) (goes test : T → Bool) (t : T) → test t ≡ true → IsExact goes (one refusal test) (Token test)
  one_is_exact refusal goes test t passes = record {
    sound = λ ts a rest e. sound ts a rest e;
    complete = λ a used rest is ends. ap (λ (k : List T). one refusal test (k ++ rest)) is.1 ∙ cond-true (test a) (Ok (a, rest)) (Err (refusal, a ∷ rest)) is.0;
    stops = λ ts r rest e. stops ts r rest e;
    some = (t, t ∷ [], (passes, refl));
  }
    where
      at_token : (b : Bool) (t : T) (ts : List T) (a : T) (rest : List T) → test t ≡ b → cond b (ok (t, ts)) (err (refusal, t ∷ ts)) ≡ Ok (a, rest) → IsRead (one refusal test) (Token test) (t ∷ ts) a rest
      at_token true t ts a rest is e =
          let same : (t, ts) ≡ (a, rest) = ok_is (t, ts) (a, rest) e in
          let first : t ≡ a = ap (λ (k : T × List T). k.0) same in
          let last : ts ≡ rest = ap (λ (k : T × List T). k.1) same in
          let passed : test a ≡ true = ap test (sym first) ∙ is in
          record { used = a ∷ []; parts = cc; is = (passed, refl); always = λ more _. cond-true (test a) (Ok (a, more)) (Err (refusal, a ∷ more)) passed }
      at_token false t ts a rest is e = absurd cc

      sound : (ts : List T) (a : T) (rest : List T) → one refusal test ts ≡ Ok (a, rest) → IsRead (one refusal test) (Token test) ts a rest
      sound [] a rest e = absurd cc
      sound (t ∷ ts) a rest e = at_token (test t) t ts a rest refl e

      refused_at : (b : Bool) (u : T) (ts : List T) (r : R) (rest : List T) → test u ≡ b → cond b (ok (u, ts)) (err (refusal, u ∷ ts)) ≡ Err (r, rest) → IsRefused (one refusal test) (Token test) (u ∷ ts) r rest
      refused_at true u ts r rest is e = absurd cc
      refused_at false u ts r rest is e =
          let same : (refusal, u ∷ ts) ≡ (r, rest) = err_is {A = T} (refusal, u ∷ ts) (r, rest) e in
          record {
            front = [];
            parts = ap (λ (k : R × List T). k.1) same;
            viable = (t, t ∷ [], (passes, refl));
            always = λ more heads. refuses more (ap (λ (k : R × List T). k.0) same) (subst (λ (k : List T). SameHead k more) (sym (ap (λ (k : R × List T). k.1) same)) heads);
          }
        where
          refuses : (more : List T) → refusal ≡ r → SameHead (u ∷ ts) more → one refusal test more ≡ Err (r, more)
          refuses [] kind heads = absurd heads
          refuses (x ∷ more) kind heads = cond-false (test x) (Ok (x, more)) (Err (refusal, x ∷ more)) (ap test (sym heads) ∙ is) ∙ ap (λ (k : R). err {A = T} (k, x ∷ more)) kind

      stops : (ts : List T) (r : R) (rest : List T) → one refusal test ts ≡ Err (r, rest) → IsRefused (one refusal test) (Token test) ts r rest
      stops [] r rest e =
          let same : (refusal, []) ≡ (r, rest) = err_is {A = T} (refusal, []) (r, rest) e in
          record {
            front = [];
            parts = ap (λ (k : R × List T). k.1) same;
            viable = (t, t ∷ [], (passes, refl));
            always = λ more heads. at_end more (ap (λ (k : R × List T). k.0) same) (subst (λ (k : List T). SameHead k more) (sym (ap (λ (k : R × List T). k.1) same)) heads);
          }
        where
          at_end : (more : List T) → refusal ≡ r → SameHead [] more → one refusal test more ≡ Err (r, more)
          at_end [] kind heads = ap (λ (k : R). err {A = T} (k, [])) kind
          at_end (x ∷ more) kind heads = absurd heads
      stops (u ∷ ts) r rest e = refused_at (test u) u ts r rest refl e

  pub pure_is_exact : {A : Type 0} (goes : T → Bool) (a : A) → IsExact {R = R} goes (pure a) (Nothing a)
  pure_is_exact {A} goes a = record {
    sound = λ ts b rest e.
        let same : (a, ts) ≡ (b, rest) = ok_is (a, ts) (b, rest) e in
        record {
          used = [];
          parts = ap (λ (k : A × List T). k.1) same;
          is = (ap (λ (k : A × List T). k.0) same, refl);
          always = λ more _. ap (λ (k : A). ok (k, more)) (ap (λ (k : A × List T). k.0) same);
        };
    complete = λ b used rest is ends. ap (λ (k : List T). ok (a, k ++ rest)) is.1 ∙ ap (λ (k : A). ok (k, rest)) is.0;
    stops = λ ts r rest e. absurd cc;
    some = (a, [], (refl, refl));
  }

  -- ---- one of two, by the next token

  pub choose_is_exact : {A : Type 0} (goes test : T → Bool) (p q : Parser T R A) (G H : A → List T → Type 0) → IsExact goes p G → IsExact goes q H
      → ((a : A) (used : List T) → G a used → sees test used ≡ true)
      → ((a : A) (used rest : List T) → H a used → Stops goes rest → sees test (used ++ rest) ≡ false)
      → IsExact goes (choose test p q) (Either G H)
  choose_is_exact {A} goes test p q G H left right begins apart = record {
    sound = λ ts a rest e. sound (sees test ts) ts a rest refl e;
    complete = λ a used rest is ends. complete a used rest is ends;
    stops = λ ts r rest e. stops (sees test ts) ts r rest refl e;
    some = let a = left.some in (a.0, a.1, inl a.2);
  }
    where
      sound : (b : Bool) (ts : List T) (a : A) (rest : List T) → sees test ts ≡ b → cond b (p ts) (q ts) ≡ Ok (a, rest) → IsRead (choose test p q) (Either G H) ts a rest
      sound true ts a rest is e =
          let one = left.sound ts a rest e in
          record {
            used = one.used;
            parts = one.parts;
            is = inl one.is;
            always = λ more same. cond-true _ _ _ (sees_front test one.used more (begins a one.used one.is)) ∙ one.always more same;
          }
      sound false ts a rest is e =
          let one = right.sound ts a rest e in
          record {
            used = one.used;
            parts = one.parts;
            is = inr one.is;
            always = λ more same. cond-false _ _ _ (sym (sees_same test (one.used ++ rest) (one.used ++ more) (same_front one.used rest more same)) ∙ ap (sees test) (sym one.parts) ∙ is) ∙ one.always more same;
          }

      complete : (a : A) (used rest : List T) → Either G H a used → Stops goes rest → choose test p q (used ++ rest) ≡ Ok (a, rest)
      complete a used rest (inl g) ends = cond-true _ _ _ (sees_front test used rest (begins a used g)) ∙ left.complete a used rest g ends
      complete a used rest (inr h) ends = cond-false _ _ _ (apart a used rest h ends) ∙ right.complete a used rest h ends

      stops : (b : Bool) (ts : List T) (r : R) (rest : List T) → sees test ts ≡ b → cond b (p ts) (q ts) ≡ Err (r, rest) → IsRefused (choose test p q) (Either G H) ts r rest
      stops true ts r rest is e =
          let one = left.stops ts r rest e in
          record {
            front = one.front;
            parts = one.parts;
            viable = (one.viable.0, one.viable.1, inl one.viable.2);
            always = λ more same. cond-true _ _ _ (sym (sees_same test (one.front ++ rest) (one.front ++ more) (same_front one.front rest more same)) ∙ ap (sees test) (sym one.parts) ∙ is) ∙ one.always more same;
          }
      stops false ts r rest is e =
          let one = right.stops ts r rest e in
          record {
            front = one.front;
            parts = one.parts;
            viable = (one.viable.0, one.viable.1, inr one.viable.2);
            always = λ more same. cond-false _ _ _ (sym (sees_same test (one.front ++ rest) (one.front ++ more) (same_front one.front rest more same)) ∙ ap (sees test) (sym one.parts) ∙ is) ∙ one.always more same;
          }

  -- ---- as many as begin

  module _ {A : Type 0} (goes_one test goes : T → Bool) (p : Parser T R A) (G : A → List T → Type 0) (item : IsExact goes_one p G)
      (begins : (a : A) (used : List T) → G a used → sees test used ≡ true)
      (apart : (t : T) → test t ≡ true → goes_one t ≡ false)
      (ends_one : (t : T) → goes t ≡ false → goes_one t ≡ false)
      (ends_many : (t : T) → goes t ≡ false → test t ≡ false) where
    not_empty : (used : List T) → sees test used ≡ true → 0 < length used
    not_empty [] h = absurd cc
    not_empty (t ∷ ts) h = omega arith

    stops_one : (xs : List A) (v rest : List T) → Each G xs v → Stops goes rest → Stops goes_one (v ++ rest)
    stops_one [] v [] each ends = ap (λ (k : List T). sees goes_one (k ++ [])) each
    stops_one [] v (t ∷ rest) each ends = ap (λ (k : List T). sees goes_one (k ++ (t ∷ rest))) each ∙ ends_one t ends
    stops_one (x ∷ xs) v rest (u, w, g, each, cut) ends = ap (λ (k : List T). sees goes_one (k ++ rest)) cut ∙ ap (sees goes_one) (append_assoc u w rest) ∙ from_front u (w ++ rest) (begins x u g)
      where
        from_front : (u more : List T) → sees test u ≡ true → sees goes_one (u ++ more) ≡ false
        from_front [] more h = absurd cc
        from_front (t ∷ u) more h = apart t h

    stops_many : (rest : List T) → Stops goes rest → sees test rest ≡ false
    stops_many [] ends = refl
    stops_many (t ∷ rest) ends = ends_many t ends

    one_turn : (n : ℕ) (ts rest : List T) (a : A) → sees test ts ≡ true → p ts ≡ Ok (a, rest)
        → many_in test p (suc n) ts ≡ and_then (many_in test p n rest) (λ xs. pure (a ∷ xs))
    unfolding many_in
    one_turn n ts rest a sees_it e = cond-true _ _ _ sees_it ∙ ap (λ (o : Answer T R A). and_then o (λ x. bind (many_in test p n) (λ xs. pure (x ∷ xs)))) e

    no_turn : (n : ℕ) (ts : List T) → sees test ts ≡ false → many_in test p n ts ≡ Ok ([], ts)
    unfolding many_in
    no_turn zero ts h = refl
    no_turn (suc n) ts h = cond-false _ _ _ h

    many_complete : (xs : List A) (used rest : List T) (n : ℕ) → Each G xs used → Stops goes rest → length (used ++ rest) ≤ n → many_in test p n (used ++ rest) ≡ Ok (xs, rest)
    many_complete [] used rest n each ends le =
        let gone : used ++ rest ≡ rest = ap (λ (k : List T). k ++ rest) each in
        ap (many_in test p n) gone ∙ no_turn n rest (stops_many rest ends)
    many_complete (x ∷ xs) used rest zero (u, v, g, each, cut) ends le =
        absurd (omega (arith, not_empty u (begins x u g), ap length cut, length-append u v, length-append used rest))
    many_complete (x ∷ xs) used rest (suc n) (u, v, g, each, cut) ends le =
        let regrouped : used ++ rest ≡ u ++ (v ++ rest) = ap (λ (k : List T). k ++ rest) cut ∙ append_assoc u v rest in
        let first : p (u ++ (v ++ rest)) ≡ Ok (x, v ++ rest) = item.complete x u (v ++ rest) g (stops_one xs v rest each ends) in
        let shorter : length (v ++ rest) ≤ n = omega (arith, not_empty u (begins x u g), ap length regrouped, length-append u (v ++ rest)) in
        ap (many_in test p (suc n)) regrouped ∙ one_turn n (u ++ (v ++ rest)) (v ++ rest) x (sees_front test u (v ++ rest) (begins x u g)) first
        ∙ ap (λ (o : Answer T R (List A)). and_then o (λ ys. pure (x ∷ ys))) (many_complete xs v rest n each ends shorter)

    -- what was read in enough turns
    pub record Read (ts : List T) (xs : List A) (rest : List T) : Type 0 where
      pub used : List T
      pub parts : ts ≡ used ++ rest
      pub is : Each G xs used
      pub always : (more : List T) (m : ℕ) → SameHead rest more → length (used ++ more) ≤ m → many_in test p m (used ++ more) ≡ Ok (xs, more)

    pub record Stopped (ts : List T) (r : R) (rest : List T) : Type 0 where
      pub front : List T
      pub parts : ts ≡ front ++ rest
      pub viable : Viable (Each G) front
      pub always : (more : List T) (m : ℕ) → SameHead rest more → length (front ++ more) ≤ m → many_in test p m (front ++ more) ≡ Err (r, more)

    read_none : (n : ℕ) (ts : List T) (xs : List A) (rest : List T) → sees test ts ≡ false → many_in test p n ts ≡ Ok (xs, rest) → Read ts xs rest
    read_none n ts xs rest sees_none e =
        let same : ([], ts) ≡ (xs, rest) = ok_is ([], ts) (xs, rest) (sym (no_turn n ts sees_none) ∙ e) in
        let no_items : [] ≡ xs = ap (λ (k : List A × List T). k.0) same in
        let all_left : ts ≡ rest = ap (λ (k : List A × List T). k.1) same in
        record {
          used = [];
          parts = all_left;
          is = subst (λ (k : List A). Each G k []) no_items refl;
          always = λ more m heads _. no_turn m more (sym (sees_same test rest more heads) ∙ ap (sees test) (sym all_left) ∙ sees_none) ∙ ap (λ (k : List A). ok (k, more)) no_items;
        }

    -- a turn after which the others are known
    turn : (ts : List T) (x : A) (mid more : List T) (one : IsRead p G ts x mid) (m : ℕ) (v : List T) → SameHead mid (v ++ more) → length ((one.used ++ v) ++ more) ≤ suc m
        → (length (v ++ more) ≤ m) × (many_in test p (suc m) ((one.used ++ v) ++ more) ≡ and_then (many_in test p m (v ++ more)) (λ xs. pure (x ∷ xs)))
    turn ts x mid more one m v heads le =
        let regrouped : (one.used ++ v) ++ more ≡ one.used ++ (v ++ more) = append_assoc one.used v more in
        let begun = begins x one.used one.is in (
          omega (arith, not_empty one.used begun, ap length regrouped, length-append one.used (v ++ more)),
          ap (many_in test p (suc m)) regrouped ∙ one_turn m (one.used ++ (v ++ more)) (v ++ more) x (sees_front test one.used (v ++ more) begun) (one.always (v ++ more) heads),
        )

    no_room : (ts : List T) (x : A) (mid more v : List T) (one : IsRead p G ts x mid) → length ((one.used ++ v) ++ more) ≤ 0 → ⊥
    no_room ts x mid more v one le = omega (arith, not_empty one.used (begins x one.used one.is), length-append (one.used ++ v) more, length-append one.used v)

    many_sound : (n : ℕ) (ts : List T) (xs : List A) (rest : List T) → length ts ≤ n → many_in test p n ts ≡ Ok (xs, rest) → Read ts xs rest
    unfolding many_in
    many_sound zero [] xs rest le e = read_none 0 [] xs rest refl e
    many_sound zero (t ∷ ts) xs rest le e = absurd (omega arith)
    many_sound (suc n) ts xs rest le e = by_test (sees test ts) refl (λ mid ys end short h. many_sound n mid ys end short h)
      where
        by_rest : (x : A) (mid : List T) → p ts ≡ Ok (x, mid) → (o : Answer T R (List A)) → many_in test p n mid ≡ o
            → ((mid : List T) (ys : List A) (end : List T) → length mid ≤ n → many_in test p n mid ≡ Ok (ys, end) → Read mid ys end)
            → and_then o (λ ys. pure (x ∷ ys)) ≡ Ok (xs, rest) → Read ts xs rest
        by_rest x mid is (Err k) is2 tail e = absurd cc
        by_rest x mid is (Ok found) is2 tail e =
            let same : (x ∷ found.0, found.1) ≡ (xs, rest) = ok_is (x ∷ found.0, found.1) (xs, rest) e in
            let one = item.sound ts x mid is in
            let shorter : length mid ≤ n = omega (arith, not_empty one.used (begins x one.used one.is), ap length one.parts, length-append one.used mid) in
            let others = tail mid found.0 rest shorter (is2 ∙ ap (λ (k : List A × List T). ok (found.0, k.1)) same) in
            let all : x ∷ found.0 ≡ xs = ap (λ (k : List A × List T). k.0) same in
            record {
              used = one.used ++ others.used;
              parts = one.parts ∙ ap (λ (k : List T). one.used ++ k) others.parts ∙ sym (append_assoc one.used others.used rest);
              is = subst (λ (k : List A). Each G k (one.used ++ others.used)) all (one.used, others.used, one.is, others.is, refl);
              always = λ more m heads enough. again one others all more m heads enough;
            }
          where
            again : (one : IsRead p G ts x mid) (others : Read mid found.0 rest) → x ∷ found.0 ≡ xs → (more : List T) (m : ℕ) → SameHead rest more → length ((one.used ++ others.used) ++ more) ≤ m
                → many_in test p m ((one.used ++ others.used) ++ more) ≡ Ok (xs, more)
            again one others all more zero heads enough = absurd (no_room ts x mid more others.used one enough)
            again one others all more (suc m) heads enough =
                let first = turn ts x mid more one m others.used (subst (λ (k : List T). SameHead k (others.used ++ more)) (sym others.parts) (same_front others.used rest more heads)) enough in
                first.1 ∙ ap (λ (o : Answer T R (List A)). and_then o (λ ys. pure (x ∷ ys))) (others.always more m heads first.0) ∙ ap (λ (k : List A). ok (k, more)) all

        by_item : (o : Answer T R A) → p ts ≡ o
            → ((mid : List T) (ys : List A) (end : List T) → length mid ≤ n → many_in test p n mid ≡ Ok (ys, end) → Read mid ys end)
            → and_then o (λ x. bind (many_in test p n) (λ ys. pure (x ∷ ys))) ≡ Ok (xs, rest) → Read ts xs rest
        by_item (Err k) is tail e = absurd cc
        by_item (Ok one) is tail e = by_rest one.0 one.1 is (many_in test p n one.1) refl tail e

        by_test : (b : Bool) → sees test ts ≡ b
            → ((mid : List T) (ys : List A) (end : List T) → length mid ≤ n → many_in test p n mid ≡ Ok (ys, end) → Read mid ys end)
            → Read ts xs rest
        by_test false is tail = read_none (suc n) ts xs rest is e
        by_test true is tail = by_item (p ts) refl tail (sym (cond-true (sees test ts) _ _ is) ∙ e)

    many_stopped : (n : ℕ) (ts : List T) (r : R) (rest : List T) → length ts ≤ n → many_in test p n ts ≡ Err (r, rest) → Stopped ts r rest
    unfolding many_in
    many_stopped zero ts r rest le e = absurd cc
    many_stopped (suc n) ts r rest le e = by_test (sees test ts) refl (λ mid short h. many_stopped n mid r rest short h)
      where
        by_rest : (x : A) (mid : List T) → p ts ≡ Ok (x, mid) → (o : Answer T R (List A)) → many_in test p n mid ≡ o
            → ((mid : List T) → length mid ≤ n → many_in test p n mid ≡ Err (r, rest) → Stopped mid r rest)
            → and_then o (λ ys. pure (x ∷ ys)) ≡ Err (r, rest) → Stopped ts r rest
        by_rest x mid is (Ok k) is2 tail e = absurd cc
        by_rest x mid is (Err k) is2 tail e =
            let same : k ≡ (r, rest) = err_is {A = List A} k (r, rest) e in
            let one = item.sound ts x mid is in
            let shorter : length mid ≤ n = omega (arith, not_empty one.used (begins x one.used one.is), ap length one.parts, length-append one.used mid) in
            let others = tail mid shorter (is2 ∙ ap (λ (q : R × List T). err {A = List A} q) same) in
            record {
              front = one.used ++ others.front;
              parts = one.parts ∙ ap (λ (k : List T). one.used ++ k) others.parts ∙ sym (append_assoc one.used others.front rest);
              viable = (x ∷ others.viable.0, others.viable.1, (one.used, others.front ++ others.viable.1, one.is, others.viable.2, append_assoc one.used others.front others.viable.1));
              always = λ more m heads enough. again one others more m heads enough;
            }
          where
            again : (one : IsRead p G ts x mid) (others : Stopped mid r rest) → (more : List T) (m : ℕ) → SameHead rest more → length ((one.used ++ others.front) ++ more) ≤ m
                → many_in test p m ((one.used ++ others.front) ++ more) ≡ Err (r, more)
            again one others more zero heads enough = absurd (no_room ts x mid more others.front one enough)
            again one others more (suc m) heads enough =
                let first = turn ts x mid more one m others.front (subst (λ (k : List T). SameHead k (others.front ++ more)) (sym others.parts) (same_front others.front rest more heads)) enough in
                first.1 ∙ ap (λ (o : Answer T R (List A)). and_then o (λ ys. pure (x ∷ ys))) (others.always more m heads first.0)

        by_item : sees test ts ≡ true → (o : Answer T R A) → p ts ≡ o
            → ((mid : List T) → length mid ≤ n → many_in test p n mid ≡ Err (r, rest) → Stopped mid r rest)
            → and_then o (λ x. bind (many_in test p n) (λ ys. pure (x ∷ ys))) ≡ Err (r, rest) → Stopped ts r rest
        by_item sees_it (Err k) is tail e =
            let same : k ≡ (r, rest) = err_is {A = List A} k (r, rest) e in
            let one = item.stops ts r rest (is ∙ ap (λ (q : R × List T). err {A = A} q) same) in
            record {
              front = one.front;
              parts = one.parts;
              viable = (one.viable.0 ∷ [], one.viable.1, (one.front ++ one.viable.1, [], one.viable.2, refl, sym (append-nil (one.front ++ one.viable.1))));
              always = λ more m heads enough. again one more m heads enough;
            }
          where
            sees_more : (one : IsRefused p G ts r rest) (more : List T) → SameHead rest more → sees test (one.front ++ more) ≡ true
            sees_more one more heads = sym (sees_same test (one.front ++ rest) (one.front ++ more) (same_front one.front rest more heads)) ∙ ap (sees test) (sym one.parts) ∙ sees_it

            again : (one : IsRefused p G ts r rest) (more : List T) (m : ℕ) → SameHead rest more → length (one.front ++ more) ≤ m → many_in test p m (one.front ++ more) ≡ Err (r, more)
            again one more zero heads enough = absurd (omega (arith, not_empty (one.front ++ more) (sees_more one more heads)))
            again one more (suc m) heads enough = cond-true _ _ _ (sees_more one more heads) ∙ ap (λ (o : Answer T R A). and_then o (λ x. bind (many_in test p m) (λ ys. pure (x ∷ ys)))) (one.always more heads)
        by_item sees_it (Ok one) is tail e = by_rest one.0 one.1 is (many_in test p n one.1) refl tail e

        by_test : (b : Bool) → sees test ts ≡ b
            → ((mid : List T) → length mid ≤ n → many_in test p n mid ≡ Err (r, rest) → Stopped mid r rest)
            → Stopped ts r rest
        by_test false is tail = absurd (differ (sym (no_turn (suc n) ts is) ∙ e))
        by_test true is tail = by_item is (p ts) refl tail (sym (cond-true (sees test ts) _ _ is) ∙ e)

    pub many_is_exact : IsExact goes (many test p) (Each G)
    many_is_exact = record {
      sound = λ ts xs rest e.
          let all = many_sound (length ts) ts xs rest (omega arith) e in
          record { used = all.used; parts = all.parts; is = all.is; always = λ more heads. all.always more (length (all.used ++ more)) heads (omega arith) };
      complete = λ xs used rest is ends. many_complete xs used rest (length (used ++ rest)) is ends (omega arith);
      stops = λ ts r rest e.
          let all = many_stopped (length ts) ts r rest (omega arith) e in
          record { front = all.front; parts = all.parts; viable = all.viable; always = λ more heads. all.always more (length (all.front ++ more)) heads (omega arith) };
      some = ([], [], refl);
    }

  -- ---- the same grammar in other words

  pub retyped : {A : Type 0} (goes : T → Bool) (p : Parser T R A) (G H : A → List T → Type 0) → ((a : A) (ts : List T) → G a ts → H a ts) → ((a : A) (ts : List T) → H a ts → G a ts)
      → IsExact goes p G → IsExact goes p H
  retyped goes p G H to from exact = record {
    sound = λ ts a rest e. let f = exact.sound ts a rest e in record { used = f.used; parts = f.parts; is = to a f.used f.is; always = f.always };
    complete = λ a used rest h ends. exact.complete a used rest (from a used h) ends;
    stops = λ ts r rest e. let f = exact.stops ts r rest e in record { front = f.front; parts = f.parts; viable = (f.viable.0, f.viable.1, to f.viable.0 (f.front ++ f.viable.1) f.viable.2); always = f.always };
    some = (exact.some.0, exact.some.1, to exact.some.0 exact.some.1 exact.some.2);
  }

  -- one kind of token is refused by itself
  pub barred_is_exact : {A : Type 0} (goes test : T → Bool) (r : R) (q : Parser T R A) (H : A → List T → Type 0) → IsExact goes q H
      → ((a : A) (used rest : List T) → H a used → Stops goes rest → sees test (used ++ rest) ≡ false)
      → IsExact goes (choose test (refuse r) q) H
  barred_is_exact {A} goes test r q H right apart = record {
    sound = λ ts a rest e. sound (sees test ts) ts a rest refl e;
    complete = λ a used rest is ends. cond-false _ _ _ (apart a used rest is ends) ∙ right.complete a used rest is ends;
    stops = λ ts k rest e. stops (sees test ts) ts k rest refl e;
    some = right.some;
  }
    where
      sound : (b : Bool) (ts : List T) (a : A) (rest : List T) → sees test ts ≡ b → cond b (err (r, ts)) (q ts) ≡ Ok (a, rest) → IsRead (choose test (refuse r) q) H ts a rest
      sound true ts a rest is e = absurd cc
      sound false ts a rest is e =
          let one = right.sound ts a rest e in
          record {
            used = one.used;
            parts = one.parts;
            is = one.is;
            always = λ more same. cond-false _ _ _ (sym (sees_same test (one.used ++ rest) (one.used ++ more) (same_front one.used rest more same)) ∙ ap (sees test) (sym one.parts) ∙ is) ∙ one.always more same;
          }

      stops : (b : Bool) (ts : List T) (k : R) (rest : List T) → sees test ts ≡ b → cond b (err (r, ts)) (q ts) ≡ Err (k, rest) → IsRefused (choose test (refuse r) q) H ts k rest
      stops true ts k rest is e =
          let same : (r, ts) ≡ (k, rest) = err_is {A = A} (r, ts) (k, rest) e in
          let all : ts ≡ rest = ap (λ (x : R × List T). x.1) same in
          record {
            front = [];
            parts = all;
            viable = right.some;
            always = λ more heads. cond-true _ _ _ (sym (sees_same test rest more heads) ∙ ap (sees test) (sym all) ∙ is) ∙ ap (λ (x : R). err {A = A} (x, more)) (ap (λ (x : R × List T). x.0) same);
          }
      stops false ts k rest is e =
          let one = right.stops ts k rest e in
          record {
            front = one.front;
            parts = one.parts;
            viable = one.viable;
            always = λ more same. cond-false _ _ _ (sym (sees_same test (one.front ++ rest) (one.front ++ more) (same_front one.front rest more same)) ∙ ap (sees test) (sym one.parts) ∙ is) ∙ one.always more same;
          }

  -- ---- whole texts

  pub nothing_goes_on : {A : Type 0} (goes : T → Bool) (p : Parser T R A) (G : A → List T → Type 0) → IsExact goes p G
      → (ts : List T) (r : R) (t : T) (rest : List T) → p ts ≡ Err (r, t ∷ rest) → (front : List T) × (ts ≡ front ++ (t ∷ rest)) × Viable G front × (Viable G (front ++ (t ∷ [])) → ⊥)
  nothing_goes_on {A} goes p G exact ts r t rest e =
      let f = exact.stops ts r (t ∷ rest) e in
      (f.front, f.parts, f.viable, λ more. none f more)
    where
      none : (f : IsRefused p G ts r (t ∷ rest)) → Viable G (f.front ++ (t ∷ [])) → ⊥
      none f (a, w, g) =
          let regrouped : ((f.front ++ (t ∷ [])) ++ w) ++ [] ≡ f.front ++ (t ∷ w) = append-nil ((f.front ++ (t ∷ [])) ++ w) ∙ append_assoc f.front (t ∷ []) w in
          let read : p (f.front ++ (t ∷ w)) ≡ Ok (a, []) = ap p (sym regrouped) ∙ exact.complete a ((f.front ++ (t ∷ [])) ++ w) [] g refl in
          differ (sym read ∙ f.always (t ∷ w) refl)
