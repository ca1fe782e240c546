-- A chain of items is read exactly.
use Rattle.std.proofs.Common.{◌≡◌, ℕ, zero, suc, ◌<◌, ◌≤◌, Bool, true, false, List, [], ◌∷◌, ◌++◌, length, Ok, Err, refl, sym, ap, subst, ◌∙◌, arith, append_assoc, length-append}
use Rattle.std.proofs.lemmas.List.{append-nil}
use Rattle.std.proofs.lemmas.Bool.{cond-true, cond-false}
use Rattle.token_read.specs.Lexeme.{Lexeme}
use Rattle.token_read.specs.Parse.{Answer, Parser, and_then, bind, pure, sees}
use Rattle.token_read.specs.Productions.{Grammar}
use Rattle.token_read.proofs.Exact.{Stops, SameHead, Viable, IsRead, IsRefused, IsExact, ok, err, ok_is, err_is, differ}
use Rattle.gql_schema.specs.Chains.{Chain, chain_in, chain}

module _ {K : Type 0} where
  same_front : (front rest more : List (Lexeme K)) → SameHead rest more → SameHead (front ++ rest) (front ++ more)
  same_front (t ∷ front) rest more same = refl
  same_front [] rest more same = same

  sees_same : (test : K → Bool) (rest more : List (Lexeme K)) → SameHead rest more → sees test rest ≡ sees test more
  sees_same test [] [] same = refl
  sees_same test [] (u ∷ us) same = absurd same
  sees_same test (t ∷ ts) [] same = absurd same
  sees_same test (t ∷ ts) (u ∷ us) same = ap test same

  sees_front : (test : K → Bool) (front rest : List (Lexeme K)) → sees test front ≡ true → sees test (front ++ rest) ≡ true
  sees_front test [] rest h = absurd cc
  sees_front test (t ∷ front) rest h = h

module _ {K R S A : Type 0} (Real : Lexeme K → Type 0) (next : S → A → S) (goes_one test goes : K → Bool) (p : S → Parser K R A) (G : S → Grammar K A) (item : (s : S) → IsExact Real goes_one (p s) (G s))
    (begins : (s : S) (a : A) (used : List (Lexeme K)) → G s a used → sees test used ≡ true)
    (apart : (t : K) → test t ≡ true → goes_one t ≡ false)
    (ends_one : (t : K) → goes t ≡ false → goes_one t ≡ false)
    (ends_many : (t : K) → goes t ≡ false → test t ≡ false) where
  abbrev Links : S → Grammar K (List A)
  Links s = Chain next G s

  abbrev links_in : ℕ → S → Parser K R (List A)
  links_in n s = chain_in next test p n s

  not_empty : (used : List (Lexeme K)) → sees test used ≡ true → 0 < length used
  not_empty [] h = absurd cc
  not_empty (t ∷ ts) h = omega arith

  stops_one : (s : S) (xs : List A) (v rest : List (Lexeme K)) → Links s xs v → Stops goes rest → Stops goes_one (v ++ rest)
  stops_one s [] v [] each ends = ap (λ (k : List (Lexeme K)). sees goes_one (k ++ [])) each
  stops_one s [] v (t ∷ rest) each ends = ap (λ (k : List (Lexeme K)). sees goes_one (k ++ (t ∷ rest))) each ∙ ends_one t.kind ends
  stops_one s (x ∷ xs) v rest (u, w, g, each, cut) ends = ap (λ (k : List (Lexeme K)). sees goes_one (k ++ rest)) cut ∙ ap (sees goes_one) (append_assoc u w rest) ∙ from_front u (w ++ rest) (begins s x u g)
    where
      from_front : (u more : List (Lexeme K)) → sees test u ≡ true → sees goes_one (u ++ more) ≡ false
      from_front [] more h = absurd cc
      from_front (t ∷ u) more h = apart t.kind h

  stops_many : (rest : List (Lexeme K)) → Stops goes rest → sees test rest ≡ false
  stops_many [] ends = refl
  stops_many (t ∷ rest) ends = ends_many t.kind ends

  one_turn : (n : ℕ) (s : S) (ts rest : List (Lexeme K)) (a : A) → sees test ts ≡ true → p s ts ≡ Ok (a, rest)
      → links_in (suc n) s ts ≡ and_then (links_in n (next s a) rest) (λ xs. pure (a ∷ xs))
  unfolding chain_in
  one_turn n s ts rest a sees_it e = cond-true _ _ _ sees_it ∙ ap (λ (o : Answer K R A). and_then o (λ x. bind (links_in n (next s x)) (λ xs. pure (x ∷ xs)))) e

  no_turn : (n : ℕ) (s : S) (ts : List (Lexeme K)) → sees test ts ≡ false → links_in n s ts ≡ Ok ([], ts)
  unfolding chain_in
  no_turn zero s ts h = refl
  no_turn (suc n) s ts h = cond-false _ _ _ h

  links_complete : (s : S) (xs : List A) (used rest : List (Lexeme K)) (n : ℕ) → Links s xs used → Stops goes rest → length (used ++ rest) ≤ n → links_in n s (used ++ rest) ≡ Ok (xs, rest)
  links_complete s [] used rest n each ends le =
      let gone : used ++ rest ≡ rest = ap (λ (k : List (Lexeme K)). k ++ rest) each in
      ap (links_in n s) gone ∙ no_turn n s rest (stops_many rest ends)
  links_complete s (x ∷ xs) used rest zero (u, v, g, each, cut) ends le =
      absurd (omega (arith, not_empty u (begins s x u g), ap length cut, length-append u v, length-append used rest))
  links_complete s (x ∷ xs) used rest (suc n) (u, v, g, each, cut) ends le =
      let regrouped : used ++ rest ≡ u ++ (v ++ rest) = ap (λ (k : List (Lexeme K)). k ++ rest) cut ∙ append_assoc u v rest in
      let first : p s (u ++ (v ++ rest)) ≡ Ok (x, v ++ rest) = (item s).complete x u (v ++ rest) g (stops_one (next s x) xs v rest each ends) in
      let shorter : length (v ++ rest) ≤ n = omega (arith, not_empty u (begins s x u g), ap length regrouped, length-append u (v ++ rest)) in
      ap (links_in (suc n) s) regrouped ∙ one_turn n s (u ++ (v ++ rest)) (v ++ rest) x (sees_front test u (v ++ rest) (begins s x u g)) first
      ∙ ap (λ (o : Answer K R (List A)). and_then o (λ ys. pure (x ∷ ys))) (links_complete (next s x) xs v rest n each ends shorter)

  -- what was read in enough turns
  record Read (s : S) (ts : List (Lexeme K)) (xs : List A) (rest : List (Lexeme K)) : Type 0 where
    pub used : List (Lexeme K)
    pub parts : ts ≡ used ++ rest
    pub is : Links s xs used
    pub always : (more : List (Lexeme K)) (m : ℕ) → SameHead rest more → length (used ++ more) ≤ m → links_in m s (used ++ more) ≡ Ok (xs, more)

  record Stopped (s : S) (ts : List (Lexeme K)) (r : R) (rest : List (Lexeme K)) : Type 0 where
    pub front : List (Lexeme K)
    pub parts : ts ≡ front ++ rest
    pub viable : Viable Real (Links s) front
    pub always : (more : List (Lexeme K)) (m : ℕ) → SameHead rest more → length (front ++ more) ≤ m → links_in m s (front ++ more) ≡ Err (r, more)

  read_none : (n : ℕ) (s : S) (ts : List (Lexeme K)) (xs : List A) (rest : List (Lexeme K)) → sees test ts ≡ false → links_in n s ts ≡ Ok (xs, rest) → Read s ts xs rest
  read_none n s ts xs rest sees_none e =
      let same : ([], ts) ≡ (xs, rest) = ok_is ([], ts) (xs, rest) (sym (no_turn n s ts sees_none) ∙ e) in
      let no_items : [] ≡ xs = ap (λ (k : List A × List (Lexeme K)). k.0) same in
      let all_left : ts ≡ rest = ap (λ (k : List A × List (Lexeme K)). k.1) same in
      record {
        used = [];
        parts = all_left;
        is = subst (λ (k : List A). Links s k []) no_items refl;
        always = λ more m heads _. no_turn m s more (sym (sees_same test rest more heads) ∙ ap (sees test) (sym all_left) ∙ sees_none) ∙ ap (λ (k : List A). ok (k, more)) no_items;
      }

  -- a turn after which the others are known
  turn : (s : S) (ts : List (Lexeme K)) (x : A) (mid more : List (Lexeme K)) (one : IsRead Real (p s) (G s) ts x mid) (m : ℕ) (v : List (Lexeme K)) → SameHead mid (v ++ more) → length ((one.used ++ v) ++ more) ≤ suc m
      → (length (v ++ more) ≤ m) × (links_in (suc m) s ((one.used ++ v) ++ more) ≡ and_then (links_in m (next s x) (v ++ more)) (λ xs. pure (x ∷ xs)))
  turn s ts x mid more one m v heads le =
      let regrouped : (one.used ++ v) ++ more ≡ one.used ++ (v ++ more) = append_assoc one.used v more in
      let begun = begins s x one.used one.is in (
        omega (arith, not_empty one.used begun, ap length regrouped, length-append one.used (v ++ more)),
        ap (links_in (suc m) s) regrouped ∙ one_turn m s (one.used ++ (v ++ more)) (v ++ more) x (sees_front test one.used (v ++ more) begun) (one.always (v ++ more) heads),
      )

  no_room : (s : S) (ts : List (Lexeme K)) (x : A) (mid more v : List (Lexeme K)) (one : IsRead Real (p s) (G s) ts x mid) → length ((one.used ++ v) ++ more) ≤ 0 → ⊥
  no_room s ts x mid more v one le = omega (arith, not_empty one.used (begins s x one.used one.is), length-append (one.used ++ v) more, length-append one.used v)

  -- what the turns behind are known to read, and where they are refused
  abbrev Sounds : ℕ → Type 0
  Sounds n = (s : S) (mid : List (Lexeme K)) (ys : List A) (end : List (Lexeme K)) → length mid ≤ n → links_in n s mid ≡ Ok (ys, end) → Read s mid ys end

  abbrev Halts : ℕ → R → List (Lexeme K) → Type 0
  Halts n r rest = (s : S) (mid : List (Lexeme K)) → length mid ≤ n → links_in n s mid ≡ Err (r, rest) → Stopped s mid r rest

  links_sound : (n : ℕ) (s : S) (ts : List (Lexeme K)) (xs : List A) (rest : List (Lexeme K)) → length ts ≤ n → links_in n s ts ≡ Ok (xs, rest) → Read s ts xs rest
  unfolding chain_in
  links_sound zero s [] xs rest le e = read_none 0 s [] xs rest refl e
  links_sound zero s (t ∷ ts) xs rest le e = absurd (omega arith)
  links_sound (suc n) s ts xs rest le e = by_test (sees test ts) refl (λ s' mid ys end short h. links_sound n s' mid ys end short h)
    where
      by_rest : (x : A) (mid : List (Lexeme K)) → p s ts ≡ Ok (x, mid) → (o : Answer K R (List A)) → links_in n (next s x) mid ≡ o → Sounds n → and_then o (λ ys. pure (x ∷ ys)) ≡ Ok (xs, rest) → Read s ts xs rest
      by_rest x mid is (Err k) is2 tail e = absurd cc
      by_rest x mid is (Ok found) is2 tail e =
          let same : (x ∷ found.0, found.1) ≡ (xs, rest) = ok_is (x ∷ found.0, found.1) (xs, rest) e in
          let one = (item s).sound ts x mid is in
          let shorter : length mid ≤ n = omega (arith, not_empty one.used (begins s x one.used one.is), ap length one.parts, length-append one.used mid) in
          let others = tail (next s x) mid found.0 rest shorter (is2 ∙ ap (λ (k : List A × List (Lexeme K)). ok (found.0, k.1)) same) in
          let all : x ∷ found.0 ≡ xs = ap (λ (k : List A × List (Lexeme K)). k.0) same in
          record {
            used = one.used ++ others.used;
            parts = one.parts ∙ ap (λ (k : List (Lexeme K)). one.used ++ k) others.parts ∙ sym (append_assoc one.used others.used rest);
            is = subst (λ (k : List A). Links s k (one.used ++ others.used)) all (one.used, others.used, one.is, others.is, refl);
            always = λ more m heads enough. again one others all more m heads enough;
          }
        where
          again : (one : IsRead Real (p s) (G s) ts x mid) (others : Read (next s x) mid found.0 rest) → x ∷ found.0 ≡ xs → (more : List (Lexeme K)) (m : ℕ) → SameHead rest more → length ((one.used ++ others.used) ++ more) ≤ m
              → links_in m s ((one.used ++ others.used) ++ more) ≡ Ok (xs, more)
          again one others all more zero heads enough = absurd (no_room s ts x mid more others.used one enough)
          again one others all more (suc m) heads enough =
              let first = turn s ts x mid more one m others.used (subst (λ (k : List (Lexeme K)). SameHead k (others.used ++ more)) (sym others.parts) (same_front others.used rest more heads)) enough in
              first.1 ∙ ap (λ (o : Answer K R (List A)). and_then o (λ ys. pure (x ∷ ys))) (others.always more m heads first.0) ∙ ap (λ (k : List A). ok (k, more)) all

      by_item : (o : Answer K R A) → p s ts ≡ o → Sounds n → and_then o (λ x. bind (links_in n (next s x)) (λ ys. pure (x ∷ ys))) ≡ Ok (xs, rest) → Read s ts xs rest
      by_item (Err k) is tail e = absurd cc
      by_item (Ok one) is tail e = by_rest one.0 one.1 is (links_in n (next s one.0) one.1) refl tail e

      by_test : (b : Bool) → sees test ts ≡ b → Sounds n → Read s ts xs rest
      by_test false is tail = read_none (suc n) s ts xs rest is e
      by_test true is tail = by_item (p s ts) refl tail (sym (cond-true (sees test ts) _ _ is) ∙ e)

  links_stopped : (n : ℕ) (s : S) (ts : List (Lexeme K)) (r : R) (rest : List (Lexeme K)) → length ts ≤ n → links_in n s ts ≡ Err (r, rest) → Stopped s ts r rest
  unfolding chain_in
  links_stopped zero s ts r rest le e = absurd cc
  links_stopped (suc n) s ts r rest le e = by_test (sees test ts) refl (λ s' mid short h. links_stopped n s' mid r rest short h)
    where
      by_rest : (x : A) (mid : List (Lexeme K)) → p s ts ≡ Ok (x, mid) → (o : Answer K R (List A)) → links_in n (next s x) mid ≡ o → Halts n r rest → and_then o (λ ys. pure (x ∷ ys)) ≡ Err (r, rest) → Stopped s ts r rest
      by_rest x mid is (Ok k) is2 tail e = absurd cc
      by_rest x mid is (Err k) is2 tail e =
          let same : k ≡ (r, rest) = err_is {A = List A} k (r, rest) e in
          let one = (item s).sound ts x mid is in
          let shorter : length mid ≤ n = omega (arith, not_empty one.used (begins s x one.used one.is), ap length one.parts, length-append one.used mid) in
          let others = tail (next s x) mid shorter (is2 ∙ ap (λ (q : R × List (Lexeme K)). err {A = List A} q) same) in
          record {
            front = one.used ++ others.front;
            parts = one.parts ∙ ap (λ (k : List (Lexeme K)). one.used ++ k) others.parts ∙ sym (append_assoc one.used others.front rest);
            viable = (x ∷ others.viable.0, others.viable.1, others.viable.2, (one.used, others.front ++ others.viable.1, one.is, others.viable.3, append_assoc one.used others.front others.viable.1));
            always = λ more m heads enough. again one others more m heads enough;
          }
        where
          again : (one : IsRead Real (p s) (G s) ts x mid) (others : Stopped (next s x) mid r rest) → (more : List (Lexeme K)) (m : ℕ) → SameHead rest more → length ((one.used ++ others.front) ++ more) ≤ m
              → links_in m s ((one.used ++ others.front) ++ more) ≡ Err (r, more)
          again one others more zero heads enough = absurd (no_room s ts x mid more others.front one enough)
          again one others more (suc m) heads enough =
              let first = turn s ts x mid more one m others.front (subst (λ (k : List (Lexeme K)). SameHead k (others.front ++ more)) (sym others.parts) (same_front others.front rest more heads)) enough in
              first.1 ∙ ap (λ (o : Answer K R (List A)). and_then o (λ ys. pure (x ∷ ys))) (others.always more m heads first.0)

      by_item : sees test ts ≡ true → (o : Answer K R A) → p s ts ≡ o → Halts n r rest → and_then o (λ x. bind (links_in n (next s x)) (λ ys. pure (x ∷ ys))) ≡ Err (r, rest) → Stopped s ts r rest
      by_item sees_it (Err k) is tail e =
          let same : k ≡ (r, rest) = err_is {A = List A} k (r, rest) e in
          let one = (item s).stops ts r rest (is ∙ ap (λ (q : R × List (Lexeme K)). err {A = A} q) same) in
          record {
            front = one.front;
            parts = one.parts;
            viable = (one.viable.0 ∷ [], one.viable.1, one.viable.2, (one.front ++ one.viable.1, [], one.viable.3, refl, sym (append-nil (one.front ++ one.viable.1))));
            always = λ more m heads enough. again one more m heads enough;
          }
        where
          sees_more : (one : IsRefused Real (p s) (G s) ts r rest) (more : List (Lexeme K)) → SameHead rest more → sees test (one.front ++ more) ≡ true
          sees_more one more heads = sym (sees_same test (one.front ++ rest) (one.front ++ more) (same_front one.front rest more heads)) ∙ ap (sees test) (sym one.parts) ∙ sees_it

          again : (one : IsRefused Real (p s) (G s) ts r rest) (more : List (Lexeme K)) (m : ℕ) → SameHead rest more → length (one.front ++ more) ≤ m → links_in m s (one.front ++ more) ≡ Err (r, more)
          again one more zero heads enough = absurd (omega (arith, not_empty (one.front ++ more) (sees_more one more heads)))
          again one more (suc m) heads enough = cond-true _ _ _ (sees_more one more heads) ∙ ap (λ (o : Answer K R A). and_then o (λ x. bind (links_in m (next s x)) (λ ys. pure (x ∷ ys)))) (one.always more heads)
      by_item sees_it (Ok one) is tail e = by_rest one.0 one.1 is (links_in n (next s one.0) one.1) refl tail e

      by_test : (b : Bool) → sees test ts ≡ b → Halts n r rest → Stopped s ts r rest
      by_test false is tail = absurd (differ (sym (no_turn (suc n) s ts is) ∙ e))
      by_test true is tail = by_item is (p s ts) refl tail (sym (cond-true (sees test ts) _ _ is) ∙ e)

  pub chain_is_exact : (s : S) → IsExact Real goes (chain next test p s) (Links s)
  chain_is_exact s = record {
    sound = λ ts xs rest e.
        let all = links_sound (length ts) s ts xs rest (omega arith) e in
        record { used = all.used; parts = all.parts; is = all.is; always = λ more heads. all.always more (length (all.used ++ more)) heads (omega arith) };
    complete = λ xs used rest is ends. links_complete s xs used rest (length (used ++ rest)) is ends (omega arith);
    stops = λ ts r rest e.
        let all = links_stopped (length ts) s ts r rest (omega arith) e in
        record { front = all.front; parts = all.parts; viable = all.viable; always = λ more heads. all.always more (length (all.front ++ more)) heads (omega arith) };
    some = ([], [], tt, refl);
  }
