-- A loop that reads as many items as begin, and one that reads definitions.
use Rattle.std.proofs.Common.{◌≡◌, ℕ, zero, suc, ◌+◌, ◌-◌, ◌<◌, ◌≤◌, Bool, true, false, List, [], ◌∷◌, ◌++◌, Ok, Err, refl, sym, ap, ◌∙◌, arith, append_assoc}
use Rattle.std.proofs.lemmas.List.{append-nil}
use Rattle.std.proofs.lemmas.Bool.{cond-true, cond-false}
use Rattle.token_read.specs.Lexeme.{Lexeme}
use Rattle.token_read.specs.Parse.{Answer, Parser, and_then, bind, pure, sees, many_in}
use Rattle.gql_schema.specs.Chains.{chain_in}
use Rattle.gql_terms.specs.declared.faults.Refusal.{Refusal}
use Rattle.gql_parser.specs.declared.tokens.Stop.{Stop}
use Rattle.gql_parser.specs.declared.tokens.Stop.TheVariants as stops
use Rattle.gql_schema.specs.declared.words.Mark.{Mark}
use Rattle.gql_schema.specs.Reads.{Reads, prefixed}

module _ {A : Type 0} where
  pub prefixed_none : (o : Answer Mark Refusal (List A)) → prefixed [] o ≡ o
  prefixed_none (Ok x) = refl
  prefixed_none (Err x) = refl

  regroup : (found : List A) (x : A) (o : Answer Mark Refusal (List A)) → prefixed found (and_then o (λ xs. pure (x ∷ xs))) ≡ prefixed (found ++ (x ∷ [])) o
  regroup found x (Ok k) = ap (λ (ys : List A). Ok (ys, k.1)) (sym (append_assoc found (x ∷ []) k.0))
  regroup found x (Err k) = refl

  module _ (test : Mark → Bool) (p : Parser Mark Refusal A) where
    unroll : (n : ℕ) (ts : List (Lexeme Mark)) → sees test ts ≡ true → many_in test p (suc n) ts ≡ and_then (p ts) (λ x. bind (many_in test p n) (λ xs. pure (x ∷ xs)))
    unfolding many_in
    unroll n ts h = cond-true _ _ _ h

    over : (n : ℕ) (ts : List (Lexeme Mark)) → sees test ts ≡ false → many_in test p n ts ≡ Ok ([], ts)
    unfolding many_in
    over zero ts h = refl
    over (suc n) ts h = cond-false _ _ _ h

    pub item_read : (found : List A) (n i : ℕ) (ts rest : List (Lexeme Mark)) (x : A) (total : Answer Mark Refusal (List A)) → i < n → sees test ts ≡ true → p ts ≡ Ok (x, rest)
        → prefixed found (many_in test p (n - i) ts) ≡ total → prefixed (found ++ (x ∷ [])) (many_in test p (n - (i + 1)) rest) ≡ total
    item_read found n i ts rest x total lt h is so_far =
        let k : n - i ≡ suc (n - (i + 1)) = omega arith in
        let one : many_in test p (n - i) ts ≡ and_then (many_in test p (n - (i + 1)) rest) (λ xs. pure (x ∷ xs)) =
        ap (λ (m : ℕ). many_in test p m ts) k ∙ unroll (n - (i + 1)) ts h ∙ ap (λ (o : Answer Mark Refusal A). and_then o (λ y. bind (many_in test p (n - (i + 1))) (λ xs. pure (y ∷ xs)))) is in
        sym (regroup found x (many_in test p (n - (i + 1)) rest)) ∙ sym (ap (prefixed found) one) ∙ so_far

    pub item_refused : (found : List A) (n i : ℕ) (ts : List (Lexeme Mark)) (e : Refusal × List (Lexeme Mark)) (total : Answer Mark Refusal (List A)) → i < n → sees test ts ≡ true → p ts ≡ Err e
        → prefixed found (many_in test p (n - i) ts) ≡ total → total ≡ Err e
    item_refused found n i ts e total lt h is so_far =
        let k : n - i ≡ suc (n - (i + 1)) = omega arith in
        let one : many_in test p (n - i) ts ≡ Err e =
        ap (λ (m : ℕ). many_in test p m ts) k ∙ unroll (n - (i + 1)) ts h ∙ ap (λ (o : Answer Mark Refusal A). and_then o (λ y. bind (many_in test p (n - (i + 1))) (λ xs. pure (y ∷ xs)))) is in
        sym so_far ∙ ap (prefixed found) one

    pub items_end : (found : List A) (n i : ℕ) (ts : List (Lexeme Mark)) (total : Answer Mark Refusal (List A)) → sees test ts ≡ false
        → prefixed found (many_in test p (n - i) ts) ≡ total → total ≡ Ok (found, ts)
    items_end found n i ts total h so_far = sym so_far ∙ ap (prefixed found) (over (n - i) ts h) ∙ ap (λ (ys : List A). Ok (ys, ts)) (append-nil found)

    pub no_turns_left : (found : List A) (n i : ℕ) (ts : List (Lexeme Mark)) (total : Answer Mark Refusal (List A)) → n ≤ i
        → prefixed found (many_in test p (n - i) ts) ≡ total → total ≡ Ok (found, ts)
    unfolding many_in
    no_turns_left found n i ts total le so_far =
        let k : n - i ≡ 0 = omega arith in
        sym so_far ∙ ap (λ (m : ℕ). prefixed found (many_in test p m ts)) k ∙ ap (λ (ys : List A). Ok (ys, ts)) (append-nil found)

    pub exits : (e : Stop) (found : List A) (n i : ℕ) (ts new : List (Lexeme Mark)) (total : Answer Mark Refusal (List A)) → i < n → sees test ts ≡ true → Reads (p ts) (Err e) new
        → prefixed found (many_in test p (n - i) ts) ≡ total → Reads total (Err e) new
    exits stops.Memory found n i ts new total lt h is so_far = tt
    exits (stops.Refused r) found n i ts new total lt h is so_far = item_refused found n i ts (r, new) total lt h is so_far

-- ---- a chain

module _ {S A : Type 0} (next : S → A → S) (test : Mark → Bool) (p : S → Parser Mark Refusal A) where
  link_unroll : (n : ℕ) (s : S) (ts : List (Lexeme Mark)) → sees test ts ≡ true → chain_in next test p (suc n) s ts ≡ and_then (p s ts) (λ x. bind (chain_in next test p n (next s x)) (λ xs. pure (x ∷ xs)))
  unfolding chain_in
  link_unroll n s ts h = cond-true _ _ _ h

  link_over : (n : ℕ) (s : S) (ts : List (Lexeme Mark)) → sees test ts ≡ false → chain_in next test p n s ts ≡ Ok ([], ts)
  unfolding chain_in
  link_over zero s ts h = refl
  link_over (suc n) s ts h = cond-false _ _ _ h

  pub link_read : (found : List A) (n i : ℕ) (s s' : S) (ts rest : List (Lexeme Mark)) (x : A) (total : Answer Mark Refusal (List A)) → i < n → sees test ts ≡ true → p s ts ≡ Ok (x, rest) → s' ≡ next s x
      → prefixed found (chain_in next test p (n - i) s ts) ≡ total → prefixed (found ++ (x ∷ [])) (chain_in next test p (n - (i + 1)) s' rest) ≡ total
  link_read found n i s s' ts rest x total lt h is after so_far =
      let k : n - i ≡ suc (n - (i + 1)) = omega arith in
      let one : chain_in next test p (n - i) s ts ≡ and_then (chain_in next test p (n - (i + 1)) (next s x) rest) (λ xs. pure (x ∷ xs)) =
      ap (λ (m : ℕ). chain_in next test p m s ts) k ∙ link_unroll (n - (i + 1)) s ts h ∙ ap (λ (o : Answer Mark Refusal A). and_then o (λ y. bind (chain_in next test p (n - (i + 1)) (next s y)) (λ xs. pure (y ∷ xs)))) is in
      ap (λ (q : S). prefixed (found ++ (x ∷ [])) (chain_in next test p (n - (i + 1)) q rest)) after
      ∙ sym (regroup found x (chain_in next test p (n - (i + 1)) (next s x) rest)) ∙ sym (ap (prefixed found) one) ∙ so_far

  link_refused : (found : List A) (n i : ℕ) (s : S) (ts : List (Lexeme Mark)) (e : Refusal × List (Lexeme Mark)) (total : Answer Mark Refusal (List A)) → i < n → sees test ts ≡ true → p s ts ≡ Err e
      → prefixed found (chain_in next test p (n - i) s ts) ≡ total → total ≡ Err e
  link_refused found n i s ts e total lt h is so_far =
      let k : n - i ≡ suc (n - (i + 1)) = omega arith in
      let one : chain_in next test p (n - i) s ts ≡ Err e =
      ap (λ (m : ℕ). chain_in next test p m s ts) k ∙ link_unroll (n - (i + 1)) s ts h ∙ ap (λ (o : Answer Mark Refusal A). and_then o (λ y. bind (chain_in next test p (n - (i + 1)) (next s y)) (λ xs. pure (y ∷ xs)))) is in
      sym so_far ∙ ap (prefixed found) one

  pub links_end : (found : List A) (n i : ℕ) (s : S) (ts : List (Lexeme Mark)) (total : Answer Mark Refusal (List A)) → sees test ts ≡ false
      → prefixed found (chain_in next test p (n - i) s ts) ≡ total → total ≡ Ok (found, ts)
  links_end found n i s ts total h so_far = sym so_far ∙ ap (prefixed found) (link_over (n - i) s ts h) ∙ ap (λ (ys : List A). Ok (ys, ts)) (append-nil found)

  pub no_links_left : (found : List A) (n i : ℕ) (s : S) (ts : List (Lexeme Mark)) (total : Answer Mark Refusal (List A)) → n ≤ i
      → prefixed found (chain_in next test p (n - i) s ts) ≡ total → total ≡ Ok (found, ts)
  unfolding chain_in
  no_links_left found n i s ts total le so_far =
      let k : n - i ≡ 0 = omega arith in
      sym so_far ∙ ap (λ (m : ℕ). prefixed found (chain_in next test p m s ts)) k ∙ ap (λ (ys : List A). Ok (ys, ts)) (append-nil found)

  pub link_exits : (e : Stop) (found : List A) (n i : ℕ) (s : S) (ts new : List (Lexeme Mark)) (total : Answer Mark Refusal (List A)) → i < n → sees test ts ≡ true → Reads (p s ts) (Err e) new
      → prefixed found (chain_in next test p (n - i) s ts) ≡ total → Reads total (Err e) new
  link_exits stops.Memory found n i s ts new total lt h is so_far = tt
  link_exits (stops.Refused r) found n i s ts new total lt h is so_far = link_refused found n i s ts (r, new) total lt h is so_far
