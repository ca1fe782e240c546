-- What scanning the bytes of a token finds.
use Rattle.std.proofs.Common.{◌≡◌, ℕ, suc, ◌+◌, ◌<◌, ◌≤◌, Bool, true, false, cond, List, [], ◌∷◌, ◌++◌, length, Option, Some, None, refl, sym, ap, subst, ◌∙◌, arith, append_assoc}
use Rattle.gql_tokens.specs.declared.scanner.Class.{Class}
use Rattle.gql_tokens.specs.declared.scanner.State.{State}
use Rattle.gql_tokens.specs.declared.scanner.Move.{Move}
use Rattle.gql_tokens.specs.declared.scanner.Move.TheVariants as m
use Rattle.gql_tokens.specs.declared.scanner.Scan.{Scan}
use Rattle.gql_tokens.specs.declared.scanner.Scan.TheVariants as sc
use Rattle.gql_tokens.specs.Lexical.{MayFollow}
use Rattle.gql_tokens.specs.Scanning.{next, scan_by, scan, Left}
use Rattle.gql_tokens.proofs.Moves.{Moves, moves}

pub found_is : (x y : Class) (n k : ℕ) → sc.Found x n ≡ sc.Found y k → (x ≡ y) × (n ≡ k)
found_is x y n k e = (cc, cc)

end_is : (x y : State) → sc.End x ≡ sc.End y → x ≡ y
end_is x y e = cc

pub heads_are : (x y : ℕ) (p q : List ℕ) → x ∷ p ≡ y ∷ q → x ≡ y
heads_are x y p q e = cc

pub tails_are : (x y : ℕ) (p q : List ℕ) → x ∷ p ≡ y ∷ q → p ≡ q
tails_are x y p q e = cc

-- the token at the front, with its length
pub record Taken (s : State) (bytes : List ℕ) (class : Class) (n k : ℕ) : Type 0 where
  pub used : List ℕ
  pub rest : List ℕ
  pub parts : bytes ≡ used ++ rest
  pub size : k ≡ n + length used
  pub left : Left s class used
  pub follows : MayFollow class rest

pub scan_found : (bytes : List ℕ) (s : State) (n : ℕ) (class : Class) (k : ℕ) → scan s n bytes ≡ sc.Found class k → Taken s bytes class n k
unfolding scan
scan_found [] s n class k e = absurd cc
scan_found (b ∷ bs) s n class k e = go (next s b) (moves s b) e (λ after h. scan_found bs after (n + 1) class k h)
  where
    go : (o : Move) → Moves s b o → scan_by o n (λ after. scan after (n + 1) bs) ≡ sc.Found class k → ((after : State) → scan after (n + 1) bs ≡ sc.Found class k → Taken after bs class (n + 1) k) → Taken s (b ∷ bs) class n k
    go (m.Go after) is e tail =
        let t = tail after e in
        record { used = b ∷ t.used; rest = t.rest; parts = ap (λ (x : List ℕ). b ∷ x) t.parts; size = omega (arith, t.size); left = is.1 class t.used t.left; follows = t.follows }
    go (m.Done found) is e tail =
        let same = found_is found class (n + 1) k e in
        record { used = b ∷ []; rest = bs; parts = refl; size = omega (arith, same.1); left = subst (λ (x : Class). Left s x (b ∷ [])) same.0 is.1; follows = subst (λ (x : Class). MayFollow x bs) same.0 (is.3 bs) }
    go (m.Stop found) is e tail =
        let same = found_is found class n k e in
        record { used = []; rest = b ∷ bs; parts = refl; size = omega (arith, same.1); left = subst (λ (x : Class). Left s x []) same.0 is.1; follows = subst (λ (x : Class). MayFollow x (b ∷ bs)) same.0 (is.3 bs) }
    go m.Bad is e tail = absurd cc

-- a token that reaches the end of the bytes, and that nothing lengthens
pub scan_done : (bytes : List ℕ) (s : State) (n : ℕ) (class : Class) (k : ℕ) → scan s n bytes ≡ sc.Found class k → k ≡ n + length bytes → (w : List ℕ) → MayFollow class w
unfolding scan
scan_done [] s n class k e all w = absurd cc
scan_done (b ∷ bs) s n class k e all w = go (next s b) (moves s b) e (λ after h. scan_done bs after (n + 1) class k h (omega arith) w)
  where
    go : (o : Move) → Moves s b o → scan_by o n (λ after. scan after (n + 1) bs) ≡ sc.Found class k → ((after : State) → scan after (n + 1) bs ≡ sc.Found class k → MayFollow class w) → MayFollow class w
    go (m.Go after) is e tail = tail after e
    go (m.Done found) is e tail = subst (λ (x : Class). MayFollow x w) (found_is found class (n + 1) k e).0 (is.3 w)
    go (m.Stop found) is e tail = let same : n ≡ k = (found_is found class n k e).1 in absurd (omega arith)
    go m.Bad is e tail = absurd cc

-- a token has one end
pub scan_once : (a : List ℕ) (s : State) (x : Class) (rest : List ℕ) (y : Class) (a' rest' : List ℕ) → ((u v : Class) → Left s u [] → Left s v [] → u ≡ v)
    → ((t : State) (u v : Class) → Left t u [] → Left t v [] → u ≡ v)
    → Left s x a → MayFollow x rest → Left s y a' → MayFollow y rest' → a ++ rest ≡ a' ++ rest' → (x ≡ y) × (a ≡ a') × (rest ≡ rest')
scan_once [] s x rest y [] rest' once all l f l' f' e = (once x y l l', refl, e)
scan_once [] s x rest y (b ∷ a') rest' once all l f l' f' e = absurd (stops (next s b) (moves s b))
  where
    stops : (o : Move) → Moves s b o → ⊥
    stops (m.Go after) is = is.2 x (a' ++ rest') l (subst (MayFollow x) e f)
    stops (m.Done found) is = is.2 x l
    stops (m.Stop found) is = is.0 y a' l'
    stops m.Bad is = is.0 y a' l'
scan_once (b ∷ a) s x rest y [] rest' once all l f l' f' e = absurd (stops (next s b) (moves s b))
  where
    stops : (o : Move) → Moves s b o → ⊥
    stops (m.Go after) is = is.2 y (a ++ rest) l' (subst (MayFollow y) (sym e) f')
    stops (m.Done found) is = is.2 y l'
    stops (m.Stop found) is = is.0 x a l
    stops m.Bad is = is.0 x a l
scan_once (b ∷ a) s x rest y (b' ∷ a') rest' once all l f l' f' e =
    go (heads_are b b' (a ++ rest) (a' ++ rest') e) (next s b) (moves s b) (λ after u v. scan_once a after x rest y a' rest' (all after) all u f v f' (tails_are b b' (a ++ rest) (a' ++ rest') e))
  where
    go : b ≡ b' → (o : Move) → Moves s b o → ((after : State) → Left after x a → Left after y a' → (x ≡ y) × (a ≡ a') × (rest ≡ rest')) → (x ≡ y) × ((b ∷ a) ≡ (b' ∷ a')) × (rest ≡ rest')
    go same (m.Go after) is tail = let t = tail after (is.0 x a l) (is.0 y a' (subst (λ (k : ℕ). Left s y (k ∷ a')) (sym same) l')) in (t.0, cc (same, t.1), t.2)
    go same (m.Done found) is tail =
        let one = is.0 x a l in
        let two = is.0 y a' (subst (λ (k : ℕ). Left s y (k ∷ a')) (sym same) l') in
        (one.0 ∙ sym two.0, cc (same, one.1, two.1), sym (ap (λ (k : List ℕ). k ++ rest) one.1) ∙ tails_are b b' (a ++ rest) (a' ++ rest') e ∙ ap (λ (k : List ℕ). k ++ rest') two.1)
    go same (m.Stop found) is tail = absurd (is.0 x a l)
    go same m.Bad is tail = absurd (is.0 x a l)

-- bytes that break a token begin none, however they go on
pub scan_bad : (bytes : List ℕ) (s : State) (n : ℕ) → scan s n bytes ≡ sc.Bad → (class : Class) (a rest w : List ℕ) → bytes ++ w ≡ a ++ rest → Left s class a → MayFollow class rest → ⊥
unfolding scan
scan_bad [] s n e class a rest w cut l f = absurd cc
scan_bad (b ∷ bs) s n e class [] rest w cut l f = go (next s b) (moves s b) e
  where
    go : (o : Move) → Moves s b o → scan_by o n (λ after. scan after (n + 1) bs) ≡ sc.Bad → ⊥
    go (m.Go after) is e = is.2 class (bs ++ w) l (subst (MayFollow class) (sym cut) f)
    go (m.Done found) is e = absurd cc
    go (m.Stop found) is e = absurd cc
    go m.Bad is e = is.1 class (bs ++ w) l (subst (MayFollow class) (sym cut) f)
scan_bad (b ∷ bs) s n e class (x ∷ a) rest w cut l f =
    go (next s b) (moves s b) e (subst (λ (k : ℕ). Left s class (k ∷ a)) (sym (heads_are b x (bs ++ w) (a ++ rest) cut)) l) (λ after h l. scan_bad bs after (n + 1) h class a rest w (tails_are b x (bs ++ w) (a ++ rest) cut) l f)
  where
    go : (o : Move) → Moves s b o → scan_by o n (λ after. scan after (n + 1) bs) ≡ sc.Bad → Left s class (b ∷ a) → ((after : State) → scan after (n + 1) bs ≡ sc.Bad → Left after class a → ⊥) → ⊥
    go (m.Go after) is e l tail = tail after e (is.0 class a l)
    go (m.Done found) is e l tail = absurd cc
    go (m.Stop found) is e l tail = absurd cc
    go m.Bad is e l tail = is.0 class a l

-- bytes that end within a token: what completes it is what completes the token from there
pub scan_end : (bytes : List ℕ) (s : State) (n : ℕ) (t : State) → scan s n bytes ≡ sc.End t → (class : Class) (a : List ℕ) → Left t class a → Left s class (bytes ++ a)
unfolding scan
scan_end [] s n t e class a l = subst (λ (x : State). Left x class a) (sym (end_is s t e)) l
scan_end (b ∷ bs) s n t e class a l = go (next s b) (moves s b) e (λ after h. scan_end bs after (n + 1) t h class a l)
  where
    go : (o : Move) → Moves s b o → scan_by o n (λ after. scan after (n + 1) bs) ≡ sc.End t → ((after : State) → scan after (n + 1) bs ≡ sc.End t → Left after class (bs ++ a)) → Left s class (b ∷ (bs ++ a))
    go (m.Go after) is e tail = is.1 class (bs ++ a) (tail after e)
    go (m.Done found) is e tail = absurd cc
    go (m.Stop found) is e tail = absurd cc
    go m.Bad is e tail = absurd cc

pub end_scan : (bytes : List ℕ) (s : State) (n : ℕ) (t : State) → scan s n bytes ≡ sc.End t → (class : Class) (a rest w : List ℕ) → bytes ++ w ≡ a ++ rest → Left s class a → MayFollow class rest
    → (more : List ℕ) × (a ≡ bytes ++ more) × Left t class more
unfolding scan
end_scan [] s n t e class a rest w cut l f = (a, refl, subst (λ (x : State). Left x class a) (end_is s t e) l)
end_scan (b ∷ bs) s n t e class [] rest w cut l f = absurd (go (next s b) (moves s b) e)
  where
    go : (o : Move) → Moves s b o → scan_by o n (λ after. scan after (n + 1) bs) ≡ sc.End t → ⊥
    go (m.Go after) is e = is.2 class (bs ++ w) l (subst (MayFollow class) (sym cut) f)
    go (m.Done found) is e = absurd cc
    go (m.Stop found) is e = absurd cc
    go m.Bad is e = absurd cc
end_scan (b ∷ bs) s n t e class (x ∷ a) rest w cut l f =
    go (heads_are b x (bs ++ w) (a ++ rest) cut) (next s b) (moves s b) e (subst (λ (k : ℕ). Left s class (k ∷ a)) (sym (heads_are b x (bs ++ w) (a ++ rest) cut)) l)
    (λ after h l. end_scan bs after (n + 1) t h class a rest w (tails_are b x (bs ++ w) (a ++ rest) cut) l f)
  where
    go : b ≡ x → (o : Move) → Moves s b o → scan_by o n (λ after. scan after (n + 1) bs) ≡ sc.End t → Left s class (b ∷ a) → ((after : State) → scan after (n + 1) bs ≡ sc.End t → Left after class a → (more : List ℕ) × (a ≡ bs ++ more) × Left t class more)
        → (more : List ℕ) × (x ∷ a ≡ b ∷ (bs ++ more)) × Left t class more
    go same (m.Go after) is e l tail = let k = tail after e (is.0 class a l) in (k.0, cc (same, k.1), k.2)
    go same (m.Done found) is e l tail = absurd cc
    go same (m.Stop found) is e l tail = absurd cc
    go same m.Bad is e l tail = absurd cc
