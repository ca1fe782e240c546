-- A production of documents is read exactly where it stands in a schema.
use Rattle.std.proofs.Common.{◌≡◌, ℕ, ◌-◌, ◌≤◌, Bool, List, [], ◌∷◌, ◌++◌, map, drop, length, Ok, Err, refl, sym, ap, subst, ◌∙◌, arith, length-append}
use Rattle.std.proofs.lemmas.List.{map-append, length-map, drop-map, drop_at}
use Rattle.token_read.specs.Lexeme.{Lexeme}
use Rattle.token_read.specs.Parse.{Answer}
use Rattle.token_read.proofs.Exact.{Stops, SameHead, AreReal, Viable, IsRead, IsRefused, IsExact, ok, err, ok_is, err_is}
use Rattle.gql_tokens.specs.declared.kinds.Kind.{Kind}
use Rattle.gql_tokens.specs.Lexical.{Token, IsReal}
use Rattle.gql_terms.specs.Grammar as document
use Rattle.gql_terms.specs.declared.faults.Refusal.{Refusal}
use Rattle.gql_parser.specs.Reading as reading
use Rattle.gql_schema.specs.declared.words.Mark.{Mark}
use Rattle.gql_schema.specs.Words.{marked, plain, IsMarked}
use Rattle.gql_schema.specs.Grammar.{Over}
use Rattle.gql_schema.specs.Reading.{back, over}

pub plains : (ts : List Token) → map plain (map marked ts) ≡ ts
plains [] = refl
plains (t ∷ ts) = ap (λ (q : List Token). t ∷ q) (plains ts)

pub are_marked : (ts : List Token) → AreReal IsReal ts → AreReal IsMarked (map marked ts)
are_marked [] real = tt
are_marked (t ∷ ts) real = ((t, real.0, refl), are_marked ts real.1)

same_plain : (rest more : List (Lexeme Mark)) → SameHead rest more → SameHead (map plain rest) (map plain more)
same_plain [] [] h = tt
same_plain [] (u ∷ us) h = absurd h
same_plain (t ∷ ts) [] h = absurd h
same_plain (t ∷ ts) (u ∷ us) h = ap (λ (m : Mark). m.kind) h

-- what is left of these tokens
left_is : (used rest : List (Lexeme Mark)) → drop (length (used ++ rest) - length (map plain rest)) (used ++ rest) ≡ rest
left_is used rest = ap (λ (n : ℕ). drop n (used ++ rest)) count ∙ drop_at used rest (length used) refl
  where
    count : length (used ++ rest) - length (map plain rest) ≡ length used
    count = omega (arith, length-append used rest, length-map rest plain)

-- tokens cut where their plain ones are
record Cut (ts : List (Lexeme Mark)) (a b : List Token) : Type 0 where
  pub used : List (Lexeme Mark)
  pub rest : List (Lexeme Mark)
  pub parts : ts ≡ used ++ rest
  pub front : map plain used ≡ a
  pub behind : map plain rest ≡ b

cut : (a b : List Token) (ts : List (Lexeme Mark)) → map plain ts ≡ a ++ b → Cut ts a b
cut [] b ts e = record { used = []; rest = ts; parts = refl; front = refl; behind = e }
cut (x ∷ a) b [] e = absurd cc
cut (x ∷ a) b (t ∷ ts) e =
    let c = cut a b ts (tails (plain t) x (map plain ts) (a ++ b) e) in
    record { used = t ∷ c.used; rest = c.rest; parts = ap (λ (q : List (Lexeme Mark)). t ∷ q) c.parts; front = cc (heads (plain t) x (map plain ts) (a ++ b) e, c.front); behind = c.behind }
  where
    heads : (x y : Token) (p q : List Token) → x ∷ p ≡ y ∷ q → x ≡ y
    heads x y p q e = cc

    tails : (x y : Token) (p q : List Token) → x ∷ p ≡ y ∷ q → p ≡ q
    tails x y p q e = cc

module _ {A : Type 0} where
  pub back_ok : (used rest : List (Lexeme Mark)) (x : A) (o : Answer Kind Refusal A) → o ≡ Ok (x, map plain rest) → back (used ++ rest) o ≡ Ok (x, rest)
  back_ok used rest x o e = ap (back (used ++ rest)) e ∙ ap (λ (q : List (Lexeme Mark)). ok {R = Refusal} (x, q)) (left_is used rest)

  pub back_err : (used rest : List (Lexeme Mark)) (r : Refusal) (o : Answer Kind Refusal A) → o ≡ Err (r, map plain rest) → back (used ++ rest) o ≡ Err (r, rest)
  back_err used rest r o e = ap (back (used ++ rest)) e ∙ ap (λ (q : List (Lexeme Mark)). err {A = A} (r, q)) (left_is used rest)

module _ {A : Type 0} (goes : Kind → Bool) (p : reading.Reader A) (G : document.Rule A) (exact : IsExact IsReal goes p G) where
  abbrev Goes : Mark → Bool
  Goes m = goes m.kind

  stops_plain : (rest : List (Lexeme Mark)) → Stops Goes rest → Stops goes (map plain rest)
  stops_plain [] h = refl
  stops_plain (t ∷ rest) h = h

  viable_marks : (front : List (Lexeme Mark)) → Viable IsReal G (map plain front) → Viable IsMarked (Over G) front
  viable_marks front (a, w, real, g) = (a, map marked w, are_marked w real, subst (G a) (sym (map-append plain front (map marked w) ∙ ap (λ (q : List Token). map plain front ++ q) (plains w))) g)

  sound : (ts : List (Lexeme Mark)) (a : A) (rest : List (Lexeme Mark)) (o : Answer Kind Refusal A) → p (map plain ts) ≡ o → back ts o ≡ Ok (a, rest) → IsRead IsMarked (over p) (Over G) ts a rest
  sound ts a rest (Err x) is e = absurd cc
  sound ts a rest (Ok x) is e =
      let f = exact.sound (map plain ts) x.0 x.1 is in
      let c = cut f.used x.1 ts f.parts in
      let here : back ts (Ok x) ≡ Ok (x.0, c.rest) = ap (λ (q : List (Lexeme Mark)). back q (Ok x)) c.parts ∙ back_ok c.used c.rest x.0 (Ok x) (ap (λ (q : List Token). ok {R = Refusal} (x.0, q)) (sym c.behind)) in
      let same : (x.0, c.rest) ≡ (a, rest) = ok_is {R = Refusal} (x.0, c.rest) (a, rest) (sym here ∙ e) in
      let first : x.0 ≡ a = ap (λ (q : A × List (Lexeme Mark)). q.0) same in
      let last : c.rest ≡ rest = ap (λ (q : A × List (Lexeme Mark)). q.1) same in
      record {
        used = c.used;
        parts = c.parts ∙ ap (λ (q : List (Lexeme Mark)). c.used ++ q) last;
        is = subst (λ (q : A). G q (map plain c.used)) first (subst (G x.0) (sym c.front) f.is);
        always = λ more heads.
            let alike : SameHead x.1 (map plain more) = subst (λ (q : List Token). SameHead q (map plain more)) c.behind (same_plain c.rest more (subst (λ (q : List (Lexeme Mark)). SameHead q more) (sym last) heads)) in
            let read : p (map plain (c.used ++ more)) ≡ Ok (x.0, map plain more) = ap p (map-append plain c.used more ∙ ap (λ (q : List Token). q ++ map plain more) c.front) ∙ f.always (map plain more) alike in
            back_ok c.used more x.0 (p (map plain (c.used ++ more))) read ∙ ap (λ (q : A). ok {R = Refusal} (q, more)) first;
      }

  stops : (ts : List (Lexeme Mark)) (r : Refusal) (rest : List (Lexeme Mark)) (o : Answer Kind Refusal A) → p (map plain ts) ≡ o → back ts o ≡ Err (r, rest) → IsRefused IsMarked (over p) (Over G) ts r rest
  stops ts r rest (Ok x) is e = absurd cc
  stops ts r rest (Err x) is e =
      let f = exact.stops (map plain ts) x.0 x.1 is in
      let c = cut f.front x.1 ts f.parts in
      let here : back {A = A} ts (Err x) ≡ Err (x.0, c.rest) = ap (λ (q : List (Lexeme Mark)). back {A = A} q (Err x)) c.parts ∙ back_err c.used c.rest x.0 (Err x) (ap (λ (q : List Token). err {A = A} (x.0, q)) (sym c.behind)) in
      let same : (x.0, c.rest) ≡ (r, rest) = err_is {A = A} (x.0, c.rest) (r, rest) (sym here ∙ e) in
      let first : x.0 ≡ r = ap (λ (q : Refusal × List (Lexeme Mark)). q.0) same in
      let last : c.rest ≡ rest = ap (λ (q : Refusal × List (Lexeme Mark)). q.1) same in
      record {
        front = c.used;
        parts = c.parts ∙ ap (λ (q : List (Lexeme Mark)). c.used ++ q) last;
        viable = viable_marks c.used (subst (Viable IsReal G) (sym c.front) f.viable);
        always = λ more heads.
            let alike : SameHead x.1 (map plain more) = subst (λ (q : List Token). SameHead q (map plain more)) c.behind (same_plain c.rest more (subst (λ (q : List (Lexeme Mark)). SameHead q more) (sym last) heads)) in
            let read : p (map plain (c.used ++ more)) ≡ Err (x.0, map plain more) = ap p (map-append plain c.used more ∙ ap (λ (q : List Token). q ++ map plain more) c.front) ∙ f.always (map plain more) alike in
            back_err c.used more x.0 (p (map plain (c.used ++ more))) read ∙ ap (λ (q : Refusal). err {A = A} (q, more)) first;
      }

  pub over_exact : IsExact IsMarked Goes (over p) (Over G)
  over_exact = record {
    sound = λ ts a rest e. sound ts a rest (p (map plain ts)) refl e;
    complete = λ a used rest g ends. back_ok used rest a (p (map plain (used ++ rest))) (ap p (map-append plain used rest) ∙ exact.complete a (map plain used) (map plain rest) g (stops_plain rest ends));
    stops = λ ts r rest e. stops ts r rest (p (map plain ts)) refl e;
    some = let s = exact.some in (s.0, map marked s.1, are_marked s.1 s.2, subst (G s.0) (sym (plains s.1)) s.3);
  }

-- ---- as the code goes on

pub kept : (rest : List Token) (n : ℕ) → map marked (drop (length rest - n) rest) ≡ drop (length (map marked rest) - n) (map marked rest)
kept rest n = sym (drop-map marked (length rest - n) rest) ∙ ap (λ (m : ℕ). drop (m - n) (map marked rest)) (sym (length-map rest marked))

module _ {A : Type 0} (p : reading.Reader A) (self : List (Lexeme Mark)) (rest ts : List Token) (view : map marked rest ≡ self) (same : ts ≡ rest) where
  these : map plain self ≡ ts
  these = ap (map plain) (sym view) ∙ plains rest ∙ sym same

  pub reads_ok : (a : A) (new : List Token) (n : ℕ) (left : List (Lexeme Mark)) → p ts ≡ Ok (a, new) → n ≡ length new → left ≡ drop (length self - n) self → over p self ≡ Ok (a, left)
  reads_ok a new n left e size is = ap (back self) (ap p these ∙ e) ∙ ap (λ (m : ℕ). ok {R = Refusal} (a, drop (length self - m) self)) (sym size) ∙ ap (λ (q : List (Lexeme Mark)). ok {R = Refusal} (a, q)) (sym is)

  pub reads_err : (r : Refusal) (new : List Token) (n : ℕ) (left : List (Lexeme Mark)) → p ts ≡ Err (r, new) → n ≡ length new → left ≡ drop (length self - n) self → over p self ≡ Err (r, left)
  reads_err r new n left e size is = ap (back self) (ap p these ∙ e) ∙ ap (λ (m : ℕ). err {A = A} (r, drop (length self - m) self)) (sym size) ∙ ap (λ (q : List (Lexeme Mark)). err {A = A} (r, q)) (sym is)

  module _ (goes : Kind → Bool) (G : document.Rule A) (exact : IsExact IsReal goes p G) where
    count : length self ≡ length ts
    count = sym (length-map self plain) ∙ ap length these

    pub left_ok : (a : A) (new : List Token) (n : ℕ) → p ts ≡ Ok (a, new) → n ≡ length new → n ≤ length self
    left_ok a new n e size = let f = exact.sound ts a new e in omega (arith, count, size, ap length f.parts, length-append f.used new)

    pub left_err : (r : Refusal) (new : List Token) (n : ℕ) → p ts ≡ Err (r, new) → n ≡ length new → n ≤ length self
    left_err r new n e size = let f = exact.stops ts r new e in omega (arith, count, size, ap length f.parts, length-append f.front new)
