-- Trying one kind after another.
use Rattle.std.proofs.Common.{◌≡◌, ℕ, zero, suc, ◌+◌, ◌<◌, ◌≤◌, Bool, true, false, List, [], ◌∷◌, ◌++◌, take, length, Result, Ok, Err, refl, sym, ap, subst, ◌∙◌, arith, length-append, ◌⊎◌, inl, inr}
use Rattle.std.proofs.Common.{get_or}
use Rattle.std.proofs.lemmas.List.{take_all}
use Rattle.token_read.specs.Lexeme.{Lexeme}
use Rattle.token_read.specs.Parse.{Answer, Parser}
use Rattle.token_read.specs.Texts.{Among, Consumed, any_of, CanFollow}
use Rattle.gql_tokens.specs.declared.kinds.Kind.{Kind}
use Rattle.gql_terms.specs.declared.faults.Refusal.{Refusal}
use Rattle.gql_terms.specs.declared.documents.Document.{Document}
use Rattle.gql_tokens.specs.Lexing.{EndsWhole, EndsCut}
use Rattle.gql_terms.specs.declared.faults.GqlFault.TheVariants as faults
use Rattle.gql_terms.specs.Grammar.{strict}
use Rattle.gql_parser.specs.Reading.{all}
use Rattle.gql_parser.specs.Faults.{Explains, placed, MayBegin}
use Rattle.gql_parser.specs.Judging.{TellsWhether, RefusedLast}
use Rattle.gql_parser.proofs.Explained.{whole_grows, whole_refused, cut_grows, cut_refused}

nil_of : {T : Type 0} (xs : List T) → length xs ≡ 0 → xs ≡ []
nil_of [] e = refl
nil_of (x ∷ xs) e = absurd (omega arith)

pub consumed_ok : (o : Answer Kind Refusal Document) (d : Document) (rest : List (Lexeme Kind)) (b : Bool) → o ≡ Ok (d, rest) → (b ≡ true → length rest ≡ 0) → (b ≡ false → length rest ≡ 0 → ⊥) → TellsWhether b (Consumed o)
consumed_ok o d rest true e over left = subst (λ (q : Answer Kind Refusal Document). Consumed q) (sym e) (nil_of rest (over refl))
consumed_ok o d rest false e over left = λ c. left refl (ap length (subst (λ (q : Answer Kind Refusal Document). Consumed q) e c))

pub consumed_err : (o : Answer Kind Refusal Document) (k : Refusal) (rest : List (Lexeme Kind)) (b : Bool) → o ≡ Err (k, rest) → (b ≡ true → length rest ≡ 0) → (b ≡ false → length rest ≡ 0 → ⊥) → TellsWhether b (Consumed o)
consumed_err o k rest true e over left = subst (λ (q : Answer Kind Refusal Document). Consumed q) (sym e) (nil_of rest (over refl))
consumed_err o k rest false e over left = λ c. left refl (ap length (subst (λ (q : Answer Kind Refusal Document). Consumed q) e c))

module _ (p : Parser Kind Refusal Document) (ts : List (Lexeme Kind)) where
  among_at : (kinds : List Kind) (i : ℕ) (d : Kind) → i < length kinds → Among (get_or kinds i d) kinds
  among_at [] i d lt = absurd (omega arith)
  among_at (k ∷ ks) zero d lt = inl refl
  among_at (k ∷ ks) (suc i) d lt = inr (among_at ks i d (omega arith))

  among_more : (kinds : List Kind) (i : ℕ) (d kind : Kind) → i < length kinds → Among kind (take (suc i) kinds) → Among kind (take i kinds) ⊎ (kind ≡ get_or kinds i d)
  among_more [] i d kind lt h = absurd (omega arith)
  among_more (k ∷ ks) zero d kind lt (inl e) = inr e
  among_more (k ∷ ks) zero d kind lt (inr h) = absurd h
  among_more (k ∷ ks) (suc i) d kind lt (inl e) = inl (inl e)
  among_more (k ∷ ks) (suc i) d kind lt (inr h) = elim (among_more ks i d kind (omega arith) h) [ inl x ↦ inl (inr x) | inr e ↦ inr e ]

  pub follows_here : (kinds : List Kind) (i : ℕ) (d : Kind) (us : List (Lexeme Kind)) → i < length kinds → us ≡ ts ++ (any_of (get_or kinds i d) ∷ []) → Consumed (p us) → CanFollow p ts kinds
  follows_here kinds i d us lt e h = (get_or kinds i d, among_at kinds i d lt, subst (λ (q : List (Lexeme Kind)). Consumed (p q)) e h)

  pub follows_none : (kinds : List Kind) → CanFollow p ts (take 0 kinds) → ⊥
  follows_none kinds (k, among, h) = among

  pub follows_more : (kinds : List Kind) (i : ℕ) (d : Kind) (us : List (Lexeme Kind)) → i < length kinds → (CanFollow p ts (take i kinds) → ⊥) → us ≡ ts ++ (any_of (get_or kinds i d) ∷ []) → (Consumed (p us) → ⊥) → CanFollow p ts (take (i + 1) kinds) → ⊥
  follows_more kinds i d us lt before e none (k, among, h) =
      let same : i + 1 ≡ suc i = omega arith in
      go (among_more kinds i d k lt (subst (λ (q : ℕ). Among k (take q kinds)) same among))
    where
      go : Among k (take i kinds) ⊎ (k ≡ get_or kinds i d) → ⊥
      go (inl x) = before (k, x, h)
      go (inr x) = none (subst (λ (q : List (Lexeme Kind)). Consumed (p q)) (ap (λ (q : Kind). ts ++ (any_of q ∷ [])) x ∙ sym e) h)

  pub follows_over : (kinds : List Kind) (i : ℕ) → length kinds ≤ i → (CanFollow p ts (take i kinds) → ⊥) → CanFollow p ts kinds → ⊥
  follows_over kinds i le none c = none (subst (CanFollow p ts) (sym (take_all i kinds le)) c)

  pub turn_none : (kinds : List Kind) (i : ℕ) (d : Kind) (now : List (Lexeme Kind)) (b : Bool) → i < length kinds → now ≡ ts → (CanFollow p ts (take i kinds) → ⊥)
      → TellsWhether b (Consumed (p (now ++ (any_of (get_or kinds i d) ∷ [])))) → b ≡ false → CanFollow p ts (take (i + 1) kinds) → ⊥
  turn_none kinds i d now true lt same before tells e = absurd cc
  turn_none kinds i d now false lt same before tells e = follows_more kinds i d (now ++ (any_of (get_or kinds i d) ∷ [])) lt before (ap (λ (q : List (Lexeme Kind)). q ++ (any_of (get_or kinds i d) ∷ [])) same) tells

  pub turn_here : (kinds : List Kind) (i : ℕ) (d : Kind) (now : List (Lexeme Kind)) (b : Bool) → i < length kinds → now ≡ ts
      → TellsWhether b (Consumed (p (now ++ (any_of (get_or kinds i d) ∷ [])))) → b ≡ true → CanFollow p ts kinds
  turn_here kinds i d now false lt same tells e = absurd cc
  turn_here kinds i d now true lt same tells e = follows_here kinds i d (now ++ (any_of (get_or kinds i d) ∷ [])) lt (ap (λ (q : List (Lexeme Kind)). q ++ (any_of (get_or kinds i d) ∷ [])) same) tells

-- ---- the last token may grow

last_same : (a b : List (Lexeme Kind)) (t u : Lexeme Kind) → a ++ (t ∷ []) ≡ b ++ (u ∷ []) → a ≡ b
last_same [] [] t u e = refl
last_same [] (y ∷ b) t u e = absurd (omega (arith, ap length e, length-append b (u ∷ [])))
last_same (x ∷ a) [] t u e = absurd (omega (arith, ap length e, length-append a (t ∷ [])))
last_same (x ∷ a) (y ∷ b) t u e = cc (heads_are x y (a ++ (t ∷ [])) (b ++ (u ∷ [])) e, last_same a b t u (tails_are x y (a ++ (t ∷ [])) (b ++ (u ∷ [])) e))
  where
    heads_are : (x y : Lexeme Kind) (p q : List (Lexeme Kind)) → x ∷ p ≡ y ∷ q → x ≡ y
    heads_are x y p q e = cc

    tails_are : (x y : Lexeme Kind) (p q : List (Lexeme Kind)) → x ∷ p ≡ y ∷ q → p ≡ q
    tails_are x y p q e = cc

pub some_tokens : (text : List ℕ) (ts : List (Lexeme Kind)) (kinds : List Kind) → EndsWhole text ts kinds → 0 < length ts
some_tokens text ts kinds w = omega (arith, ap length w.parts, length-append w.init (w.last ∷ []))

init_is : (text : List ℕ) (ts now : List (Lexeme Kind)) (kinds : List Kind) (t : Lexeme Kind) (w : EndsWhole text ts kinds) → ts ≡ now ++ (t ∷ []) → now ≡ w.init
init_is text ts now kinds t w e = last_same now w.init t w.last (sym e ∙ w.parts)

pub grown_explains : (text : List ℕ) (ts now : List (Lexeme Kind)) (kinds : List Kind) (place : ℕ) (why : Refusal) (t : Lexeme Kind) (b : Bool) → EndsWhole text ts kinds → RefusedLast text ts place why → ts ≡ now ++ (t ∷ [])
    → TellsWhether b (CanFollow (all strict) now kinds) → b ≡ true → Explains text faults.Ended
grown_explains text ts now kinds place why t false w r e tells is = absurd cc
grown_explains text ts now kinds place why t true w r e tells is =
    whole_grows text ts kinds w (why, r.token ∷ []) r.refused (subst (λ (q : List (Lexeme Kind)). CanFollow (all strict) q kinds) (init_is text ts now kinds t w e) tells)

pub refused_last_explains : (text : List ℕ) (ts now : List (Lexeme Kind)) (kinds : List Kind) (place : ℕ) (why : Refusal) (t : Lexeme Kind) (b : Bool) → EndsWhole text ts kinds → RefusedLast text ts place why → ts ≡ now ++ (t ∷ [])
    → TellsWhether b (CanFollow (all strict) now kinds) → b ≡ false → Explains text (placed why place)
refused_last_explains text ts now kinds place why t true w r e tells is = absurd cc
refused_last_explains text ts now kinds place why t false w r e tells is =
    subst (λ (q : ℕ). Explains text (placed why q)) (sym r.place_is)
    (whole_refused text ts kinds w r.places why r.token r.stand r.refused (λ c. tells (subst (λ (q : List (Lexeme Kind)). CanFollow (all strict) q kinds) (sym (init_is text ts now kinds t w e)) c)) r.index (omega (arith, r.count)))

pub cut_grown : (text : List ℕ) (ts : List (Lexeme Kind)) (kinds : List Kind) (place : ℕ) (b : Bool) → EndsCut text ts place kinds → TellsWhether b (CanFollow (all strict) ts kinds) → b ≡ true → Explains text faults.Ended
cut_grown text ts kinds place false w tells is = absurd cc
cut_grown text ts kinds place true w tells is = cut_grows text ts place kinds w tells

pub cut_stops : (text : List ℕ) (ts : List (Lexeme Kind)) (kinds : List Kind) (place : ℕ) (b : Bool) → EndsCut text ts place kinds → MayBegin strict ts → TellsWhether b (CanFollow (all strict) ts kinds) → b ≡ false → Explains text (faults.Unexpected place)
cut_stops text ts kinds place true w may tells is = absurd cc
cut_stops text ts kinds place false w may tells is = cut_refused text ts place kinds w may tells
