-- What a name may grow to.
use Rattle.std.proofs.Common.{◌≡◌, ℕ, Bool, true, false, cond, List, [], ◌∷◌, ◌++◌, refl, sym, ap, subst, ◌∙◌, ◌⊎◌, inl, inr}
use Rattle.std.specs.Prelude.{◌==◌, ◌||◌, ◌&&◌, not, codes}
use Rattle.std.proofs.lemmas.Bool.{eqb-true, and_parts, and_from, cond_both, cond-true, cond-false}
use Rattle.std.specs.Str.{bytes_eq}
use Rattle.std.proofs.lemmas.Slice.Eq.{bytes_eq-Decides}
use Rattle.std.proofs.lemmas.Bool.Decides.{Decides-eqb}
use Rattle.gql_tokens.specs.declared.kinds.Kind.{Kind}
use Rattle.gql_tokens.specs.declared.kinds.Kind.TheVariants as k
use Rattle.token_read.specs.Texts.{Among}
use Rattle.gql_tokens.specs.Lexical.{begins, grammar_words, word_among, name_kind, Every, is_name_continue}
use Rattle.gql_tokens.specs.Ends.{words_from}

abbrev Words : Type 0
Words = List (List ℕ × Kind)

-- ---- fronts

pub begins_front : (a w : List ℕ) → begins a (a ++ w) ≡ true
begins_front [] w = refl
begins_front (b ∷ a) w = and_from (b == b) (begins a (a ++ w)) ((Decides-eqb b b).1 refl) (begins_front a w)

pub begins_rest : (a w : List ℕ) → begins a w ≡ true → (more : List ℕ) × (w ≡ a ++ more)
begins_rest [] w h = (w, refl)
begins_rest (p ∷ a) [] h = absurd cc
begins_rest (p ∷ a) (b ∷ w) h =
    let parts = and_parts (b == p) (begins a w) h in
    let k = begins_rest a w parts.1 in
    (k.0, cc (eqb-true b p parts.0, k.1))

pub every_behind : (test : ℕ → Bool) (a b : List ℕ) → Every test (a ++ b) → Every test b
every_behind test [] b h = h
every_behind test (x ∷ a) b h = every_behind test a b h.1

-- ---- the kind of a name is among those that its front may grow to

kept : (kind other : Kind) (text : List ℕ) (w : List ℕ × Kind) (ks : List Kind) → Among kind (other ∷ ks) → Among kind (other ∷ cond (begins text w.0) (w.1 ∷ ks) ks)
kept kind other text w ks (inl e) = inl e
kept kind other text w ks (inr h) = inr (cond_both (begins text w.0) (w.1 ∷ ks) ks (Among kind) (λ _. inr h) (λ _. h))

among_words : (ws : Words) (text x : List ℕ) → begins text x ≡ true → Among (word_among ws x) (k.Name ∷ words_from text ws)
unfolding words_from
among_words [] text x h = inl refl
among_words (w ∷ ws) text x h = cond_both (bytes_eq x w.0) w.1 (word_among ws x) (λ (o : Kind). Among o (k.Name ∷ cond (begins text w.0) (w.1 ∷ words_from text ws) (words_from text ws)))
    (λ is. let b : begins text w.0 ≡ true = subst (λ (q : List ℕ). begins text q ≡ true) ((bytes_eq-Decides x w.0).0 is) h in
    inr (subst (Among w.1) (sym (cond-true (begins text w.0) (w.1 ∷ words_from text ws) (words_from text ws) b)) (inl refl)))
    (λ _. kept (word_among ws x) k.Name text w (words_from text ws) (among_words ws text x h))

pub name_among : (text more : List ℕ) → Among (name_kind (text ++ more)) (k.Name ∷ words_from text grammar_words)
unfolding name_kind
name_among text more = among_words grammar_words text (text ++ more) (begins_front text more)

-- ---- each of those kinds may come of it

abbrev Good : List ℕ × Kind → Type 0
Good w = (name_kind w.0 ≡ w.1) × Every is_name_continue w.0

abbrev AllGood : Words → Type 0
AllGood [] = Unit {0}
AllGood (w ∷ ws) = Good w × AllGood ws

are_good : AllGood grammar_words
unfolding name_kind
are_good = (
  (refl, (refl, (refl, (refl, (refl, (refl, tt)))))),
  (
    (refl, (refl, (refl, (refl, (refl, (refl, (refl, (refl, (refl, tt))))))))),
    (
      (refl, (refl, (refl, (refl, (refl, (refl, (refl, (refl, (refl, (refl, (refl, (refl, (refl, tt))))))))))))),
      (
        (refl, (refl, (refl, (refl, (refl, (refl, (refl, (refl, (refl, tt))))))))),
        (
          (refl, (refl, (refl, tt))),
          (
            (refl, (refl, (refl, (refl, (refl, tt))))),
            (
              (refl, (refl, (refl, (refl, (refl, (refl, tt)))))),
              ((refl, (refl, (refl, (refl, (refl, tt))))), tt),
            ),
          ),
        ),
      ),
    ),
  ),
)

-- a name of this kind that begins so
abbrev pub Grown : List ℕ → Kind → Type 0
Grown text kind = (more : List ℕ) × Every is_name_continue more × (name_kind (text ++ more) ≡ kind)

grows_word : (ws : Words) (text : List ℕ) (kind : Kind) → AllGood ws → Among kind (words_from text ws) → Grown text kind
unfolding words_from
grows_word [] text kind good h = absurd h
grows_word (w ∷ ws) text kind good h = go (begins text w.0) refl h (λ m. grows_word ws text kind good.1 m)
  where
    here : begins text w.0 ≡ true → kind ≡ w.1 → Grown text kind
    here b e =
        let more = begins_rest text w.0 b in
        (more.0, every_behind is_name_continue text more.0 (subst (Every is_name_continue) more.1 good.0.1), ap name_kind (sym more.1) ∙ good.0.0 ∙ sym e)

    go : (b : Bool) → begins text w.0 ≡ b → Among kind (cond b (w.1 ∷ words_from text ws) (words_from text ws)) → (Among kind (words_from text ws) → Grown text kind) → Grown text kind
    go true is (inl e) tail = here is e
    go true is (inr m) tail = tail m
    go false is m tail = tail m

-- no word of the grammar has a `_`
abbrev NoLine : Words → Type 0
NoLine [] = Unit {0}
NoLine (w ∷ ws) = Every (λ b. not (b == 95)) w.0 × NoLine ws

have_no_line : NoLine grammar_words
have_no_line = (
  (refl, (refl, (refl, (refl, (refl, tt))))),
  (
    (refl, (refl, (refl, (refl, (refl, (refl, (refl, (refl, tt)))))))),
    (
      (refl, (refl, (refl, (refl, (refl, (refl, (refl, (refl, (refl, (refl, (refl, (refl, tt)))))))))))),
      (
        (refl, (refl, (refl, (refl, (refl, (refl, (refl, (refl, tt)))))))),
        (
          (refl, (refl, tt)),
          (
            (refl, (refl, (refl, (refl, tt)))),
            (
              (refl, (refl, (refl, (refl, (refl, tt))))),
              ((refl, (refl, (refl, (refl, tt)))), tt),
            ),
          ),
        ),
      ),
    ),
  ),
)

lined : (ws : Words) (text : List ℕ) → NoLine ws → word_among ws (text ++ (95 ∷ [])) ≡ k.Name
lined [] text h = refl
lined (w ∷ ws) text h = cond_both (bytes_eq (text ++ (95 ∷ [])) w.0) w.1 (word_among ws (text ++ (95 ∷ []))) (λ (o : Kind). o ≡ k.Name)
    (λ is. absurd (no_line (every_behind (λ b. not (b == 95)) text (95 ∷ []) (subst (Every (λ b. not (b == 95))) (sym ((bytes_eq-Decides (text ++ (95 ∷ [])) w.0).0 is)) h.0))))
    (λ _. lined ws text h.1)
  where
    no_line : Every (λ b. not (b == 95)) (95 ∷ []) → ⊥
    no_line x = absurd cc

pub name_grows : (text : List ℕ) (kind : Kind) → Among kind (k.Name ∷ words_from text grammar_words) → Grown text kind
unfolding name_kind
name_grows text kind (inl e) = (95 ∷ [], (refl, tt), lined grammar_words text have_no_line ∙ sym e)
name_grows text kind (inr h) = grows_word grammar_words text kind are_good h
