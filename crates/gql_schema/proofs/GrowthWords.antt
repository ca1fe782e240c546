-- The words that begin so, one after another.
use Rattle.std.proofs.Common.{◌≡◌, ℕ, cond, List, [], ◌∷◌, ◌++◌, sym, ap, ◌∙◌, append_assoc}
use Rattle.std.proofs.lemmas.List.{append-nil}
use Rattle.std.proofs.lemmas.Bool.{cond-true, cond-false, cond_both}
use Rattle.gql_tokens.specs.declared.kinds.Kind.{Kind}
use Rattle.gql_tokens.specs.Lexical.{Token, begins}
use Rattle.gql_schema.specs.Growths.{spelled, word_if, Spellings, spelled_from}

-- one word more
pub word_added : (text w : List ℕ) (kind : Kind) (old now all : List Token) (ws : Spellings) → now ≡ old ++ word_if text w kind → all ≡ now ++ spelled_from text ws → all ≡ old ++ spelled_from text ((w, kind) ∷ ws)
unfolding spelled_from
word_added text w kind old now all ws e h = h ∙ ap (λ (q : List Token). q ++ spelled_from text ws) e ∙ append_assoc old (word_if text w kind) (spelled_from text ws) ∙ ap (λ (q : List Token). old ++ q) joined
  where
    joined : word_if text w kind ++ spelled_from text ws ≡ cond (begins text w) (spelled kind w ∷ spelled_from text ws) (spelled_from text ws)
    joined = cond_both (begins text w) (spelled kind w ∷ []) [] (λ (q : List Token). q ++ spelled_from text ws ≡ cond (begins text w) (spelled kind w ∷ spelled_from text ws) (spelled_from text ws))
        (λ is. sym (cond-true (begins text w) (spelled kind w ∷ spelled_from text ws) (spelled_from text ws) is)) (λ other. sym (cond-false (begins text w) (spelled kind w ∷ spelled_from text ws) (spelled_from text ws) other))

pub words_over : (text : List ℕ) (now : List Token) → now ≡ now ++ spelled_from text []
unfolding spelled_from
words_over text now = sym (append-nil now)
