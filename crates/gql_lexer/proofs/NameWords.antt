-- The words of the grammar, one after another.
use Rattle.std.proofs.Common.{◌≡◌, ℕ, suc, ◌+◌, Bool, true, false, cond, List, [], ◌∷◌, ◌++◌, take, length, refl, sym, ap, subst, ◌∙◌, arith, append_assoc}
use Rattle.std.specs.Prelude.{◌==◌, ◌&&◌, codes}
use Rattle.std.specs.Str.{bytes_eq}
use Rattle.std.proofs.lemmas.Bool.{eqb-true, cond-true, cond-false, cond_both, and_parts, and_from}
use Rattle.std.proofs.lemmas.Bool.Decides.{Decides-eqb}
use Rattle.std.proofs.lemmas.List.{append-nil}
use Rattle.std.proofs.lemmas.Slice.Eq.{bytes_eq-Decides}
use Rattle.gql_tokens.specs.declared.kinds.Kind.{Kind}
use Rattle.gql_tokens.specs.declared.kinds.Kind.TheVariants as k
use Rattle.gql_tokens.specs.Lexical.{begins, word_among}
use Rattle.gql_tokens.specs.Ends.{words_from}
use Rattle.gql_lexer.specs.Endings.{word_kinds}

abbrev pub Words : Type 0
Words = List (List ℕ × Kind)

-- the words behind each
abbrev pub behind_null : Words
behind_null = []

abbrev pub behind_false : Words
behind_false = (codes "null", k.Null) ∷ behind_null

abbrev pub behind_true : Words
behind_true = (codes "false", k.False) ∷ behind_false

abbrev pub behind_on : Words
behind_on = (codes "true", k.True) ∷ behind_true

abbrev pub behind_fragment : Words
behind_fragment = (codes "on", k.On) ∷ behind_on

abbrev pub behind_subscription : Words
behind_subscription = (codes "fragment", k.Fragment) ∷ behind_fragment

abbrev pub behind_mutation : Words
behind_mutation = (codes "subscription", k.Subscription) ∷ behind_subscription

abbrev pub behind_query : Words
behind_query = (codes "mutation", k.Mutation) ∷ behind_mutation

-- ---- the kind of a name

pub word_here : (a w : List ℕ) (kind : Kind) (ws : Words) → bytes_eq a w ≡ true → word_among ((w, kind) ∷ ws) a ≡ kind
word_here a w kind ws e = cond-true (bytes_eq a w) kind (word_among ws a) e

pub word_behind : (a w : List ℕ) (kind found : Kind) (ws : Words) → bytes_eq a w ≡ false → word_among ws a ≡ found → word_among ((w, kind) ∷ ws) a ≡ found
word_behind a w kind found ws e h = cond-false (bytes_eq a w) kind (word_among ws a) e ∙ h

-- ---- fronts of words

same_bool : (x y : Bool) → (x ≡ true → y ≡ true) → (y ≡ true → x ≡ true) → x ≡ y
same_bool true y f g = sym (f refl)
same_bool false true f g = g refl
same_bool false false f g = refl

begins_is : (front word : List ℕ) → begins front word ≡ true → front ≡ take (length front) word
begins_is [] word h = refl
begins_is (p ∷ front) [] h = absurd cc
begins_is (p ∷ front) (b ∷ word) h =
    let parts = and_parts (b == p) (begins front word) h in
    cc (eqb-true b p parts.0, begins_is front word parts.1)

is_begins : (front word : List ℕ) → front ≡ take (length front) word → begins front word ≡ true
is_begins [] word h = refl
is_begins (p ∷ front) [] h = absurd cc
is_begins (p ∷ front) (b ∷ word) h = and_from (b == p) (begins front word) ((Decides-eqb b p).1 (first b p h)) (is_begins front word (rest b p h))
  where
    first : (b p : ℕ) → p ∷ front ≡ b ∷ take (length front) word → b ≡ p
    first b p e = cc

    rest : (b p : ℕ) → p ∷ front ≡ b ∷ take (length front) word → front ≡ take (length front) word
    rest b p e = cc

pub starts_as : (front word : List ℕ) → bytes_eq front (take (length front) word) ≡ begins front word
starts_as front word = same_bool (bytes_eq front (take (length front) word)) (begins front word)
    (λ h. is_begins front word ((bytes_eq-Decides front (take (length front) word)).0 h)) (λ h. (bytes_eq-Decides front (take (length front) word)).1 (begins_is front word h))

-- ---- the words that begin so

-- one word more
pub word_added : (text w : List ℕ) (kind : Kind) (old now all : List Kind) (ws : Words) → now ≡ old ++ word_kinds text w kind → all ≡ now ++ words_from text ws → all ≡ old ++ words_from text ((w, kind) ∷ ws)
unfolding words_from
word_added text w kind old now all ws e h = h ∙ ap (λ (q : List Kind). q ++ words_from text ws) e ∙ append_assoc old (word_kinds text w kind) (words_from text ws) ∙ ap (λ (q : List Kind). old ++ q) joined
  where
    joined : word_kinds text w kind ++ words_from text ws ≡ cond (begins text w) (kind ∷ words_from text ws) (words_from text ws)
    joined = cond_both (begins text w) (kind ∷ []) [] (λ (q : List Kind). q ++ words_from text ws ≡ cond (begins text w) (kind ∷ words_from text ws) (words_from text ws))
        (λ is. sym (cond-true (begins text w) (kind ∷ words_from text ws) (words_from text ws) is)) (λ other. sym (cond-false (begins text w) (kind ∷ words_from text ws) (words_from text ws) other))

pub words_over : (text : List ℕ) (now : List Kind) → now ≡ now ++ words_from text []
unfolding words_from
words_over text now = sym (append-nil now)
