-- What a name at the end of a text may grow to, as the grammar of schemas sees it.
use Rattle.std.proofs.Common.{◌≡◌, ℕ, Bool, true, false, cond, List, [], ◌∷◌, ◌++◌, map, refl, sym, ap, subst, ◌∙◌, ◌⊎◌, inl, inr}
use Rattle.std.specs.Prelude.{◌==◌, ◌&&◌, not, codes}
use Rattle.std.specs.Str.{bytes_eq}
use Rattle.std.proofs.lemmas.Bool.{and_parts, cond_both, cond-true}
use Rattle.std.proofs.lemmas.Slice.Eq.{bytes_eq-Decides}
use Rattle.token_read.specs.Texts.{Among}
use Rattle.gql_tokens.specs.declared.kinds.Kind.{Kind}
use Rattle.gql_tokens.specs.declared.kinds.Kind.TheVariants as k
use Rattle.gql_tokens.specs.declared.scanner.Class.TheVariants as c
use Rattle.gql_tokens.specs.KindTests.{same_kind}
use Rattle.gql_tokens.specs.Lexical as lexical
use Rattle.gql_tokens.specs.Lexical.{Token, begins, grammar_words, name_kind, token_of, Every, is_name_continue}
use Rattle.gql_tokens.specs.Ends.{words_from}
use Rattle.gql_tokens.proofs.Words.{begins_front, begins_rest, every_behind, name_among}
use Rattle.gql_schema.specs.declared.words.Word.{Word}
use Rattle.gql_schema.specs.declared.words.Word.TheVariants as w
use Rattle.gql_schema.specs.declared.words.Mark.{Mark}
use Rattle.gql_schema.specs.Words.{Table, keywords, locations, word_among, or_else, word_of, word_by, mark_of}
use Rattle.gql_schema.specs.Growths.{spelled, Spellings, spelled_from, as_names, names_from}
use Rattle.gql_schema.proofs.Marking.{mark, all_continue, every_continue}

-- the marks of tokens
abbrev pub marks : List Token → List Mark
marks ts = map mark_of ts

pub among_front : (m : Mark) (a b : List Token) → Among m (marks a) → Among m (marks (a ++ b))
among_front m [] b h = absurd h
among_front m (t ∷ a) b (inl e) = inl e
among_front m (t ∷ a) b (inr h) = inr (among_front m a b h)

pub among_behind : (m : Mark) (a b : List Token) → Among m (marks b) → Among m (marks (a ++ b))
among_behind m [] b h = h
among_behind m (t ∷ a) b h = inr (among_behind m a b h)

pub among_parts : (m : Mark) (a b : List Token) → Among m (marks (a ++ b)) → Among m (marks a) ⊎ Among m (marks b)
among_parts m [] b h = inr h
among_parts m (t ∷ a) b (inl e) = inl (inl e)
among_parts m (t ∷ a) b (inr h) = elim (among_parts m a b h) [ inl x ↦ inl (inr x) | inr x ↦ inr x ]

-- ---- each word is the name that it is spelled as

abbrev Good : List ℕ × Kind → Type 0
Good x = (name_kind x.0 ≡ x.1) × (all_continue x.0 ≡ true)

abbrev AllGood : Spellings → Type 0
AllGood [] = Unit {0}
AllGood (x ∷ xs) = Good x × AllGood xs

good_words : AllGood grammar_words
unfolding name_kind all_continue
good_words = ((refl, refl), ((refl, refl), ((refl, refl), ((refl, refl), ((refl, refl), ((refl, refl), ((refl, refl), ((refl, refl), tt))))))))

good_keywords : AllGood (as_names keywords)
unfolding name_kind all_continue
good_keywords = ((refl, refl), ((refl, refl), ((refl, refl), ((refl, refl), ((refl, refl), ((refl, refl), ((refl, refl), ((refl, refl), ((refl, refl), ((refl, refl), ((refl, refl), ((refl, refl), tt))))))))))))

good_locations : AllGood (as_names locations)
unfolding name_kind all_continue
good_locations = ((refl, refl), ((refl, refl), ((refl, refl), ((refl, refl), ((refl, refl), ((refl, refl), ((refl, refl), ((refl, refl), ((refl, refl), ((refl, refl), ((refl, refl), ((refl, refl), ((refl, refl), ((refl, refl), ((refl, refl), ((refl, refl), ((refl, refl), ((refl, refl), ((refl, refl), tt)))))))))))))))))))

-- ---- what a name is that begins so

-- the grammar_words of a table are what it says
abbrev Said : Table → Type 0
Said [] = Unit {0}
Said (x ∷ xs) = (word_of x.0 ≡ x.1) × Said xs

said_keywords : Said keywords
unfolding word_of
said_keywords = (refl, (refl, (refl, (refl, (refl, (refl, (refl, (refl, (refl, (refl, (refl, (refl, tt))))))))))))

said_locations : Said locations
unfolding word_of
said_locations = (refl, (refl, (refl, (refl, (refl, (refl, (refl, (refl, (refl, (refl, (refl, (refl, (refl, (refl, (refl, (refl, (refl, (refl, (refl, tt)))))))))))))))))))

kept : (m : Mark) (text : List ℕ) (word : List ℕ) (kind : Kind) (ts : List Token) → Among m (marks ts) → Among m (marks (cond (begins text word) (spelled kind word ∷ ts) ts))
kept m text word kind ts h = cond_both (begins text word) (spelled kind word ∷ ts) ts (λ (q : List Token). Among m (marks q)) (λ _. inr h) (λ _. h)

first : (text word : List ℕ) (kind : Kind) (ts : List Token) → begins text word ≡ true → Among (mark_of (spelled kind word)) (marks (cond (begins text word) (spelled kind word ∷ ts) ts))
first text word kind ts is = subst (λ (q : List Token). Among (mark_of (spelled kind word)) (marks q)) (sym (cond-true (begins text word) (spelled kind word ∷ ts) ts is)) (inl refl)

table_among : (xs : Table) (text y : List ℕ) → Said xs → begins text y ≡ true → (word_among xs y ≡ w.Other) ⊎ Among (mark k.Name (word_among xs y)) (marks (spelled_from text (as_names xs)))
unfolding spelled_from
table_among [] text y said h = inl refl
table_among (x ∷ xs) text y said h = cond_both (bytes_eq y x.0) x.1 (word_among xs y)
    (λ (o : Word). (o ≡ w.Other) ⊎ Among (mark k.Name o) (marks (cond (begins text x.0) (spelled k.Name x.0 ∷ spelled_from text (as_names xs)) (spelled_from text (as_names xs)))))
    (λ is. let b : begins text x.0 ≡ true = subst (λ (q : List ℕ). begins text q ≡ true) ((bytes_eq-Decides y x.0).0 is) h in
    inr (subst (λ (q : Word). Among (mark k.Name q) (marks (cond (begins text x.0) (spelled k.Name x.0 ∷ spelled_from text (as_names xs)) (spelled_from text (as_names xs))))) said.0 (first text x.0 k.Name (spelled_from text (as_names xs)) b)))
    (λ _. later (table_among xs text y said.1 h))
  where
    later : (word_among xs y ≡ w.Other) ⊎ Among (mark k.Name (word_among xs y)) (marks (spelled_from text (as_names xs)))
        → (word_among xs y ≡ w.Other) ⊎ Among (mark k.Name (word_among xs y)) (marks (cond (begins text x.0) (spelled k.Name x.0 ∷ spelled_from text (as_names xs)) (spelled_from text (as_names xs))))
    later (inl e) = inl e
    later (inr m) = inr (kept (mark k.Name (word_among xs y)) text x.0 k.Name (spelled_from text (as_names xs)) m)

else_cases : (a b : Word) → ((a ≡ w.Other) × (or_else a b ≡ b)) ⊎ (or_else a b ≡ a)
else_cases w.Other b = inl (refl, refl)
else_cases w.Schema b = inr refl
else_cases w.Scalar b = inr refl
else_cases w.Type b = inr refl
else_cases w.Interface b = inr refl
else_cases w.Union b = inr refl
else_cases w.Enum b = inr refl
else_cases w.Input b = inr refl
else_cases w.Directive b = inr refl
else_cases w.Implements b = inr refl
else_cases w.Repeatable b = inr refl
else_cases w.QueryRoot b = inr refl
else_cases w.MutationRoot b = inr refl
else_cases w.Location b = inr refl

other_word : word_of (codes "_") ≡ w.Other
unfolding word_of
other_word = refl

-- a name that is no word of documents
plain_among : (text y : List ℕ) → begins text y ≡ true → Among (mark k.Name (word_of y)) (marks (names_from text))
unfolding word_of
plain_among text y h = go (else_cases (word_among keywords y) (word_among locations y))
  where
    none : (x : Word) → x ≡ w.Other → Among (mark k.Name x) (marks (names_from text))
    none x e = inl (ap (mark k.Name) (e ∙ sym other_word))

    go : ((word_among keywords y ≡ w.Other) × (or_else (word_among keywords y) (word_among locations y) ≡ word_among locations y)) ⊎ (or_else (word_among keywords y) (word_among locations y) ≡ word_among keywords y)
        → Among (mark k.Name (or_else (word_among keywords y) (word_among locations y))) (marks (names_from text))
    go (inl (a, b)) = subst (λ (q : Word). Among (mark k.Name q) (marks (names_from text))) (sym b) (at_location (table_among locations text y said_locations h))
      where
        at_location : (word_among locations y ≡ w.Other) ⊎ Among (mark k.Name (word_among locations y)) (marks (spelled_from text (as_names locations))) → Among (mark k.Name (word_among locations y)) (marks (names_from text))
        at_location (inl e) = none (word_among locations y) e
        at_location (inr m) = inr (among_behind (mark k.Name (word_among locations y)) (spelled_from text grammar_words) (spelled_from text (as_names keywords) ++ spelled_from text (as_names locations))
            (among_behind (mark k.Name (word_among locations y)) (spelled_from text (as_names keywords)) (spelled_from text (as_names locations)) m))
    go (inr a) = subst (λ (q : Word). Among (mark k.Name q) (marks (names_from text))) (sym a) (at_keyword (table_among keywords text y said_keywords h))
      where
        at_keyword : (word_among keywords y ≡ w.Other) ⊎ Among (mark k.Name (word_among keywords y)) (marks (spelled_from text (as_names keywords))) → Among (mark k.Name (word_among keywords y)) (marks (names_from text))
        at_keyword (inl e) = none (word_among keywords y) e
        at_keyword (inr m) = inr (among_behind (mark k.Name (word_among keywords y)) (spelled_from text grammar_words) (spelled_from text (as_names keywords) ++ spelled_from text (as_names locations))
            (among_front (mark k.Name (word_among keywords y)) (spelled_from text (as_names keywords)) (spelled_from text (as_names locations)) m))

pub no_word : (kind : Kind) (a : List ℕ) → same_kind k.Name kind ≡ false → word_by kind a ≡ w.Other
no_word k.Name a e = absurd cc
no_word _ a e = refl

pub mark_is : (t u : Token) → t.kind ≡ u.kind → same_kind k.Name u.kind ≡ false → mark_of t ≡ mark_of u
mark_is t u e n =
    let m : same_kind k.Name t.kind ≡ false = subst (λ (q : Kind). same_kind k.Name q ≡ false) (sym e) n in
    ap (mark t.kind) (no_word t.kind t.text m) ∙ ap (λ (q : Kind). mark q w.Other) e ∙ sym (ap (mark u.kind) (no_word u.kind u.text n))

-- no kind of these is that of a name
abbrev pub NoNames : List Kind → Type 0
NoNames [] = Unit {0}
NoNames (kind ∷ kinds) = (same_kind k.Name kind ≡ false) × NoNames kinds

abbrev OwnKinds : Spellings → Type 0
OwnKinds [] = Unit {0}
OwnKinds (x ∷ xs) = (same_kind k.Name x.1 ≡ false) × OwnKinds xs

own_kinds : OwnKinds grammar_words
own_kinds = (refl, (refl, (refl, (refl, (refl, (refl, (refl, (refl, tt))))))))

-- a word that has a kind of its own
kind_among : (xs : Spellings) (text : List ℕ) (t : Token) → OwnKinds xs → Among t.kind (words_from text xs) → Among (mark_of t) (marks (spelled_from text xs))
unfolding words_from spelled_from
kind_among [] text t own h = absurd h
kind_among (x ∷ xs) text t own h = go (begins text x.0) refl h (λ m. kind_among xs text t own.1 m)
  where
    go : (b : Bool) → begins text x.0 ≡ b → Among t.kind (cond b (x.1 ∷ words_from text xs) (words_from text xs)) → (Among t.kind (words_from text xs) → Among (mark_of t) (marks (spelled_from text xs)))
        → Among (mark_of t) (marks (cond (begins text x.0) (spelled x.1 x.0 ∷ spelled_from text xs) (spelled_from text xs)))
    go true is (inl e) tail = subst (λ (q : Mark). Among q (marks (cond (begins text x.0) (spelled x.1 x.0 ∷ spelled_from text xs) (spelled_from text xs)))) (sym (mark_is t (spelled x.1 x.0) e own.0)) (first text x.0 x.1 (spelled_from text xs) is)
    go true is (inr m) tail = kept (mark_of t) text x.0 x.1 (spelled_from text xs) (tail m)
    go false is m tail = kept (mark_of t) text x.0 x.1 (spelled_from text xs) (tail m)

-- the mark of a name is among those that its front may grow to
pub names_among : (text more : List ℕ) → Among (mark_of (token_of c.Name (text ++ more))) (marks (names_from text))
names_among text more = go (name_among text more)
  where
    go : Among (name_kind (text ++ more)) (k.Name ∷ words_from text grammar_words) → Among (mark_of (token_of c.Name (text ++ more))) (marks (names_from text))
    go (inl e) = subst (λ (q : Kind). Among (mark q (word_by q (text ++ more))) (marks (names_from text))) (sym e) (plain_among text (text ++ more) (begins_front text more))
    go (inr h) = inr (among_front (mark_of (token_of c.Name (text ++ more))) (spelled_from text grammar_words) (spelled_from text (as_names keywords) ++ spelled_from text (as_names locations)) (kind_among grammar_words text (token_of c.Name (text ++ more)) own_kinds h))

-- ---- each of those marks may come of it

-- a name of this mark that begins so
abbrev pub Grown : List ℕ → Mark → Type 0
Grown text m = (more : List ℕ) × Every is_name_continue more × (mark_of (token_of c.Name (text ++ more)) ≡ m)

grows_word : (xs : Spellings) (text : List ℕ) (m : Mark) → AllGood xs → Among m (marks (spelled_from text xs)) → Grown text m
unfolding spelled_from
grows_word [] text m good h = absurd h
grows_word (x ∷ xs) text m good h = go (begins text x.0) refl h (λ n. grows_word xs text m good.1 n)
  where
    here : begins text x.0 ≡ true → m ≡ mark_of (spelled x.1 x.0) → Grown text m
    here b e =
        let more = begins_rest text x.0 b in (
          more.0,
          every_behind is_name_continue text more.0 (subst (Every is_name_continue) more.1 (every_continue x.0 good.0.1)),
          ap (λ (q : List ℕ). mark_of (token_of c.Name q)) (sym more.1) ∙ ap (λ (q : Kind). mark_of (spelled q x.0)) good.0.0 ∙ sym e,
        )

    go : (b : Bool) → begins text x.0 ≡ b → Among m (marks (cond b (spelled x.1 x.0 ∷ spelled_from text xs) (spelled_from text xs))) → (Among m (marks (spelled_from text xs)) → Grown text m) → Grown text m
    go true is (inl e) tail = here is e
    go true is (inr n) tail = tail n
    go false is n tail = tail n

-- no word has a digit
all_letters : List ℕ → Bool
all_letters [] = true
all_letters (b ∷ bs) = not (b == 48) && all_letters bs

digit_ends : (text : List ℕ) → all_letters (text ++ (48 ∷ [])) ≡ true → ⊥
unfolding all_letters
digit_ends [] h = absurd cc
digit_ends (b ∷ text) h = digit_ends text (and_parts (not (b == 48)) (all_letters (text ++ (48 ∷ []))) h).1

abbrev Lettered : {A : Type 0} → List (List ℕ × A) → Type 0
Lettered [] = Unit {0}
Lettered (x ∷ xs) = (all_letters x.0 ≡ true) × Lettered xs

lettered_words : Lettered grammar_words
unfolding all_letters
lettered_words = (refl, (refl, (refl, (refl, (refl, (refl, (refl, (refl, tt))))))))

lettered_keywords : Lettered keywords
unfolding all_letters
lettered_keywords = (refl, (refl, (refl, (refl, (refl, (refl, (refl, (refl, (refl, (refl, (refl, (refl, tt))))))))))))

lettered_locations : Lettered locations
unfolding all_letters
lettered_locations = (refl, (refl, (refl, (refl, (refl, (refl, (refl, (refl, (refl, (refl, (refl, (refl, (refl, (refl, (refl, (refl, (refl, (refl, (refl, tt)))))))))))))))))))

apart : (text word : List ℕ) → all_letters word ≡ true → bytes_eq (text ++ (48 ∷ [])) word ≡ true → ⊥
apart text word letters is = digit_ends text (subst (λ (q : List ℕ). all_letters q ≡ true) (sym ((bytes_eq-Decides (text ++ (48 ∷ [])) word).0 is)) letters)

no_kind : (xs : List (List ℕ × Kind)) (text : List ℕ) → Lettered xs → lexical.word_among xs (text ++ (48 ∷ [])) ≡ k.Name
no_kind [] text h = refl
no_kind (x ∷ xs) text h = cond_both (bytes_eq (text ++ (48 ∷ [])) x.0) x.1 (lexical.word_among xs (text ++ (48 ∷ []))) (λ (o : Kind). o ≡ k.Name) (λ is. absurd (apart text x.0 h.0 is)) (λ _. no_kind xs text h.1)

no_table : (xs : Table) (text : List ℕ) → Lettered xs → word_among xs (text ++ (48 ∷ [])) ≡ w.Other
no_table [] text h = refl
no_table (x ∷ xs) text h = cond_both (bytes_eq (text ++ (48 ∷ [])) x.0) x.1 (word_among xs (text ++ (48 ∷ []))) (λ (o : Word). o ≡ w.Other) (λ is. absurd (apart text x.0 h.0 is)) (λ _. no_table xs text h.1)

digit_kind : (text : List ℕ) → name_kind (text ++ (48 ∷ [])) ≡ k.Name
unfolding name_kind
digit_kind text = no_kind grammar_words text lettered_words

digit_word : (text : List ℕ) → word_of (text ++ (48 ∷ [])) ≡ w.Other
unfolding word_of
digit_word text = ap (λ (q : Word). or_else q (word_among locations (text ++ (48 ∷ [])))) (no_table keywords text lettered_keywords) ∙ no_table locations text lettered_locations

pub names_grow : (text : List ℕ) (m : Mark) → Among m (marks (names_from text)) → Grown text m
names_grow text m (inl e) = (48 ∷ [], (refl, tt), ap (λ (q : Kind). mark q (word_by q (text ++ (48 ∷ [])))) (digit_kind text) ∙ ap (mark k.Name) (digit_word text ∙ sym other_word) ∙ sym e)
names_grow text m (inr h) = elim (among_parts m (spelled_from text grammar_words) (spelled_from text (as_names keywords) ++ spelled_from text (as_names locations)) h) [
  | inl x ↦ grows_word grammar_words text m good_words x
  | inr x ↦ elim (among_parts m (spelled_from text (as_names keywords)) (spelled_from text (as_names locations)) x) [ inl y ↦ grows_word (as_names keywords) text m good_keywords y | inr y ↦ grows_word (as_names locations) text m good_locations y ]
]
