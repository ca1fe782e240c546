-- Tests of tokens, and a token of each kind and word.
use Rattle.std.proofs.Common.{◌≡◌, ℕ, Bool, true, false, List, [], ◌∷◌, refl, sym, ap, subst, ◌∙◌, ◌⊎◌, inl, inr}
use Rattle.std.specs.Prelude.{◌||◌, ◌&&◌, ◌==◌, if◌then◌else◌, codes}
use Rattle.std.proofs.lemmas.Bool.{or_parts, and_parts, eqb-true}
use Rattle.std.proofs.lemmas.Bool.Decides.{Decides-eqb}
use Rattle.token_read.specs.Lexeme.{Lexeme}
use Rattle.token_read.specs.Parse.{sees}
use Rattle.token_read.proofs.Productions.{Apart, Within, never, Has}
use Rattle.gql_tokens.specs.declared.kinds.Kind.{Kind}
use Rattle.gql_tokens.specs.declared.kinds.Kind.TheVariants as k
use Rattle.gql_tokens.specs.declared.scanner.Class.TheVariants as c
use Rattle.gql_tokens.specs.KindTests.{same_kind, is_name}
use Rattle.gql_tokens.specs.Lexical as lexical
use Rattle.gql_tokens.specs.Lexical.{Token, name_kind, token_of, Every, is_name_start, is_name_continue}
use Rattle.gql_tokens.proofs.Samples.{same_is, same_refl, sample}
use Rattle.gql_terms.specs.declared.faults.Refusal.{Refusal}
use Rattle.gql_terms.specs.declared.faults.Refusal.TheVariants.{Unexpected}
use Rattle.gql_schema.specs.declared.words.Word.{Word}
use Rattle.gql_schema.specs.declared.words.Word.TheVariants as w
use Rattle.gql_schema.specs.declared.words.Mark.{Mark}
use Rattle.gql_schema.specs.Words.{code, same_word, word_of, word_by, marked, IsMarked}
use Rattle.gql_schema.specs.Grammar.{is, is_word, named, is_description}

-- ---- words told apart

decode : ℕ → Word
decode n = if n == 0 then w.Schema else (if n == 1 then w.Scalar else (if n == 2 then w.Type else (if n == 3 then w.Interface else (if n == 4 then w.Union else (if n == 5 then w.Enum else
    (if n == 6 then w.Input else (if n == 7 then w.Directive else (if n == 8 then w.Implements else (if n == 9 then w.Repeatable else (if n == 10 then w.QueryRoot else (if n == 11 then w.MutationRoot else
    (if n == 12 then w.Location else w.Other))))))))))))

decoded : (word : Word) → decode (code word) ≡ word
unfolding decode
decoded w.Schema = refl
decoded w.Scalar = refl
decoded w.Type = refl
decoded w.Interface = refl
decoded w.Union = refl
decoded w.Enum = refl
decoded w.Input = refl
decoded w.Directive = refl
decoded w.Implements = refl
decoded w.Repeatable = refl
decoded w.QueryRoot = refl
decoded w.MutationRoot = refl
decoded w.Location = refl
decoded w.Other = refl

pub word_is : (a b : Word) → same_word a b ≡ true → a ≡ b
word_is a b e = sym (decoded a) ∙ ap decode (eqb-true (code a) (code b) e) ∙ decoded b

word_refl : (a : Word) → same_word a a ≡ true
word_refl a = (Decides-eqb (code a) (code a)).1 refl

-- ---- a token of each kind, and of each word

abbrev pub HasMark : (Mark → Bool) → Type 0
HasMark test = Has {R = Refusal} IsMarked Unexpected test

pub has : (kind : Kind) → HasMark (is kind)
has kind = let s = sample kind in (marked s.0, ap (same_kind kind) s.1 ∙ same_refl kind, (s.0, s.2, refl))

pub has_by : (test : Kind → Bool) (kind : Kind) → test kind ≡ true → HasMark (λ m. test m.kind)
has_by test kind e = let s = sample kind in (marked s.0, ap test s.1 ∙ e, (s.0, s.2, refl))

unfoldable pub all_continue : List ℕ → Bool
all_continue [] = true
all_continue (b ∷ bs) = is_name_continue b && all_continue bs

pub every_continue : (bs : List ℕ) → all_continue bs ≡ true → Every is_name_continue bs
unfolding all_continue
every_continue [] h = tt
every_continue (b ∷ bs) h = let parts = and_parts (is_name_continue b) (all_continue bs) h in (parts.0, every_continue bs parts.1)

spelled : (word : Word) (b : ℕ) (bs : List ℕ) → name_kind (b ∷ bs) ≡ k.Name → word_of (b ∷ bs) ≡ word → is_name_start b ≡ true → all_continue bs ≡ true → HasMark (is_word word)
spelled word b bs kind is start every = (
  marked (token_of c.Name (b ∷ bs)),
  ap (λ (q : Kind). same_kind k.Name q && same_word word (word_by q (b ∷ bs))) kind ∙ ap (same_word word) is ∙ word_refl word,
  (token_of c.Name (b ∷ bs), (c.Name, b ∷ bs, lexical.name b bs start (every_continue bs every), refl), refl),
)

pub has_word : (word : Word) → HasMark (is_word word)
unfolding name_kind word_of all_continue
has_word w.Schema = spelled w.Schema 115 (codes "chema") refl refl refl refl
has_word w.Scalar = spelled w.Scalar 115 (codes "calar") refl refl refl refl
has_word w.Type = spelled w.Type 116 (codes "ype") refl refl refl refl
has_word w.Interface = spelled w.Interface 105 (codes "nterface") refl refl refl refl
has_word w.Union = spelled w.Union 117 (codes "nion") refl refl refl refl
has_word w.Enum = spelled w.Enum 101 (codes "num") refl refl refl refl
has_word w.Input = spelled w.Input 105 (codes "nput") refl refl refl refl
has_word w.Directive = spelled w.Directive 100 (codes "irective") refl refl refl refl
has_word w.Implements = spelled w.Implements 105 (codes "mplements") refl refl refl refl
has_word w.Repeatable = spelled w.Repeatable 114 (codes "epeatable") refl refl refl refl
has_word w.QueryRoot = spelled w.QueryRoot 81 (codes "uery") refl refl refl refl
has_word w.MutationRoot = spelled w.MutationRoot 77 (codes "utation") refl refl refl refl
has_word w.Location = spelled w.Location 70 (codes "IELD") refl refl refl refl
has_word w.Other = spelled w.Other 97 [] refl refl refl refl

-- ---- tests that exclude one another

abbrev pub mark : Kind → Word → Mark
mark kind word = record { kind = kind; word = word }

pub apart_is : (kind : Kind) (goes : Mark → Bool) → ((word : Word) → goes (mark kind word) ≡ false) → Apart (is kind) goes
apart_is kind goes e m h = subst (λ (x : Kind). goes (mark x m.word) ≡ false) (same_is kind m.kind h) (e m.word)

pub apart_word : (word : Word) (goes : Mark → Bool) → goes (mark k.Name word) ≡ false → Apart (is_word word) goes
apart_word word goes e m h =
    let parts = and_parts (same_kind k.Name m.kind) (same_word word m.word) h in
    subst (λ (x : Kind). goes (mark x m.word) ≡ false) (same_is k.Name m.kind parts.0) (subst (λ (x : Word). goes (mark k.Name x) ≡ false) (word_is word m.word parts.1) e)

or_cases : (a b : Bool) → (a || b) ≡ true → (a ≡ true) ⊎ (b ≡ true)
or_cases true b h = inl refl
or_cases false b h = inr h

pub apart_or : (one two goes : Mark → Bool) → Apart one goes → Apart two goes → Apart (λ m. one m || two m) goes
apart_or one two goes first second m h = elim (or_cases (one m) (two m) h) [ inl x ↦ first m x | inr x ↦ second m x ]

-- names, by their kind
pub apart_names : (goes : Kind → Bool) → Apart is_name goes → Apart named (λ m. goes m.kind)
apart_names goes apart m h = apart m.kind h

pub apart_description : (goes : Mark → Bool) → ((word : Word) → goes (mark k.Str word) ≡ false) → ((word : Word) → goes (mark k.Block word) ≡ false) → Apart is_description goes
apart_description goes a b = apart_or (is k.Str) (is k.Block) goes (apart_is k.Str goes a) (apart_is k.Block goes b)

pub apart_never : (test : Mark → Bool) → Apart test never
apart_never test m h = refl

-- ---- tests within others

pub itself : (goes : Mark → Bool) → Within goes goes
itself goes m h = h

pub never_within : (goes : Mark → Bool) → Within never goes
never_within goes m h = refl

true_is_false : (b : Bool) → b ≡ true → b ≡ false → ⊥
true_is_false true e f = cc
true_is_false false e f = cc

pub within_is : (kind : Kind) (goes : Kind → Bool) → goes kind ≡ true → Within (is kind) (λ m. goes m.kind)
within_is kind goes e m h = go (same_kind kind m.kind) refl
  where
    go : (b : Bool) → same_kind kind m.kind ≡ b → b ≡ false
    go true is = absurd (true_is_false (goes m.kind) (subst (λ (x : Kind). goes x ≡ true) (same_is kind m.kind is) e) h)
    go false is = refl

pub within_left : (one two : Mark → Bool) → Within one (λ m. one m || two m)
within_left one two m h = (or_parts (one m) (two m) h).0

pub within_right : (one two : Mark → Bool) → Within two (λ m. one m || two m)
within_right one two m h = (or_parts (one m) (two m) h).1

-- ---- what begins with one of two

pub sees_more : (test more : Mark → Bool) → ((m : Mark) → test m ≡ true → more m ≡ true) → (ts : List (Lexeme Mark)) → sees test ts ≡ true → sees more ts ≡ true
sees_more test more to [] h = absurd cc
sees_more test more to (t ∷ ts) h = to t.kind h

pub to_left : (one two : Mark → Bool) (m : Mark) → one m ≡ true → (one m || two m) ≡ true
to_left one two m h = subst (λ (b : Bool). (b || two m) ≡ true) (sym h) refl

pub to_right : (one two : Mark → Bool) (m : Mark) → two m ≡ true → (one m || two m) ≡ true
to_right one two m h = go (one m)
  where
    go : (b : Bool) → (b || two m) ≡ true
    go true = refl
    go false = h
