-- What may follow the bytes of a text that ends.
use Rattle.std.proofs.Common.{◌≡◌, ℕ, suc, ◌+◌, ◌<◌, ◌≤◌, Bool, true, false, cond, List, [], ◌∷◌, ◌++◌, length, Option, Some, None, refl, sym, ap, subst, ◌∙◌, arith, append_assoc, ◌⊎◌, inl, inr}
use Rattle.gql_tokens.specs.declared.kinds.Kind.{Kind}
use Rattle.gql_tokens.specs.declared.kinds.Kind.TheVariants as k
use Rattle.gql_tokens.specs.declared.numbers.Digit.{Digit}
use Rattle.gql_tokens.specs.declared.numbers.Digit.TheVariants as d
use Rattle.gql_tokens.specs.declared.scanner.Class.{Class}
use Rattle.gql_tokens.specs.declared.scanner.Class.TheVariants as c
use Rattle.gql_tokens.specs.declared.scanner.Chars.TheVariants as s
use Rattle.gql_tokens.specs.declared.scanner.Marks.{Marks}
use Rattle.gql_tokens.specs.declared.scanner.Marks.TheVariants as q
use Rattle.gql_tokens.specs.declared.scanner.State.{State}
use Rattle.gql_tokens.specs.declared.scanner.State.TheVariants as st
use Rattle.gql_tokens.specs.declared.scanner.Move.{Move}
use Rattle.gql_tokens.specs.declared.scanner.Move.TheVariants as m
use Rattle.gql_tokens.specs.declared.scanner.Scan.{Scan}
use Rattle.gql_tokens.specs.declared.scanner.Scan.TheVariants as sc
use Rattle.token_read.specs.Exact.{AreReal}
use Rattle.token_read.specs.Texts.{Among, Settled, Growing}
use Rattle.gql_tokens.specs.Lexical.{Token, Every, MayFollow, IsString, IsBlock, IsLexeme, IsIgnored, blank, byte_order_mark, comment, Leads, here, skip, token, Lexes, IsReal, token_of}
use Rattle.gql_tokens.specs.Lexical as grammar
use Rattle.gql_tokens.specs.Scanning.{start, scan_by, scan, token_at, CompletesNumber, pending, Left, QuotesLeft}
use Rattle.gql_tokens.specs.Ends.{growths}
use Rattle.gql_tokens.proofs.Moves.{clear_on}
use Rattle.gql_tokens.proofs.Scans.{heads_are, tails_are, scan_bad, scan_end, end_scan}
use Rattle.gql_tokens.proofs.Lexemes.{Starts, starts, no_lexeme, lexeme_once}
use Rattle.gql_tokens.proofs.Leading.{Opened, done, skips, takes, opened, leads_then, ignored_starts, begins_no_token, ignored_no_lexeme, leads_on, Begun, leads_first, written, one_written}
use Rattle.gql_tokens.proofs.Words.{name_among, name_grows}

-- ---- the kinds of what completes a token

block_kind : (text more : List ℕ) (class : Class) → class ≡ c.Block → (token_of class (text ++ more)).kind ≡ k.Block
block_kind text more class e = ap (λ (x : Class). (token_of x (text ++ more)).kind) e

str_kind : (text more : List ℕ) (class : Class) → class ≡ c.Str → (token_of class (text ++ more)).kind ≡ k.Str
str_kind text more class e = ap (λ (x : Class). (token_of x (text ++ more)).kind) e

empty_kind : (text more : List ℕ) (class : Class) → class ≡ c.Empty → (token_of class (text ++ more)).kind ≡ k.Str
empty_kind text more class e = ap (λ (x : Class). (token_of x (text ++ more)).kind) e

dots_kind : (text more : List ℕ) (class : Class) → class ≡ c.Mark k.Dots → (token_of class (text ++ more)).kind ≡ k.Dots
dots_kind text more class e = ap (λ (x : Class). (token_of x (text ++ more)).kind) e

number_kind : (text more : List ℕ) (class : Class) → class ≡ c.Number → (token_of class (text ++ more)).kind ≡ k.Number
number_kind text more class e = ap (λ (x : Class). (token_of x (text ++ more)).kind) e

quotes_kind : (text more w : List ℕ) (class : Class) → QuotesLeft class w → Among (token_of class (text ++ more)).kind (k.Str ∷ (k.Block ∷ []))
quotes_kind text more w class (inl l) = inl (empty_kind text more class l.0)
quotes_kind text more w class (inr l) = inr (inl (block_kind text more class l.0))

left_kind : (t : State) (text more : List ℕ) (class : Class) → Left t class more → Among (token_of class (text ++ more)).kind (growths t text)
left_kind st.Dot text more class l = inl (dots_kind text more class l.0)
left_kind st.Dots text more class l = inl (dots_kind text more class l.0)
left_kind st.Name text more class l = subst (λ (x : Class). Among (token_of x (text ++ more)).kind (growths st.Name text)) (sym l.0) (name_among text more)
left_kind (st.Number part) text more class l = inl (number_kind text more class l.0)
left_kind st.Quote text more class (inl (w, cut, l)) = quotes_kind text more w class l
left_kind st.Quote text more class (inr l) = inl (str_kind text more class l.0)
left_kind st.Quotes text more class l = quotes_kind text more more class l
left_kind (st.Str s.Plain) text more class l = inl (str_kind text more class l.0)
left_kind (st.Str s.Escape) text more class l = inl (str_kind text more class l.0)
left_kind (st.Str s.Four) text more class l = inl (str_kind text more class l.0)
left_kind (st.Str s.Three) text more class l = inl (str_kind text more class l.0)
left_kind (st.Str s.Two) text more class l = inl (str_kind text more class l.0)
left_kind (st.Str s.One) text more class l = inl (str_kind text more class l.0)
left_kind (st.Block marks) text more class l = inl (block_kind text more class l.0)

-- ---- each of them may come of it

pub record Completion (t : State) (text : List ℕ) (kind : Kind) : Type 0 where
  pub class : Class
  pub more : List ℕ
  pub left : Left t class more
  pub is : (token_of class (text ++ more)).kind ≡ kind

shut : IsBlock (34 ∷ (34 ∷ (34 ∷ [])))
shut = grammar.IsBlock.close

spaced : IsBlock (32 ∷ (34 ∷ (34 ∷ (34 ∷ []))))
spaced = grammar.IsBlock.plain 32 (34 ∷ (34 ∷ (34 ∷ []))) refl refl refl shut

block_ends : (marks : Marks) → (more : List ℕ) × IsBlock (pending marks more)
block_ends q.Plain = (34 ∷ (34 ∷ (34 ∷ [])), shut)
block_ends q.One = (34 ∷ (34 ∷ []), shut)
block_ends q.Two = (34 ∷ [], shut)
block_ends q.Slash = (32 ∷ (34 ∷ (34 ∷ (34 ∷ []))), clear_on q.Slash 32 (34 ∷ (34 ∷ (34 ∷ []))) refl spaced)
block_ends q.SlashOne = (32 ∷ (34 ∷ (34 ∷ (34 ∷ []))), clear_on q.SlashOne 32 (34 ∷ (34 ∷ (34 ∷ []))) refl spaced)
block_ends q.SlashTwo = (32 ∷ (34 ∷ (34 ∷ (34 ∷ []))), clear_on q.SlashTwo 32 (34 ∷ (34 ∷ (34 ∷ []))) refl spaced)

number_ends : (part : Digit) → (more : List ℕ) × CompletesNumber part more
number_ends d.Minus = (48 ∷ [], (d.Zero, refl, refl))
number_ends d.Zero = ([], refl)
number_ends d.Whole = ([], refl)
number_ends d.Dot = (48 ∷ [], (d.Fraction, refl, refl))
number_ends d.Fraction = ([], refl)
number_ends d.E = (48 ∷ [], (d.Exponent, refl, refl))
number_ends d.Sign = (48 ∷ [], (d.Exponent, refl, refl))
number_ends d.Exponent = ([], refl)

str_end : IsString (34 ∷ [])
str_end = grammar.IsString.close

only_one : (kind one : Kind) → Among kind (one ∷ []) → kind ≡ one
only_one kind one (inl e) = e
only_one kind one (inr e) = absurd e

completes : (t : State) (text : List ℕ) (kind : Kind) → Among kind (growths t text) → Completion t text kind
completes st.Dot text kind h = record { class = c.Mark k.Dots; more = 46 ∷ (46 ∷ []); left = (refl, refl); is = sym (only_one kind k.Dots h) }
completes st.Dots text kind h = record { class = c.Mark k.Dots; more = 46 ∷ []; left = (refl, refl); is = sym (only_one kind k.Dots h) }
completes st.Name text kind h = let g = name_grows text kind h in record { class = c.Name; more = g.0; left = (refl, g.1); is = g.2 }
completes (st.Number part) text kind h = let e = number_ends part in record { class = c.Number; more = e.0; left = (refl, e.1); is = sym (only_one kind k.Number h) }
completes st.Quote text kind (inl e) = record { class = c.Empty; more = 34 ∷ []; left = inl ([], refl, inl (refl, refl)); is = sym e }
completes st.Quote text kind (inr h) = record { class = c.Block; more = 34 ∷ (34 ∷ (34 ∷ (34 ∷ (34 ∷ [])))); left = inl (34 ∷ (34 ∷ (34 ∷ (34 ∷ []))), refl, inr (refl, 34 ∷ (34 ∷ (34 ∷ [])), refl, shut)); is = sym (only_one kind k.Block h) }
completes st.Quotes text kind (inl e) = record { class = c.Empty; more = []; left = inl (refl, refl); is = sym e }
completes st.Quotes text kind (inr h) = record { class = c.Block; more = 34 ∷ (34 ∷ (34 ∷ (34 ∷ []))); left = inr (refl, 34 ∷ (34 ∷ (34 ∷ [])), refl, shut); is = sym (only_one kind k.Block h) }
completes (st.Str s.Plain) text kind h = record { class = c.Str; more = 34 ∷ []; left = (refl, str_end); is = sym (only_one kind k.Str h) }
completes (st.Str s.Escape) text kind h = record { class = c.Str; more = 110 ∷ (34 ∷ []); left = (refl, grammar.IsString.escape 110 (34 ∷ []) refl str_end); is = sym (only_one kind k.Str h) }
completes (st.Str s.Four) text kind h = record { class = c.Str; more = 48 ∷ (48 ∷ (48 ∷ (48 ∷ (34 ∷ [])))); left = (refl, (refl, (refl, (refl, (refl, str_end))))); is = sym (only_one kind k.Str h) }
completes (st.Str s.Three) text kind h = record { class = c.Str; more = 48 ∷ (48 ∷ (48 ∷ (34 ∷ []))); left = (refl, (refl, (refl, (refl, str_end)))); is = sym (only_one kind k.Str h) }
completes (st.Str s.Two) text kind h = record { class = c.Str; more = 48 ∷ (48 ∷ (34 ∷ [])); left = (refl, (refl, (refl, str_end))); is = sym (only_one kind k.Str h) }
completes (st.Str s.One) text kind h = record { class = c.Str; more = 48 ∷ (34 ∷ []); left = (refl, (refl, str_end)); is = sym (only_one kind k.Str h) }
completes (st.Block marks) text kind h = let e = block_ends marks in record { class = c.Block; more = e.0; left = (refl, e.1); is = sym (only_one kind k.Block h) }

-- ---- a token that is cut by the end, or that touches it and may go on

go_is : (x y : State) → m.Go x ≡ m.Go y → x ≡ y
go_is x y e = cc

not_bad : (x : State) → m.Go x ≡ m.Bad → ⊥
not_bad x e = cc

-- the state after the first byte
pub record Cut (b : ℕ) (bs : List ℕ) (t : State) : Type 0 where
  pub first : State
  pub begins : start b ≡ m.Go first
  pub ends : scan first 1 bs ≡ sc.End t

pub cut_is : (b : ℕ) (bs : List ℕ) (t : State) → token_at b bs ≡ sc.End t → Cut b bs t
unfolding token_at
cut_is b bs t e = go (start b) refl e
  where
    go : (o : Move) → start b ≡ o → scan_by o 0 (λ s. scan s 1 bs) ≡ sc.End t → Cut b bs t
    go (m.Go s) is e = record { first = s; begins = is; ends = e }
    go (m.Done found) is e = absurd cc
    go (m.Stop found) is e = absurd cc
    go m.Bad is e = absurd cc

pub going : (b : ℕ) (s : State) → start b ≡ m.Go s → Starts b (m.Go s)
going b s is = subst (Starts b) is (starts b)

-- nothing that is ignored begins here
abbrev pub NotIgnored : ℕ → List ℕ → Type 0
NotIgnored b bs = (a v w : List ℕ) → IsIgnored a v → (b ∷ bs) ++ w ≡ a ++ v → ⊥

starts_apart : (b : ℕ) (bs : List ℕ) → (start b ≡ m.Bad → ⊥) → NotIgnored b bs
starts_apart b bs n a v w is e =
    let s = ignored_starts a v is in
    n (ap start (heads_are b s.0 (bs ++ w) (s.1 ++ v) (e ∙ ap (λ (k : List ℕ). k ++ v) s.2)) ∙ s.3)

-- the token that begins here, however the bytes go on
pub record Next (b : ℕ) (bs w : List ℕ) (all : List Token) : Type 0 where
  pub class : Class
  pub others : List ℕ
  pub rest : List ℕ
  pub after : List Token
  pub parts : bs ++ w ≡ others ++ rest
  pub is : IsLexeme class (b ∷ others)
  pub follows : MayFollow class rest
  pub tokens : all ≡ token_of class (b ∷ others) ∷ after

pub next_is : (b : ℕ) (bs w : List ℕ) (all : List Token) → NotIgnored b bs → Lexes all ((b ∷ bs) ++ w) → Next b bs w all
next_is b bs w all n l = go (opened l)
  where
    taken : (ts : List Token) (class : Class) (a v : List ℕ) → all ≡ token_of class a ∷ ts → (b ∷ bs) ++ w ≡ a ++ v → IsLexeme class a → MayFollow class v → Next b bs w all
    taken ts class [] v e cut is follows = absurd (no_lexeme class is)
    taken ts class (x ∷ a) v e cut is follows =
        let same : x ≡ b = sym (heads_are b x (bs ++ w) (a ++ v) cut) in
        record {
          class = class;
          others = a;
          rest = v;
          after = ts;
          parts = tails_are b x (bs ++ w) (a ++ v) cut;
          is = subst (λ (k : ℕ). IsLexeme class (k ∷ a)) same is;
          follows = follows;
          tokens = e ∙ ap (λ (k : ℕ). token_of class (k ∷ a) ∷ ts) same;
        }

    go : Opened all ((b ∷ bs) ++ w) [] → Next b bs w all
    go (done e none) = absurd cc
    go (skips a v cut is m) = absurd (n a v w is cut)
    go (takes ts class a v e cut is follows m) = taken ts class a v e cut is follows

pub growing : (init : List Token) (bytes : List ℕ) (b : ℕ) (bs : List ℕ) (t : State) → Leads init bytes (b ∷ bs) → token_at b bs ≡ sc.End t → Growing IsReal Lexes bytes init (growths t (b ∷ bs))
growing init bytes b bs t l e = record { only = λ all w lexes. only all w lexes; each = λ kind among. each kind (completes t (b ∷ bs) kind among) }
  where
    cut : Cut b bs t
    cut = cut_is b bs t e

    apart : NotIgnored b bs
    apart = starts_apart b bs (λ bad. not_bad cut.first (sym cut.begins ∙ bad))

    only : (all : List Token) (w : List ℕ) → Lexes all (bytes ++ w) → (x : Token) × (more : List Token) × (all ≡ init ++ (x ∷ more)) × Among x.kind (growths t (b ∷ bs))
    only all w lexes =
        let f = leads_first b bs w l all (bytes ++ w) refl lexes in
        let n = next_is b bs w f.more apart f.lexes in
        let k = end_scan bs cut.first 1 t cut.ends n.class n.others n.rest w n.parts ((going b cut.first cut.begins).0 n.class n.others n.is) n.follows in (
          token_of n.class (b ∷ n.others),
          n.after,
          f.parts ∙ ap (λ (q : List Token). init ++ q) n.tokens,
          subst (λ (q : List ℕ). Among (token_of n.class (b ∷ q)).kind (growths t (b ∷ bs))) (sym k.1) (left_kind t (b ∷ bs) k.0 n.class k.2),
        )

    each : (kind : Kind) → Completion t (b ∷ bs) kind → (x : Token) × (x.kind ≡ kind) × IsReal x × ((more : List Token) → AreReal IsReal more → (w : List ℕ) × Lexes (init ++ (x ∷ more)) (bytes ++ w))
    each kind g =
        let is : IsLexeme g.class (b ∷ (bs ++ g.more)) = (going b cut.first cut.begins).1 g.class (bs ++ g.more) (scan_end bs cut.first 1 t cut.ends g.class g.more g.left) in (
          token_of g.class (b ∷ (bs ++ g.more)),
          g.is,
          (g.class, b ∷ (bs ++ g.more), is, refl),
          λ more real.
              let w = one_written g.class (b ∷ (bs ++ g.more)) more is real in (
                g.more ++ w.0,
                leads_then (leads_on b bs (g.more ++ w.0) l)
                    (subst (λ (q : List ℕ). Lexes (token_of g.class (b ∷ (bs ++ g.more)) ∷ more) (b ∷ q)) (append_assoc bs g.more w.0) w.1),
              ),
        )

-- ---- bytes that begin nothing

pub bad_is : (b : ℕ) (bs : List ℕ) → token_at b bs ≡ sc.Bad → (class : Class) (others rest w : List ℕ) → bs ++ w ≡ others ++ rest → IsLexeme class (b ∷ others) → MayFollow class rest → ⊥
unfolding token_at
bad_is b bs e class others rest w cut is follows = go (start b) (starts b) e
  where
    go : (o : Move) → Starts b o → scan_by o 0 (λ s. scan s 1 bs) ≡ sc.Bad → ⊥
    go (m.Go s) starts e = scan_bad bs s 1 e class others rest w cut (starts.0 class others is) follows
    go (m.Done found) starts e = absurd cc
    go (m.Stop found) starts e = absurd cc
    go m.Bad starts e = starts class others is

pub broken : (init : List Token) (bytes : List ℕ) (b : ℕ) (bs : List ℕ) → Leads init bytes (b ∷ bs) → NotIgnored b bs → token_at b bs ≡ sc.Bad → Growing IsReal Lexes bytes init []
broken init bytes b bs l apart e = record { only = λ all w lexes. absurd (only all w lexes); each = λ kind among. absurd among }
  where
    only : (all : List Token) (w : List ℕ) → Lexes all (bytes ++ w) → ⊥
    only all w lexes =
        let f = leads_first b bs w l all (bytes ++ w) refl lexes in
        let n = next_is b bs w f.more apart f.lexes in
        bad_is b bs e n.class n.others n.rest w n.parts n.is n.follows

-- ---- ends between tokens

ignored_line : (a w : List ℕ) → IsIgnored a [] → IsIgnored a (10 ∷ w)
ignored_line _ w (blank b is) = blank b is
ignored_line _ w byte_order_mark = byte_order_mark
ignored_line _ w (comment a every stops) = comment a every refl

pub settled_first : Settled IsReal Lexes [] []
settled_first = record { only = λ all w lexes. (all, refl); each = λ more real. let k = written more real in (10 ∷ k.0, k.1) }

pub settled_ignored : (ts : List Token) (bytes : List ℕ) (b : ℕ) (bs : List ℕ) → Leads ts bytes (b ∷ bs) → IsIgnored (b ∷ bs) [] → Settled IsReal Lexes bytes ts
settled_ignored ts bytes b bs l is = record {
  only = λ all w lexes. let f = leads_first b bs w l all (bytes ++ w) refl lexes in (f.more, f.parts);
  each = λ more real.
      let k = written more real in
      (10 ∷ k.0, leads_then (leads_on b bs (10 ∷ k.0) l) (skip (b ∷ bs) (10 ∷ k.0) (ignored_line (b ∷ bs) k.0 is) k.1));
}

-- a token that nothing lengthens
pub settled_token : (ts : List Token) (bytes : List ℕ) (b : ℕ) (bs : List ℕ) (class : Class) → Leads ts bytes (b ∷ bs) → IsLexeme class (b ∷ bs) → ((w : List ℕ) → MayFollow class w)
    → Settled IsReal Lexes bytes (ts ++ (token_of class (b ∷ bs) ∷ []))
settled_token ts bytes b bs class l is follows = record {
  only = λ all w lexes. only all w lexes;
  each = λ more real.
      let k = one_written class (b ∷ bs) more is real in
      (k.0, subst (λ (q : List Token). Lexes q (bytes ++ k.0)) (sym (append_assoc ts (token_of class (b ∷ bs) ∷ []) more)) (leads_then (leads_on b bs k.0 l) k.1));
}
  where
    only : (all : List Token) (w : List ℕ) → Lexes all (bytes ++ w) → (more : List Token) × (all ≡ (ts ++ (token_of class (b ∷ bs) ∷ [])) ++ more)
    only all w lexes = go (opened f.lexes)
      where
        f : Begun ts all ((b ∷ bs) ++ w)
        f = leads_first b bs w l all (bytes ++ w) refl lexes

        go : Opened f.more ((b ∷ bs) ++ w) [] → (more : List Token) × (all ≡ (ts ++ (token_of class (b ∷ bs) ∷ [])) ++ more)
        go (done e none) = absurd cc
        go (skips a v cut is' m) = absurd (ignored_no_lexeme a v class (b ∷ bs) w is' is (sym cut))
        go (takes us class' a v e cut is' follows' m) =
            let same = lexeme_once class (b ∷ bs) w class' a v is (follows w) is' follows' cut in
            (us, f.parts ∙ ap (λ (q : List Token). ts ++ q) (e ∙ cc (ap (λ (q : Class). token_of q a) same.0, ap (token_of class) same.1)) ∙ sym (append_assoc ts (token_of class (b ∷ bs) ∷ []) us))

-- a byte order mark that is cut
pub settled_mark : (ts : List Token) (bytes : List ℕ) (bs missing : List ℕ) → Leads ts bytes (239 ∷ bs) → 239 ∷ (bs ++ missing) ≡ 239 ∷ (187 ∷ (191 ∷ [])) → Settled IsReal Lexes bytes ts
settled_mark ts bytes bs missing l e = record {
  only = λ all w lexes. let f = leads_first 239 bs w l all (bytes ++ w) refl lexes in (f.more, f.parts);
  each = λ more real.
      let k = written more real in
      let whole : (239 ∷ (187 ∷ (191 ∷ []))) ++ (10 ∷ k.0) ≡ (239 ∷ bs) ++ (missing ++ (10 ∷ k.0)) = ap (λ (q : List ℕ). q ++ (10 ∷ k.0)) (sym e) ∙ ap (λ (q : List ℕ). 239 ∷ q) (append_assoc bs missing (10 ∷ k.0)) in
      (missing ++ (10 ∷ k.0), leads_then (leads_on 239 bs (missing ++ (10 ∷ k.0)) l) (subst (Lexes more) whole (skip (239 ∷ (187 ∷ (191 ∷ []))) (10 ∷ k.0) byte_order_mark k.1)));
}
