-- How a text may go on, in tokens as the grammar of schemas sees them.
use Rattle.std.proofs.Common.{◌≡◌, ℕ, suc, ◌+◌, ◌<◌, false, List, [], ◌∷◌, ◌++◌, map, get_or, length, refl, sym, ap, subst, ◌∙◌, arith, append_assoc, inl, inr}
use Rattle.std.specs.Str.{IsUtf8, IsCharBoundary}
use Rattle.std.proofs.lemmas.List.{map-append, drop_at, append_cancel_left}
use Rattle.std.proofs.lemmas.Str.{IsCharBoundary-start, IsUtf8-drop}
use Rattle.token_read.specs.Lexeme.{Lexeme}
use Rattle.token_read.specs.Exact.{AreReal}
use Rattle.token_read.specs.Texts.{Among, Settled, Growing}
use Rattle.gql_tokens.specs.declared.kinds.Kind.{Kind}
use Rattle.gql_tokens.specs.declared.kinds.Kind.TheVariants as k
use Rattle.gql_tokens.specs.declared.scanner.Class.{Class}
use Rattle.gql_tokens.specs.declared.scanner.Class.TheVariants as c
use Rattle.gql_tokens.specs.declared.scanner.State.{State}
use Rattle.gql_tokens.specs.declared.scanner.State.TheVariants as st
use Rattle.gql_tokens.specs.declared.scanner.Move.TheVariants as m
use Rattle.gql_tokens.specs.declared.scanner.Scan.TheVariants as sc
use Rattle.gql_tokens.specs.KindTests.{same_kind}
use Rattle.gql_tokens.specs.Lexical.{Token, IsLexeme, IsIgnored, MayFollow, Leads, here, skip, token, Lexes, IsReal, token_of}
use Rattle.gql_tokens.specs.Lexing.{TokenAt, NoneIgnored, EndsWhole}
use Rattle.gql_tokens.specs.Scanning.{start, token_at}
use Rattle.gql_tokens.proofs.Scans.{heads_are, scan_end, end_scan}
use Rattle.gql_tokens.proofs.Lexemes.{no_lexeme, lexeme_once}
use Rattle.gql_tokens.proofs.Leading.{Opened, done, skips, takes, opened, leads_then, ignored_starts, ignored_no_lexeme, leads_on, leads_first, lexes_real, one_written}
use Rattle.gql_tokens.proofs.Ends.{cut_is, going, NotIgnored, next_is, growing, broken}
use Rattle.gql_tokens.proofs.Fronts.{found_front}
use Rattle.gql_lexer.proofs.Bounds.{after_token, after_ignored}
use Rattle.gql_lexer.proofs.Turns.{apart}
use Rattle.gql_schema.specs.declared.words.Mark.{Mark}
use Rattle.gql_schema.specs.Words.{mark_of, marked, IsMarked}
use Rattle.gql_schema.specs.Growths.{blank, names_from, growths}
use Rattle.gql_schema.specs.Faults.{LexesMarked}
use Rattle.gql_schema.proofs.NameGrowths.{marks, mark_is, NoNames, names_among, names_grow}
use Rattle.gql_schema.proofs.Over.{are_marked}

-- ---- tokens and marks

pub lexes_marked : (ms : List (Lexeme Mark)) (bytes : List ℕ) → LexesMarked ms bytes → AreReal IsMarked ms
lexes_marked ms bytes (ts, l, e) = subst (AreReal IsMarked) (sym e) (are_marked ts (lexes_real l))

-- the tokens that these are
unmarked : (ms : List (Lexeme Mark)) → AreReal IsMarked ms → (ts : List Token) × AreReal IsReal ts × (ms ≡ map marked ts)
unmarked [] real = ([], tt, refl)
unmarked (x ∷ ms) ((t, is, e), real) = let f = unmarked ms real in (t ∷ f.0, (is, f.1), cc (e, f.2))

pub settled_marks : (bytes : List ℕ) (ts : List Token) → Settled IsReal Lexes bytes ts → Settled IsMarked LexesMarked bytes (map marked ts)
settled_marks bytes ts settled = record {
  only = λ all w lexes. let o = settled.only lexes.0 w lexes.1 in (map marked o.0, lexes.2 ∙ ap (map marked) o.1 ∙ map-append marked ts o.0);
  each = λ more real.
      let f = unmarked more real in
      let e = settled.each f.0 f.1 in
      (e.0, (ts ++ f.0, e.1, ap (λ (q : List (Lexeme Mark)). map marked ts ++ q) f.2 ∙ sym (map-append marked ts f.0)));
}

-- what goes on with a token, in marks
goes_with : (bytes : List ℕ) (init : List Token) (t : Token) → ((more : List Token) → AreReal IsReal more → (w : List ℕ) × Lexes (init ++ (t ∷ more)) (bytes ++ w))
    → (more : List (Lexeme Mark)) → AreReal IsMarked more → (w : List ℕ) × LexesMarked (map marked init ++ (marked t ∷ more)) (bytes ++ w)
goes_with bytes init t each more real =
    let f = unmarked more real in
    let e = each f.0 f.1 in
    (e.0, (init ++ (t ∷ f.0), e.1, ap (λ (q : List (Lexeme Mark)). map marked init ++ (marked t ∷ q)) f.2 ∙ sym (map-append marked init (t ∷ f.0))))

-- ---- kinds that no name has

among_blank : (kinds : List Kind) → NoNames kinds → (t : Token) → Among t.kind kinds → Among (mark_of t) (marks (map blank kinds))
among_blank [] n t h = absurd h
among_blank (kind ∷ kinds) n t (inl e) = inl (mark_is t (blank kind) e n.0)
among_blank (kind ∷ kinds) n t (inr h) = inr (among_blank kinds n.1 t h)

blank_among : (kinds : List Kind) → NoNames kinds → (x : Mark) → Among x (marks (map blank kinds)) → (kind : Kind) × Among kind kinds × (same_kind k.Name kind ≡ false) × (x ≡ mark_of (blank kind))
blank_among [] n x h = absurd h
blank_among (kind ∷ kinds) n x (inl e) = (kind, inl refl, n.0, e)
blank_among (kind ∷ kinds) n x (inr h) = let f = blank_among kinds n.1 x h in (f.0, inr f.1, f.2, f.3)

plain_grow : (bytes : List ℕ) (init : List Token) (kinds : List Kind) → NoNames kinds → Growing IsReal Lexes bytes init kinds → Growing IsMarked LexesMarked bytes (map marked init) (marks (map blank kinds))
plain_grow bytes init kinds n grows = record {
  only = λ all w lexes.
      let o = grows.only lexes.0 w lexes.1 in
      (marked o.0, map marked o.1, lexes.2 ∙ ap (map marked) o.2 ∙ map-append marked init (o.0 ∷ o.1), among_blank kinds n o.0 o.3);
  each = λ x among.
      let f = blank_among kinds n x among in
      let e = grows.each f.0 f.1 in
      (marked e.0, mark_is e.0 (blank f.0) e.1 f.2 ∙ sym f.3, (e.0, e.2, refl), goes_with bytes init e.0 e.3);
}

-- ---- a name

starts_apart : (b : ℕ) (bs : List ℕ) → (start b ≡ m.Bad → ⊥) → NotIgnored b bs
starts_apart b bs n a v w is e =
    let s = ignored_starts a v is in
    n (ap start (heads_are b s.0 (bs ++ w) (s.1 ++ v) (e ∙ ap (λ (q : List ℕ). q ++ v) s.2)) ∙ s.3)

not_bad : (x : State) → m.Go x ≡ m.Bad → ⊥
not_bad x e = cc

name_grow : (init : List Token) (bytes : List ℕ) (b : ℕ) (bs : List ℕ) → Leads init bytes (b ∷ bs) → token_at b bs ≡ sc.End st.Name → Growing IsMarked LexesMarked bytes (map marked init) (marks (names_from (b ∷ bs)))
name_grow init bytes b bs l e = record { only = λ all w lexes. only all w lexes; each = λ x among. each x among }
  where
    only : (all : List (Lexeme Mark)) (w : List ℕ) → LexesMarked all (bytes ++ w) → (x : Lexeme Mark) × (more : List (Lexeme Mark)) × (all ≡ map marked init ++ (x ∷ more)) × Among x.kind (marks (names_from (b ∷ bs)))
    only all w (ts, lexes, is) =
        let cut = cut_is b bs st.Name e in
        let f = leads_first b bs w l ts (bytes ++ w) refl lexes in
        let n = next_is b bs w f.more (starts_apart b bs (λ bad. not_bad cut.first (sym cut.begins ∙ bad))) f.lexes in
        let k = end_scan bs cut.first 1 st.Name cut.ends n.class n.others n.rest w n.parts ((going b cut.first cut.begins).0 n.class n.others n.is) n.follows in
        let x : Token = token_of n.class (b ∷ n.others) in
        let same : x ≡ token_of c.Name (b ∷ (bs ++ k.0)) = ap (λ (q : Class). token_of q (b ∷ n.others)) k.2.0 ∙ ap (λ (q : List ℕ). token_of c.Name (b ∷ q)) k.1 in (
          marked x,
          map marked n.after,
          is ∙ ap (map marked) (f.parts ∙ ap (λ (q : List Token). init ++ q) n.tokens) ∙ map-append marked init (x ∷ n.after),
          subst (λ (q : Token). Among (mark_of q) (marks (names_from (b ∷ bs)))) (sym same) (names_among (b ∷ bs) k.0),
        )

    each : (x : Mark) → Among x (marks (names_from (b ∷ bs))) → (t : Lexeme Mark) × (t.kind ≡ x) × IsMarked t × ((more : List (Lexeme Mark)) → AreReal IsMarked more → (w : List ℕ) × LexesMarked (map marked init ++ (t ∷ more)) (bytes ++ w))
    each x among =
        let cut = cut_is b bs st.Name e in
        let g = names_grow (b ∷ bs) x among in
        let is : IsLexeme c.Name (b ∷ (bs ++ g.0)) = (going b cut.first cut.begins).1 c.Name (bs ++ g.0) (scan_end bs cut.first 1 st.Name cut.ends c.Name g.0 (refl, g.1)) in (
          marked (token_of c.Name (b ∷ (bs ++ g.0))),
          g.2,
          (token_of c.Name (b ∷ (bs ++ g.0)), (c.Name, b ∷ (bs ++ g.0), is, refl), refl),
          goes_with bytes init (token_of c.Name (b ∷ (bs ++ g.0)))
              (λ more real.
              let w = one_written c.Name (b ∷ (bs ++ g.0)) more is real in
              (g.0 ++ w.0, leads_then (leads_on b bs (g.0 ++ w.0) l) (subst (λ (q : List ℕ). Lexes (token_of c.Name (b ∷ (bs ++ g.0)) ∷ more) (b ∷ q)) (append_assoc bs g.0 w.0) w.1))),
        )

-- ---- whatever was read

pub end_grows : (init : List Token) (bytes : List ℕ) (b : ℕ) (bs : List ℕ) (t : State) → Leads init bytes (b ∷ bs) → token_at b bs ≡ sc.End t → Growing IsMarked LexesMarked bytes (map marked init) (marks (growths t (b ∷ bs)))
end_grows init bytes b bs st.Dot l e = plain_grow bytes init (k.Dots ∷ []) (refl, tt) (growing init bytes b bs st.Dot l e)
end_grows init bytes b bs st.Dots l e = plain_grow bytes init (k.Dots ∷ []) (refl, tt) (growing init bytes b bs st.Dots l e)
end_grows init bytes b bs st.Name l e = name_grow init bytes b bs l e
end_grows init bytes b bs (st.Number part) l e = plain_grow bytes init (k.Number ∷ []) (refl, tt) (growing init bytes b bs (st.Number part) l e)
end_grows init bytes b bs st.Quote l e = plain_grow bytes init (k.Str ∷ (k.Block ∷ [])) (refl, (refl, tt)) (growing init bytes b bs st.Quote l e)
end_grows init bytes b bs st.Quotes l e = plain_grow bytes init (k.Str ∷ (k.Block ∷ [])) (refl, (refl, tt)) (growing init bytes b bs st.Quotes l e)
end_grows init bytes b bs (st.Str chars) l e = plain_grow bytes init (k.Str ∷ []) (refl, tt) (growing init bytes b bs (st.Str chars) l e)
end_grows init bytes b bs (st.Block quotes) l e = plain_grow bytes init (k.Block ∷ []) (refl, tt) (growing init bytes b bs (st.Block quotes) l e)

-- ---- bytes that begin nothing

abbrev pub AreBytes : List ℕ → Type 0
AreBytes text = (i : ℕ) → get_or text i 0 < 256

from_start : (text : List ℕ) (n : ℕ) → IsCharBoundary text (0 + n) → IsCharBoundary text n
from_start text n h = let e : 0 + n ≡ n = omega arith in subst (IsCharBoundary text) e h

leads_utf8 : {ts : List Token} {x y : List ℕ} → AreBytes x → IsUtf8 x → Leads ts x y → IsUtf8 y
leads_utf8 bytes utf8 here = utf8
leads_utf8 bytes utf8 (skip a w is l) = leads_utf8 (behind a w bytes) (after a w utf8 is) l
  where
    behind : (a w : List ℕ) → AreBytes (a ++ w) → AreBytes w
    behind [] w h = h
    behind (b ∷ a) w h = behind a w (λ i. h (suc i))

    after : (a w : List ℕ) → IsUtf8 (a ++ w) → IsIgnored a w → IsUtf8 w
    after a w utf8 is = subst IsUtf8 (drop_at a w (length a) refl) (IsUtf8-drop (a ++ w) (length a) utf8 (from_start (a ++ w) (length a) (after_ignored (a ++ w) 0 a w utf8 (IsCharBoundary-start (a ++ w) utf8) (omega arith) refl is)))
leads_utf8 bytes utf8 (token class [] w is follows l) = absurd (no_lexeme class is)
leads_utf8 bytes utf8 (token class (b ∷ a) w is follows l) = leads_utf8 (behind (b ∷ a) w bytes) (after w utf8 is (bytes 0)) l
  where
    behind : (a w : List ℕ) → AreBytes (a ++ w) → AreBytes w
    behind [] w h = h
    behind (b ∷ a) w h = behind a w (λ i. h (suc i))

    after : (w : List ℕ) → IsUtf8 ((b ∷ a) ++ w) → IsLexeme class (b ∷ a) → b < 256 → IsUtf8 w
    after w utf8 is byte = subst IsUtf8 (drop_at (b ∷ a) w (length (b ∷ a)) refl) (IsUtf8-drop ((b ∷ a) ++ w) (length (b ∷ a)) utf8 (from_start ((b ∷ a) ++ w) (length (b ∷ a)) (after_token ((b ∷ a) ++ w) 0 class b a w utf8 (omega arith) refl byte is)))

pub bad_grows : (init : List Token) (text : List ℕ) (b : ℕ) (bs : List ℕ) → AreBytes text → IsUtf8 text → Leads init text (b ∷ bs) → NoneIgnored (b ∷ bs) → token_at b bs ≡ sc.Bad → Growing IsMarked LexesMarked text (map marked init) (marks [])
bad_grows init text b bs bytes utf8 l none e = plain_grow text init [] tt (broken init text b bs l (apart b bs (leads_utf8 bytes utf8 l) none) e)

-- ---- a token that nothing lengthens

heads : (x y : Token) (p q : List Token) → x ∷ p ≡ y ∷ q → x ≡ y
heads x y p q e = cc

-- the token that stands at the front, however the bytes go on
found_once : (b : ℕ) (bs w : List ℕ) (class : Class) (n : ℕ) (all : List Token) → token_at b bs ≡ sc.Found class n → Lexes all ((b ∷ bs) ++ w) → (t : Token) → TokenAt (b ∷ bs) t → (more : List Token) × (all ≡ t ∷ more)
found_once b bs w class n all e lexes t there = go (opened lexes)
  where
    front : (rest : List ℕ) → MayFollow class rest → (rest ≡ [] → (v : List ℕ) → MayFollow class v) → MayFollow class (rest ++ w)
    front [] f ended = ended refl w
    front (x ∷ rest) f ended = longer class f
      where
        longer : (class : Class) → MayFollow class (x ∷ rest) → MayFollow class ((x ∷ rest) ++ w)
        longer (c.Mark kind) f = tt
        longer c.Name f = f
        longer c.Number f = f
        longer c.Empty f = f
        longer c.Str f = tt
        longer c.Block f = tt

    go : Opened all ((b ∷ bs) ++ w) [] → (more : List Token) × (all ≡ t ∷ more)
    go (done none cut) = absurd cc
    go (skips a v cut is l) =
        let f = found_front b bs class n e in
        absurd (ignored_no_lexeme a v class f.used (f.rest ++ w) is f.is (sym cut ∙ ap (λ (q : List ℕ). q ++ w) f.parts ∙ append_assoc f.used f.rest w))
    go (takes ts class' a v is cut lexeme follows l) =
        let f = found_front b bs class n e in
        let one = lexeme_once class f.used (f.rest ++ w) class' a v f.is (front f.rest f.follows f.done) lexeme follows (sym (append_assoc f.used f.rest w) ∙ ap (λ (q : List ℕ). q ++ w) (sym f.parts) ∙ cut) in
        let two = lexeme_once class f.used f.rest there.0 there.1 there.2 f.is f.follows there.4 there.5 (sym f.parts ∙ there.3) in
        let same : token_of class' a ≡ t = ap (λ (q : Class). token_of q a) (sym one.0 ∙ two.0) ∙ ap (token_of there.0) (sym one.1 ∙ two.1) ∙ sym there.6 in
        (ts, is ∙ ap (λ (q : Token). q ∷ ts) same)

pub found_grows : (text : List ℕ) (tokens : List Token) (kinds : List Kind) (b : ℕ) (bs : List ℕ) (class : Class) (n : ℕ) (whole : EndsWhole text tokens kinds) → Leads whole.init text (b ∷ bs) → TokenAt (b ∷ bs) whole.last → token_at b bs ≡ sc.Found class n
    → Growing IsMarked LexesMarked text (map marked whole.init) (marks (whole.last ∷ []))
found_grows text tokens kinds b bs class n whole l there e = record {
  only = λ all w lexes.
      let o = only lexes.0 w lexes.1 in
      (marked whole.last, map marked o.0, lexes.2 ∙ ap (map marked) o.1 ∙ map-append marked whole.init (whole.last ∷ o.0), inl refl);
  each = λ x among. (marked whole.last, sym (here x among), (whole.last, (there.0, there.1, there.4, there.6), refl), goes_with text whole.init whole.last each);
}
  where
    only : (ts : List Token) (w : List ℕ) → Lexes ts (text ++ w) → (more : List Token) × (ts ≡ whole.init ++ (whole.last ∷ more))
    only ts w lexes =
        let f = leads_first b bs w l ts (text ++ w) refl lexes in
        let o = found_once b bs w class n f.more e f.lexes whole.last there in
        (o.0, f.parts ∙ ap (λ (q : List Token). whole.init ++ q) o.1)

    here : (x : Mark) → Among x (marks (whole.last ∷ [])) → x ≡ mark_of whole.last
    here x (inl e) = e
    here x (inr h) = absurd h

    each : (more : List Token) → AreReal IsReal more → (w : List ℕ) × Lexes (whole.init ++ (whole.last ∷ more)) (text ++ w)
    each more real =
        let g = whole.grows.each whole.last.kind whole.among in
        let w = g.3 more real in
        let o = only (whole.init ++ (g.0 ∷ more)) w.0 w.1 in
        let same : g.0 ≡ whole.last = heads g.0 whole.last more o.0 (append_cancel_left whole.init (g.0 ∷ more) (whole.last ∷ o.0) o.1) in
        (w.0, subst (λ (q : Token). Lexes (whole.init ++ (q ∷ more)) (text ++ w.0)) same w.1)
