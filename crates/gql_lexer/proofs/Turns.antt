-- Reading a text token by token.
use Rattle.std.proofs.Common.{◌≡◌, ℕ, zero, suc, ◌+◌, ◌-◌, ◌<◌, ◌≤◌, Bool, true, false, cond, List, [], ◌∷◌, ◌++◌, length, get_or, take, drop, drop-cons, Option, Some, None, refl, sym, ap, subst, ◌∙◌, arith, append_assoc, length-append, ◌⊎◌, inl, inr}
use Rattle.std.specs.Prelude.{slice_index}
use Rattle.std.specs.Str.{IsUtf8, IsCharBoundary}
use Rattle.std.proofs.lemmas.List.{append-nil, append_cancel_left, drop_all, drop-drop, drop_at, take_at, length-drop, length-take-le, take-append-drop, get_or_at, get_or-drop}
use Rattle.std.proofs.lemmas.Str.{IsCharBoundary-start, IsUtf8-drop}
use Rattle.token_read.specs.Texts.{Among, Settled, Growing}
use Rattle.gql_tokens.specs.declared.kinds.Kind.{Kind}
use Rattle.gql_tokens.specs.declared.scanner.Class.{Class}
use Rattle.gql_tokens.specs.declared.scanner.Class.TheVariants as c
use Rattle.gql_tokens.specs.declared.scanner.Chars.TheVariants as s
use Rattle.gql_tokens.specs.declared.scanner.State.{State}
use Rattle.gql_tokens.specs.declared.scanner.State.TheVariants as st
use Rattle.gql_tokens.specs.declared.scanner.Scan.TheVariants as sc
use Rattle.gql_tokens.specs.declared.lexer.Last.{Last}
use Rattle.gql_tokens.specs.declared.lexer.Last.TheVariants as last
use Rattle.gql_tokens.specs.Lexical.{Token, is_blank, is_inline, Every, Stops, MayFollow, IsLexeme, IsIgnored, blank, byte_order_mark, comment, Leads, here, skip, token, Lexes, IsReal, token_of}
use Rattle.gql_tokens.specs.Scanning.{token_at, may_end, Left}
use Rattle.gql_tokens.specs.Ends.{growths}
use Rattle.gql_tokens.specs.Lexing.{NoneIgnored, TokenAt, At, Placed, EndsWhole, EndsCut, Counted, IsLexed}
use Rattle.gql_tokens.proofs.Scans.{heads_are, tails_are}
use Rattle.gql_tokens.proofs.Lexemes.{no_lexeme}
use Rattle.gql_tokens.proofs.Moves.{no_string, no_escape, no_quote_left, none_pending}
use Rattle.gql_tokens.proofs.Leading.{Opened, done, skips, takes, opened, leads_then, leads_first}
use Rattle.gql_tokens.proofs.Ends.{NotIgnored, growing, bad_is, broken, settled_first, settled_ignored, settled_token}
use Rattle.gql_tokens.proofs.Fronts.{Front, found_front, end_is_whole, whole_is_end}
use Rattle.gql_lexer.specs.declared.lexing.Front.{Front as Front_}
use Rattle.gql_lexer.specs.declared.lexing.Front.TheVariants as front
use Rattle.gql_lexer.specs.Endings.{finish, EndsWithin}
use Rattle.gql_lexer.specs.Fronts.{IsFront}
use Rattle.gql_lexer.proofs.Bounds.{after_token, after_ignored, cut_one, cut_two}

-- what was read up to the place
pub record SoFar (text : List ℕ) (tokens : List Token) (places : List ℕ) (at : ℕ) : Type 0 where
  pub within : at ≤ length text
  pub bound : IsCharBoundary text at
  pub leads : Leads tokens text (drop at text)
  pub stand : Placed text tokens places
  pub count : length places ≡ length tokens
  pub settled : length text ≤ at → Settled IsReal Lexes text tokens

nil_of : {T : Type 0} (xs : List T) → length xs ≤ 0 → xs ≡ []
nil_of [] le = refl
nil_of (x ∷ xs) le = absurd (omega arith)

pub so_far_first : (text : List ℕ) → IsUtf8 text → SoFar text [] [] 0
so_far_first text utf8 = record {
  within = omega arith;
  bound = IsCharBoundary-start text utf8;
  leads = here;
  stand = λ front t more e. absurd (omega (arith, ap length e, length-append front (t ∷ more)));
  count = refl;
  settled = λ le. subst (λ (q : List ℕ). Settled IsReal Lexes q []) (sym (nil_of text le)) settled_first;
}

pub so_far_start : (text : List ℕ) → IsUtf8 text → (ts : List Token) (ps : List ℕ) → ts ≡ [] → ps ≡ [] → SoFar text ts ps 0
so_far_start text utf8 ts ps e f = subst (λ (q : List Token). SoFar text q ps 0) (sym e) (subst (λ (q : List ℕ). SoFar text [] q 0) (sym f) (so_far_first text utf8))

-- a cut of which nothing may come
abbrev pub IsBadCut : Last → Type 0
IsBadCut last.Settled = ⊥
IsBadCut (last.Whole kinds) = ⊥
IsBadCut (last.Cut kinds) = kinds.items ≡ []

-- ---- places

last_of : (a : List Token) (u : Token) (b : List Token) (v : Token) (rest : List Token) → a ++ (u ∷ []) ≡ b ++ (v ∷ rest)
    → ((a ≡ b) × (u ≡ v)) ⊎ ((k : List Token) × (a ≡ b ++ (v ∷ k)))
last_of [] u [] v rest e = inl (refl, heads u v [] rest e)
  where
    heads : (x y : Token) (p q : List Token) → x ∷ p ≡ y ∷ q → x ≡ y
    heads x y p q e = cc
last_of (y ∷ a) u [] v rest e = inr (a, ap (λ (q : Token). q ∷ a) (heads y v (a ++ (u ∷ [])) rest e))
  where
    heads : (x y : Token) (p q : List Token) → x ∷ p ≡ y ∷ q → x ≡ y
    heads x y p q e = cc
last_of [] u (x ∷ b) v rest e = absurd (omega (arith, ap length e, length-append b (v ∷ rest)))
last_of (y ∷ a) u (x ∷ b) v rest e =
    go (heads y x (a ++ (u ∷ [])) (b ++ (v ∷ rest)) e) (last_of a u b v rest (tails y x (a ++ (u ∷ [])) (b ++ (v ∷ rest)) e))
  where
    heads : (x y : Token) (p q : List Token) → x ∷ p ≡ y ∷ q → x ≡ y
    heads x y p q e = cc

    tails : (x y : Token) (p q : List Token) → x ∷ p ≡ y ∷ q → p ≡ q
    tails x y p q e = cc

    go : y ≡ x → ((a ≡ b) × (u ≡ v)) ⊎ ((k : List Token) × (a ≡ b ++ (v ∷ k))) → ((y ∷ a ≡ x ∷ b) × (u ≡ v)) ⊎ ((k : List Token) × (y ∷ a ≡ x ∷ (b ++ (v ∷ k))))
    go same (inl h) = inl (cc (same, h.0), h.1)
    go same (inr h) = inr (h.0, cc (same, h.1))

index_front : (ps qs : List ℕ) (i : ℕ) → i < length ps → slice_index (ps ++ qs) i ≡ slice_index ps i
index_front [] qs i lt = absurd (omega arith)
index_front (p ∷ ps) qs zero lt = refl
index_front (p ∷ ps) qs (suc i) lt = index_front ps qs i (omega arith)

pub index_last : (ps : List ℕ) (p n : ℕ) → length ps ≡ n → slice_index (ps ++ (p ∷ [])) n ≡ p
index_last ps p n e = get_or_at ps p [] 0 n e

pub placed_more : (text : List ℕ) (ts : List Token) (ps : List ℕ) (p : ℕ) → Placed text ts ps → length ps ≡ length ts → Placed text ts (ps ++ (p ∷ []))
placed_more text ts ps p stand count front t more e =
    let s = stand front t more e in
    let lt : length front < length ps = omega (arith, ap length e, length-append front (t ∷ more)) in
    (s.0, subst (λ (q : ℕ). At text q front s.0) (sym (index_front ps (p ∷ []) (length front) lt)) s.1, s.2)

pub placed_here : (text : List ℕ) (ts : List Token) (ps : List ℕ) (p : ℕ) (t : Token) (rest : List ℕ) → Placed text ts ps → length ps ≡ length ts → At text p ts rest → TokenAt rest t → Placed text (ts ++ (t ∷ [])) (ps ++ (p ∷ []))
placed_here text ts ps p t rest stand count at there front u more e = go (last_of ts t front u more e)
  where
    go : ((ts ≡ front) × (t ≡ u)) ⊎ ((k : List Token) × (ts ≡ front ++ (u ∷ k))) → (left : List ℕ) × At text (slice_index (ps ++ (p ∷ [])) (length front)) front left × TokenAt left u
    go (inl h) =
        let here : slice_index (ps ++ (p ∷ [])) (length front) ≡ p = index_last ps p (length front) (count ∙ ap length h.0) in
        (rest, subst (λ (q : ℕ). At text q front rest) (sym here) (subst (λ (q : List Token). At text p q rest) h.0 at), subst (TokenAt rest) h.1 there)
    go (inr h) = placed_more text ts ps p stand count front u h.0 h.1

-- ---- nothing ignored begins, however the bytes go on

inline_split : (bs : List ℕ) → (x : List ℕ) × (y : List ℕ) × (bs ≡ x ++ y) × Every is_inline x × Stops is_inline y
inline_split [] = ([], [], refl, tt, tt)
inline_split (b ∷ bs) = go (is_inline b) refl (inline_split bs)
  where
    go : (q : Bool) → is_inline b ≡ q → ((x : List ℕ) × (y : List ℕ) × (bs ≡ x ++ y) × Every is_inline x × Stops is_inline y) → (x : List ℕ) × (y : List ℕ) × (b ∷ bs ≡ x ++ y) × Every is_inline x × Stops is_inline y
    go true is t = (b ∷ t.0, t.1, ap (λ (q : List ℕ). b ∷ q) t.2, (is, t.3), t.4)
    go false over t = ([], b ∷ bs, refl, tt, over)

mark_apart : (b : ℕ) (bs w v : List ℕ) → IsUtf8 (b ∷ bs) → NoneIgnored (b ∷ bs) → b ≡ 239 → bs ++ w ≡ 187 ∷ (191 ∷ v) → ⊥
mark_apart b [] w v utf8 none e cut = cut_one (subst (λ (q : ℕ). IsUtf8 (q ∷ [])) e utf8)
mark_apart b (x ∷ []) w v utf8 none e cut = cut_two x (subst (λ (q : ℕ). IsUtf8 (q ∷ (x ∷ []))) e utf8)
mark_apart b (x ∷ (y ∷ bs)) w v utf8 none e cut =
    let second : x ≡ 187 = heads_are x 187 (y ∷ (bs ++ w)) (191 ∷ v) cut in
    let third : y ≡ 191 = heads_are y 191 (bs ++ w) v (tails_are x 187 (y ∷ (bs ++ w)) (191 ∷ v) cut) in
    none (239 ∷ (187 ∷ (191 ∷ []))) bs byte_order_mark (all e second third)
  where
    all : b ≡ 239 → x ≡ 187 → y ≡ 191 → b ∷ (x ∷ (y ∷ bs)) ≡ 239 ∷ (187 ∷ (191 ∷ bs))
    all p q r = rw (p, q, r) refl

pub apart : (b : ℕ) (bs : List ℕ) → IsUtf8 (b ∷ bs) → NoneIgnored (b ∷ bs) → NotIgnored b bs
apart b bs utf8 none a v w is e = go a v is e
  where
    go : (a v : List ℕ) → IsIgnored a v → b ∷ (bs ++ w) ≡ a ++ v → ⊥
    go _ v (blank x is) e = none (b ∷ []) bs (blank b (ap is_blank (heads_are b x (bs ++ w) v e) ∙ is)) refl
    go _ v byte_order_mark e = mark_apart b bs w v utf8 none (heads_are b 239 (bs ++ w) (187 ∷ (191 ∷ v)) e) (tails_are b 239 (bs ++ w) (187 ∷ (191 ∷ v)) e)
    go _ v (comment x every stops) e =
        let s = inline_split bs in
        none (35 ∷ s.0) s.1 (comment s.0 s.3 s.4) (ap (λ (q : ℕ). q ∷ bs) (heads_are b 35 (bs ++ w) (x ++ v) e) ∙ ap (λ (q : List ℕ). 35 ∷ q) s.2)

-- bytes of which no token begins have no tokens
no_lexes : (text : List ℕ) (ts us : List Token) (b : ℕ) (bs : List ℕ) → Leads ts text (b ∷ bs) → NoneIgnored (b ∷ bs) → ((t : Token) → TokenAt (b ∷ bs) t → ⊥) → Lexes us text → ⊥
no_lexes text ts us b bs leads ignored none lexes =
    let f = leads_first b bs [] leads us text (sym (append-nil text)) lexes in
    go f.more (opened (subst (λ (q : List ℕ). Leads f.more (b ∷ q) []) (append-nil bs) f.lexes))
  where
    go : (more : List Token) → Opened more (b ∷ bs) [] → ⊥
    go more (done e cut) = absurd cc
    go more (skips a w cut is l) = ignored a w is cut
    go more (takes rest class a w e cut is follows l) = none (token_of class a) (class, a, w, cut, is, follows, refl)

follows_nothing : (class : Class) → MayFollow class []
follows_nothing (c.Mark kind) = tt
follows_nothing c.Name = tt
follows_nothing c.Number = tt
follows_nothing c.Empty = tt
follows_nothing c.Str = tt
follows_nothing c.Block = tt

-- ---- the end of a token

some_is : (x y : Class) → ◌≡◌ {A = Option Class} (Some x) (Some y) → x ≡ y
some_is x y e = cc

pub finish_left : (t : State) (class : Class) → finish t ≡ Some class → Left t class []
finish_left st.Dot class e = absurd cc
finish_left st.Dots class e = absurd cc
finish_left st.Name class e = (sym (some_is c.Name class e), tt)
finish_left (st.Number part) class e = go (may_end part) refl e
  where
    go : (q : Bool) → may_end part ≡ q → cond q (Some c.Number) None ≡ Some class → Left (st.Number part) class []
    go true is e = (sym (some_is c.Number class e), is)
    go false is e = absurd cc
finish_left st.Quote class e = absurd cc
finish_left st.Quotes class e = inl (sym (some_is c.Empty class e), refl)
finish_left (st.Str chars) class e = absurd cc
finish_left (st.Block marks) class e = absurd cc

pub finish_none : (t : State) (class : Class) → finish t ≡ None → Left t class [] → ⊥
finish_none st.Dot class e l = absurd cc
finish_none st.Dots class e l = absurd cc
finish_none st.Name class e l = absurd cc
finish_none (st.Number part) class e l = go (may_end part) l.1 e
  where
    go : (q : Bool) → q ≡ true → cond q (Some c.Number) None ≡ None → ⊥
    go true is e = absurd cc
    go false is e = absurd cc
finish_none st.Quote class e l = no_quote_left class l
finish_none st.Quotes class e l = absurd cc
finish_none (st.Str s.Plain) class e l = no_string l.1
finish_none (st.Str s.Escape) class e l = no_escape l.1
finish_none (st.Str s.Four) class e l = l.1
finish_none (st.Str s.Three) class e l = l.1
finish_none (st.Str s.Two) class e l = l.1
finish_none (st.Str s.One) class e l = l.1
finish_none (st.Block marks) class e l = none_pending marks l.1

-- ---- one turn

module _ (text : List ℕ) (utf8 : IsUtf8 text) (ts : List Token) (ps : List ℕ) (at : ℕ) (so : SoFar text ts ps at) (lt : at < length text) where
  abbrev pub first : ℕ
  first = get_or text at 0

  abbrev pub others : List ℕ
  others = drop (suc at) text

  head : drop at text ≡ first ∷ others
  head = drop-cons text at 0 lt

  leads_head : Leads ts text (first ∷ others)
  leads_head = subst (Leads ts text) head so.leads

  -- what is left after so many bytes more
  behind : (a w : List ℕ) → drop at text ≡ a ++ w → drop (at + length a) text ≡ w
  behind a w cut = sym (drop-drop (length a) at text) ∙ ap (drop (length a)) cut ∙ drop_at a w (length a) refl

  within_part : (a w : List ℕ) → drop at text ≡ a ++ w → at + length a ≤ length text
  within_part a w cut = omega (arith, ap length cut, length-drop at text, length-append a w)

  over : (a w : List ℕ) → drop at text ≡ a ++ w → length text ≤ at + length a → w ≡ []
  over a w cut le = sym (behind a w cut) ∙ drop_all (at + length a) text le

  turn_skips : (a w : List ℕ) → drop at text ≡ a ++ w → IsIgnored a w → SoFar text ts ps (at + length a)
  turn_skips a w cut is = record {
    within = within_part a w cut;
    bound = after_ignored text at a w utf8 so.bound so.within cut is;
    leads = subst (Leads ts text) (sym (behind a w cut)) (subst (λ (q : List Token). Leads q text w) (append-nil ts) (leads_then so.leads (subst (λ (q : List ℕ). Leads [] q w) (sym cut) (skip a w is here))));
    stand = so.stand;
    count = so.count;
    settled = λ le. settled (over a w cut le);
  }
    where
      settled : w ≡ [] → Settled IsReal Lexes text ts
      settled none =
          let same : first ∷ others ≡ a = sym head ∙ cut ∙ ap (λ (q : List ℕ). a ++ q) none ∙ append-nil a in
          settled_ignored ts text first others leads_head (subst (λ (q : List ℕ). IsIgnored q []) (sym same) (subst (IsIgnored a) none is))

  pub skips_by : (n : ℕ) → n ≤ length (drop at text) → IsIgnored (take n (drop at text)) (drop n (drop at text)) → SoFar text ts ps (at + n)
  skips_by n le is = subst (λ (q : ℕ). SoFar text ts ps (at + q)) (length-take-le n (drop at text) le) (turn_skips (take n (drop at text)) (drop n (drop at text)) (sym (take-append-drop n (drop at text))) is)

  at_head : NoneIgnored (drop at text) → At text at ts (drop at text)
  at_head none = record {
    leads = so.leads;
    place_is = omega (arith, length-drop at text, so.within);
    some = omega (arith, length-drop at text);
    begins = none;
  }

  turn_takes : (class : Class) (a w : List ℕ) → first < 256 → NoneIgnored (drop at text) → drop at text ≡ a ++ w → IsLexeme class a → MayFollow class w → (w ≡ [] → (v : List ℕ) → MayFollow class v) → SoFar text (ts ++ (token_of class a ∷ [])) (ps ++ (at ∷ [])) (at + length a)
  turn_takes class a w byte none cut is follows whole = record {
    within = within_part a w cut;
    bound = bounded a cut is;
    leads = subst (Leads (ts ++ (token_of class a ∷ [])) text) (sym (behind a w cut)) (leads_then so.leads (subst (λ (q : List ℕ). Leads (token_of class a ∷ []) q w) (sym cut) (token class a w is follows here)));
    stand = placed_here text ts ps at (token_of class a) (drop at text) so.stand so.count (at_head none) (class, a, w, cut, is, follows, refl);
    count = omega (arith, so.count, length-append ps (at ∷ []), length-append ts (token_of class a ∷ []));
    settled = λ le. settled (over a w cut le);
  }
    where
      bounded : (a : List ℕ) → drop at text ≡ a ++ w → IsLexeme class a → IsCharBoundary text (at + length a)
      bounded [] cut is = absurd (no_lexeme class is)
      bounded (b ∷ a) cut is =
          let same : first ≡ b = heads_are first b others (a ++ w) (sym head ∙ cut) in
          after_token text at class b a w utf8 so.within cut (subst (λ (q : ℕ). q < 256) same byte) is

      settled : w ≡ [] → Settled IsReal Lexes text (ts ++ (token_of class a ∷ []))
      settled end =
          let same : first ∷ others ≡ a = sym head ∙ cut ∙ ap (λ (q : List ℕ). a ++ q) end ∙ append-nil a in
          subst (λ (q : List ℕ). Settled IsReal Lexes text (ts ++ (token_of class q ∷ []))) same (settled_token ts text first others class leads_head (subst (IsLexeme class) (sym same) is) (whole end))

  -- what the scanner says of the bytes that are left
  as_head : {T : Type 0} (f : ℕ → List ℕ → T) (x : T) → f (slice_index (drop at text) 0) (drop 1 (drop at text)) ≡ x → f first others ≡ x
  as_head f x e = sym (ap (λ (q : List ℕ). f (slice_index q 0) (drop 1 q)) head) ∙ e

  front_of : (class : Class) (n : ℕ) → token_at (slice_index (drop at text) 0) (drop 1 (drop at text)) ≡ sc.Found class n → Front (drop at text) class n
  front_of class n e = subst (λ (q : List ℕ). Front q class n) (sym head) (found_front first others class n (as_head token_at (sc.Found class n) e))

  used_is : (class : Class) (n : ℕ) (f : Front (drop at text) class n) → f.used ≡ take n (drop at text)
  used_is class n f = sym (ap (take n) f.parts ∙ take_at f.used f.rest n (sym f.size))

  pub found_is_lexeme : (class : Class) (n : ℕ) → token_at (slice_index (drop at text) 0) (drop 1 (drop at text)) ≡ sc.Found class n → IsLexeme class (take n (drop at text))
  found_is_lexeme class n e = let f = front_of class n e in subst (IsLexeme class) (used_is class n f) f.is

  pub takes_by : (class : Class) (n : ℕ) → first < 256 → NoneIgnored (drop at text) → token_at (slice_index (drop at text) 0) (drop 1 (drop at text)) ≡ sc.Found class n
      → SoFar text (ts ++ (token_of class (take n (drop at text)) ∷ [])) (ps ++ (at ∷ [])) (at + n)
  takes_by class n byte none e =
      let f = front_of class n e in
      subst (λ (q : List ℕ). SoFar text (ts ++ (token_of class q ∷ [])) (ps ++ (at ∷ [])) (at + n)) (used_is class n f)
      (subst (λ (q : ℕ). SoFar text (ts ++ (token_of class f.used ∷ [])) (ps ++ (at ∷ [])) (at + q)) (sym f.size) (turn_takes class f.used f.rest byte none f.parts f.is f.follows f.done))

  pub found_some : (class : Class) (n : ℕ) → token_at (slice_index (drop at text) 0) (drop 1 (drop at text)) ≡ sc.Found class n → 0 < n
  found_some class n e = go (front_of class n e)
    where
      some : (a : List ℕ) → IsLexeme class a → 0 < length a
      some [] is = absurd (no_lexeme class is)
      some (b ∷ a) is = omega arith

      go : Front (drop at text) class n → 0 < n
      go f = omega (arith, f.size, some f.used f.is)

  -- a token is text
  pub found_bound : (class : Class) (n : ℕ) → first < 256 → token_at (slice_index (drop at text) 0) (drop 1 (drop at text)) ≡ sc.Found class n → IsCharBoundary (drop at text) n
  found_bound class n byte e = bounded (front_of class n e)
    where
      from_rest : (b : ℕ) (a w : List ℕ) → drop at text ≡ (b ∷ a) ++ w → first ≡ b → IsLexeme class (b ∷ a) → IsCharBoundary (drop at text) (length (b ∷ a))
      from_rest b a w cut same is =
          let here : 0 + length (b ∷ a) ≡ length (b ∷ a) = omega arith in
          subst (IsCharBoundary (drop at text)) here (after_token (drop at text) 0 class b a w (IsUtf8-drop text at utf8 so.bound) (omega arith) cut (subst (λ (q : ℕ). q < 256) same byte) is)

      go : (a w : List ℕ) → drop at text ≡ a ++ w → IsLexeme class a → IsCharBoundary (drop at text) (length a)
      go [] w cut is = absurd (no_lexeme class is)
      go (b ∷ a) w cut is = from_rest b a w cut (heads_are first b others (a ++ w) (sym head ∙ cut)) is

      bounded : Front (drop at text) class n → IsCharBoundary (drop at text) n
      bounded f = subst (IsCharBoundary (drop at text)) (sym f.size) (go f.used f.rest f.parts f.is)

  -- ---- the end of the text

  -- a token at the front, by its first byte
  token_head : (t : Token) → TokenAt (drop at text) t → TokenAt (first ∷ others) t
  token_head t there = subst (λ (q : List ℕ). TokenAt q t) head there

  head_token : (t : Token) → TokenAt (first ∷ others) t → TokenAt (drop at text) t
  head_token t there = subst (λ (q : List ℕ). TokenAt q t) (sym head) there

  none_head : NoneIgnored (drop at text) → NoneIgnored (first ∷ others)
  none_head none = subst NoneIgnored head none

  cut_ends : (kinds : List Kind) → NoneIgnored (drop at text) → ((t : Token) → TokenAt (first ∷ others) t → ⊥) → Growing IsReal Lexes text ts kinds → EndsCut text ts (slice_index (ps ++ (at ∷ [])) (length ts)) kinds
  cut_ends kinds none no_token grows = record {
    rest = drop at text;
    at = subst (λ (q : ℕ). At text q ts (drop at text)) (sym (index_last ps at (length ts) so.count)) (at_head none);
    none = λ t there. no_token t (token_head t there);
    lexes = λ us l. no_lexes text ts us first others leads_head (none_head none) no_token l;
    grows = grows;
  }

  pub bad_ends : (kinds : List Kind) → kinds ≡ [] → NoneIgnored (drop at text) → token_at (slice_index (drop at text) 0) (drop 1 (drop at text)) ≡ sc.Bad → EndsCut text ts (slice_index (ps ++ (at ∷ [])) (length ts)) kinds
  bad_ends kinds empty none e = cut_ends kinds none (λ t there. no_token t there) (subst (Growing IsReal Lexes text ts) (sym empty) grows)
    where
      bad : token_at first others ≡ sc.Bad
      bad = as_head token_at sc.Bad e

      grows : Growing IsReal Lexes text ts []
      grows = broken ts text first others leads_head (apart first others (subst IsUtf8 head (IsUtf8-drop text at utf8 so.bound)) (none_head none)) bad

      no_token : (t : Token) → TokenAt (first ∷ others) t → ⊥
      no_token t (class, [], w, parts, is, follows, same) = no_lexeme class is
      no_token t (class, b ∷ a, w, parts, is, follows, same) =
          let here : b ≡ first = sym (heads_are first b others (a ++ w) parts) in
          bad_is first others bad class a w [] (append-nil others ∙ tails_are first b others (a ++ w) parts) (subst (λ (q : ℕ). IsLexeme class (q ∷ a)) here is) follows

  pub counted_more : length (ps ++ (at ∷ [])) ≡ length ts + 1
  counted_more = omega (arith, so.count, length-append ps (at ∷ []))

  pub placed_end : Placed text ts (ps ++ (at ∷ []))
  placed_end = placed_more text ts ps at so.stand so.count

  pub within_is_lexeme : (state : State) → token_at (slice_index (drop at text) 0) (drop 1 (drop at text)) ≡ sc.End state → (class : Class) → finish state ≡ Some class → IsLexeme class (drop at text)
  within_is_lexeme state e class is = subst (IsLexeme class) (sym head) (end_is_whole first others state class (as_head token_at (sc.End state) e) (finish_left state class is))

  module _ (state : State) (none : NoneIgnored (drop at text)) (e : token_at (slice_index (drop at text) 0) (drop 1 (drop at text)) ≡ sc.End state) where
    grows_within : Growing IsReal Lexes text ts (growths state (drop at text))
    grows_within = subst (λ (q : List ℕ). Growing IsReal Lexes text ts (growths state q)) (sym head) (growing ts text first others state leads_head (as_head token_at (sc.End state) e))

    lexes_whole : (class : Class) → finish state ≡ Some class → Lexes (ts ++ (token_of class (drop at text) ∷ [])) text
    lexes_whole class is =
        leads_then so.leads (subst (λ (q : List ℕ). Leads (token_of class (drop at text) ∷ []) q []) (append-nil (drop at text)) (token class (drop at text) [] (within_is_lexeme state e class is) (follows_nothing class) here))

    last_among : (class : Class) → finish state ≡ Some class → Among (token_of class (drop at text)).kind (growths state (drop at text))
    last_among class is =
        let o = grows_within.only (ts ++ (token_of class (drop at text) ∷ [])) [] (subst (Lexes (ts ++ (token_of class (drop at text) ∷ []))) (sym (append-nil text)) (lexes_whole class is)) in
        subst (λ (q : Token). Among q.kind (growths state (drop at text))) (sym (heads (token_of class (drop at text)) o.0 [] o.1 (append_cancel_left ts (token_of class (drop at text) ∷ []) (o.0 ∷ o.1) o.2))) o.3
      where
        heads : (x y : Token) (p q : List Token) → x ∷ p ≡ y ∷ q → x ≡ y
        heads x y p q e = cc

    whole_ends : (class : Class) (kinds : List Kind) → finish state ≡ Some class → kinds ≡ growths state (drop at text) → EndsWhole text (ts ++ (token_of class (drop at text) ∷ [])) kinds
    whole_ends class kinds is all = record {
      init = ts;
      last = token_of class (drop at text);
      parts = refl;
      lexes = lexes_whole class is;
      grows = subst (Growing IsReal Lexes text ts) (sym all) grows_within;
      among = subst (Among (token_of class (drop at text)).kind) (sym all) (last_among class is);
    }

    no_whole : finish state ≡ None → (t : Token) → TokenAt (first ∷ others) t → ⊥
    no_whole is t (class, a, w, parts, l, follows, same) = finish_none state class is (whole_is_end first others state class a w (as_head token_at (sc.End state) e) l follows parts)

    placed_whole : (class : Class) → finish state ≡ Some class → Placed text (ts ++ (token_of class (drop at text) ∷ [])) (ps ++ (at ∷ []))
    placed_whole class is = placed_here text ts ps at (token_of class (drop at text)) (drop at text) so.stand so.count (at_head none) (class, drop at text, [], sym (append-nil (drop at text)), within_is_lexeme state e class is, follows_nothing class, refl)

    pub ends_within : (all : List Token) (places : List ℕ) (end : Last) → EndsWithin ts (ps ++ (at ∷ [])) state (drop at text) all places end → IsLexed text all places end
    ends_within all places last.Settled within = absurd within
    ends_within all places (last.Whole kinds) (class, is, e1, e2, e3) =
        subst (λ (q : List Token). IsLexed text q places (last.Whole kinds)) (sym e1) (subst (λ (q : List ℕ). IsLexed text (ts ++ (token_of class (drop at text) ∷ [])) q (last.Whole kinds)) (sym e2)
        (record { placed = placed_whole class is; counted = omega (arith, so.count, length-append ps (at ∷ []), length-append ts (token_of class (drop at text) ∷ [])); ends = whole_ends class kinds.items is e3 }))
    ends_within all places (last.Cut kinds) (is, e1, e2, e3) =
        subst (λ (q : List Token). IsLexed text q places (last.Cut kinds)) (sym e1) (subst (λ (q : List ℕ). IsLexed text ts q (last.Cut kinds)) (sym e2)
        (record { placed = placed_end; counted = counted_more; ends = cut_ends kinds.items none (no_whole is) (subst (Growing IsReal Lexes text ts) (sym e3) grows_within) }))

  -- ---- as the code sees what is left

  module _ (rest : List ℕ) (left : rest ≡ drop at text) where
    front_here : (f : Front_) → IsFront rest f → IsFront (drop at text) f
    front_here f h = subst (λ (q : List ℕ). IsFront q f) left h

    pub turn_ignored : (n : ℕ) → IsFront rest (front.Ignored n) → SoFar text ts ps (at + n)
    turn_ignored n h = let k = front_here (front.Ignored n) h in skips_by n k.1 k.2

    module _ (class : Class) (n : ℕ) (h : IsFront rest (front.Found class n)) where
      found_here : IsFront (drop at text) (front.Found class n)
      found_here = front_here (front.Found class n) h

      pub part_bound : get_or text at 0 < 256 → IsCharBoundary rest n
      part_bound byte = subst (λ (q : List ℕ). IsCharBoundary q n) (sym left) (found_bound class n byte found_here.1)

      pub part_lexeme : (part : List ℕ) → part ≡ take n rest → IsLexeme class part
      part_lexeme part e = subst (IsLexeme class) (sym (e ∙ ap (take n) left)) (found_is_lexeme class n found_here.1)

      pub part_some : 0 < n
      part_some = found_some class n found_here.1

      pub turn_found : get_or text at 0 < 256 → (part : List ℕ) (t : Token) (us : List Token) (qs : List ℕ) → part ≡ take n rest → t ≡ token_of class part → us ≡ ts ++ (t ∷ []) → qs ≡ ps ++ (at ∷ []) → SoFar text us qs (at + n)
      turn_found byte part t us qs e f g h =
          let same : t ≡ token_of class (take n (drop at text)) = f ∙ ap (token_of class) (e ∙ ap (take n) left) in
          subst (λ (q : List Token). SoFar text q qs (at + n)) (sym (g ∙ ap (λ (q : Token). ts ++ (q ∷ [])) same))
          (subst (λ (q : List ℕ). SoFar text (ts ++ (token_of class (take n (drop at text)) ∷ [])) q (at + n)) (sym h) (takes_by class n byte found_here.0 found_here.1))

      pub part_within : get_or text at 0 < 256 → at + n ≤ length text
      part_within byte = (takes_by class n byte found_here.0 found_here.1).within

    pub end_lexeme : (state : State) → IsFront rest (front.End state) → (class : Class) → finish state ≡ Some class → IsLexeme class rest
    end_lexeme state h class is = subst (IsLexeme class) (sym left) (within_is_lexeme state (front_here (front.End state) h).1 class is)

    pub end_lexed : (state : State) → IsFront rest (front.End state) → (qs : List ℕ) → qs ≡ ps ++ (at ∷ []) → (all : List Token) (places : List ℕ) (end : Last) → EndsWithin ts qs state rest all places end → IsLexed text all places end
    end_lexed state h qs e all places end within =
        let k = front_here (front.End state) h in
        ends_within state k.0 k.1 all places end (subst (λ (q : List ℕ). EndsWithin ts q state (drop at text) all places end) e (subst (λ (q : List ℕ). EndsWithin ts qs state q all places end) left within))

    pub bad_lexed : IsFront rest front.Bad → (qs : List ℕ) → qs ≡ ps ++ (at ∷ []) → (end : Last) → IsBadCut end → IsLexed text ts qs end
    bad_lexed h qs e last.Settled cut = absurd cut
    bad_lexed h qs e (last.Whole kinds) cut = absurd cut
    bad_lexed h qs e (last.Cut kinds) cut =
        let k = front_here front.Bad h in
        subst (λ (q : List ℕ). IsLexed text ts q (last.Cut kinds)) (sym e) (record { placed = placed_end; counted = counted_more; ends = bad_ends kinds.items cut k.0 k.1 })

-- the text is over
pub lexed_settled : (text : List ℕ) (ts : List Token) (ps : List ℕ) (at : ℕ) → SoFar text ts ps at → length text ≤ at → IsLexed text ts ps last.Settled
lexed_settled text ts ps at so le = record { placed = so.stand; counted = so.count; ends = (subst (Leads ts text) (drop_all at text le) so.leads, so.settled le) }
