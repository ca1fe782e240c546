-- The answer from the tokens of a text explains the text.
use Rattle.std.proofs.Common.{◌≡◌, ℕ, ◌+◌, ◌-◌, ◌<◌, ◌≤◌, Bool, true, false, List, [], ◌∷◌, ◌++◌, map, drop, length, Ok, Err, refl, sym, ap, subst, ◌∙◌, arith, append_assoc, length-append, inl, inr}
use Rattle.std.specs.Prelude.{slice_index}
use Rattle.std.specs.Str.{IsUtf8}
use Rattle.std.proofs.lemmas.List.{append-nil, append_cancel_left, map-append, length-map, drop_at}
use Rattle.token_read.specs.Lexeme.{Lexeme}
use Rattle.token_read.specs.Parse.{Answer}
use Rattle.token_read.specs.Exact.{AreReal, Viable}
use Rattle.token_read.specs.Texts.{Among, Settled, Growing, Consumed, any_of}
use Rattle.token_read.proofs.Exact.{nothing_goes_on}
use Rattle.token_read.proofs.Decide.{viable_consumed, alike_consumed}
use Rattle.token_read.proofs.Texts.{settled_is_viable, growing_is_viable, viable_is_growing}
use Rattle.token_read.proofs.Ended.{whole_left}
use Rattle.gql_tokens.specs.declared.kinds.Kind.{Kind}
use Rattle.gql_tokens.specs.declared.scanner.Class.{Class}
use Rattle.gql_tokens.specs.declared.scanner.Scan.{Scan}
use Rattle.gql_tokens.specs.declared.scanner.Scan.TheVariants as sc
use Rattle.gql_tokens.specs.Lexical.{Token, IsLexeme, Leads, here, skip, token, Lexes, IsReal, token_of}
use Rattle.gql_tokens.specs.Lexing.{At, TokenAt, NoneIgnored, Placed, EndsWhole, EndsCut}
use Rattle.gql_tokens.specs.Scanning.{token_at}
use Rattle.gql_tokens.proofs.Scans.{heads_are, tails_are}
use Rattle.gql_tokens.proofs.Lexemes.{no_lexeme, lexeme_once}
use Rattle.gql_tokens.proofs.Leading.{lexes_real, lexes_once}
use Rattle.gql_tokens.proofs.Ends.{bad_is}
use Rattle.gql_tokens.proofs.Fronts.{found_front}
use Rattle.gql_terms.specs.declared.faults.Refusal.{Refusal}
use Rattle.gql_terms.specs.declared.faults.Refusal.TheVariants.{Unexpected}
use Rattle.gql_schema.specs.declared.terms.Part.{Part}
use Rattle.gql_schema.specs.declared.words.Mark.{Mark}
use Rattle.gql_schema.specs.Words.{marked, mark_of, IsMarked}
use Rattle.gql_schema.specs.Grammar.{IsSchema, any}
use Rattle.gql_schema.specs.Reading.{schema, all}
use Rattle.gql_schema.specs.Faults.{LexesMarked, IsText, IsViable, MayBegin, EndsTooSoon, StopsAt}
use Rattle.gql_parser.specs.Judging.{TellsWhether}
use Rattle.gql_schema.specs.Judging.{CanGoOn, scanned, last_next, cut_next, IsWhole, IsCut, RefusedLast, CutAt}
use Rattle.gql_schema.proofs.Over.{are_marked}
use Rattle.gql_schema.proofs.SchemasExact.{all_exact}
use Rattle.gql_schema.proofs.NameGrowths.{marks}
use Rattle.gql_schema.proofs.MarkGrowths.{lexes_marked, settled_marks, end_grows, bad_grows, found_grows, AreBytes}

-- ---- marks cut where tokens are

record Cut (ts : List Token) (a b : List (Lexeme Mark)) : Type 0 where
  pub front : List Token
  pub rest : List Token
  pub parts : ts ≡ front ++ rest
  pub is_front : map marked front ≡ a
  pub is_rest : map marked rest ≡ b

cut : (a b : List (Lexeme Mark)) (ts : List Token) → map marked ts ≡ a ++ b → Cut ts a b
cut [] b ts e = record { front = []; rest = ts; parts = refl; is_front = refl; is_rest = e }
cut (x ∷ a) b [] e = absurd cc
cut (x ∷ a) b (t ∷ ts) e =
    let c = cut a b ts (tails (marked t) x (map marked ts) (a ++ b) e) in
    record { front = t ∷ c.front; rest = c.rest; parts = ap (λ (q : List Token). t ∷ q) c.parts; is_front = cc (heads (marked t) x (map marked ts) (a ++ b) e, c.is_front); is_rest = c.is_rest }
  where
    heads : (x y : Lexeme Mark) (p q : List (Lexeme Mark)) → x ∷ p ≡ y ∷ q → x ≡ y
    heads x y p q e = cc

    tails : (x y : Lexeme Mark) (p q : List (Lexeme Mark)) → x ∷ p ≡ y ∷ q → p ≡ q
    tails x y p q e = cc

-- ---- a refused token

pub record RefusedAt (ts : List Token) (rest : List (Lexeme Mark)) : Type 0 where
  pub front : List Token
  pub token : Token
  pub more : List Token
  pub parts : ts ≡ front ++ (token ∷ more)
  pub size : length more ≡ length rest
  pub may : MayBegin front
  pub stops : MayBegin (front ++ (token ∷ [])) → ⊥

refused_by : (ts : List Token) (m : Lexeme Mark) (rest a : List (Lexeme Mark)) → Viable IsMarked IsSchema a → (Viable IsMarked IsSchema (a ++ (m ∷ [])) → ⊥) → (front left : List Token) → ts ≡ front ++ left → map marked front ≡ a → map marked left ≡ m ∷ rest → RefusedAt ts rest
refused_by ts m rest a may stops front [] parts is_front is_left = absurd (none is_left)
  where
    none : [] ≡ m ∷ rest → ⊥
    none e = cc
refused_by ts m rest a may stops front (t ∷ more) parts is_front is_left = record {
  front = front;
  token = t;
  more = more;
  parts = parts;
  size = sym (length-map more marked) ∙ ap length (tails (marked t) m (map marked more) rest is_left);
  may = subst (Viable IsMarked IsSchema) (sym is_front) may;
  stops = λ v. stops (subst (Viable IsMarked IsSchema) (map-append marked front (t ∷ []) ∙ cc (is_front, heads (marked t) m (map marked more) rest is_left)) v);
}
  where
    heads : (x y : Lexeme Mark) (p q : List (Lexeme Mark)) → x ∷ p ≡ y ∷ q → x ≡ y
    heads x y p q e = cc

    tails : (x y : Lexeme Mark) (p q : List (Lexeme Mark)) → x ∷ p ≡ y ∷ q → p ≡ q
    tails x y p q e = cc

pub refused_at : (ts : List Token) (k : Refusal) (m : Lexeme Mark) (rest : List (Lexeme Mark)) → all (map marked ts) ≡ Err (k, m ∷ rest) → RefusedAt ts rest
refused_at ts k m rest e =
    let f = nothing_goes_on IsMarked any all IsSchema all_exact (map marked ts) k m rest e in
    let c = cut f.0 (m ∷ rest) ts f.1 in
    refused_by ts m rest f.0 f.2 f.3 c.front c.rest c.parts c.is_front c.is_rest

pub token_once : (left : List ℕ) (u t : Token) → TokenAt left u → TokenAt left t → u ≡ t
token_once left u t (class, a, w, parts, is, follows, same) (class', a', w', parts', is', follows', same') =
    let one = lexeme_once class a w class' a' w' is follows is' follows' (sym parts ∙ parts') in
    same ∙ ap (λ (q : Class). token_of q a) one.0 ∙ ap (token_of class') one.1 ∙ sym same'

-- ---- texts

-- whatever the text is continued to begins with these tokens
abbrev pub Forced : List ℕ → List Token → Type 0
Forced text ts = (whole : List Token) (w : List ℕ) → Lexes whole (text ++ w) → (more : List Token) × (whole ≡ ts ++ more)

behind : (a b : List Token) → AreReal IsReal (a ++ b) → AreReal IsReal b
behind [] b r = r
behind (t ∷ a) b r = behind a b r.1

viable_begins : (text : List ℕ) (ts : List Token) → Forced text ts → IsViable text → MayBegin ts
viable_begins text ts forced (w, ps, (ms, (us, lexes, e), g)) =
    let f = forced us w lexes in
    (ps, map marked f.0, are_marked f.0 (behind ts f.0 (subst (AreReal IsReal) f.1 (lexes_real lexes))), subst (IsSchema ps) (e ∙ ap (map marked) f.1 ∙ map-append marked ts f.0) g)

-- where a token is refused, the fault has its place
refused_explains : (text : List ℕ) (ts : List Token) (places : List ℕ) (k : Refusal) (m : Lexeme Mark) (rest : List (Lexeme Mark)) → Placed text ts places → all (map marked ts) ≡ Err (k, m ∷ rest)
    → ((front : List Token) (t : Token) (more : List Token) → ts ≡ front ++ (t ∷ more) → length more ≡ length rest → IsViable text → MayBegin (front ++ (t ∷ []))) → (n : ℕ) → n + length (m ∷ rest) ≡ length ts → StopsAt text (slice_index places n)
refused_explains text ts places k m rest stand e viable n count =
    let f = refused_at ts k m rest e in
    let p = stand f.front f.token f.more f.parts in
    let here : length f.front ≡ n = omega (arith, ap length f.parts, length-append f.front (f.token ∷ f.more), f.size, count) in (
      λ v. f.stops (viable f.front f.token f.more f.parts f.size v),
      record { tokens = f.front; rest = p.0; at = subst (λ (q : ℕ). At text (slice_index places q) f.front p.0) here p.1; may = f.may },
      λ u there may. f.stops (subst (λ (q : Token). MayBegin (f.front ++ (q ∷ []))) (token_once p.0 u f.token there p.2) may),
    )

-- ---- schemas

whole_reads : (ms : List (Lexeme Mark)) (ps : List Part) (rest : List (Lexeme Mark)) → all ms ≡ Ok (ps, rest) → IsSchema ps ms
whole_reads ms ps rest e =
    let f = all_exact.sound ms ps rest e in
    subst (IsSchema ps) (sym (f.parts ∙ ap (λ (q : List (Lexeme Mark)). f.used ++ q) (whole_left Unexpected schema ms ps rest e) ∙ append-nil f.used)) f.is

pub read_whole : (ms : List (Lexeme Mark)) (ps : List Part) → IsSchema ps ms → all ms ≡ Ok (ps, [])
read_whole ms ps g = ap all (sym (append-nil ms)) ∙ all_exact.complete ps ms [] g refl

not_read : (ms : List (Lexeme Mark)) (ps : List Part) (x : Refusal × List (Lexeme Mark)) → all ms ≡ Err x → IsSchema ps ms → ⊥
not_read ms ps x e g = differ (sym (read_whole ms ps g) ∙ e)
  where
    differ : {a : List Part × List (Lexeme Mark)} {b : Refusal × List (Lexeme Mark)} → ◌≡◌ {A = Answer Mark Refusal (List Part)} (Ok a) (Err b) → ⊥
    differ e = cc

-- all that was refused could be continued
ended_begins : (ms : List (Lexeme Mark)) (k : Refusal) → all ms ≡ Err (k, []) → Viable IsMarked IsSchema ms
ended_begins ms k e =
    let f = all_exact.stops ms k [] e in
    subst (Viable IsMarked IsSchema) (sym (append-nil f.front) ∙ sym f.parts) f.viable

-- what is left is a part of the tokens
pub left_within : (ts : List Token) (k : Refusal) (rest : List (Lexeme Mark)) → all (map marked ts) ≡ Err (k, rest) → length rest ≤ length ts
left_within ts k rest e =
    let f = all_exact.stops (map marked ts) k rest e in
    omega (arith, ap length f.parts, length-append f.front rest, length-map ts marked)

none_left : (rest : List (Lexeme Mark)) → length rest ≡ 0 → rest ≡ []
none_left [] e = refl
none_left (t ∷ rest) e = absurd (omega arith)

-- ---- a text whose tokens these are

module _ (text : List ℕ) (ts : List Token) (lexes : Lexes ts text) where
  no_text : (x : Refusal × List (Lexeme Mark)) → all (map marked ts) ≡ Err x → (ps : List Part) → IsText ps text → ⊥
  no_text x e ps (ms, (us, l, is), g) = not_read (map marked ts) ps x e (subst (IsSchema ps) (is ∙ ap (map marked) (lexes_once us ts text l lexes)) g)

  pub text_is : (ps : List Part) (rest : List (Lexeme Mark)) → all (map marked ts) ≡ Ok (ps, rest) → IsText ps text
  text_is ps rest e = (map marked ts, (ts, lexes, refl), whole_reads (map marked ts) ps rest e)

  module _ (settled : Settled IsReal Lexes text ts) where
    pub settled_ended : (k : Refusal) (rest : List (Lexeme Mark)) → all (map marked ts) ≡ Err (k, rest) → length rest ≡ 0 → EndsTooSoon text
    settled_ended k rest e none =
        let over : all (map marked ts) ≡ Err (k, []) = subst (λ (q : List (Lexeme Mark)). all (map marked ts) ≡ Err (k, q)) (none_left rest none) e in
        (settled_is_viable IsMarked LexesMarked lexes_marked any all IsSchema all_exact text (map marked ts) (settled_marks text ts settled) (ended_begins (map marked ts) k over), no_text (k, []) over)

    pub settled_refused : (places : List ℕ) (k : Refusal) (rest : List (Lexeme Mark)) (left : ℕ) → Placed text ts places → all (map marked ts) ≡ Err (k, rest) → left ≡ length rest → (left ≡ 0 → ⊥) → StopsAt text (slice_index places (length ts - left))
    settled_refused places k [] left stand e size some = absurd (some size)
    settled_refused places k (m ∷ rest) left stand e size some =
        let within = left_within ts k (m ∷ rest) e in
        refused_explains text ts places k m rest stand e
        (λ front t more parts same v. viable_begins text (front ++ (t ∷ [])) (λ whole w l.
        let o = settled.only whole w l in
        (more ++ o.0, o.1 ∙ ap (λ (q : List Token). q ++ o.0) parts ∙ append_assoc front (t ∷ more) o.0 ∙ sym (append_assoc front (t ∷ []) (more ++ o.0)))) v)
        (length ts - left) (omega (arith, size, within))

-- ---- a text that ends in something that may grow

member_mark : (t : Token) (next : List Token) → Among t next → Among (mark_of t) (marks next)
member_mark t [] h = absurd h
member_mark t (u ∷ next) (inl e) = inl (ap mark_of e)
member_mark t (u ∷ next) (inr h) = inr (member_mark t next h)

mark_member : (x : Mark) (next : List Token) → Among x (marks next) → (t : Token) × Among t next × (x ≡ mark_of t)
mark_member x [] h = absurd h
mark_member x (u ∷ next) (inl e) = (u, inl refl, e)
mark_member x (u ∷ next) (inr h) = let f = mark_member x next h in (f.0, inr f.1, f.2)

module _ (text : List ℕ) (init next : List Token) (grows : Growing IsMarked LexesMarked text (map marked init) (marks next)) where
  pub grown_is_viable : CanGoOn init next → IsViable text
  grown_is_viable (t, among, h) = growing_is_viable IsMarked LexesMarked lexes_marked any all IsSchema all_exact text (map marked init) (marks next) grows
      (mark_of t, member_mark t next among, alike_consumed IsMarked any all IsSchema all_exact (map marked init) (marked t) (any_of (mark_of t)) refl (subst (λ (q : List (Lexeme Mark)). Consumed (all q)) (map-append marked init (t ∷ [])) h))

  pub viable_can_grow : IsViable text → CanGoOn init next
  viable_can_grow v =
      let f = viable_is_growing IsMarked LexesMarked lexes_marked any all IsSchema all_exact text (map marked init) (marks next) grows v in
      let t = mark_member f.0 next f.1 in
      (t.0, t.1, subst (λ (q : List (Lexeme Mark)). Consumed (all q)) (sym (map-append marked init (t.0 ∷ []))) (alike_consumed IsMarked any all IsSchema all_exact (map marked init) (any_of f.0) (marked t.0) (sym t.2) f.2))

-- ---- what stands at a place

leads_suffix : {ts : List Token} {x y : List ℕ} → Leads ts x y → (a : List ℕ) × (x ≡ a ++ y)
leads_suffix here = ([], refl)
leads_suffix (skip a w is l) = let f = leads_suffix l in (a ++ f.0, ap (λ (q : List ℕ). a ++ q) f.1 ∙ sym (append_assoc a f.0 _))
leads_suffix (token class a w is follows l) = let f = leads_suffix l in (a ++ f.0, ap (λ (q : List ℕ). a ++ q) f.1 ∙ sym (append_assoc a f.0 _))

pub rest_is : (text : List ℕ) (place : ℕ) (ts : List Token) (rest : List ℕ) → At text place ts rest → drop place text ≡ rest
rest_is text place ts rest at =
    let f = leads_suffix at.leads in
    let n : place ≡ length f.0 = omega (arith, at.place_is, ap length f.1, length-append f.0 rest) in
    ap (drop place) f.1 ∙ drop_at f.0 rest place (sym n)

pub place_within : (text : List ℕ) (place : ℕ) (ts : List Token) (rest : List ℕ) → At text place ts rest → (place ≤ length text) × (0 < length (drop place text))
place_within text place ts rest at = (omega (arith, at.place_is), subst (λ (q : List ℕ). 0 < length q) (sym (rest_is text place ts rest at)) at.some)

-- ---- the last token may grow

last_same : (a b : List Token) (t u : Token) → a ++ (t ∷ []) ≡ b ++ (u ∷ []) → (a ≡ b) × (t ≡ u)
last_same [] [] t u e = (refl, heads t u [] [] e)
  where
    heads : (x y : Token) (p q : List Token) → x ∷ p ≡ y ∷ q → x ≡ y
    heads x y p q e = cc
last_same [] (y ∷ b) t u e = absurd (omega (arith, ap length e, length-append b (u ∷ [])))
last_same (x ∷ a) [] t u e = absurd (omega (arith, ap length e, length-append a (t ∷ [])))
last_same (x ∷ a) (y ∷ b) t u e = let f = last_same a b t u (tails x y (a ++ (t ∷ [])) (b ++ (u ∷ [])) e) in (cc (heads x y (a ++ (t ∷ [])) (b ++ (u ∷ [])) e, f.0), f.1)
  where
    heads : (x y : Token) (p q : List Token) → x ∷ p ≡ y ∷ q → x ≡ y
    heads x y p q e = cc

    tails : (x y : Token) (p q : List Token) → x ∷ p ≡ y ∷ q → p ≡ q
    tails x y p q e = cc

-- no token begins bytes of which the scanner says so
bad_no_token : (b : ℕ) (bs : List ℕ) → token_at b bs ≡ sc.Bad → (t : Token) → TokenAt (b ∷ bs) t → ⊥
bad_no_token b bs bad t (class, [], w, parts, is, follows, same) = no_lexeme class is
bad_no_token b bs bad t (class, x ∷ a, w, parts, is, follows, same) =
    let here : x ≡ b = sym (heads_are b x bs (a ++ w) parts) in
    bad_is b bs bad class a w [] (append-nil bs ∙ tails_are b x bs (a ++ w) parts) (subst (λ (q : ℕ). IsLexeme class (q ∷ a)) here is) follows

module _ (text : List ℕ) (ts : List Token) (kinds : List Kind) (whole : EndsWhole text ts kinds) where
  grows_at : (rest : List ℕ) → 0 < length rest → Leads whole.init text rest → TokenAt rest whole.last → Growing IsMarked LexesMarked text (map marked whole.init) (marks (last_next (scanned rest) rest whole.last))
  grows_at [] some leads there = absurd (omega arith)
  grows_at (b ∷ bs) some leads there = go (token_at b bs) refl
    where
      go : (o : Scan) → token_at b bs ≡ o → Growing IsMarked LexesMarked text (map marked whole.init) (marks (last_next o (b ∷ bs) whole.last))
      go (sc.End t) e = end_grows whole.init text b bs t leads e
      go (sc.Found class n) e = found_grows text ts kinds b bs class n whole leads there e
      go sc.Bad e = absurd (bad_no_token b bs e whole.last there)

  -- what the last token may grow to, by what stands at its place
  pub last_grows : (places : List ℕ) (place : ℕ) → Placed text ts places → place ≡ slice_index places (length whole.init) → (place ≤ length text) × (0 < length (drop place text))
      × Growing IsMarked LexesMarked text (map marked whole.init) (marks (last_next (scanned (drop place text)) (drop place text) whole.last))
  last_grows places place stand is =
      let p = stand whole.init whole.last [] whole.parts in
      let at : At text place whole.init p.0 = subst (λ (q : ℕ). At text q whole.init p.0) (sym is) p.1 in
      let here : drop place text ≡ p.0 = rest_is text place whole.init p.0 at in
      let within = place_within text place whole.init p.0 at in
      (within.0, within.1, subst (λ (q : List ℕ). Growing IsMarked LexesMarked text (map marked whole.init) (marks (last_next (scanned q) q whole.last))) (sym here) (grows_at p.0 at.some at.leads p.2))

  -- the tokens may go on, and so may the text
  pub whole_ended : (places : List ℕ) → Placed text ts places → (k : Refusal) (rest : List (Lexeme Mark)) → all (map marked ts) ≡ Err (k, rest) → length rest ≡ 0 → EndsTooSoon text
  whole_ended places stand k rest e none =
      let over : all (map marked ts) ≡ Err (k, []) = subst (λ (q : List (Lexeme Mark)). all (map marked ts) ≡ Err (k, q)) (none_left rest none) e in
      let g = (last_grows places (slice_index places (length whole.init)) stand refl).2 in
      let o = g.only (map marked ts) [] (ts, subst (Lexes ts) (sym (append-nil text)) whole.lexes, refl) in
      let v : Viable IsMarked IsSchema (map marked whole.init ++ (marked whole.last ∷ [])) = subst (Viable IsMarked IsSchema) (ap (map marked) whole.parts ∙ map-append marked whole.init (whole.last ∷ [])) (ended_begins (map marked ts) k over) in
      let same : o.0 ≡ marked whole.last = sym (first (marked whole.last) o.0 [] o.1 (append_cancel_left (map marked whole.init) (marked whole.last ∷ []) (o.0 ∷ o.1) (sym (ap (map marked) whole.parts ∙ map-append marked whole.init (whole.last ∷ [])) ∙ o.2))) in
      let h : Consumed (all (map marked whole.init ++ (marked whole.last ∷ []))) = viable_consumed IsMarked any all IsSchema all_exact (map marked whole.init ++ (marked whole.last ∷ [])) v in (
        growing_is_viable IsMarked LexesMarked lexes_marked any all IsSchema all_exact text (map marked whole.init) _ g
            (o.0.kind, o.3, alike_consumed IsMarked any all IsSchema all_exact (map marked whole.init) (marked whole.last) (any_of o.0.kind) (ap (λ (q : Lexeme Mark). q.kind) same) h),
        no_text text ts whole.lexes (k, []) over,
      )
    where
      first : (x y : Lexeme Mark) (p q : List (Lexeme Mark)) → x ∷ p ≡ y ∷ q → x ≡ y
      first x y p q e = cc

  -- what stands before the last
  before_last : (front rest init : List Token) (t last : Token) → front ++ (t ∷ rest) ≡ init ++ (last ∷ []) → 0 < length rest → (r : List Token) × (init ≡ front ++ (t ∷ r))
  before_last front [] init t last e some = absurd (omega arith)
  before_last [] (u ∷ rest) [] t last e some = absurd (omega (arith, ap length e))
  before_last [] (u ∷ rest) (x ∷ init) t last e some = (init, ap (λ (q : Token). q ∷ init) (sym (heads t x (u ∷ rest) (init ++ (last ∷ [])) e)))
    where
      heads : (x y : Token) (p q : List Token) → x ∷ p ≡ y ∷ q → x ≡ y
      heads x y p q e = cc
  before_last (y ∷ front) (u ∷ rest) [] t last e some = absurd (omega (arith, ap length e, length-append front (t ∷ (u ∷ rest))))
  before_last (y ∷ front) (u ∷ rest) (x ∷ init) t last e some =
      let f = before_last front (u ∷ rest) init t last (tails y x (front ++ (t ∷ (u ∷ rest))) (init ++ (last ∷ [])) e) some in
      (f.0, cc (heads y x (front ++ (t ∷ (u ∷ rest))) (init ++ (last ∷ [])) e, f.1))
    where
      heads : (x y : Token) (p q : List Token) → x ∷ p ≡ y ∷ q → x ≡ y
      heads x y p q e = cc

      tails : (x y : Token) (p q : List Token) → x ∷ p ≡ y ∷ q → p ≡ q
      tails x y p q e = cc

  pub whole_earlier : (places : List ℕ) → Placed text ts places → (k : Refusal) (rest : List (Lexeme Mark)) (left : ℕ) → all (map marked ts) ≡ Err (k, rest) → left ≡ length rest → 1 < left → StopsAt text (slice_index places (length ts - left))
  whole_earlier places stand k [] left e size more = absurd (omega (arith, size))
  whole_earlier places stand k (m ∷ rest) left e size more =
      let within = left_within ts k (m ∷ rest) e in
      refused_explains text ts places k m rest stand e (λ front t behind_ parts same v. forced front t behind_ parts (omega (arith, size, same)) v) (length ts - left) (omega (arith, size, within))
    where
      forced : (front : List Token) (t : Token) (more : List Token) → ts ≡ front ++ (t ∷ more) → 0 < length more → IsViable text → MayBegin (front ++ (t ∷ []))
      forced front t more parts some v =
          let r = before_last front more whole.init t whole.last (sym parts ∙ whole.parts) some in
          viable_begins text (front ++ (t ∷ [])) (λ all_ w l.
          let o = whole.grows.only all_ w l in
          (r.0 ++ (o.0 ∷ o.1), o.2 ∙ ap (λ (q : List Token). q ++ (o.0 ∷ o.1)) r.1 ∙ append_assoc front (t ∷ r.0) (o.0 ∷ o.1) ∙ sym (append_assoc front (t ∷ []) (r.0 ++ (o.0 ∷ o.1))))) v

  -- the last token is refused: what it may grow to decides
  module _ (places : List ℕ) (place index : ℕ) (k : Refusal) (m : Lexeme Mark) (stand : Placed text ts places) (e : all (map marked ts) ≡ Err (k, m ∷ [])) (count : index + 1 ≡ length ts) (is : place ≡ slice_index places index) where
    init_index : index ≡ length whole.init
    init_index = omega (arith, count, ap length whole.parts, length-append whole.init (whole.last ∷ []))

    pub at_last : (place ≤ length text) × (0 < length (drop place text)) × Growing IsMarked LexesMarked text (map marked whole.init) (marks (last_next (scanned (drop place text)) (drop place text) whole.last))
    at_last = last_grows places place stand (is ∙ ap (slice_index places) init_index)

    pub last_goes_on : CanGoOn whole.init (last_next (scanned (drop place text)) (drop place text) whole.last) → EndsTooSoon text
    last_goes_on h = (grown_is_viable text whole.init (last_next (scanned (drop place text)) (drop place text) whole.last) at_last.2 h, no_text text ts whole.lexes (k, m ∷ []) e)

    pub last_stops : (CanGoOn whole.init (last_next (scanned (drop place text)) (drop place text) whole.last) → ⊥) → StopsAt text place
    last_stops none = subst (StopsAt text) (sym is) (refused_explains text ts places k m [] stand e
        (λ front t more parts same v. absurd (none (viable_can_grow text whole.init (last_next (scanned (drop place text)) (drop place text) whole.last) at_last.2 v))) index (omega (arith, count)))

-- ---- what is cut is no token

module _ (text : List ℕ) (ts : List Token) (place : ℕ) (kinds : List Kind) (cut : EndsCut text ts place kinds) (bytes : AreBytes text) (utf8 : IsUtf8 text) where
  pub cut_is_no_text : (ps : List Part) → IsText ps text → ⊥
  cut_is_no_text ps (ms, (us, l, is), g) = cut.lexes us l

  cut_grows_at : (rest : List ℕ) → 0 < length rest → Leads ts text rest → NoneIgnored rest → ((t : Token) → TokenAt rest t → ⊥) → Growing IsMarked LexesMarked text (map marked ts) (marks (cut_next (scanned rest) rest))
  cut_grows_at [] some leads ignored none = absurd (omega arith)
  cut_grows_at (b ∷ bs) some leads ignored none = go (token_at b bs) refl
    where
      go : (o : Scan) → token_at b bs ≡ o → Growing IsMarked LexesMarked text (map marked ts) (marks (cut_next o (b ∷ bs)))
      go (sc.End t) e = end_grows ts text b bs t leads e
      go (sc.Found class n) e = let f = found_front b bs class n e in absurd (none (token_of class f.used) (class, f.used, f.rest, f.parts, f.is, f.follows, refl))
      go sc.Bad e = bad_grows ts text b bs bytes utf8 leads ignored e

  pub at_cut : (place ≤ length text) × (0 < length (drop place text)) × Growing IsMarked LexesMarked text (map marked ts) (marks (cut_next (scanned (drop place text)) (drop place text)))
  at_cut =
      let here : drop place text ≡ cut.rest = rest_is text place ts cut.rest cut.at in
      let within = place_within text place ts cut.rest cut.at in
      (within.0, within.1, subst (λ (q : List ℕ). Growing IsMarked LexesMarked text (map marked ts) (marks (cut_next (scanned q) q))) (sym here) (cut_grows_at cut.rest cut.at.some cut.at.leads cut.at.begins cut.none))

  pub cut_goes_on : CanGoOn ts (cut_next (scanned (drop place text)) (drop place text)) → EndsTooSoon text
  cut_goes_on h = (grown_is_viable text ts (cut_next (scanned (drop place text)) (drop place text)) at_cut.2 h, cut_is_no_text)

  pub cut_stops : MayBegin ts → (CanGoOn ts (cut_next (scanned (drop place text)) (drop place text)) → ⊥) → StopsAt text place
  cut_stops may none = (λ v. none (viable_can_grow text ts (cut_next (scanned (drop place text)) (drop place text)) at_cut.2 v), record { tokens = ts; rest = cut.rest; at = cut.at; may = may }, λ t there begins. cut.none t there)

-- what is read is what some schema begins with
pub read_begins : (ts : List Token) (ps : List Part) (rest : List (Lexeme Mark)) → all (map marked ts) ≡ Ok (ps, rest) → MayBegin ts
read_begins ts ps rest e = (ps, [], tt, subst (IsSchema ps) (sym (append-nil (map marked ts))) (whole_reads (map marked ts) ps rest e))

pub stopped_begins : (ts : List Token) (k : Refusal) (rest : List (Lexeme Mark)) → all (map marked ts) ≡ Err (k, rest) → length rest ≡ 0 → MayBegin ts
stopped_begins ts k rest e none = ended_begins (map marked ts) k (subst (λ (q : List (Lexeme Mark)). all (map marked ts) ≡ Err (k, q)) (none_left rest none) e)

-- a token before what is cut is refused
pub cut_earlier : (text : List ℕ) (ts : List Token) (places : List ℕ) (place : ℕ) (kinds : List Kind) → EndsCut text ts place kinds → Placed text ts places → (k : Refusal) (rest : List (Lexeme Mark)) (left : ℕ) → all (map marked ts) ≡ Err (k, rest) → left ≡ length rest → 0 < left
    → StopsAt text (slice_index places (length ts - left))
cut_earlier text ts places place kinds cut stand k [] left e size some = absurd (omega (arith, size))
cut_earlier text ts places place kinds cut stand k (m ∷ rest) left e size some =
    let within = left_within ts k (m ∷ rest) e in
    refused_explains text ts places k m rest stand e
    (λ front t more parts same v. viable_begins text (front ++ (t ∷ [])) (λ whole w l.
    let o = cut.grows.only whole w l in
    (more ++ (o.0 ∷ o.1), o.2 ∙ ap (λ (q : List Token). q ++ (o.0 ∷ o.1)) parts ∙ append_assoc front (t ∷ more) (o.0 ∷ o.1) ∙ sym (append_assoc front (t ∷ []) (more ++ (o.0 ∷ o.1))))) v)
    (length ts - left) (omega (arith, size, within))

-- ---- as the code decides

pub refused_last_is : (text : List ℕ) (ts : List Token) (places : List ℕ) (w : IsWhole text ts places) (k : Refusal) (rest : List (Lexeme Mark)) (left place : ℕ) → all (map marked ts) ≡ Err (k, rest) → left ≡ length rest → (left ≡ 0 → ⊥) → left ≤ 1
    → place ≡ slice_index places (length ts - left) → RefusedLast text ts place
refused_last_is text ts places w k [] left place e size some one is = absurd (some size)
refused_last_is text ts places w k (m ∷ (u ∷ rest)) left place e size some one is = absurd (omega (arith, size))
refused_last_is text ts places w k (m ∷ []) left place e size some one is =
    let within = left_within ts k (m ∷ []) e in
    record { places = places; kinds = w.kinds; why = k; mark = m; index = length ts - left; stand = w.placed; ends = w.ends; count = omega (arith, size, within); place_is = is; refused = e }

module _ (text : List ℕ) (ts now : List Token) (place : ℕ) (r : RefusedLast text ts place) (last : Token) (parts : ts ≡ now ++ (last ∷ [])) where
  same : (now ≡ r.ends.init) × (last ≡ r.ends.last)
  same = last_same now r.ends.init last r.ends.last (sym parts ∙ r.ends.parts)

  next_is : (rest : List ℕ) (next : List Token) → rest ≡ drop place text → next ≡ last_next (scanned rest) rest last → next ≡ last_next (scanned (drop place text)) (drop place text) r.ends.last
  next_is rest next e f = f ∙ ap (λ (q : List ℕ). last_next (scanned q) q last) e ∙ ap (last_next (scanned (drop place text)) (drop place text)) same.1

  pub last_on : (rest : List ℕ) (next : List Token) (b : Bool) → rest ≡ drop place text → next ≡ last_next (scanned rest) rest last → TellsWhether b (CanGoOn now next) → b ≡ true → EndsTooSoon text
  last_on rest next false e f tells is = absurd cc
  last_on rest next true e f tells is = last_goes_on text ts r.kinds r.ends r.places place r.index r.why r.mark r.stand r.refused r.count r.place_is
      (subst (λ (q : List Token). CanGoOn q (last_next (scanned (drop place text)) (drop place text) r.ends.last)) same.0 (subst (CanGoOn now) (next_is rest next e f) tells))

  pub last_off : (rest : List ℕ) (next : List Token) (b : Bool) → rest ≡ drop place text → next ≡ last_next (scanned rest) rest last → TellsWhether b (CanGoOn now next) → b ≡ false → StopsAt text place
  last_off rest next true e f tells is = absurd cc
  last_off rest next false e f tells is = last_stops text ts r.kinds r.ends r.places place r.index r.why r.mark r.stand r.refused r.count r.place_is
      (λ h. tells (subst (CanGoOn now) (sym (next_is rest next e f)) (subst (λ (q : List Token). CanGoOn q (last_next (scanned (drop place text)) (drop place text) r.ends.last)) (sym same.0) h)))

pub last_room : (text : List ℕ) (ts : List Token) (place : ℕ) → RefusedLast text ts place → (place ≤ length text) × (0 < length (drop place text))
last_room text ts place r = let f = at_last text ts r.kinds r.ends r.places place r.index r.why r.mark r.stand r.refused r.count r.place_is in (f.0, f.1)

module _ (text : List ℕ) (ts : List Token) (place : ℕ) (bytes : AreBytes text) (utf8 : IsUtf8 text) (c : CutAt text ts place) where
  pub cut_room : (place ≤ length text) × (0 < length (drop place text))
  cut_room = let f = at_cut text ts place c.kinds c.ends bytes utf8 in (f.0, f.1)

  cut_next_is : (rest : List ℕ) (next : List Token) → rest ≡ drop place text → next ≡ cut_next (scanned rest) rest → next ≡ cut_next (scanned (drop place text)) (drop place text)
  cut_next_is rest next e f = f ∙ ap (λ (q : List ℕ). cut_next (scanned q) q) e

  pub cut_on : (rest : List ℕ) (next : List Token) (b : Bool) → rest ≡ drop place text → next ≡ cut_next (scanned rest) rest → TellsWhether b (CanGoOn ts next) → b ≡ true → EndsTooSoon text
  cut_on rest next false e f tells is = absurd cc
  cut_on rest next true e f tells is = cut_goes_on text ts place c.kinds c.ends bytes utf8 (subst (CanGoOn ts) (cut_next_is rest next e f) tells)

  pub cut_off : (rest : List ℕ) (next : List Token) (b : Bool) → rest ≡ drop place text → next ≡ cut_next (scanned rest) rest → TellsWhether b (CanGoOn ts next) → b ≡ false → StopsAt text place
  cut_off rest next true e f tells is = absurd cc
  cut_off rest next false e f tells is = cut_stops text ts place c.kinds c.ends bytes utf8 c.may (λ h. tells (subst (CanGoOn ts) (sym (cut_next_is rest next e f)) h))

pub cut_at_is : (text : List ℕ) (ts : List Token) (places : List ℕ) (c : IsCut text ts places) (place : ℕ) → place ≡ slice_index places (length ts - 0) → MayBegin ts → CutAt text ts place
cut_at_is text ts places c place is may =
    let none : length ts - 0 ≡ length ts = omega arith in
    record { kinds = c.kinds; ends = subst (λ (q : ℕ). EndsCut text ts q c.kinds) (sym (is ∙ ap (slice_index places) none)) c.ends; may = may }
