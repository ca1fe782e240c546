-- The answer from the tokens of a text explains the text.
use Rattle.std.proofs.Common.{◌≡◌, ℕ, suc, ◌+◌, ◌-◌, ◌<◌, ◌≤◌, Bool, true, false, List, [], ◌∷◌, ◌++◌, length, Result, Ok, Err, refl, sym, ap, subst, ◌∙◌, arith, append_assoc, length-append, ◌⊎◌, inl, inr}
use Rattle.std.specs.Prelude.{slice_index}
use Rattle.std.proofs.lemmas.List.{append-nil, append_cancel_right}
use Rattle.token_read.specs.Lexeme.{Lexeme}
use Rattle.token_read.specs.Parse.{Answer}
use Rattle.token_read.specs.Exact.{AreReal, Viable, IsExact}
use Rattle.token_read.specs.Texts.{Among, Settled, Growing, Consumed, any_of, CanFollow}
use Rattle.token_read.proofs.Exact.{nothing_goes_on, ok_is}
use Rattle.token_read.proofs.Relax.{refused_by_rule}
use Rattle.token_read.proofs.Decide.{consumed_viable, viable_consumed, alike_consumed}
use Rattle.token_read.proofs.Texts.{settled_is_viable, viable_is_settled, growing_is_viable, viable_is_growing}
use Rattle.token_read.proofs.Ended.{whole_is_exact, whole_left}
use Rattle.gql_tokens.specs.declared.kinds.Kind.{Kind}
use Rattle.gql_tokens.specs.declared.scanner.Class.{Class}
use Rattle.gql_tokens.specs.Lexical.{Token, Lexes, IsReal, token_of}
use Rattle.gql_tokens.specs.Lexing.{At, TokenAt, Placed, EndsWhole, EndsCut}
use Rattle.gql_tokens.proofs.Lexemes.{lexeme_once}
use Rattle.gql_tokens.proofs.Leading.{lexes_real, lexes_once}
use Rattle.gql_terms.specs.declared.documents.Document.{Document}
use Rattle.gql_terms.specs.declared.faults.Refusal.{Refusal}
use Rattle.gql_terms.specs.declared.faults.Refusal.TheVariants.{Unexpected, Deep}
use Rattle.gql_terms.specs.declared.faults.GqlFault.TheVariants as faults
use Rattle.gql_terms.specs.Grammar.{Rules, strict, deeper, IsDocument}
use Rattle.gql_parser.specs.Reading.{document, all, begins_definition}
use Rattle.gql_parser.specs.Faults.{IsText, IsViable, MayBegin, Before, Explains, placed}
use Rattle.gql_parser.proofs.DocumentsExact.{document_exact}
use Rattle.gql_parser.proofs.Deeper.{by_rule, all_further}

-- a whole text would go on with any token
abbrev pub always : Kind → Bool
always kind = true

pub all_exact : (r : Rules) → IsExact IsReal always (all r) (IsDocument r)
all_exact r = whole_is_exact IsReal Unexpected begins_definition (document r) (IsDocument r) (document_exact r)

-- ---- a refused token

pub record RefusedAt (ts : List Token) (k : Refusal) (t : Token) (rest : List Token) : Type 0 where
  pub front : List Token
  pub parts : ts ≡ front ++ (t ∷ rest)
  pub may : MayBegin strict front
  pub stops : MayBegin strict (front ++ (t ∷ [])) → ⊥

pub refused_at : (ts : List Token) (k : Refusal) (t : Token) (rest : List Token) → all strict ts ≡ Err (k, t ∷ rest) → RefusedAt ts k t rest
refused_at ts k t rest e = let f = nothing_goes_on IsReal always (all strict) (IsDocument strict) (all_exact strict) ts k t rest e in record { front = f.0; parts = f.1; may = f.2; stops = f.3 }

-- refused by the grammar: with one level more too
refused_further : (ts : List Token) (t : Token) (rest : List Token) → all strict ts ≡ Err (Unexpected, t ∷ rest) → (front : List Token) → ts ≡ front ++ (t ∷ rest) → MayBegin (deeper strict) (front ++ (t ∷ [])) → ⊥
refused_further ts t rest e front cut =
    let f = nothing_goes_on IsReal always (all (deeper strict)) (IsDocument (deeper strict)) (all_exact (deeper strict)) ts Unexpected t rest ((all_further strict).refuses ts Unexpected (t ∷ rest) e refl) in
    let same : f.0 ≡ front = append_cancel_right f.0 front (t ∷ rest) (sym f.1 ∙ cut) in
    subst (λ (q : List Token). MayBegin (deeper strict) (q ++ (t ∷ [])) → ⊥) same f.3

-- refused by the rule: with one level more it goes on
goes_further : (ts : List Token) (t : Token) (rest : List Token) → AreReal IsReal ts → all strict ts ≡ Err (Deep, t ∷ rest) → (front : List Token) → ts ≡ front ++ (t ∷ rest) → MayBegin (deeper strict) (front ++ (t ∷ []))
goes_further ts t rest real e front cut =
    let f = refused_by_rule by_rule IsReal always always (all strict) (all (deeper strict)) (IsDocument strict) (IsDocument (deeper strict)) (all_exact strict) (all_exact (deeper strict)) (all_further strict) ts Deep t rest real e refl in
    let same : f.0 ≡ front = append_cancel_right f.0 front (t ∷ rest) (sym f.1 ∙ cut) in
    subst (λ (q : List Token). MayBegin (deeper strict) (q ++ (t ∷ []))) same f.3

-- ---- texts

-- whatever the text is continued to begins with these tokens
abbrev pub Forced : List ℕ → List Token → Type 0
Forced text ts = (whole : List Token) (w : List ℕ) → Lexes whole (text ++ w) → (more : List Token) × (whole ≡ ts ++ more)

behind : (a b : List Token) → AreReal IsReal (a ++ b) → AreReal IsReal b
behind [] b r = r
behind (t ∷ a) b r = behind a b r.1

in_front : (a b : List Token) → AreReal IsReal (a ++ b) → AreReal IsReal a
in_front [] b r = tt
in_front (t ∷ a) b r = (r.0, in_front a b r.1)

viable_begins : (text : List ℕ) (ts : List Token) → Forced text ts → IsViable text → MayBegin strict ts
viable_begins text ts forced (w, d, (whole, lexes, g)) =
    let f = forced whole w lexes in
    (d, f.0, behind ts f.0 (subst (AreReal IsReal) f.1 (lexes_real lexes)), subst (IsDocument strict d) f.1 g)

-- where a token is refused, the fault has its place
pub refused_explains : (text : List ℕ) (ts : List Token) (places : List ℕ) (k : Refusal) (t : Token) (rest : List Token) → Placed text ts places → AreReal IsReal ts → all strict ts ≡ Err (k, t ∷ rest)
    → ((front : List Token) → ts ≡ front ++ (t ∷ rest) → IsViable text → MayBegin strict (front ++ (t ∷ []))) → (n : ℕ) → n + length (t ∷ rest) ≡ length ts → Explains text (placed k (slice_index places n))
refused_explains text ts places k t rest stand real e viable n count =
    let f = refused_at ts k t rest e in
    let p = stand f.front t rest f.parts in
    let here : length f.front ≡ n = omega (arith, ap length f.parts, length-append f.front (t ∷ rest)) in
    go k e f.front f.parts f.may f.stops p.0 (subst (λ (q : ℕ). At text (slice_index places q) f.front p.0) here p.1) p.2
  where
    go : (k : Refusal) → all strict ts ≡ Err (k, t ∷ rest) → (front : List Token) → ts ≡ front ++ (t ∷ rest) → MayBegin strict front → (MayBegin strict (front ++ (t ∷ [])) → ⊥) → (left : List ℕ) → At text (slice_index places n) front left → TokenAt left t
        → Explains text (placed k (slice_index places n))
    go Unexpected e front cut may stops left at token = (
      λ v. stops (viable front cut v),
      record { tokens = front; rest = left; at = at; may = may },
      λ u there deep. refused_further ts t rest e front cut (subst (λ (q : Token). MayBegin (deeper strict) (front ++ (q ∷ []))) (one_token left u t there token) deep),
    )
      where
        one_token : (left : List ℕ) (u t : Token) → TokenAt left u → TokenAt left t → u ≡ t
        one_token left u t (class, a, w, parts, is, follows, same) (class', a', w', parts', is', follows', same') =
            let one = lexeme_once class a w class' a' w' is follows is' follows' (sym parts ∙ parts') in
            same ∙ ap (λ (q : Class). token_of q a) one.0 ∙ ap (token_of class') one.1 ∙ sym same'
    go Deep e front cut may stops left at token = (
      λ v. stops (viable front cut v),
      record { tokens = front; rest = left; at = at; may = may },
      t,
      token,
      stops,
      goes_further ts t rest real e front cut,
    )

-- ---- documents

pub whole_reads : (ts : List Token) (d : Document) (rest : List Token) → all strict ts ≡ Ok (d, rest) → IsDocument strict d ts
whole_reads ts d rest e =
    let f = (all_exact strict).sound ts d rest e in
    subst (IsDocument strict d) (sym (f.parts ∙ ap (λ (q : List Token). f.used ++ q) (whole_left Unexpected (document strict) ts d rest e) ∙ append-nil f.used)) f.is

pub read_whole : (ts : List Token) (d : Document) → IsDocument strict d ts → all strict ts ≡ Ok (d, [])
read_whole ts d g = ap (all strict) (sym (append-nil ts)) ∙ (all_exact strict).complete d ts [] g refl

not_read : (ts : List Token) (d : Document) (x : Refusal × List Token) → all strict ts ≡ Err x → IsDocument strict d ts → ⊥
not_read ts d x e g = differ (sym (read_whole ts d g) ∙ e)
  where
    differ : {a : Document × List Token} {b : Refusal × List Token} → ◌≡◌ {A = Answer Kind Refusal Document} (Ok a) (Err b) → ⊥
    differ e = cc

-- all that was refused could be continued
ended_begins : (ts : List Token) (k : Refusal) → all strict ts ≡ Err (k, []) → MayBegin strict ts
ended_begins ts k e =
    let f = (all_exact strict).stops ts k [] e in
    subst (MayBegin strict) (sym (append-nil f.front) ∙ sym f.parts) f.viable

-- ---- a text that ends between tokens

module _ (text : List ℕ) (ts : List Token) (lexes : Lexes ts text) where
  no_text : (x : Refusal × List Token) → all strict ts ≡ Err x → (d : Document) → IsText d text → ⊥
  no_text x e d (us, l, g) = not_read ts d x e (subst (IsDocument strict d) (lexes_once us ts text l lexes) g)

  pub text_is : (d : Document) (rest : List Token) → all strict ts ≡ Ok (d, rest) → IsText d text
  text_is d rest e = (ts, lexes, whole_reads ts d rest e)

  pub text_reads : (d : Document) → IsText d text → all strict ts ≡ Ok (d, [])
  text_reads d (us, l, g) = read_whole ts d (subst (IsDocument strict d) (lexes_once us ts text l lexes) g)

  module _ (settled : Settled IsReal Lexes text ts) where
    pub settled_ended : (k : Refusal) → all strict ts ≡ Err (k, []) → Explains text faults.Ended
    settled_ended k e = (settled_is_viable IsReal Lexes (λ us bytes l. lexes_real l) always (all strict) (IsDocument strict) (all_exact strict) text ts settled (ended_begins ts k e), no_text (k, []) e)

    pub settled_refused : (places : List ℕ) (k : Refusal) (t : Token) (rest : List Token) → Placed text ts places → all strict ts ≡ Err (k, t ∷ rest) → (n : ℕ) → n + length (t ∷ rest) ≡ length ts → Explains text (placed k (slice_index places n))
    settled_refused places k t rest stand e n count = refused_explains text ts places k t rest stand (lexes_real lexes) e
        (λ front cut v. viable_begins text (front ++ (t ∷ [])) (λ whole w l.
        let o = settled.only whole w l in
        (rest ++ o.0, o.1 ∙ ap (λ (q : List Token). q ++ o.0) cut ∙ append_assoc front (t ∷ rest) o.0 ∙ sym (append_assoc front (t ∷ []) (rest ++ o.0)))) v) n count

-- ---- a text that ends in something that may grow

module _ (text : List ℕ) (init : List Token) (kinds : List Kind) (grows : Growing IsReal Lexes text init kinds) where
  pub grown_is_viable : CanFollow (all strict) init kinds → IsViable text
  grown_is_viable c = growing_is_viable IsReal Lexes (λ us bytes l. lexes_real l) always (all strict) (IsDocument strict) (all_exact strict) text init kinds grows c

  pub viable_can_grow : IsViable text → CanFollow (all strict) init kinds
  viable_can_grow v = viable_is_growing IsReal Lexes (λ us bytes l. lexes_real l) always (all strict) (IsDocument strict) (all_exact strict) text init kinds grows v

  -- a token before the last
  forced_before : (front : List Token) (t : Token) (rest : List Token) → init ≡ front ++ (t ∷ rest) → Forced text (front ++ (t ∷ []))
  forced_before front t rest cut whole w l =
      let o = grows.only whole w l in
      (rest ++ (o.0 ∷ o.1), o.2 ∙ ap (λ (q : List Token). q ++ (o.0 ∷ o.1)) cut ∙ append_assoc front (t ∷ rest) (o.0 ∷ o.1) ∙ sym (append_assoc front (t ∷ []) (rest ++ (o.0 ∷ o.1))))

  pub refused_before : (ts : List Token) (tail : List Token) (places : List ℕ) (k : Refusal) (t : Token) (rest : List Token) → ts ≡ init ++ tail → Placed text ts places → AreReal IsReal ts → all strict ts ≡ Err (k, t ∷ (rest ++ tail))
      → (n : ℕ) → n + length (t ∷ (rest ++ tail)) ≡ length ts → Explains text (placed k (slice_index places n))
  refused_before ts tail places k t rest parts stand real e n count = refused_explains text ts places k t (rest ++ tail) stand real e
      (λ front cut v. viable_begins text (front ++ (t ∷ [])) (forced_before front t rest (append_cancel_right init (front ++ (t ∷ rest)) tail (sym parts ∙ cut ∙ sym (append_assoc front (t ∷ rest) tail)))) v) n count

-- the last token may grow
module _ (text : List ℕ) (ts : List Token) (kinds : List Kind) (whole : EndsWhole text ts kinds) where
  pub whole_ended : (k : Refusal) → all strict ts ≡ Err (k, []) → Explains text faults.Ended
  whole_ended k e =
      let v : MayBegin strict (whole.init ++ (whole.last ∷ [])) = subst (MayBegin strict) whole.parts (ended_begins ts k e) in
      let g = whole.grows.each whole.last.kind whole.among in
      (grown_is_viable text whole.init kinds whole.grows (whole.last.kind, whole.among, alike v), no_text text ts whole.lexes (k, []) e)
    where
      alike : MayBegin strict (whole.init ++ (whole.last ∷ [])) → Consumed (all strict (whole.init ++ (any_of whole.last.kind ∷ [])))
      alike v = alike_consumed IsReal always (all strict) (IsDocument strict) (all_exact strict) whole.init whole.last (any_of whole.last.kind) refl (viable_consumed IsReal always (all strict) (IsDocument strict) (all_exact strict) (whole.init ++ (whole.last ∷ [])) v)

  pub whole_grows : (x : Refusal × List Token) → all strict ts ≡ Err x → CanFollow (all strict) whole.init kinds → Explains text faults.Ended
  whole_grows x e c = (grown_is_viable text whole.init kinds whole.grows c, no_text text ts whole.lexes x e)

  -- the last token is refused, and nothing that it may grow to goes on
  pub whole_refused : (places : List ℕ) (k : Refusal) (t : Token) → Placed text ts places → all strict ts ≡ Err (k, t ∷ []) → (CanFollow (all strict) whole.init kinds → ⊥) → (n : ℕ) → n + length (t ∷ []) ≡ length ts
      → Explains text (placed k (slice_index places n))
  whole_refused places k t stand e none n count = refused_explains text ts places k t [] stand (lexes_real whole.lexes) e (λ front cut v. absurd (none (viable_can_grow text whole.init kinds whole.grows v))) n count

-- what is cut is no token
module _ (text : List ℕ) (ts : List Token) (place : ℕ) (kinds : List Kind) (cut : EndsCut text ts place kinds) where
  pub cut_is_no_text : (d : Document) → IsText d text → ⊥
  cut_is_no_text d (us, l, g) = cut.lexes us l

  pub cut_grows : CanFollow (all strict) ts kinds → Explains text faults.Ended
  cut_grows c = (grown_is_viable text ts kinds cut.grows c, cut_is_no_text)

  pub cut_refused : MayBegin strict ts → (CanFollow (all strict) ts kinds → ⊥) → Explains text (faults.Unexpected place)
  cut_refused may none = (λ v. none (viable_can_grow text ts kinds cut.grows v), record { tokens = ts; rest = cut.rest; at = cut.at; may = may }, λ t there deep. cut.none t there)

  pub read_begins : (d : Document) (rest : List Token) → all strict ts ≡ Ok (d, rest) → MayBegin strict ts
  read_begins d rest e = (d, [], tt, subst (IsDocument strict d) (sym (append-nil ts)) (whole_reads ts d rest e))

  pub stopped_begins : (k : Refusal) → all strict ts ≡ Err (k, []) → MayBegin strict ts
  stopped_begins k e = ended_begins ts k e

-- ---- a text is one document at most

document_is : (d e : Document) → ◌≡◌ {A = Answer Kind Refusal Document} (Ok (d, [])) (Ok (e, [])) → d ≡ e
document_is d e h = ap (λ (q : Document × List Token). q.0) (ok_is {R = Refusal} (d, []) (e, []) h)

pub text_once : (text : List ℕ) (d e : Document) → IsText d text → IsText e text → d ≡ e
text_once text d e (ts, l, g) (us, k, h) = document_is d e (sym (read_whole ts d g) ∙ read_whole ts e (subst (IsDocument strict e) (lexes_once us ts text k l) h))
