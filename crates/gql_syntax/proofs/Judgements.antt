-- The answer from the tokens of a text, by how the text ends.
use Rattle.std.proofs.Common.{◌≡◌, ℕ, zero, suc, ◌+◌, ◌-◌, ◌<◌, ◌≤◌, List, [], ◌∷◌, ◌++◌, length, Result, Ok, Err, refl, sym, ap, subst, ◌∙◌, arith, append_assoc, length-append}
use Rattle.std.specs.Prelude.{slice_index, IfErr}
use Rattle.std.proofs.lemmas.List.{append-nil}
use Rattle.token_read.specs.Exact.{AreReal}
use Rattle.token_read.specs.Texts.{Settled}
use Rattle.token_read.proofs.Exact.{err}
use Rattle.gql_tokens.specs.declared.kinds.Kind.{Kind}
use Rattle.gql_tokens.specs.Lexical.{Token, Leads, here, skip, token, Lexes, IsReal}
use Rattle.gql_tokens.specs.Lexing.{Placed, EndsWhole, EndsCut}
use Rattle.gql_tokens.proofs.Leading.{lexes_real}
use Rattle.gql_terms.specs.declared.documents.Document.{Document}
use Rattle.gql_terms.specs.declared.faults.Refusal.{Refusal}
use Rattle.gql_terms.specs.declared.faults.GqlFault.{GqlFault}
use Rattle.gql_terms.specs.declared.faults.GqlFault.TheVariants as faults
use Rattle.gql_terms.specs.Grammar.{strict}
use Rattle.gql_parser.specs.Reading.{all}
use Rattle.gql_parser.specs.Faults.{IsText, IsViable, MayBegin, Explains, placed}
use Rattle.gql_parser.specs.Judging.{RefusedLast, Judged}
use Rattle.gql_parser.proofs.Explained.{all_exact, text_is, settled_ended, settled_refused, refused_before, whole_ended, read_begins, stopped_begins}
use Rattle.gql_syntax.specs.Readings.{IsWhole, IsCut, HasFault}

-- what is left is a part of the tokens
pub left_within : (ts : List Token) (k : Refusal) (rest : List Token) → all strict ts ≡ Err (k, rest) → length rest ≤ length ts
left_within ts k rest e =
    let f = (all_exact strict).stops ts k rest e in
    omega (arith, ap length f.parts, length-append f.front rest)

none_left : (rest : List Token) → length rest ≡ 0 → rest ≡ []
none_left [] e = refl
none_left (t ∷ rest) e = absurd (omega arith)

pub leads_real : {ts : List Token} {x y : List ℕ} → Leads ts x y → AreReal IsReal ts
leads_real here = tt
leads_real (skip a w is l) = leads_real l
leads_real (token class a w is follows l) = ((class, a, is, refl), leads_real l)

-- ---- a text that ends between tokens

module _ (text : List ℕ) (ts : List Token) (places : List ℕ) (lexes : Lexes ts text) (settled : Settled IsReal Lexes text ts) where
  pub ended_between : (k : Refusal) (rest : List Token) → all strict ts ≡ Err (k, rest) → length rest ≡ 0 → Explains text faults.Ended
  ended_between k rest e none = settled_ended text ts lexes settled k (subst (λ (q : List Token). all strict ts ≡ Err (k, q)) (none_left rest none) e)

  pub refused_between : (k : Refusal) (rest : List Token) (left : ℕ) → all strict ts ≡ Err (k, rest) → Placed text ts places → left ≡ length rest → (left ≡ 0 → ⊥) → Explains text (placed k (slice_index places (length ts - left)))
  refused_between k [] left e stand size some = absurd (some size)
  refused_between k (t ∷ rest) left e stand size some =
      let within = left_within ts k (t ∷ rest) e in
      settled_refused text ts lexes settled places k t rest stand e (length ts - left) (omega (arith, size, within))

-- ---- a text whose last token may grow

module _ (text : List ℕ) (ts : List Token) (places : List ℕ) (kinds : List Kind) (w : IsWhole text ts places kinds) where
  pub whole_is : (d : Document) (rest : List Token) → all strict ts ≡ Ok (d, rest) → IsText d text
  whole_is d rest e = text_is text ts w.ends.lexes d rest e

  pub ended_after : (k : Refusal) (rest : List Token) → all strict ts ≡ Err (k, rest) → length rest ≡ 0 → Explains text faults.Ended
  ended_after k rest e none = whole_ended text ts kinds w.ends k (subst (λ (q : List Token). all strict ts ≡ Err (k, q)) (none_left rest none) e)

  -- what stands before the last
  before_last : (front rest init : List Token) (t last : Token) → front ++ (t ∷ rest) ≡ init ++ (last ∷ []) → 0 < length rest → (r : List Token) × (rest ≡ r ++ (last ∷ []))
  before_last [] rest [] t last e some = absurd (omega (arith, ap length e))
  before_last [] rest (x ∷ init) t last e some = (init, tails t x rest (init ++ (last ∷ [])) e)
    where
      tails : (x y : Token) (p q : List Token) → x ∷ p ≡ y ∷ q → p ≡ q
      tails x y p q e = cc
  before_last (y ∷ front) rest [] t last e some = absurd (omega (arith, ap length e, length-append front (t ∷ rest)))
  before_last (y ∷ front) rest (x ∷ init) t last e some = before_last front rest init t last (tails y x (front ++ (t ∷ rest)) (init ++ (last ∷ [])) e) some
    where
      tails : (x y : Token) (p q : List Token) → x ∷ p ≡ y ∷ q → p ≡ q
      tails x y p q e = cc

  pub refused_earlier : (k : Refusal) (rest : List Token) (left : ℕ) → all strict ts ≡ Err (k, rest) → left ≡ length rest → 1 < left → Explains text (placed k (slice_index places (length ts - left)))
  refused_earlier k [] left e size more = absurd (omega (arith, size))
  refused_earlier k (t ∷ rest) left e size more =
      let f = (all_exact strict).stops ts k (t ∷ rest) e in
      let some : 0 < length rest = omega (arith, size) in
      let r = before_last f.front rest w.ends.init t w.ends.last (sym f.parts ∙ w.ends.parts) some in
      let within = left_within ts k (t ∷ rest) e in
      let count : (length ts - left) + length (t ∷ (r.0 ++ (w.ends.last ∷ []))) ≡ length ts = omega (arith, size, within, ap length r.1) in
      refused_before text w.ends.init kinds w.ends.grows ts (w.ends.last ∷ []) places k t r.0 w.ends.parts w.placed (lexes_real w.ends.lexes)
      (e ∙ ap (λ (q : List Token). err {A = Document} (k, t ∷ q)) r.1) (length ts - left) count

  pub refused_last : (k : Refusal) (rest : List Token) (left : ℕ) → all strict ts ≡ Err (k, rest) → left ≡ length rest → (left ≡ 0 → ⊥) → left ≤ 1 → RefusedLast text ts (slice_index places (length ts - left)) k
  refused_last k [] left e size some one = absurd (some size)
  refused_last k (t ∷ (u ∷ rest)) left e size some one = absurd (omega (arith, size))
  refused_last k (t ∷ []) left e size some one =
      let within = left_within ts k (t ∷ []) e in
      record { places = places; token = t; index = length ts - left; stand = w.placed; count = omega (arith, size, within); place_is = refl; refused = e }

-- ---- a text that ends within something

module _ (text : List ℕ) (ts : List Token) (places : List ℕ) (kinds : List Kind) (c : IsCut text ts places kinds) where
  pub refused_within : (k : Refusal) (rest : List Token) (left : ℕ) → all strict ts ≡ Err (k, rest) → left ≡ length rest → 0 < left → Explains text (placed k (slice_index places (length ts - left)))
  refused_within k [] left e size some = absurd (omega (arith, size))
  refused_within k (t ∷ rest) left e size some =
      let within = left_within ts k (t ∷ rest) e in
      let count : (length ts - left) + length (t ∷ (rest ++ [])) ≡ length ts = omega (arith, size, within, length-append rest []) in
      refused_before text ts kinds c.ends.grows ts [] places k t rest (sym (append-nil ts)) c.placed (leads_real c.ends.at.leads)
      (e ∙ ap (λ (q : List Token). err {A = Document} (k, t ∷ q)) (sym (append-nil rest))) (length ts - left) count

  pub cut_where : (left : ℕ) → left ≤ 0 → EndsCut text ts (slice_index places (length ts - left)) kinds
  cut_where left none = let same : length ts ≡ length ts - left = omega arith in subst (λ (q : ℕ). EndsCut text ts (slice_index places q) kinds) same c.ends

  pub begins_read : (d : Document) (rest : List Token) → all strict ts ≡ Ok (d, rest) → MayBegin strict ts
  begins_read d rest e = read_begins text ts (slice_index places (length ts)) kinds c.ends d rest e

  pub begins_stopped : (k : Refusal) (rest : List Token) (left : ℕ) → all strict ts ≡ Err (k, rest) → left ≡ length rest → left ≤ 0 → MayBegin strict ts
  begins_stopped k rest left e size none =
      stopped_begins text ts (slice_index places (length ts)) kinds c.ends k (subst (λ (q : List Token). all strict ts ≡ Err (k, q)) (none_left rest (omega (arith, size))) e)

-- ---- what has a fault is no document

viable : (text : List ℕ) (d : Document) → IsText d text → IsViable text
viable text d (ts, lexes, g) = ([], d, (ts, subst (Lexes ts) (sym (append-nil text)) lexes, g))

pub fault_refuses : (text : List ℕ) (fault : GqlFault) → Explains text fault → HasFault text fault
fault_refuses text faults.Memory h = tt
fault_refuses text faults.Ended h = h.1
fault_refuses text (faults.Unexpected place) h = λ d is. h.0 (viable text d is)
fault_refuses text (faults.Deep place) h = λ d is. h.0 (viable text d is)

-- ---- the answer, clause by clause

pub judged_refuses : (text : List ℕ) (r : Result Document GqlFault) → Judged text r → IfErr r (λ fault. HasFault text fault)
judged_refuses text (Ok d) h = tt
judged_refuses text (Err fault) h = fault_refuses text fault h

pub judged_fault : (text : List ℕ) (r : Result Document GqlFault) → Judged text r → IfErr r (λ fault. Explains text fault)
judged_fault text (Ok d) h = tt
judged_fault text (Err fault) h = h
