-- A text has one fault.
use Rattle.std.proofs.Common.{◌≡◌, ℕ, ◌+◌, ◌<◌, ◌≤◌, List, [], ◌∷◌, ◌++◌, length, Result, Ok, Err, refl, sym, ap, subst, ◌∙◌, arith, append_assoc, length-append, ◌⊎◌, inl, inr}
use Rattle.std.proofs.lemmas.List.{append-nil}
use Rattle.token_read.specs.Exact.{AreReal, Viable}
use Rattle.token_read.proofs.Relax.{Relaxes}
use Rattle.gql_tokens.specs.declared.scanner.Class.{Class}
use Rattle.gql_tokens.specs.Lexical.{Token, MayFollow, IsLexeme, IsIgnored, Leads, here, skip, token, Lexes, IsReal, token_of}
use Rattle.gql_tokens.specs.Lexing.{NoneIgnored, At, TokenAt}
use Rattle.gql_tokens.proofs.Lexemes.{lexeme_once}
use Rattle.gql_tokens.proofs.Leading.{Opened, done, skips, takes, opened, ignored_once, ignored_no_lexeme}
use Rattle.gql_terms.specs.declared.documents.Document.{Document}
use Rattle.gql_terms.specs.declared.faults.GqlFault.{GqlFault}
use Rattle.gql_terms.specs.declared.faults.GqlFault.TheVariants as faults
use Rattle.gql_terms.specs.Grammar.{strict, deeper, IsDocument}
use Rattle.gql_parser.specs.Reading.{all}
use Rattle.gql_parser.specs.Faults.{IsText, IsViable, MayBegin, Before, Explains}
use Rattle.gql_parser.proofs.Explained.{all_exact, whole_reads, read_whole}
use Rattle.gql_parser.proofs.Deeper.{all_further}
use Rattle.gql_syntax.proofs.Judgements.{leads_real}

-- what a document begins with, one begins with that may nest deeper
deeper_document : (ts : List Token) (d : Document) → IsDocument strict d ts → IsDocument (deeper strict) d ts
deeper_document ts d g =
    let f = (all_exact (deeper strict)).sound ts d [] ((all_further strict).reads ts d [] (read_whole ts d g)) in
    subst (IsDocument (deeper strict) d) (sym (f.parts ∙ append-nil f.used)) f.is

pub begins_deeper : (ts : List Token) → MayBegin strict ts → MayBegin (deeper strict) ts
begins_deeper ts (d, w, real, g) = (d, w, real, deeper_document (ts ++ w) d g)

-- a document begins with the front of what it begins with
begins_front : (front : List Token) (t : Token) (more : List Token) → AreReal IsReal more → MayBegin strict (front ++ (t ∷ more)) → MayBegin strict (front ++ (t ∷ []))
begins_front front t more real (d, w, real', g) = (d, more ++ w, both more w real real', subst (IsDocument strict d) (append_assoc front (t ∷ more) w ∙ sym (append_assoc front (t ∷ []) (more ++ w))) g)
  where
    both : (a b : List Token) → AreReal IsReal a → AreReal IsReal b → AreReal IsReal (a ++ b)
    both [] b ra rb = rb
    both (x ∷ a) b ra rb = (ra.0, both a b ra.1 rb)

behind : (a b : List Token) → AreReal IsReal (a ++ b) → AreReal IsReal b
behind [] b r = r
behind (t ∷ a) b r = behind a b r.1

pub token_once : (rest : List ℕ) (t u : Token) → TokenAt rest t → TokenAt rest u → t ≡ u
token_once rest t u (class, a, w, parts, is, follows, same) (class', a', w', parts', is', follows', same') =
    let one = lexeme_once class a w class' a' w' is follows is' follows' (sym parts ∙ parts') in
    same ∙ ap (λ (q : Class). token_of q a) one.0 ∙ ap (token_of class') one.1 ∙ sym same'

-- two places of a text where nothing ignored begins: they are the same, or a token begins at one of them that is
-- among those before the other
pub data Compared (ts us : List Token) (r s : List ℕ) : Type 0 where
  same : ts ≡ us → r ≡ s → Compared ts us r s
  first : (t : Token) (more : List Token) → us ≡ ts ++ (t ∷ more) → TokenAt r t → Compared ts us r s
  second : (t : Token) (more : List Token) → ts ≡ us ++ (t ∷ more) → TokenAt s t → Compared ts us r s

lengthened : (x : Token) (ts us : List Token) (r s : List ℕ) → Compared ts us r s → Compared (x ∷ ts) (x ∷ us) r s
lengthened x ts us r s (same e f) = same (ap (λ (q : List Token). x ∷ q) e) f
lengthened x ts us r s (first t more e there) = first t more (ap (λ (q : List Token). x ∷ q) e) there
lengthened x ts us r s (second t more e there) = second t more (ap (λ (q : List Token). x ∷ q) e) there

compare : {ts : List Token} {text r : List ℕ} → Leads ts text r → (us : List Token) (s : List ℕ) → NoneIgnored r → NoneIgnored s → Leads us text s → Compared ts us r s
compare {r = r} here us s none none' k = go (opened k)
  where
    go : Opened us r s → Compared [] us r s
    go (done e cut) = same (sym e) cut
    go (skips a w cut is l) = absurd (none a w is cut)
    go (takes more class a w e cut is follows l) = first (token_of class a) more e (class, a, w, cut, is, follows, refl)
compare {ts} {r = r} (skip a w is l) us s none none' k = go (opened k) (λ m. compare l us s none none' m)
  where
    go : Opened us (a ++ w) s → (Leads us w s → Compared ts us r s) → Compared ts us r s
    go (done e cut) tail = absurd (none' a w is (sym cut))
    go (skips a' w' cut is' m) tail = tail (subst (λ (q : List ℕ). Leads us q s) (sym (ignored_once a w a' w' is is' cut)) m)
    go (takes more class a' w' e cut is' follows m) tail = absurd (ignored_no_lexeme a w class a' w' is is' cut)
compare {r = r} (token {ts = rest} class a w is follows l) us s none none' k = go (opened k) (λ vs m. compare l vs s none none' m)
  where
    go : Opened us (a ++ w) s → ((vs : List Token) → Leads vs w s → Compared rest vs r s) → Compared (token_of class a ∷ rest) us r s
    go (done e cut) tail =
        subst (λ (q : List Token). Compared (token_of class a ∷ rest) q r s) (sym e) (second (token_of class a) rest refl (class, a, w, sym cut, is, follows, refl))
    go (skips a' w' cut is' m) tail = absurd (ignored_no_lexeme a' w' class a w is' is (sym cut))
    go (takes more class' a' w' e cut is' follows' m) tail =
        let one = lexeme_once class a w class' a' w' is follows is' follows' cut in
        let t : token_of class' a' ≡ token_of class a = sym (ap (λ (q : Class). token_of q a) one.0 ∙ ap (token_of class') one.1) in
        subst (λ (q : List Token). Compared (token_of class a ∷ rest) q r s) (sym (e ∙ ap (λ (q : Token). q ∷ more) t))
        (lengthened (token_of class a) rest more r s (tail more (subst (λ (q : List ℕ). Leads more q s) (sym one.2) m)))

module _ (text : List ℕ) where
  pub compared : (p q : ℕ) (b : Before text p) (c : Before text q) → Compared b.tokens c.tokens b.rest c.rest
  compared p q b c = compare b.at.leads c.tokens c.rest b.at.begins c.at.begins c.at.leads

  place_once : (p q : ℕ) (b : Before text p) (c : Before text q) → b.rest ≡ c.rest → p ≡ q
  place_once p q b c e = omega (arith, b.at.place_is, c.at.place_is, ap length e)

  -- what a document begins with goes on with the token at an earlier place
  goes_on : (q : ℕ) (ts : List Token) (c : Before text q) (t : Token) (more : List Token) → c.tokens ≡ ts ++ (t ∷ more) → MayBegin strict (ts ++ (t ∷ []))
  goes_on q ts c t more e =
      let real : AreReal IsReal (ts ++ (t ∷ more)) = subst (AreReal IsReal) e (leads_real c.at.leads) in
      begins_front ts t more (behind ts (t ∷ more) real).1 (subst (MayBegin strict) e c.may)

  -- no token at the place goes on
  abbrev Stopped : (p : ℕ) → Before text p → Type 0
  Stopped p b = (t : Token) → TokenAt b.rest t → MayBegin strict (b.tokens ++ (t ∷ [])) → ⊥

  pub stopped_once : (p q : ℕ) (b : Before text p) (c : Before text q) → Stopped p b → Stopped q c → Compared b.tokens c.tokens b.rest c.rest → (b.tokens ≡ c.tokens) × (b.rest ≡ c.rest)
  stopped_once p q b c stop stop' (same e f) = (e, f)
  stopped_once p q b c stop stop' (first t more e there) = absurd (stop t there (goes_on q b.tokens c t more e))
  stopped_once p q b c stop stop' (second t more e there) = absurd (stop' t there (goes_on p c.tokens b t more e))

  unexpected_stops : (p : ℕ) (b : Before text p) → ((t : Token) → TokenAt b.rest t → MayBegin (deeper strict) (b.tokens ++ (t ∷ [])) → ⊥) → Stopped p b
  unexpected_stops p b none = λ t there may. none t there (begins_deeper (b.tokens ++ (t ∷ [])) may)

  deep_stops : (p : ℕ) (b : Before text p) (t : Token) → TokenAt b.rest t → (MayBegin strict (b.tokens ++ (t ∷ [])) → ⊥) → Stopped p b
  deep_stops p b t there none = λ u other may. none (subst (λ (x : Token). MayBegin strict (b.tokens ++ (x ∷ []))) (token_once b.rest u t other there) may)

  both_never : (p q : ℕ) (b : Before text p) (c : Before text q) → ((t : Token) → TokenAt b.rest t → MayBegin (deeper strict) (b.tokens ++ (t ∷ [])) → ⊥)
      → (t : Token) → TokenAt c.rest t → (MayBegin strict (c.tokens ++ (t ∷ [])) → ⊥) → MayBegin (deeper strict) (c.tokens ++ (t ∷ [])) → ⊥
  both_never p q b c none t there stop may =
      let o = stopped_once p q b c (unexpected_stops p b none) (deep_stops q c t there stop) (compared p q b c) in
      none t (subst (λ (x : List ℕ). TokenAt x t) (sym o.1) there) (subst (λ (x : List Token). MayBegin (deeper strict) (x ++ (t ∷ []))) (sym o.0) may)

  pub fault_once : (f g : GqlFault) → (f ≡ faults.Memory → ⊥) → (g ≡ faults.Memory → ⊥) → Explains text f → Explains text g → f ≡ g
  fault_once faults.Memory g m n x y = absurd (m refl)
  fault_once faults.Ended faults.Memory m n x y = absurd (n refl)
  fault_once faults.Ended faults.Ended m n x y = refl
  fault_once faults.Ended (faults.Unexpected q) m n x y = absurd (y.0 x.0)
  fault_once faults.Ended (faults.Deep q) m n x y = absurd (y.0 x.0)
  fault_once (faults.Unexpected p) faults.Memory m n x y = absurd (n refl)
  fault_once (faults.Unexpected p) faults.Ended m n x y = absurd (x.0 y.0)
  fault_once (faults.Unexpected p) (faults.Unexpected q) m n x y =
      ap faults.Unexpected (place_once p q x.1 y.1 (stopped_once p q x.1 y.1 (unexpected_stops p x.1 x.2) (unexpected_stops q y.1 y.2) (compared p q x.1 y.1)).1)
  fault_once (faults.Unexpected p) (faults.Deep q) m n x y = absurd (both_never p q x.1 y.1 x.2 y.2 y.3 y.4 y.5)
  fault_once (faults.Deep p) faults.Memory m n x y = absurd (n refl)
  fault_once (faults.Deep p) faults.Ended m n x y = absurd (x.0 y.0)
  fault_once (faults.Deep p) (faults.Unexpected q) m n x y = absurd (both_never q p y.1 x.1 y.2 x.2 x.3 x.4 x.5)
  fault_once (faults.Deep p) (faults.Deep q) m n x y =
      ap faults.Deep (place_once p q x.1 y.1 (stopped_once p q x.1 y.1 (deep_stops p x.1 x.2 x.3 x.4) (deep_stops q y.1 y.2 y.3 y.4) (compared p q x.1 y.1)).1)
