-- A text has one schema or one fault.
use Rattle.std.proofs.Common.{◌≡◌, ℕ, List, [], ◌∷◌, ◌++◌, map, length, Option, Some, None, Ok, refl, sym, ap, subst, ◌∙◌, arith, append_assoc, inl, inr}
use Rattle.std.proofs.lemmas.List.{append-nil, map-append}
use Rattle.token_read.specs.Lexeme.{Lexeme}
use Rattle.token_read.specs.Parse.{Answer}
use Rattle.token_read.specs.Exact.{AreReal}
use Rattle.token_read.proofs.Exact.{ok_is, both_real}
use Rattle.gql_tokens.specs.declared.scanner.Class.{Class}
use Rattle.gql_tokens.specs.Lexical.{Token, Leads, here, skip, token, IsReal, token_of}
use Rattle.gql_tokens.specs.Lexing.{NoneIgnored, TokenAt}
use Rattle.gql_tokens.proofs.Lexemes.{lexeme_once}
use Rattle.gql_tokens.proofs.Leading.{Opened, done, skips, takes, opened, ignored_once, ignored_no_lexeme, lexes_once}
use Rattle.gql_types.specs.declared.definition.TypeDef.{TypeDef}
use Rattle.gql_schema.specs.declared.fault.SdlFault.{SdlFault}
use Rattle.gql_schema.specs.declared.fault.SdlFault.TheVariants as fault
use Rattle.gql_schema.specs.declared.terms.Part.{Part}
use Rattle.gql_schema.specs.declared.words.Mark.{Mark}
use Rattle.gql_schema.specs.Words.{marked, IsMarked}
use Rattle.gql_schema.specs.Grammar.{IsSchema}
use Rattle.gql_schema.specs.Rules.{Name, first_twice, first_unknown, schema_of}
use Rattle.gql_schema.specs.Faults.{IsText, IsViable, MayBegin, Before, IsMisplaced}
use Rattle.gql_schema.specs.Schemas.{IsSchemaText, Explains}
use Rattle.gql_terms.specs.declared.faults.Refusal.{Refusal}
use Rattle.gql_schema.proofs.Over.{are_marked}
use Rattle.gql_schema.proofs.Explained.{read_whole}

leads_real : {ts : List Token} {x y : List ℕ} → Leads ts x y → AreReal IsReal ts
leads_real here = tt
leads_real (skip a w is l) = leads_real l
leads_real (token class a w is follows l) = ((class, a, is, refl), leads_real l)

behind : (a b : List Token) → AreReal IsReal (a ++ b) → AreReal IsReal b
behind [] b r = r
behind (t ∷ a) b r = behind a b r.1

-- a schema begins with the front of what it begins with
begins_front : (front : List Token) (t : Token) (more : List Token) → AreReal IsReal more → MayBegin (front ++ (t ∷ more)) → MayBegin (front ++ (t ∷ []))
begins_front front t more real (ps, w, real', g) = (ps, map marked more ++ w, both_real IsMarked (map marked more) w (are_marked more real) real', subst (IsSchema ps) regrouped g)
  where
    regrouped : map marked (front ++ (t ∷ more)) ++ w ≡ map marked (front ++ (t ∷ [])) ++ (map marked more ++ w)
    regrouped = ap (λ (q : List (Lexeme Mark)). q ++ w) (ap (map marked) (sym (append_assoc front (t ∷ []) more)) ∙ map-append marked (front ++ (t ∷ [])) more) ∙ append_assoc (map marked (front ++ (t ∷ []))) (map marked more) w

-- two places of a text where nothing ignored begins: they are the same, or a token begins at one of them that is
-- among those before the other
pub data Compared (ts us : List Token) (r s : List ℕ) : Type 0 where
  same : ts ≡ us → r ≡ s → Compared ts us r s
  first : (t : Token) (more : List Token) → us ≡ ts ++ (t ∷ more) → TokenAt r t → Compared ts us r s
  second : (t : Token) (more : List Token) → ts ≡ us ++ (t ∷ more) → TokenAt s t → Compared ts us r s

lengthened : (x : Token) (ts us : List Token) (r s : List ℕ) → Compared ts us r s → Compared (x ∷ ts) (x ∷ us) r s
lengthened x ts us r s (same e f) = same (ap (λ (q : List Token). x ∷ q) e) f
lengthened x ts us r s (first t more e there) = first t more (ap (λ (q : List Token). x ∷ q) e) there
lengthened x ts us r s (second t more e there) = second t more (ap (λ (q : List Token). x ∷ q) e) there

compare : {ts : List Token} {text r : List ℕ} → Leads ts text r → (us : List Token) (s : List ℕ) → NoneIgnored r → NoneIgnored s → Leads us text s → Compared ts us r s
compare {r = r} here us s none none' k = go (opened k)
  where
    go : Opened us r s → Compared [] us r s
    go (done e cut) = same (sym e) cut
    go (skips a w cut is l) = absurd (none a w is cut)
    go (takes more class a w e cut is follows l) = first (token_of class a) more e (class, a, w, cut, is, follows, refl)
compare {ts} {r = r} (skip a w is l) us s none none' k = go (opened k) (λ m. compare l us s none none' m)
  where
    go : Opened us (a ++ w) s → (Leads us w s → Compared ts us r s) → Compared ts us r s
    go (done e cut) tail = absurd (none' a w is (sym cut))
    go (skips a' w' cut is' m) tail = tail (subst (λ (q : List ℕ). Leads us q s) (sym (ignored_once a w a' w' is is' cut)) m)
    go (takes more class a' w' e cut is' follows m) tail = absurd (ignored_no_lexeme a w class a' w' is is' cut)
compare {r = r} (token {ts = rest} class a w is follows l) us s none none' k = go (opened k) (λ vs m. compare l vs s none none' m)
  where
    go : Opened us (a ++ w) s → ((vs : List Token) → Leads vs w s → Compared rest vs r s) → Compared (token_of class a ∷ rest) us r s
    go (done e cut) tail =
        subst (λ (q : List Token). Compared (token_of class a ∷ rest) q r s) (sym e) (second (token_of class a) rest refl (class, a, w, sym cut, is, follows, refl))
    go (skips a' w' cut is' m) tail = absurd (ignored_no_lexeme a' w' class a w is' is (sym cut))
    go (takes more class' a' w' e cut is' follows' m) tail =
        let one = lexeme_once class a w class' a' w' is follows is' follows' cut in
        let t : token_of class' a' ≡ token_of class a = sym (ap (λ (q : Class). token_of q a) one.0 ∙ ap (token_of class') one.1) in
        subst (λ (q : List Token). Compared (token_of class a ∷ rest) q r s) (sym (e ∙ ap (λ (q : Token). q ∷ more) t))
        (lengthened (token_of class a) rest more r s (tail more (subst (λ (q : List ℕ). Leads more q s) (sym one.2) m)))

-- ---- a text is one list of definitions at most

part_is : (ps qs : List Part) → ◌≡◌ {A = Answer Mark Refusal (List Part)} (Ok (ps, [])) (Ok (qs, [])) → ps ≡ qs
part_is ps qs h = ap (λ (q : List Part × List (Lexeme Mark)). q.0) (ok_is {R = Refusal} (ps, []) (qs, []) h)

pub parts_once : (text : List ℕ) (ps qs : List Part) → IsText ps text → IsText qs text → ps ≡ qs
parts_once text ps qs (ms, (ts, l, e), g) (ns, (us, k, f), h) =
    let same : ns ≡ ms = f ∙ ap (map marked) (lexes_once us ts text k l) ∙ sym e in
    part_is ps qs (sym (read_whole ms ps g) ∙ read_whole ms qs (subst (IsSchema qs) same h))

text_viable : (text : List ℕ) (ps : List Part) → IsText ps text → IsViable text
text_viable text ps g = ([], ps, subst (IsText ps) (sym (append-nil text)) g)

-- ---- a text has one place at most

module _ (text : List ℕ) where
  compared : (p q : ℕ) (b : Before text p) (c : Before text q) → Compared b.tokens c.tokens b.rest c.rest
  compared p q b c = compare b.at.leads c.tokens c.rest b.at.begins c.at.begins c.at.leads

  -- what a schema begins with goes on with the token at an earlier place
  goes_on : (q : ℕ) (ts : List Token) (c : Before text q) (t : Token) (more : List Token) → c.tokens ≡ ts ++ (t ∷ more) → MayBegin (ts ++ (t ∷ []))
  goes_on q ts c t more e =
      let real : AreReal IsReal (ts ++ (t ∷ more)) = subst (AreReal IsReal) e (leads_real c.at.leads) in
      begins_front ts t more (behind ts (t ∷ more) real).1 (subst MayBegin e c.may)

  stopped_once : (p q : ℕ) (b : Before text p) (c : Before text q) → ((t : Token) → TokenAt b.rest t → MayBegin (b.tokens ++ (t ∷ [])) → ⊥) → ((t : Token) → TokenAt c.rest t → MayBegin (c.tokens ++ (t ∷ [])) → ⊥)
      → Compared b.tokens c.tokens b.rest c.rest → p ≡ q
  stopped_once p q b c stop stop' (same e f) = omega (arith, b.at.place_is, c.at.place_is, ap length f)
  stopped_once p q b c stop stop' (first t more e there) = absurd (stop t there (goes_on q b.tokens c t more e))
  stopped_once p q b c stop stop' (second t more e there) = absurd (stop' t there (goes_on p c.tokens b t more e))

  misplaced_once : (p q : ℕ) → IsMisplaced text p → IsMisplaced text q → p ≡ q
  misplaced_once p q (inl x) (inl y) = x.1 ∙ sym y.1
  misplaced_once p q (inl x) (inr y) = absurd (y.0 x.0.0)
  misplaced_once p q (inr x) (inl y) = absurd (x.0 y.0.0)
  misplaced_once p q (inr x) (inr y) = stopped_once p q x.1 y.1 x.2 y.2 (compared p q x.1 y.1)

  -- what is a schema by its grammar has no fault of syntax
  no_syntax : (p : ℕ) (ps : List Part) → IsMisplaced text p → IsText ps text → ⊥
  no_syntax p ps (inl x) g = x.0.1 ps g
  no_syntax p ps (inr x) g = x.0 (text_viable text ps g)

  some_is : (a b : Name) → ◌≡◌ {A = Option Name} (Some a) (Some b) → a ≡ b
  some_is a b e = cc

  none_some : (a : Name) → ◌≡◌ {A = Option Name} None (Some a) → ⊥
  none_some a e = cc

  pub fault_once : (f g : SdlFault) → (f ≡ fault.Memory → ⊥) → (g ≡ fault.Memory → ⊥) → Explains text f → Explains text g → f ≡ g
  fault_once fault.Memory g m n x y = absurd (m refl)
  fault_once (fault.Syntax p) fault.Memory m n x y = absurd (n refl)
  fault_once (fault.Syntax p) (fault.Syntax q) m n x y = ap fault.Syntax (misplaced_once p q x y)
  fault_once (fault.Syntax p) (fault.Twice b) m n x y = absurd (no_syntax p y.0 x y.1)
  fault_once (fault.Syntax p) (fault.UnknownType b) m n x y = absurd (no_syntax p y.0 x y.1)
  fault_once (fault.Twice a) fault.Memory m n x y = absurd (n refl)
  fault_once (fault.Twice a) (fault.Syntax q) m n x y = absurd (no_syntax q x.0 y x.1)
  fault_once (fault.Twice a) (fault.Twice b) m n x y = ap fault.Twice (some_is a b (sym x.2 ∙ ap first_twice (parts_once text x.0 y.0 x.1 y.1) ∙ y.2))
  fault_once (fault.Twice a) (fault.UnknownType b) m n x y = absurd (none_some a (sym y.2 ∙ ap first_twice (parts_once text y.0 x.0 y.1 x.1) ∙ x.2))
  fault_once (fault.UnknownType a) fault.Memory m n x y = absurd (n refl)
  fault_once (fault.UnknownType a) (fault.Syntax q) m n x y = absurd (no_syntax q x.0 y x.1)
  fault_once (fault.UnknownType a) (fault.Twice b) m n x y = absurd (none_some b (sym x.2 ∙ ap first_twice (parts_once text x.0 y.0 x.1 y.1) ∙ y.2))
  fault_once (fault.UnknownType a) (fault.UnknownType b) m n x y = ap fault.UnknownType (some_is a b (sym x.3 ∙ ap first_unknown (parts_once text x.0 y.0 x.1 y.1) ∙ y.3))

  pub schema_once : (s t : List TypeDef) → IsSchemaText s text → IsSchemaText t text → s ≡ t
  schema_once s t x y = x.4 ∙ ap schema_of (parts_once text x.0 y.0 x.1 y.1) ∙ sym y.4

  pub schema_no_fault : (s : List TypeDef) (f : SdlFault) → (f ≡ fault.Memory → ⊥) → IsSchemaText s text → Explains text f → ⊥
  schema_no_fault s fault.Memory m x y = m refl
  schema_no_fault s (fault.Syntax p) m x y = no_syntax p x.0 y x.1
  schema_no_fault s (fault.Twice b) m x y = none_some b (sym x.2 ∙ ap first_twice (parts_once text x.0 y.0 x.1 y.1) ∙ y.2)
  schema_no_fault s (fault.UnknownType b) m x y = none_some b (sym x.3 ∙ ap first_unknown (parts_once text x.0 y.0 x.1 y.1) ∙ y.3)
