-- What is read is the directives of a text in the grammar.
use Rattle.std.proofs.Common.{◌≡◌, ℕ, ◌+◌, zero, suc, Bool, true, false, not, ◌&&◌, ◌==◌, if◌then◌else◌, List, [], ◌∷◌, ◌++◌, length, take, drop, Option, None, Some, refl, sym, ap, subst, ◌∙◌, true≢false, arith, append_assoc, option_and_then}
use Rattle.std.specs.Option.{option_map}
use Rattle.std.proofs.Math.Seq.{take-append_seam, drop-append-add}
use Rattle.std.proofs.lemmas.Bool.{eqb-true}
use Rattle.std.proofs.lemmas.Option.{same_Some}
use Rattle.std.proofs.lemmas.List.{append-nil, take-append-drop}
use Rattle.cache_control.specs.Octets.{is_blank, is_token_byte, is_quotable, after_blanks}
use Rattle.cache_control.specs.Grammar.{Directive, AreBlanks, IsToken, IsQuotedText, IsArgument, IsDirective, IsElement, IsDirectives}
use Rattle.cache_control.specs.Grammar.IsQuotedText.{nothing, byte, pair}
use Rattle.cache_control.specs.Grammar.IsArgument.{token, quoted}
use Rattle.cache_control.specs.Grammar.IsDirective.{bare, valued}
use Rattle.cache_control.specs.Grammar.IsElement.{empty, one}
use Rattle.cache_control.specs.Grammar.IsDirectives.{last, more}
use Rattle.cache_control.specs.Reading.{token_len, quoted_len, take_token, take_argument, Taken, Element, named, read_element, followed, read}
use Rattle.cache_control.proofs.Spans.{span, passes, empty_front}

-- what is found in an optional value
Found : {A B : Type 0} (f : A → B) (o : Option A) (y : B) → option_map f o ≡ Some y → (x : A) × (o ≡ Some x) × (f x ≡ y)
Found f None y e = absurd (cc)
Found f (Some x) y e = (x, refl, same_Some (f x) y e)

Chained : {A B : Type 0} (f : A → Option B) (o : Option A) (y : B) → option_and_then f o ≡ Some y → (x : A) × (o ≡ Some x) × (f x ≡ Some y)
Chained f None y e = absurd (cc)
Chained f (Some x) y e = (x, refl, e)

-- quoted text, or what is left of it after a backslash
abbrev Continues : Bool → List ℕ → Type 0
Continues false text = IsQuotedText text
Continues true [] = ⊥
Continues true (b ∷ text) = (is_quotable b ≡ true) × IsQuotedText text

-- quoted text before its closing quote, and what follows that
record Quoted (escaped : Bool) (text : List ℕ) (n : ℕ) : Type 0 where
  value : List ℕ
  rest : List ℕ
  continues : Continues escaped value
  counted : n ≡ length value
  split : text ≡ value ++ 34 ∷ rest

continues-cons : (escaped : Bool) (b : ℕ) (value : List ℕ) → (not escaped && b == 34) ≡ false → is_quotable b ≡ true → Continues (not escaped && b == 92) value → Continues escaped (b ∷ value)
continues-cons true b value open_still ok h = (ok, h)
continues-cons false b value open_still ok h = by (b == 92) refl h
  where
    by : (t : Bool) → (b == 92) ≡ t → Continues t value → IsQuotedText (b ∷ value)
    by false e h = byte b value (ap (λ t. (t && not (b == 34)) && not (b == 92)) ok ∙ ap (λ t. not t && not (b == 92)) open_still ∙ ap not e) h
    by true e h = subst (λ x. IsQuotedText (x ∷ value)) (sym (eqb-true b 92 e)) (escape value h)
      where
        escape : (value : List ℕ) → Continues true value → IsQuotedText (92 ∷ value)
        escape [] h = absurd h
        escape (b ∷ value) h = pair b value h.0 h.1

quoted_sound : (escaped : Bool) (text : List ℕ) (n : ℕ) → quoted_len escaped text ≡ Some n → Quoted escaped text n
quoted_sound escaped [] n e = absurd (cc)
quoted_sound escaped (b ∷ text) n e = by (not escaped && b == 34) refl e (λ m em. quoted_sound (not escaped && b == 92) text m em)
  where
    closing : (escaped : Bool) → (not escaped && b == 34) ≡ true → (escaped ≡ false) × (b ≡ 34)
    closing true h = absurd (true≢false (sym h))
    closing false h = (refl, eqb-true b 34 h)

    opened : (t : Bool) → is_quotable b ≡ t → (not escaped && b == 34) ≡ false → (if t then option_map (λ n. 1 + n) (quoted_len (not escaped && b == 92) text) else None) ≡ Some n → ((m : ℕ) → quoted_len (not escaped && b == 92) text ≡ Some m → Quoted (not escaped && b == 92) text m) → Quoted escaped (b ∷ text) n
    opened false ok h e later = absurd (cc)
    opened true ok h e later =
        let f : (m : ℕ) × (quoted_len (not escaped && b == 92) text ≡ Some m) × (1 + m ≡ n) = Found (λ n. 1 + n) (quoted_len (not escaped && b == 92) text) n e in
        let q : Quoted (not escaped && b == 92) text f.0 = later f.0 f.1 in
        let one_more : 1 + length q.value ≡ suc (length q.value) = omega arith in
        record { value = b ∷ q.value; rest = q.rest; continues = continues-cons escaped b q.value h ok q.continues; counted = sym f.2 ∙ ap (λ m. 1 + m) q.counted ∙ one_more; split = ap (λ l. b ∷ l) q.split }

    by : (t : Bool) → (not escaped && b == 34) ≡ t → (if t then Some 0 else if is_quotable b then option_map (λ n. 1 + n) (quoted_len (not escaped && b == 92) text) else None) ≡ Some n → ((m : ℕ) → quoted_len (not escaped && b == 92) text ≡ Some m → Quoted (not escaped && b == 92) text m) → Quoted escaped (b ∷ text) n
    by true h e later = record { value = []; rest = text; continues = subst (λ t. Continues t []) (sym (closing escaped h).0) nothing; counted = sym (same_Some 0 n e); split = ap (λ x. x ∷ text) (closing escaped h).1 }
    by false h e later = opened (is_quotable b) refl h e later

-- a front of some bytes that pass is a token
token_of : (text : List ℕ) → (token_len text == 0) ≡ false → IsToken (take (token_len text) text)
token_of text h = record { some = λ nil. true≢false (sym (ap (λ n. n == 0) (empty_front is_token_byte text nil)) ∙ h); bytes = passes is_token_byte text }

-- the text of an argument, with what follows it
record ArgumentPart (text : List ℕ) (taken : Taken) : Type 0 where
  part : List ℕ
  argument : IsArgument part taken.value
  split : text ≡ part ++ taken.rest

token_found : (text : List ℕ) (taken : Taken) → take_token text ≡ Some taken → ArgumentPart text taken
token_found text taken e = by (token_len text == 0) refl e
  where
    by : (t : Bool) → (token_len text == 0) ≡ t → (if t then None else Some (record { value = take (token_len text) text; rest = drop (token_len text) text })) ≡ Some taken → ArgumentPart text taken
    by true h e = absurd (cc)
    by false h e = subst (ArgumentPart text) (same_Some (record { value = take (token_len text) text; rest = drop (token_len text) text }) taken e) (record { part = take (token_len text) text; argument = token (take (token_len text) text) (token_of text h); split = sym (take-append-drop (token_len text) text) })

argument_found : (text : List ℕ) (taken : Taken) → take_argument text ≡ Some taken → ArgumentPart text taken
argument_found [] taken e = absurd (cc)
argument_found (b ∷ text) taken e = by (b == 34) refl e
  where
    by : (t : Bool) → (b == 34) ≡ t → (if t then option_map (λ n. record { value = take n text; rest = drop (n + 1) text }) (quoted_len false text) else take_token (b ∷ text)) ≡ Some taken → ArgumentPart (b ∷ text) taken
    by false h e = token_found (b ∷ text) taken e
    by true h e =
        let make : ℕ → Taken = λ n. record { value = take n text; rest = drop (n + 1) text } in
        let f : (n : ℕ) × (quoted_len false text ≡ Some n) × (make n ≡ taken) = Found make (quoted_len false text) taken e in
        let q : Quoted false text f.0 = quoted_sound false text f.0 f.1 in
        let value : take f.0 text ≡ q.value = (λ i. take (q.counted i) (q.split i)) ∙ take-append_seam q.value (34 ∷ q.rest) in
        let rest : drop (f.0 + 1) text ≡ q.rest = (λ i. drop (q.counted i + 1) (q.split i)) ∙ drop-append-add q.value (34 ∷ q.rest) 1 in
        let made : make f.0 ≡ record { value = q.value; rest = q.rest } = λ i. record { value = value i; rest = rest i } in
        let first : b ≡ 34 = eqb-true b 34 h in
        subst (ArgumentPart (b ∷ text)) (sym made ∙ f.2) (record { part = 34 ∷ (q.value ++ 34 ∷ []); argument = quoted q.value q.continues; split = (λ i. first i ∷ q.split i) ∙ ap (λ l. 34 ∷ l) (sym (append_assoc q.value (34 ∷ []) q.rest)) })

-- the text of a directive, with the blanks after it and what follows them
record NamedPart (text : List ℕ) (e : Element) : Type 0 where
  directive : Directive
  part : List ℕ
  after : List ℕ
  only : e.directives ≡ directive ∷ []
  is : IsDirective part directive
  blanks : AreBlanks after
  split : text ≡ part ++ (after ++ e.rest)

named_found : (name text : List ℕ) (e : Element) → IsToken name → named name text ≡ Some e → NamedPart (name ++ text) e
named_found name [] e h eq = subst (NamedPart (name ++ [])) (same_Some (record { directives = record { name = name; argument = None } ∷ []; rest = [] }) e eq) (record { directive = record { name = name; argument = None }; part = name; after = []; only = refl; is = bare name h; blanks = refl; split = refl })
named_found name (b ∷ text) e h eq = by (b == 61) refl eq
  where
    by : (t : Bool) → (b == 61) ≡ t → (if t then option_map (λ (t : Taken). record { directives = record { name = name; argument = Some t.value } ∷ []; rest = after_blanks t.rest }) (take_argument text) else Some (record { directives = record { name = name; argument = None } ∷ []; rest = after_blanks (b ∷ text) })) ≡ Some e → NamedPart (name ++ (b ∷ text)) e
    by false other eq = subst (NamedPart (name ++ (b ∷ text))) (same_Some (record { directives = record { name = name; argument = None } ∷ []; rest = after_blanks (b ∷ text) }) e eq) (record { directive = record { name = name; argument = None }; part = name; after = take (span is_blank (b ∷ text)) (b ∷ text); only = refl; is = bare name h; blanks = passes is_blank (b ∷ text); split = ap (λ l. name ++ l) (sym (take-append-drop (span is_blank (b ∷ text)) (b ∷ text))) })
    by true equals eq =
        let make : Taken → Element = λ t. record { directives = record { name = name; argument = Some t.value } ∷ []; rest = after_blanks t.rest } in
        let f : (t : Taken) × (take_argument text ≡ Some t) × (make t ≡ e) = Found make (take_argument text) e eq in
        let a : ArgumentPart text f.0 = argument_found text f.0 f.1 in
        let first : b ≡ 61 = eqb-true b 61 equals in
        let blanks_len : ℕ = span is_blank (f.0).rest in
        subst (NamedPart (name ++ (b ∷ text))) f.2 (record { directive = record { name = name; argument = Some (f.0).value }; part = name ++ 61 ∷ a.part; after = take blanks_len (f.0).rest; only = refl; is = valued name a.part (f.0).value h a.argument; blanks = passes is_blank (f.0).rest; split = (λ i. name ++ (first i ∷ a.split i)) ∙ ap (λ l. name ++ (61 ∷ (a.part ++ l))) (sym (take-append-drop blanks_len (f.0).rest)) ∙ sym (append_assoc name (61 ∷ a.part) (take blanks_len (f.0).rest ++ drop blanks_len (f.0).rest)) })

-- the text of an element, with what follows it
record ElementPart (text : List ℕ) (e : Element) : Type 0 where
  part : List ℕ
  element : IsElement part e.directives
  split : text ≡ part ++ e.rest

regroup : (a b c d : List ℕ) → ((a ++ b) ++ c) ++ d ≡ a ++ (b ++ (c ++ d))
regroup a b c d = simp append_assoc

element_found : (text : List ℕ) (e : Element) → read_element text ≡ Some e → ElementPart text e
element_found text e eq = by (token_len rest == 0) refl eq
  where
    before : List ℕ
    before = take (span is_blank text) text

    rest : List ℕ
    rest = after_blanks text

    whole : text ≡ before ++ rest
    whole = sym (take-append-drop (span is_blank text) text)

    by : (t : Bool) → (token_len rest == 0) ≡ t → (if t then Some (record { directives = []; rest = rest }) else named (take (token_len rest) rest) (drop (token_len rest) rest)) ≡ Some e → ElementPart text e
    by true h eq = subst (ElementPart text) (same_Some (record { directives = []; rest = rest }) e eq) (record { part = before; element = empty before (passes is_blank text); split = whole })
    by false h eq =
        let n : NamedPart (take (token_len rest) rest ++ drop (token_len rest) rest) e = named_found (take (token_len rest) rest) (drop (token_len rest) rest) e (token_of rest h) eq in
        record { part = (before ++ n.part) ++ n.after; element = subst (IsElement ((before ++ n.part) ++ n.after)) (sym n.only) (one before n.part n.after n.directive (passes is_blank text) n.is n.blanks); split = whole ∙ ap (λ l. before ++ l) (sym (take-append-drop (token_len rest) rest) ∙ n.split) ∙ sym (regroup before n.part n.after e.rest) }

-- what is read is in the grammar
pub sound : (n : ℕ) (text : List ℕ) (directives : List Directive) → read n text ≡ Some directives → IsDirectives text directives
sound zero text directives eq = absurd (cc)
sound (suc n) text directives eq = from (Chained (λ (e : Element). followed (read n) e.directives e.rest) (read_element text) directives eq) (λ l others e. sound n l others e)
  where
    at : (e : Element) → ElementPart text e → (l : List ℕ) → e.rest ≡ l → followed (read n) e.directives l ≡ Some directives → ((l : List ℕ) (others : List Directive) → read n l ≡ Some others → IsDirectives l others) → IsDirectives text directives
    at e p [] is eq later = subst (λ l. IsDirectives l directives) (sym (p.split ∙ ap (λ l. p.part ++ l) is ∙ append-nil p.part)) (last p.part directives (subst (IsElement p.part) (same_Some e.directives directives eq) p.element))
    at e p (b ∷ l) is eq later = comma (b == 44) refl eq
      where
        comma : (t : Bool) → (b == 44) ≡ t → option_map (λ others. e.directives ++ others) (option_and_then (read n) (if t then Some l else None)) ≡ Some directives → IsDirectives text directives
        comma false h eq = absurd (cc)
        comma true h eq =
            let f : (others : List Directive) × (read n l ≡ Some others) × (e.directives ++ others ≡ directives) = Found (λ others. e.directives ++ others) (read n l) directives eq in
            let first : b ≡ 44 = eqb-true b 44 h in
            subst (λ d. IsDirectives text d) f.2 (subst (λ t. IsDirectives t (e.directives ++ f.0)) (sym (p.split ∙ ap (λ t. p.part ++ t) is ∙ ap (λ x. p.part ++ (x ∷ l)) first)) (more p.part l e.directives f.0 p.element (later l f.0 f.1)))

    from : (e : Element) × (read_element text ≡ Some e) × (followed (read n) e.directives e.rest ≡ Some directives) → ((l : List ℕ) (others : List Directive) → read n l ≡ Some others → IsDirectives l others) → IsDirectives text directives
    from found later = at found.0 (element_found text found.0 found.1) (found.0).rest refl found.2 later
