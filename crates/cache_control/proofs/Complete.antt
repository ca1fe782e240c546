-- A text in the grammar is read as its directives.
use Rattle.std.proofs.Common.{◌≡◌, ℕ, ◌+◌, ◌<◌, zero, suc, Bool, true, false, not, ◌&&◌, ◌||◌, ◌==◌, cond, if◌then◌else◌, List, [], ◌∷◌, ◌++◌, length, take, drop, None, Some, refl, sym, ap, subst, ◌∙◌, true≢false, arith, append_assoc, length-append, option_and_then}
use Rattle.std.specs.Option.{option_map}
use Rattle.std.specs.List.{list_all}
use Rattle.std.proofs.Math.Seq.{take-append_seam, drop-append_seam, drop-append-add}
use Rattle.std.proofs.lemmas.Bool.{eqb-true}
use Rattle.std.proofs.lemmas.List.{append-nil}
use Rattle.cache_control.specs.Octets.{is_blank, is_token_byte, is_quotable, is_quoted_byte, after_blanks}
use Rattle.cache_control.specs.Grammar.{Directive, AreBlanks, IsToken, IsQuotedText, IsArgument, IsDirective, IsElement, IsDirectives}
use Rattle.cache_control.specs.Grammar.IsQuotedText.{nothing, byte, pair}
use Rattle.cache_control.specs.Grammar.IsArgument.{token, quoted}
use Rattle.cache_control.specs.Grammar.IsDirective.{bare, valued}
use Rattle.cache_control.specs.Grammar.IsElement.{empty, one}
use Rattle.cache_control.specs.Grammar.IsDirectives.{last, more}
use Rattle.cache_control.specs.Reading.{quoted_len, take_token, take_argument, Taken, Element, named, element_from, read_element, followed, read}
use Rattle.cache_control.proofs.Spans.{both_hold, span, span-append}

-- after an element the text ends, or a comma comes
abbrev Ends : List ℕ → Type 0
Ends [] = Unit {0}
Ends (b ∷ rest) = b ≡ 44

-- a blank is a space or a tab
blank_cases : (P : ℕ → Type 0) → P 32 → P 9 → (b : ℕ) → is_blank b ≡ true → P b
blank_cases P space tab b h = by (b == 32) refl h
  where
    by : (t : Bool) → (b == 32) ≡ t → (t || b == 9) ≡ true → P b
    by true e h = subst P (sym (eqb-true b 32 e)) space
    by false e h = subst P (sym (eqb-true b 9 h)) tab

blank_is_no_token : (b : ℕ) → is_blank b ≡ true → is_token_byte b ≡ false
blank_is_no_token = blank_cases (λ b. is_token_byte b ≡ false) refl refl

blank_is_no_equals : (b : ℕ) → is_blank b ≡ true → (b == 61) ≡ false
blank_is_no_equals = blank_cases (λ b. (b == 61) ≡ false) refl refl

token_is_no_blank : (b : ℕ) → is_token_byte b ≡ true → is_blank b ≡ false
token_is_no_blank b h = by (is_blank b) refl
  where
    by : (t : Bool) → is_blank b ≡ t → t ≡ false
    by true e = absurd (true≢false (sym h ∙ blank_is_no_token b e))
    by false e = refl

token_is_no_quote : (b : ℕ) → is_token_byte b ≡ true → (b == 34) ≡ false
token_is_no_quote b h = by (b == 34) refl
  where
    by : (t : Bool) → (b == 34) ≡ t → t ≡ false
    by true e = absurd (true≢false (sym h ∙ ap is_token_byte (eqb-true b 34 e)))
    by false e = refl

-- a text whose first byte fails the test has no front that passes
stopped : (p : ℕ → Bool) (b : ℕ) (rest : List ℕ) → p b ≡ false → span p (b ∷ rest) ≡ 0
stopped p b rest h = ap (λ t. length (take (cond t (1 + Rattle.std.specs.List.prefix_len p rest) 0) (b ∷ rest))) h

blanks_stop : (p : ℕ → Bool) → ((b : ℕ) → is_blank b ≡ true → p b ≡ false) → p 44 ≡ false → (after tail : List ℕ) → AreBlanks after → Ends tail → span p (after ++ tail) ≡ 0
blanks_stop p none comma [] [] h end = refl
blanks_stop p none comma [] (b ∷ tail) h end = stopped p b tail (ap p end ∙ comma)
blanks_stop p none comma (b ∷ after) tail h end = stopped p b (after ++ tail) (none b (both_hold (is_blank b) (list_all is_blank after) h).0)

ends_stop : (tail : List ℕ) → Ends tail → span is_blank tail ≡ 0
ends_stop [] end = refl
ends_stop (b ∷ tail) end = stopped is_blank b tail (ap is_blank end)

-- a token stops at once at no blank
token_stop : (text rest : List ℕ) → IsToken text → span is_blank (text ++ rest) ≡ 0
token_stop [] rest h = absurd (h.some refl)
token_stop (b ∷ text) rest h = stopped is_blank b (text ++ rest) (token_is_no_blank b (both_hold (is_token_byte b) (list_all is_token_byte text) h.bytes).0)

after_blanks-append : (before rest : List ℕ) → AreBlanks before → span is_blank rest ≡ 0 → after_blanks (before ++ rest) ≡ rest
after_blanks-append before rest h stop = ap (λ n. drop n (before ++ rest)) (span-append is_blank before rest h stop) ∙ drop-append_seam before rest

-- what stands for itself in quotes is no quote and no backslash
record IsPlain (b : ℕ) : Type 0 where
  quotable : is_quotable b ≡ true
  no_quote : (b == 34) ≡ false
  no_backslash : (b == 92) ≡ false

IsPlain-from_test : (b : ℕ) → is_quoted_byte b ≡ true → IsPlain b
IsPlain-from_test b h =
    let parts : ((is_quotable b && not (b == 34)) ≡ true) × (not (b == 92) ≡ true) = both_hold (is_quotable b && not (b == 34)) (not (b == 92)) h in
    let first : (is_quotable b ≡ true) × (not (b == 34) ≡ true) = both_hold (is_quotable b) (not (b == 34)) parts.0 in
    record { quotable = first.0; no_quote = negated (b == 34) first.1; no_backslash = negated (b == 92) parts.1 }
  where
    negated : (t : Bool) → not t ≡ true → t ≡ false
    negated true e = sym e
    negated false e = refl

-- one byte of quoted text that is no closing quote
quoted_step : (escaped : Bool) (b : ℕ) (rest : List ℕ) (n : ℕ) → (not escaped && b == 34) ≡ false → is_quotable b ≡ true → quoted_len (not escaped && b == 92) rest ≡ Some n → quoted_len escaped (b ∷ rest) ≡ Some (suc n)
quoted_step escaped b rest n open_still ok e =
    let one_more : 1 + n ≡ suc n = omega arith in
    ap (λ t. if t then Some 0 else if is_quotable b then option_map (λ n. 1 + n) (quoted_len (not escaped && b == 92) rest) else None) open_still
    ∙ ap (λ t. if t then option_map (λ n. 1 + n) (quoted_len (not escaped && b == 92) rest) else None) ok
    ∙ ap (option_map (λ n. 1 + n)) e
    ∙ ap Some one_more

-- quoted text up to its closing quote
quoted_len-append : (value rest : List ℕ) → IsQuotedText value → quoted_len false (value ++ 34 ∷ rest) ≡ Some (length value)
quoted_len-append _ rest nothing = refl
quoted_len-append _ rest (byte b value ok later) =
    let plain : IsPlain b = IsPlain-from_test b ok in
    quoted_step false b (value ++ 34 ∷ rest) (length value) plain.no_quote plain.quotable (ap (λ t. quoted_len t (value ++ 34 ∷ rest)) plain.no_backslash ∙ quoted_len-append value rest later)
quoted_len-append _ rest (pair b value ok later) =
    quoted_step false 92 (b ∷ (value ++ 34 ∷ rest)) (suc (length value)) refl refl (quoted_step true b (value ++ 34 ∷ rest) (length value) refl ok (quoted_len-append value rest later))

nonzero : (n : ℕ) → (suc n == 0) ≡ false
nonzero n = by (suc n == 0) refl
  where
    by : (t : Bool) → (suc n == 0) ≡ t → t ≡ false
    by true e =
        let none : suc n ≡ 0 = eqb-true (suc n) 0 e in
        absurd (omega arith)
    by false e = refl

-- a token's front is taken, where what follows stops it
take_token-append : (text rest : List ℕ) → IsToken text → span is_token_byte rest ≡ 0 → take_token (text ++ rest) ≡ Some (record { value = text; rest = rest })
take_token-append [] rest h stop = absurd (h.some refl)
take_token-append (b ∷ text) rest h stop =
    ap (λ n. if n == 0 then None else Some (record { value = take n (b ∷ (text ++ rest)); rest = drop n (b ∷ (text ++ rest)) })) (span-append is_token_byte (b ∷ text) rest h.bytes stop)
    ∙ ap (λ t. if t then None else Some (record { value = take (suc (length text)) (b ∷ (text ++ rest)); rest = drop (suc (length text)) (b ∷ (text ++ rest)) })) (nonzero (length text))
    ∙ (λ i. Some (record { value = take-append_seam (b ∷ text) rest i; rest = drop-append_seam (b ∷ text) rest i }))

take_argument-token : (text rest : List ℕ) → IsToken text → span is_token_byte rest ≡ 0 → take_argument (text ++ rest) ≡ Some (record { value = text; rest = rest })
take_argument-token [] rest h stop = absurd (h.some refl)
take_argument-token (b ∷ text) rest h stop =
    ap (λ t. if t then option_map (λ n. record { value = take n (text ++ rest); rest = drop (n + 1) (text ++ rest) }) (quoted_len false (text ++ rest)) else take_token (b ∷ (text ++ rest))) (token_is_no_quote b (both_hold (is_token_byte b) (list_all is_token_byte text) h.bytes).0)
    ∙ take_token-append (b ∷ text) rest h stop

take_argument-quoted : (value rest : List ℕ) → IsQuotedText value → take_argument (34 ∷ ((value ++ 34 ∷ []) ++ rest)) ≡ Some (record { value = value; rest = rest })
take_argument-quoted value rest h =
    ap (λ (l : List ℕ). option_map (λ n. record { value = take n l; rest = drop (n + 1) l }) (quoted_len false l)) (append_assoc value (34 ∷ []) rest)
    ∙ ap (option_map (λ n. record { value = take n (value ++ 34 ∷ rest); rest = drop (n + 1) (value ++ 34 ∷ rest) })) (quoted_len-append value rest h)
    ∙ (λ i. Some (record { value = take-append_seam value (34 ∷ rest) i; rest = drop-append-add value (34 ∷ rest) 1 i }))

take_argument-append : (text value rest : List ℕ) → IsArgument text value → span is_token_byte rest ≡ 0 → take_argument (text ++ rest) ≡ Some (record { value = value; rest = rest })
take_argument-append _ _ rest (token text h) stop = take_argument-token text rest h stop
take_argument-append _ _ rest (quoted value h) stop = take_argument-quoted value rest h

-- a name with no '=' after it
named_other : (name : List ℕ) (b : ℕ) (rest tail : List ℕ) → (b == 61) ≡ false → after_blanks (b ∷ rest) ≡ tail → named name (b ∷ rest) ≡ Some (record { directives = record { name = name; argument = None } ∷ []; rest = tail })
named_other name b rest tail other e =
    ap (λ t. if t then option_map (λ (t : Taken). record { directives = record { name = name; argument = Some t.value } ∷ []; rest = after_blanks t.rest }) (take_argument rest) else Some (record { directives = record { name = name; argument = None } ∷ []; rest = after_blanks (b ∷ rest) })) other
    ∙ ap (λ l. Some (record { directives = record { name = name; argument = None } ∷ []; rest = l })) e

named_bare : (name after tail : List ℕ) → AreBlanks after → Ends tail → named name (after ++ tail) ≡ Some (record { directives = record { name = name; argument = None } ∷ []; rest = tail })
named_bare name [] [] h end = refl
named_bare name [] (b ∷ tail) h end = named_other name b tail (b ∷ tail) (ap (λ x. x == 61) end) (after_blanks-append [] (b ∷ tail) refl (ends_stop (b ∷ tail) end))
named_bare name (b ∷ after) tail h end = named_other name b (after ++ tail) tail (blank_is_no_equals b (both_hold (is_blank b) (list_all is_blank after) h).0) (after_blanks-append (b ∷ after) tail h (ends_stop tail end))

token_stops : (after tail : List ℕ) → AreBlanks after → Ends tail → span is_token_byte (after ++ tail) ≡ 0
token_stops = blanks_stop is_token_byte blank_is_no_token refl

named_valued : (name text value after tail : List ℕ) → IsArgument text value → AreBlanks after → Ends tail → named name (61 ∷ (text ++ (after ++ tail))) ≡ Some (record { directives = record { name = name; argument = Some value } ∷ []; rest = tail })
named_valued name text value after tail argument h end =
    ap (option_map (λ (t : Taken). record { directives = record { name = name; argument = Some t.value } ∷ []; rest = after_blanks t.rest })) (take_argument-append text value (after ++ tail) argument (token_stops after tail h end))
    ∙ ap (λ l. Some (record { directives = record { name = name; argument = Some value } ∷ []; rest = l })) (after_blanks-append after tail h (ends_stop tail end))

element_from-named : (name rest : List ℕ) → IsToken name → span is_token_byte rest ≡ 0 → element_from (name ++ rest) ≡ named name rest
element_from-named [] rest h stop = absurd (h.some refl)
element_from-named (b ∷ name) rest h stop =
    ap (λ n. if n == 0 then Some (record { directives = []; rest = b ∷ (name ++ rest) }) else named (take n (b ∷ (name ++ rest))) (drop n (b ∷ (name ++ rest)))) (span-append is_token_byte (b ∷ name) rest h.bytes stop)
    ∙ ap (λ t. if t then Some (record { directives = []; rest = b ∷ (name ++ rest) }) else named (take (suc (length name)) (b ∷ (name ++ rest))) (drop (suc (length name)) (b ∷ (name ++ rest)))) (nonzero (length name))
    ∙ (λ i. named (take-append_seam (b ∷ name) rest i) (drop-append_seam (b ∷ name) rest i))

directive_read : (text : List ℕ) (directive : Directive) (after tail : List ℕ) → IsDirective text directive → AreBlanks after → Ends tail → element_from (text ++ (after ++ tail)) ≡ Some (record { directives = directive ∷ []; rest = tail })
directive_read _ _ after tail (bare name h) blanks end = element_from-named name (after ++ tail) h (token_stops after tail blanks end) ∙ named_bare name after tail blanks end
directive_read _ _ after tail (valued name text value h argument) blanks end =
    ap element_from (append_assoc name (61 ∷ text) (after ++ tail))
    ∙ element_from-named name (61 ∷ (text ++ (after ++ tail))) h (stopped is_token_byte 61 (text ++ (after ++ tail)) refl)
    ∙ named_valued name text value after tail argument blanks end

directive_stop : (text : List ℕ) (directive : Directive) (rest : List ℕ) → IsDirective text directive → span is_blank (text ++ rest) ≡ 0
directive_stop _ _ rest (bare name h) = token_stop name rest h
directive_stop _ _ rest (valued name text value h argument) = ap (span is_blank) (append_assoc name (61 ∷ text) rest) ∙ token_stop name (61 ∷ (text ++ rest)) h

element_end : (tail : List ℕ) → Ends tail → element_from tail ≡ Some (record { directives = []; rest = tail })
element_end [] end = refl
element_end (b ∷ tail) end = ap (λ n. if n == 0 then Some (record { directives = []; rest = b ∷ tail }) else named (take n (b ∷ tail)) (drop n (b ∷ tail))) (stopped is_token_byte b tail (ap is_token_byte end))

regroup : (a b c d : List ℕ) → ((a ++ b) ++ c) ++ d ≡ a ++ (b ++ (c ++ d))
regroup a b c d = simp append_assoc

element_read : (text : List ℕ) (directives : List Directive) (tail : List ℕ) → IsElement text directives → Ends tail → read_element (text ++ tail) ≡ Some (record { directives = directives; rest = tail })
element_read _ _ tail (empty blanks h) end = ap element_from (after_blanks-append blanks tail h (ends_stop tail end)) ∙ element_end tail end
element_read _ _ tail (one before text after directive hb hd ha) end =
    ap read_element (regroup before text after tail)
    ∙ ap element_from (after_blanks-append before (text ++ (after ++ tail)) hb (directive_stop text directive (after ++ tail) hd))
    ∙ directive_read text directive after tail hd ha end

-- a list of directives is read as it is
pub complete : (n : ℕ) (text : List ℕ) (directives : List Directive) → IsDirectives text directives → length text < n → read n text ≡ Some directives
complete zero text directives h below = absurd (omega arith)
complete (suc n) _ _ (last text directives h) below =
    ap (λ l. option_and_then (λ (e : Element). followed (read n) e.directives e.rest) (read_element l)) (sym (append-nil text))
    ∙ ap (option_and_then (λ (e : Element). followed (read n) e.directives e.rest)) (element_read text directives [] h tt)
complete (suc n) _ _ (more text rest first others h later) below =
    let shorter : length rest < n = omega (arith, length-append text (44 ∷ rest)) in
    ap (option_and_then (λ (e : Element). followed (read n) e.directives e.rest)) (element_read text first (44 ∷ rest) h refl)
    ∙ ap (option_map (λ others. first ++ others)) (complete n rest others later shorter)
