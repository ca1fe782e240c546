-- Where split_once cuts, a text has its first piece.
use Rattle.std.proofs.Common.{◌≡◌, ◌≢◌, ℕ, ◌<◌, ◌==◌, List, [], ◌∷◌, length, get_or, Option, Some, None, Bor, arith, ◌∙◌, ap, rules, suc, ◌+◌, length-append, length-drop, drop, sym}
use Rattle.script_lines.specs.Script.{words}
use Rattle.script_lines.specs.Commands.{word, rest_from}
use Rattle.std.specs.Prelude.{MatchOption, All, false}
use Rattle.std.specs.List.{slice_split, join_with_byte}
use Rattle.std.proofs.lemmas.List.{get_or_default, get_or-drop, drop_more}
use Rattle.std.proofs.lemmas.List.Splits.{slice_split_none, slice_split_at, length-slice_split, join_with_byte-slice_split}
use Rattle.std.proofs.lemmas.Bool.{ne_eqb}
use Rattle.std.proofs.lemmas.Str.Pattern.{IsSplitOnceResult, split_parts}

pub free : (c : ℕ) (bs : List ℕ) → ((i : ℕ) → i < length bs → get_or bs i 0 ≢ c) → All (λ b. (b == c) ≡ false) bs
free c bs h k d within = ne_eqb (get_or bs k d) c (λ e. h k within (get_or_default bs k 0 d within ∙ e))

pub pieces_at : (c : ℕ) (bs : List ℕ) (r : Option (Bor (List ℕ) × Bor (List ℕ))) → IsSplitOnceResult c bs r → c < 128
    → MatchOption r (slice_split (λ b. b == c) bs ≡ bs ∷ []) (λ x. slice_split (λ b. b == c) bs ≡ x.0.now ∷ slice_split (λ b. b == c) x.1.now)
pieces_at c bs None h low = slice_split_none (λ b. b == c) bs (free c bs (split_parts c bs None h low))
pieces_at c bs (Some x) h low =
    let p = split_parts c bs (Some x) h low in
    ap (λ (l : List ℕ). slice_split (λ b. b == c) l) p.0 ∙ slice_split_at (λ b. b == c) x.0.now c x.1.now (free c x.0.now p.1) (search rules)

-- what follows the cut is shorter
pub shorter_at : (c : ℕ) (bs : List ℕ) (r : Option (Bor (List ℕ) × Bor (List ℕ))) → IsSplitOnceResult c bs r → c < 128
    → MatchOption r (Unit {0}) (λ x. length x.1.now < length bs)
shorter_at c bs None h low = tt
shorter_at c bs (Some x) h low =
    let p = split_parts c bs (Some x) h low in
    let e : length bs ≡ length x.0.now + suc (length x.1.now) = ap length p.0 ∙ length-append x.0.now (c ∷ x.1.now) in
    omega (arith, e)

-- a line has a word
pub words_some : (line : List ℕ) → 0 < length (words line)
words_some line = omega (arith, length-slice_split (λ b. b == 32) line)

-- where one word is left, that many and one there are
pub last_left : (ws rest : List (List ℕ)) (i : ℕ) (w : List ℕ) → rest ≡ drop i ws → rest ≡ w ∷ [] → length ws ≡ i + 1
last_left ws rest i w here only =
    let e : length (drop i ws) ≡ 1 = ap length (sym here ∙ only) in
    omega (arith, e, length-drop i ws)

-- what is left after one word more
pub more_left : (ws rest after : List (List ℕ)) (i : ℕ) (w : List ℕ) → rest ≡ drop i ws → rest ≡ w ∷ after → after ≡ drop (i + 1) ws
more_left ws rest after i w here more =
    let e : length (drop i ws) ≡ suc (length after) = ap length (sym here ∙ more) in
    let d : drop i ws ≡ get_or ws i [] ∷ drop (i + 1) ws = drop_more ws i [] (omega (arith, e, length-drop i ws)) in
    let f : w ∷ after ≡ get_or ws i [] ∷ drop (i + 1) ws = sym more ∙ here ∙ d in
    cc

-- the first word that is left stands at that place
pub word_left : (ws rest after : List (List ℕ)) (i : ℕ) (w : List ℕ) → rest ≡ drop i ws → rest ≡ w ∷ after → w ≡ word ws i
word_left ws rest after i w here more =
    let e : get_or (drop i ws) 0 [] ≡ w = ap (λ (l : List (List ℕ)). get_or l 0 []) (sym here ∙ more) in
    let z : i + 0 ≡ i = omega arith in
    sym e ∙ get_or-drop i ws 0 [] ∙ ap (λ (k : ℕ). get_or ws k []) z

-- the words that are left, joined, are the text that is left
pub rest_joined : (line rest : List ℕ) (i : ℕ) → words rest ≡ drop i (words line) → rest_from (words line) i ≡ rest
rest_joined line rest i here = ap (λ (l : List (List ℕ)). join_with_byte 32 l) (sym here) ∙ join_with_byte-slice_split 32 rest
