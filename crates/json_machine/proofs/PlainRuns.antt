-- Characters that stand for themselves are taken at once.
use Rattle.std.proofs.Common.{◌≡◌, ℕ, ◌+◌, ◌≤◌, true, false, List, [], ◌∷◌, ◌++◌, length, take, get_or, Some, Result, Ok, Err, refl, sym, ap, subst, ◌∙◌, arith, append_assoc, length-append}
use Rattle.std.proofs.lemmas.List.{append-nil}
use Rattle.json_value.specs.declared.tree.Json.TheVariants as j
use Rattle.json_machine.specs.Refusal.{Refusal}
use Rattle.json_machine.specs.Mode as m
use Rattle.json_machine.specs.Part.{Part}
use Rattle.json_machine.specs.Part as p
use Rattle.json_machine.specs.Progress as s
use Rattle.json_machine.specs.declared.begun.Tail.{Tail}
use Rattle.json_machine.specs.declared.begun.Tail.TheVariants as tails
use Rattle.json_value.specs.Strings.{within, is_plain, is_tail, IsWide}
use Rattle.json_value.specs.Grammar.{strict}
use Rattle.json_machine.specs.Left.{OneByte, EndsValue, Tails}
use Rattle.json_machine.specs.Scan.{Scanned, scan, with, lead, tail_low, tail_high, wide_next, wide_scan, Unescaped, none, one, wide}
use Rattle.exact_read.specs.Steps.{run, on_step}
use Rattle.json_machine.specs.Machine.{ReaderState, Frames, Pairs, step, str_by, named, naming_by}
use Rattle.json_machine.specs.Onward.{Reading, Open, Closed, Failed, reading_by, reading}
use Rattle.json_machine.proofs.Wides.{WideTails, wide_tails, tails_wide, one_tail, two_tails, three_tails}
use Rattle.json_machine.proofs.TextsGo.{plain_steps, wide_steps}

-- reading on in a string or a name goes as the machine runs
unfoldable pub str_after : Frames → Reading → Result ReaderState (Refusal × ℕ)
str_after fs (Open part text) = Ok (record { mode = m.Str part text; frames = fs })
str_after fs (Closed text rest at) = run (step strict) rest (at + 1) (record { mode = m.After (j.Str text); frames = fs })
str_after fs (Failed why at) = Err (why, at)

pub str_run : (bs : List ℕ) (at : ℕ) (part : Part) (text : List ℕ) (fs : Frames) → run (step strict) bs at (record { mode = m.Str part text; frames = fs }) ≡ str_after fs (reading bs at part text)
unfolding run step reading str_after
str_run [] at part text fs = refl
str_run (b ∷ bs) at part text fs = by_scan (λ next more. str_run bs (at + 1) next more fs) (scan false at part text b)
  where
    by_scan : ((next : Part) (more : List ℕ) → run (step strict) bs (at + 1) (record { mode = m.Str next more; frames = fs }) ≡ str_after fs (reading bs (at + 1) next more)) → (o : Scanned) → on_step (step strict) at (str_by fs o) (run (step strict) bs (at + 1)) ≡ str_after fs (reading_by o at bs (reading bs (at + 1)))
    by_scan tail (Ok (s.More next more)) = tail next more
    by_scan tail (Ok (s.Done made)) = refl
    by_scan tail (Err why) = refl

unfoldable pub name_after : Frames → Pairs → ℕ → Reading → Result ReaderState (Refusal × ℕ)
name_after fs ms place (Open part text) = Ok (record { mode = m.Naming ms place part text; frames = fs })
name_after fs ms place (Closed name rest at) = on_step (step strict) at (named true fs ms place name) (run (step strict) rest (at + 1))
name_after fs ms place (Failed why at) = Err (why, at)

pub name_run : (bs : List ℕ) (at : ℕ) (ms : Pairs) (place : ℕ) (part : Part) (text : List ℕ) (fs : Frames)
    → run (step strict) bs at (record { mode = m.Naming ms place part text; frames = fs }) ≡ name_after fs ms place (reading bs at part text)
unfolding run step reading name_after
name_run [] at ms place part text fs = refl
name_run (b ∷ bs) at ms place part text fs = by_scan (λ next more. name_run bs (at + 1) ms place next more fs) (scan false at part text b)
  where
    by_scan : ((next : Part) (more : List ℕ) → run (step strict) bs (at + 1) (record { mode = m.Naming ms place next more; frames = fs }) ≡ name_after fs ms place (reading bs (at + 1) next more)) → (o : Scanned)
        → on_step (step strict) at (naming_by true fs ms place o) (run (step strict) bs (at + 1)) ≡ name_after fs ms place (reading_by o at bs (reading bs (at + 1)))
    by_scan tail (Ok (s.More next more)) = tail next more
    by_scan tail (Ok (s.Done made)) = refl
    by_scan tail (Err why) = refl

pub one_scan : (b at : ℕ) (w : List ℕ) (part : Part) (text : List ℕ) (o : Scanned) → scan false at part text b ≡ o → reading (b ∷ w) at part text ≡ reading_by o at w (reading w (at + 1))
unfolding reading
one_scan b at w part text o is = ap (λ (k : Scanned). reading_by k at w (reading w (at + 1))) is

-- a character of one byte
pub plain_scans : (at : ℕ) (text : List ℕ) (b : ℕ) → is_plain b ≡ true → scan false at p.Plain text b ≡ with text (b ∷ [])
unfolding scan
plain_scans at text b is = plain_steps at text b is

-- a character of several bytes
pub lead_scans : (at : ℕ) (text : List ℕ) (b : ℕ) (tail : Tail) → lead b ≡ Some tail → scan false at p.Plain text b ≡ Ok (s.More (p.Wide at tail) (text ++ (b ∷ [])))
unfolding scan
lead_scans at text b tail is = wide_steps at text b tail is

pub wide_scans : (at place : ℕ) (tail : Tail) (text : List ℕ) (b : ℕ) → within (tail_low tail) (tail_high tail) b ≡ true → scan false at (p.Wide place tail) text b ≡ Ok (s.More (wide_next place tail) (text ++ (b ∷ [])))
unfolding scan wide_scan
wide_scans at place tail text b is = rw is refl

byte_read : (tail : Tail) (K : List ℕ → List ℕ → Type 0) (l u w : List ℕ) (at q place : ℕ) (text : List ℕ) → q ≡ at + length u → (ts : OneByte (tail_low tail) (tail_high tail) K u w)
    → ((more : List ℕ) → q ≡ at + 1 + length ts.others → reading ts.after (at + 1) (wide_next place tail) more ≡ reading l q p.Plain (more ++ ts.others))
    → reading w at (p.Wide place tail) text ≡ reading l q p.Plain (text ++ u)
byte_read tail K l u w at q place text is ts onward =
    ap (λ (k : List ℕ). reading k at (p.Wide place tail) text) ts.parts
    ∙ (one_scan ts.byte at ts.after (p.Wide place tail) text (Ok (s.More (wide_next place tail) (text ++ (ts.byte ∷ [])))) (wide_scans at place tail text ts.byte ts.is)
    ∙ (onward (text ++ (ts.byte ∷ [])) (omega (arith, is, ap length ts.made))
    ∙ ap (λ (k : List ℕ). reading l q p.Plain k) (append_assoc text (ts.byte ∷ []) ts.others ∙ ap (λ (k : List ℕ). text ++ k) (sym ts.made))))

ends_read : (l others after : List ℕ) (at q : ℕ) (text : List ℕ) → q ≡ at + length others → EndsValue l others after → reading after at p.Plain text ≡ reading l q p.Plain (text ++ others)
ends_read l others after at q text is (nothing, rest) =
    ap (λ (k : List ℕ). reading k at p.Plain text) rest
    ∙ (ap (λ (k : ℕ). reading l k p.Plain text) (let x : at ≡ q = omega (arith, is, ap length nothing) in x)
    ∙ ap (λ (k : List ℕ). reading l q p.Plain k) (sym (append-nil text) ∙ ap (λ (k : List ℕ). text ++ k) (sym nothing)))

one_read : (low high : ℕ) (l u w : List ℕ) (at q place : ℕ) (text : List ℕ) → q ≡ at + length u → Tails (tails.One low high) l u w → reading w at (p.Wide place (tails.One low high)) text ≡ reading l q p.Plain (text ++ u)
one_read low high l u w at q place text is ts =
    byte_read (tails.One low high) (EndsValue l) l u w at q place text is ts (λ more here. ends_read l ts.others ts.after (at + 1) q more here ts.onward)

two_read : (low high : ℕ) (l u w : List ℕ) (at q place : ℕ) (text : List ℕ) → q ≡ at + length u → Tails (tails.Two low high) l u w → reading w at (p.Wide place (tails.Two low high)) text ≡ reading l q p.Plain (text ++ u)
two_read low high l u w at q place text is ts =
    byte_read (tails.Two low high) (OneByte 128 191 (EndsValue l)) l u w at q place text is ts (λ more here. one_read 128 191 l ts.others ts.after (at + 1) q place more here ts.onward)

three_read : (low high : ℕ) (l u w : List ℕ) (at q place : ℕ) (text : List ℕ) → q ≡ at + length u → Tails (tails.Three low high) l u w → reading w at (p.Wide place (tails.Three low high)) text ≡ reading l q p.Plain (text ++ u)
three_read low high l u w at q place text is ts =
    byte_read (tails.Three low high) (OneByte 128 191 (OneByte 128 191 (EndsValue l))) l u w at q place text is ts (λ more here. two_read 128 191 l ts.others ts.after (at + 1) q place more here ts.onward)

tails_read : (tail : Tail) (l u w : List ℕ) (at q place : ℕ) (text : List ℕ) → q ≡ at + length u → Tails tail l u w → reading w at (p.Wide place tail) text ≡ reading l q p.Plain (text ++ u)
tails_read (tails.One low high) l u w at q place text is ts = one_read low high l u w at q place text is ts
tails_read (tails.Two low high) l u w at q place text is ts = two_read low high l u w at q place text is ts
tails_read (tails.Three low high) l u w at q place text is ts = three_read low high l u w at q place text is ts

wide_read : (c w : List ℕ) (at : ℕ) (text : List ℕ) → IsWide c → reading (c ++ w) at p.Plain text ≡ reading w (at + length c) p.Plain (text ++ c)
wide_read c w at text is =
    let k : WideTails c = wide_tails c is in
    ap (λ (q : List ℕ). reading (q ++ w) at p.Plain text) k.parts
    ∙ (one_scan k.first at (k.others ++ w) p.Plain text (Ok (s.More (p.Wide at k.tail) (text ++ (k.first ∷ [])))) (lead_scans at text k.first k.tail k.is)
    ∙ (tails_read k.tail w k.others (k.others ++ w) (at + 1) (at + length c) at (text ++ (k.first ∷ [])) (omega (arith, ap length k.parts)) (k.tails w)
    ∙ ap (λ (q : List ℕ). reading w (at + length c) p.Plain q) (append_assoc text (k.first ∷ []) k.others ∙ ap (λ (q : List ℕ). text ++ q) (sym k.parts))))

pub unescaped_reading : (ts w : List ℕ) (at q : ℕ) (text : List ℕ) → Unescaped ts → q ≡ at + length ts → reading (ts ++ w) at p.Plain text ≡ reading w q p.Plain (text ++ ts)
unescaped_reading _ w at q text none is = ap (λ (k : ℕ). reading w k p.Plain text) (let x : at ≡ q = omega (arith, is) in x) ∙ ap (λ (k : List ℕ). reading w q p.Plain k) (sym (append-nil text))
unescaped_reading _ w at q text (one c ts is_one more) is =
    one_scan c at (ts ++ w) p.Plain text (with text (c ∷ [])) (plain_scans at text c is_one)
    ∙ (unescaped_reading ts w (at + 1) q (text ++ (c ∷ [])) more (omega (arith, is)) ∙ ap (λ (k : List ℕ). reading w q p.Plain k) (append_assoc text (c ∷ []) ts))
unescaped_reading _ w at q text (wide c ts is_wide more) is =
    ap (λ (k : List ℕ). reading k at p.Plain text) (append_assoc c ts w)
    ∙ (wide_read c (ts ++ w) at text is_wide
    ∙ (unescaped_reading ts w (at + length c) q (text ++ c) more (omega (arith, is, length-append c ts)) ∙ ap (λ (k : List ℕ). reading w q p.Plain k) (append_assoc text c ts)))

-- scanning for such characters
pub all_unescaped : (xs ys : List ℕ) → Unescaped xs → Unescaped ys → Unescaped (xs ++ ys)
all_unescaped _ ys none more = more
all_unescaped _ ys (one c xs is all) more = one c (xs ++ ys) is (all_unescaped xs ys all more)
all_unescaped _ ys (wide c xs is all) more = subst Unescaped (sym (append_assoc c xs ys)) (wide c (xs ++ ys) is (all_unescaped xs ys all more))

alone : (c : List ℕ) → IsWide c → Unescaped c
alone c is = subst Unescaped (append-nil c) (wide c [] is none)

pub two_begun : (a low high : ℕ) (ws : List ℕ) → 1 ≤ length ws → lead a ≡ Some (tails.One low high) → within low high (get_or ws 0 0) ≡ true → Unescaped (a ∷ take 1 ws)
two_begun a low high [] le is hb = absurd (omega arith)
two_begun a low high (b ∷ bs) le is hb = alone (a ∷ (b ∷ [])) (tails_wide a (tails.One low high) (b ∷ []) [] (b ∷ []) is (one_tail low high b [] hb)).0

pub three_begun : (a low high : ℕ) (ws : List ℕ) → 2 ≤ length ws → lead a ≡ Some (tails.Two low high) → within low high (get_or ws 0 0) ≡ true → is_tail (get_or ws 1 0) ≡ true → Unescaped (a ∷ take 2 ws)
three_begun a low high [] le is hb hc = absurd (omega arith)
three_begun a low high (b ∷ []) le is hb hc = absurd (omega arith)
three_begun a low high (b ∷ (c ∷ bs)) le is hb hc = alone (a ∷ (b ∷ (c ∷ []))) (tails_wide a (tails.Two low high) (b ∷ (c ∷ [])) [] (b ∷ (c ∷ [])) is (two_tails low high b c [] hb hc)).0

pub four_begun : (a low high : ℕ) (ws : List ℕ) → 3 ≤ length ws → lead a ≡ Some (tails.Three low high) → within low high (get_or ws 0 0) ≡ true → is_tail (get_or ws 1 0) ≡ true → is_tail (get_or ws 2 0) ≡ true → Unescaped (a ∷ take 3 ws)
four_begun a low high [] le is hb hc hd = absurd (omega arith)
four_begun a low high (b ∷ []) le is hb hc hd = absurd (omega arith)
four_begun a low high (b ∷ (c ∷ [])) le is hb hc hd = absurd (omega arith)
four_begun a low high (b ∷ (c ∷ (d ∷ bs))) le is hb hc hd =
    alone (a ∷ (b ∷ (c ∷ (d ∷ [])))) (tails_wide a (tails.Three low high) (b ∷ (c ∷ (d ∷ []))) [] (b ∷ (c ∷ (d ∷ []))) is (three_tails low high b c d [] hb hc hd)).0
