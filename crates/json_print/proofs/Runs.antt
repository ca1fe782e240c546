-- How the runs and escapes of a string add up.
use Rattle.std.proofs.Common.{◌≡◌, ℕ, zero, suc, ◌+◌, ◌-◌, ◌<◌, ◌≤◌, inl, inr, List, [], ◌∷◌, ◌++◌, refl, ap, subst, ◌∙◌, sym, append_assoc, length, take, drop, get_or, arith, add-one, drop-cons}
use Rattle.std.proofs.Math.Seq.{take-suc}
use Rattle.std.proofs.lemmas.List.{get_or-drop, get_or-take, length-drop, length-take-le}
use Rattle.std.proofs.lemmas.Bool.{cases_lt}  -- `cases_lt` is `lt_or_ge` in other libraries, and gives their `le_total`
use Rattle.std.proofs.lemmas.Bool.{ne_eqb, le-ltb}
use Rattle.std.specs.Str.{IsUtf8, IsCharBoundary}
use Rattle.std.proofs.lemmas.Str.{IsCharBoundary-start, IsCharBoundary-after_ascii}
use Rattle.json_print.specs.Escapes.{NeedsEscape, ArePlain, HasEscape, escape, escaped}

-- a byte that needs no escape stands for itself
pub escape-plain : (b : ℕ) → (NeedsEscape b → ⊥) → escape b ≡ b ∷ []
escape-plain b plain =
    let low : b < 32 → ⊥ = λ h. plain (inl h) in
    let above : 32 ≤ b = omega arith in
    rw (
      ne_eqb b 34 (λ e. plain (inr (inl e))),
      ne_eqb b 92 (λ e. plain (inr (inr e))),
      ne_eqb b 8 (λ e. low (omega arith)),
      ne_eqb b 9 (λ e. low (omega arith)),
      ne_eqb b 10 (λ e. low (omega arith)),
      ne_eqb b 12 (λ e. low (omega arith)),
      ne_eqb b 13 (λ e. low (omega arith)),
      le-ltb b 32 above,
    ) refl

-- the loop's invariant: the text may be cut where the run begins, and what is written goes on to the whole
pub record Kept (out start text : List ℕ) (run i : ℕ) : Type 0 where
  pub order : run ≤ i
  pub cut : IsCharBoundary text run
  pub written : out ++ (take (i - run) (drop run text) ++ escaped (drop i text)) ≡ start ++ escaped text

pub begins : (out start text : List ℕ) → IsUtf8 text → out ≡ start → Kept out start text 0 0
begins out start text utf8 is = record {
  order = omega arith;
  cut = IsCharBoundary-start text utf8;
  written = ap (λ (o : List ℕ). o ++ escaped text) is;
}

escaped-drop : (text : List ℕ) (i b : ℕ) → i < length text → b ≡ get_or text i 0 → escaped (drop i text) ≡ escape b ++ escaped (drop (i + 1) text)
escaped-drop text i b within is = rw (is, add-one, drop-cons text i 0 within) refl

pub goes_on : (out start text : List ℕ) (run i b : ℕ) → i < length text → b ≡ get_or text i 0 → (NeedsEscape b → ⊥) → Kept out start text run i → Kept out start text run (i + 1)
goes_on out start text run i b within is plain kept = record {
  order = (let order : run ≤ i = kept.order in omega arith);
  cut = kept.cut;
  written = rw (longer, append_assoc (take (i - run) (drop run text)) (b ∷ []) (escaped (drop (i + 1) text)), ← step) kept.written;
}
  where
    order : run ≤ i
    order = kept.order

    short : i - run < length (drop run text)
    short = rw length-drop (omega arith)

    here : run + (i - run) ≡ i
    here = omega arith

    count : i + 1 - run ≡ suc (i - run)
    count = omega arith

    one : get_or (drop run text) (i - run) 0 ≡ b
    one = get_or-drop run text (i - run) 0 ∙ ap (λ (n : ℕ). get_or text n 0) here ∙ sym is

    longer : take (i + 1 - run) (drop run text) ≡ take (i - run) (drop run text) ++ (b ∷ [])
    longer = ap (λ (n : ℕ). take n (drop run text)) count ∙ take-suc (drop run text) (i - run) 0 short ∙ ap (λ (x : ℕ). take (i - run) (drop run text) ++ (x ∷ [])) one

    step : escaped (drop i text) ≡ (b ∷ []) ++ escaped (drop (i + 1) text)
    step = escaped-drop text i b within is ∙ ap (λ (e : List ℕ). e ++ escaped (drop (i + 1) text)) (escape-plain b plain)

pub below_128 : (b : ℕ) → NeedsEscape b → b < 128
below_128 b (inl h) = omega arith
below_128 b (inr (inl h)) = omega arith
below_128 b (inr (inr h)) = omega arith

pub escapes : (out middle now start text : List ℕ) (run i b : ℕ) → IsUtf8 text → i < length text → b ≡ get_or text i 0 → NeedsEscape b →
    middle ≡ out ++ take (i - run) (drop run text) → now ≡ middle ++ escape b → Kept out start text run i → Kept now start text (i + 1) (i + 1)
escapes out middle now start text run i b utf8 within is needs ran wrote kept = record {
  order = omega arith;
  cut = IsCharBoundary-after_ascii text i utf8 within (let h : b < 128 = below_128 b needs in omega arith);
  written = rw (none, wrote, ran, append_assoc, append_assoc, ← escaped-drop text i b within is) kept.written;
}
  where
    zero_left : i + 1 - (i + 1) ≡ 0
    zero_left = omega arith

    none : take (i + 1 - (i + 1)) (drop (i + 1) text) ≡ []
    none = ap (λ (n : ℕ). take n (drop (i + 1) text)) zero_left

-- the run goes on over bytes that need no escape
runs_by : (out start text : List ℕ) (run i n : ℕ) → i + n ≤ length text → ArePlain text i (i + n) → Kept out start text run i → Kept out start text run (i + n)
runs_by out start text run i zero within plain kept = subst (λ (k : ℕ). Kept out start text run k) (sym nothing) kept
  where
    nothing : i + 0 ≡ i
    nothing = omega arith
runs_by out start text run i (suc n) within plain kept =
    let here : i < length text = omega arith in
    let reached : i + 1 + n ≡ i + suc n = omega arith in
    let inside : i + 1 + n ≤ length text = omega arith in
    let one : NeedsEscape (get_or text i 0) → ⊥ = plain i (omega arith) (omega arith) in
    let more : ArePlain text (i + 1) (i + 1 + n) = λ k from to. plain k (omega arith) (omega arith) in
    subst (λ (k : ℕ). Kept out start text run k) reached (runs_by out start text run (i + 1) n inside more (goes_on out start text run i (get_or text i 0) here refl one kept))

pub runs_on : (out start text : List ℕ) (run i n : ℕ) → i ≤ n → n ≤ length text → ArePlain text i n → Kept out start text run i → Kept out start text run n
runs_on out start text run i n order within plain kept =
    let reached : i + (n - i) ≡ n = omega arith in
    let inside : i + (n - i) ≤ length text = omega arith in
    let same : ArePlain text i (i + (n - i)) = λ k from to. plain k from (omega arith) in
    subst (λ (k : ℕ). Kept out start text run k) reached (runs_by out start text run i (n - i) inside same kept)

-- a byte that needs an escape is one of its list
found_at : (bs : List ℕ) (k : ℕ) → k < length bs → NeedsEscape (get_or bs k 0) → HasEscape bs
found_at [] k within needs = absurd (omega arith)
found_at (b ∷ bs) zero within needs = inl needs
found_at (b ∷ bs) (suc k) within needs = inr (found_at bs k (omega arith) needs)

-- a byte of a block, by its place in the whole
in_block : (bytes : List ℕ) (end k : ℕ) → end + 8 ≤ length bytes → k < 8 → NeedsEscape (get_or bytes (end + k) 0) → HasEscape (take 8 (drop end bytes))
in_block bytes end k within lt needs =
    let long : k < length (take 8 (drop end bytes)) = rw (length-take-le 8 (drop end bytes) (rw length-drop (omega arith))) lt in
    let same : get_or (take 8 (drop end bytes)) k 0 ≡ get_or bytes (end + k) 0 = get_or-take 8 (drop end bytes) k 0 lt ∙ get_or-drop end bytes k 0 in
    found_at (take 8 (drop end bytes)) k long (subst NeedsEscape (sym same) needs)

-- a block without a byte that needs an escape makes what is plain longer
pub block_plain : (bytes : List ℕ) (from end width : ℕ) → width ≡ 8 → end + 8 ≤ length bytes → ArePlain bytes from end
    → (HasEscape (take width (drop end bytes)) → ⊥) → ArePlain bytes from (end + 8)
block_plain bytes from end width wide within plain none i lo hi needs = elim (cases_lt i end) [
  | inl below ↦ plain i lo below needs
  | inr above ↦ none (subst (λ (w : ℕ). HasEscape (take w (drop end bytes))) (sym wide) (in_block bytes end (i - end) within (omega arith) (subst (λ (j : ℕ). NeedsEscape (get_or bytes j 0)) (let e : i ≡ end + (i - end) = omega arith in e) needs)))
]
