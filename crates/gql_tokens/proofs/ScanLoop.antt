-- Scanning goes byte by byte.
use Rattle.std.proofs.Common.{◌≡◌, ℕ, zero, suc, ◌+◌, ◌-◌, ◌<◌, ◌≤◌, Bool, true, false, List, [], ◌∷◌, take, drop, drop-cons, length, ◌++◌, refl, sym, ap, subst, ◌∙◌, arith}
use Rattle.std.specs.Prelude.{slice_index}
use Rattle.std.proofs.lemmas.List.{drop_all, take_all}
use Rattle.gql_tokens.specs.declared.scanner.Class.{Class}
use Rattle.gql_tokens.specs.declared.scanner.State.{State}
use Rattle.gql_tokens.specs.declared.scanner.Move.{Move}
use Rattle.gql_tokens.specs.declared.scanner.Move.TheVariants as m
use Rattle.gql_tokens.specs.declared.scanner.Scan.{Scan}
use Rattle.gql_tokens.specs.declared.scanner.Scan.TheVariants as sc
use Rattle.gql_tokens.specs.Lexical.{Every, Stops, is_blank, is_inline, IsIgnored, blank, byte_order_mark, comment}
use Rattle.gql_tokens.specs.Scanning.{next, scan_by, scan, start, token_at}
use Rattle.gql_tokens.specs.Lexing.{NoneIgnored}

turn : (bs : List ℕ) (s : State) (i : ℕ) → i < length bs → scan s (i + 1) (drop i bs) ≡ scan_by (next s (slice_index bs i)) (i + 1) (λ after. scan after (i + 1 + 1) (drop (i + 1) bs))
unfolding scan
turn bs s i lt =
    let same : suc i ≡ i + 1 = omega arith in
    ap (scan s (i + 1)) (drop-cons bs i 0 lt) ∙ ap (λ (k : ℕ). scan_by (next s (slice_index bs i)) (i + 1) (λ after. scan after (i + 1 + 1) (drop k bs))) same

pub scan_turn : (bs : List ℕ) (s : State) (i : ℕ) (o : Move) (total : Scan) → i < length bs → o ≡ next s (slice_index bs i) → total ≡ scan s (i + 1) (drop i bs) → total ≡ scan_by o (i + 1) (λ after. scan after (i + 1 + 1) (drop (i + 1) bs))
scan_turn bs s i o total lt e h = h ∙ turn bs s i lt ∙ ap (λ (q : Move). scan_by q (i + 1) (λ after. scan after (i + 1 + 1) (drop (i + 1) bs))) (sym e)

pub scan_over : (bs : List ℕ) (s : State) (i : ℕ) (total : Scan) → length bs ≤ i → total ≡ scan s (i + 1) (drop i bs) → sc.End s ≡ total
unfolding scan
scan_over bs s i total le h = sym (h ∙ ap (scan s (i + 1)) (drop_all i bs le))

pub every_more : (test : ℕ → Bool) (bs : List ℕ) (i : ℕ) → i < length bs → Every test (take i bs) → test (slice_index bs i) ≡ true → Every test (take (i + 1) bs)
every_more test bs i lt h is = let same : suc i ≡ i + 1 = omega arith in subst (λ (k : ℕ). Every test (take k bs)) same (go bs i lt h is)
  where
    go : (bs : List ℕ) (i : ℕ) → i < length bs → Every test (take i bs) → test (slice_index bs i) ≡ true → Every test (take (suc i) bs)
    go [] i lt h is = absurd (omega arith)
    go (b ∷ bs) zero lt h is = (is, tt)
    go (b ∷ bs) (suc i) lt h is = (h.0, go bs i (omega arith) h.1 is)

pub stops_at : (test : ℕ → Bool) (bs : List ℕ) (i : ℕ) → i < length bs → test (slice_index bs i) ≡ false → Stops test (drop i bs)
stops_at test bs i lt is = subst (Stops test) (sym (drop-cons bs i 0 lt)) is

pub every_all : (test : ℕ → Bool) (bs : List ℕ) (i : ℕ) → length bs ≤ i → Every test (take i bs) → Every test (take (length bs) bs)
every_all test bs i le h = subst (Every test) (take_all i bs le ∙ sym (take_all (length bs) bs (omega arith))) h

pub stops_end : (test : ℕ → Bool) (bs : List ℕ) → Stops test (drop (length bs) bs)
stops_end test bs = subst (Stops test) (sym (drop_all (length bs) bs (omega arith))) tt

pub found_at : (class : Class) (i : ℕ) (total : Scan) → total ≡ sc.Found class (i + 1 + 1) → sc.Found class (i + 2) ≡ total
found_at class i total h = let same : i + 1 + 1 ≡ i + 2 = omega arith in sym (h ∙ ap (sc.Found class) same)

-- ---- what is ignored at the front

pub blank_front : (bs : List ℕ) → 0 < length bs → is_blank (slice_index bs 0) ≡ true → IsIgnored (take 1 bs) (drop 1 bs)
blank_front [] lt is = absurd (omega arith)
blank_front (b ∷ bs) lt is = blank b is

pub mark_front : (bs : List ℕ) → 3 ≤ length bs → slice_index bs 0 ≡ 239 → slice_index bs 1 ≡ 187 → slice_index bs 2 ≡ 191 → IsIgnored (take 3 bs) (drop 3 bs)
mark_front [] le a b c = absurd (omega arith)
mark_front (x ∷ []) le a b c = absurd (omega arith)
mark_front (x ∷ (y ∷ [])) le a b c = absurd (omega arith)
mark_front (x ∷ (y ∷ (z ∷ bs))) le a b c = rw (a, b, c) byte_order_mark

-- the bytes behind the first, as a slice is seen
behind_first : (b : ℕ) (bs : List ℕ) → take (length (b ∷ bs) - 1) (drop 1 (b ∷ bs)) ≡ bs
behind_first b bs = take_all (length (b ∷ bs) - 1) bs (omega arith)

pub comment_front : (bs : List ℕ) (n : ℕ) → 0 < length bs → slice_index bs 0 ≡ 35 → Every is_inline (take n (take (length bs - 1) (drop 1 bs))) → Stops is_inline (drop n (take (length bs - 1) (drop 1 bs)))
    → IsIgnored (take (1 + n) bs) (drop (1 + n) bs)
comment_front [] n lt is every stops = absurd (omega arith)
comment_front (b ∷ bs) n lt is every stops =
    let same : suc n ≡ 1 + n = omega arith in
    let e : Every is_inline (take n bs) = subst (λ (q : List ℕ). Every is_inline (take n q)) (behind_first b bs) every in
    let s : Stops is_inline (drop n bs) = subst (λ (q : List ℕ). Stops is_inline (drop n q)) (behind_first b bs) stops in
    subst (λ (k : ℕ). IsIgnored (take k (b ∷ bs)) (drop k (b ∷ bs))) same (subst (λ (q : ℕ). IsIgnored (q ∷ take n bs) (drop n bs)) (sym is) (comment (take n bs) e s))

pub none_front : (bs : List ℕ) → is_blank (slice_index bs 0) ≡ false → ((3 ≤ length bs) × (slice_index bs 0 ≡ 239) × (slice_index bs 1 ≡ 187) × (slice_index bs 2 ≡ 191) → ⊥) → (slice_index bs 0 ≡ 35 → ⊥) → NoneIgnored bs
none_front bs b m c a w is e = go a w is e
  where
    differ : {q : Bool} → q ≡ true → q ≡ false → ⊥
    differ t f = cc

    at : (i : ℕ) (x : List ℕ) → bs ≡ x → slice_index bs i ≡ slice_index x i
    at i x same = ap (λ (q : List ℕ). slice_index q i) same

    go : (a w : List ℕ) → IsIgnored a w → bs ≡ a ++ w → ⊥
    go _ w (blank x is) same = differ (ap is_blank (at 0 (x ∷ w) same) ∙ is) b
    go _ w byte_order_mark same =
        let long : 3 ≤ length (239 ∷ (187 ∷ (191 ∷ w))) = omega arith in
        m (subst (λ (q : List ℕ). 3 ≤ length q) (sym same) long, at 0 (239 ∷ (187 ∷ (191 ∷ w))) same, at 1 (239 ∷ (187 ∷ (191 ∷ w))) same, at 2 (239 ∷ (187 ∷ (191 ∷ w))) same)
    go _ w (comment x every stops) same = c (at 0 (35 ∷ (x ++ w)) same)
