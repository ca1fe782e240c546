-- What stands first in a chunked body, and what a front of its chunks leaves.
use Rattle.std.proofs.Common.{suc, min, ◌⊎◌, inl, inr, ◌≡◌, ◌≢◌, ◌∙◌, sym, ap, ℕ, List, [], ◌∷◌, ◌++◌, length, take, drop, append_assoc, append-nil, subst, ◌+◌, ◌-◌, ◌<◌, ◌≤◌, arith, Bool, true, false, refl, length-append, slice_range}
use Rattle.std.proofs.lemmas.List.{drop_at, drop-append-le, drop-drop, drop-take, length-drop, length-take, take-take, take_all}
use Rattle.std.proofs.lemmas.Bool.{cases_lt}
use Rattle.std.proofs.lemmas.List.Folds.{drop_split}
use Rattle.httparse.specs.Grammar.{ChunkLine, ReadsChunkLine, print_chunk_line, chunk_size}
use Rattle.httparse.proofs.ChunkLemmas.{chunk_line_unique, ReadsChunkLine-append}
use Rattle.http_wire.specs.Chunks.{Chunk, IsChunk, with_chunk, EndsChunks, AreChunks, ReadsChunks, AreUnfinishedChunks, BeginsChunk}
use Rattle.http_wire.proofs.Carrying.{same_end}

-- a chunked body begins with a chunk line
pub begins_line : (cs : List Chunk) (y body rest : List ℕ) → AreChunks cs y body rest → (l : ChunkLine) × (q : List ℕ) × ReadsChunkLine y l q
begins_line [] y body rest h = (h.0.line, drop (length (print_chunk_line h.0.line)) y, h.0.reads)
begins_line (c ∷ cs) y body rest h = (c.line, c.content ++ (13 ∷ 10 ∷ h.0), (h.2.line, h.3))

-- what a body reads that begins with the line l, which is not the last one
pub record Next (l : ChunkLine) (q rest : List ℕ) : Type 0 where
  pub content : List ℕ
  pub more : List ℕ
  pub tail : List ℕ
  pub size : chunk_size l ≡ length content
  pub whole : q ≡ content ++ (13 ∷ 10 ∷ more)
  pub reads : ReadsChunks more tail rest

pub next_chunk : (l : ChunkLine) (cs : List Chunk) (y q body rest : List ℕ) → ReadsChunkLine y l q → chunk_size l ≢ 0 → AreChunks cs y body rest → Next l q rest
next_chunk l [] y q body rest line some h =
    let same = chunk_line_unique y h.0.line l _ q h.0.reads line in absurd (some (ap chunk_size (sym same.0) ∙ h.0.zero))
next_chunk l (c ∷ cs) y q body rest line some h =
    let same = chunk_line_unique y c.line l (c.content ++ (13 ∷ 10 ∷ h.0)) q (h.2.line, h.3) line in
    record { content = c.content; more = h.0; tail = h.1; size = ap chunk_size (sym same.0) ∙ h.2.size; whole = sym same.1; reads = (cs, h.5) }

-- a body that begins with a line of length 0 ends there
pub last_chunk : (l : ChunkLine) (cs : List Chunk) (y q body rest : List ℕ) → ReadsChunkLine y l q → chunk_size l ≡ 0 → AreChunks cs y body rest → (e : EndsChunks y rest) × (e.line ≡ l)
last_chunk l [] y q body rest line zero h = (h.0, (chunk_line_unique y h.0.line l _ q h.0.reads line).0)
last_chunk l (c ∷ cs) y q body rest line zero h =
    let same = chunk_line_unique y c.line l (c.content ++ (13 ∷ 10 ∷ h.0)) q (h.2.line, h.3) line in
    absurd (h.2.some (sym h.2.size ∙ ap chunk_size same.0 ∙ zero))

pub line_inside : (y : List ℕ) (l : ChunkLine) (q : List ℕ) → ReadsChunkLine y l q → length y ≡ length (print_chunk_line l) + length q
line_inside y l q h = ap length h.1 ∙ length-append (print_chunk_line l) q

-- more bytes after the end change nothing
ends_more : (b rest x : List ℕ) → EndsChunks b rest → EndsChunks (b ++ x) (rest ++ x)
ends_more b rest x e =
    let n = length (print_chunk_line e.line) in
    let at = e.at in
    let inside : at < length b = e.inside in
    let beyond : n ≤ at = e.beyond in
    record {
      line = e.line;
      reads = subst (λ (q : List ℕ). ReadsChunkLine (b ++ x) e.line q) (sym (drop-append-le n b x (omega arith))) (ReadsChunkLine-append b e.line (drop n b) x e.reads);
      zero = e.zero;
      at = at;
      beyond = beyond;
      inside = subst (λ (k : ℕ). at < k) (sym (length-append b x)) (omega arith);
      ends = same_end b x at inside ∙ e.ends;
      first = λ k low high. same_end b x k (omega arith) ∙ e.first k low high;
      left = ap (λ r. r ++ x) e.left ∙ sym (drop-append-le (at + 1) b x (omega arith));
    }

pub with_more : (c : Chunk) (more x : List ℕ) → with_chunk c more ++ x ≡ with_chunk c (more ++ x)
with_more c more x =
    append_assoc (print_chunk_line c.line) (c.content ++ (13 ∷ 10 ∷ more)) x ∙ ap (λ r. print_chunk_line c.line ++ r) (append_assoc c.content (13 ∷ 10 ∷ more) x)

chunks_more : (cs : List Chunk) (b body rest x : List ℕ) → AreChunks cs b body rest → AreChunks cs (b ++ x) body (rest ++ x)
chunks_more [] b body rest x h = (ends_more b rest x h.0, h.1)
chunks_more (c ∷ cs) b body rest x h = (h.0 ++ x, h.1, h.2, ap (λ r. r ++ x) h.3 ∙ with_more c h.0 x, h.4, chunks_more cs h.0 h.1 rest x h.5)

pub reads_more : (b body rest x : List ℕ) → ReadsChunks b body rest → ReadsChunks (b ++ x) body (rest ++ x)
reads_more b body rest x h = (h.0, chunks_more h.0 b body rest x h.1)

-- after the front, whose data is this, the same chunks follow in both readings
pub record Passes (front body : List ℕ) : Type 0 where
  pub forth : (y tail rest : List ℕ) → ReadsChunks y tail rest → ReadsChunks (front ++ y) (body ++ tail) rest
  pub back : (y whole rest : List ℕ) → ReadsChunks (front ++ y) whole rest → (tail : List ℕ) × ReadsChunks y tail rest

pub passes_nothing : Passes [] []
passes_nothing = record { forth = λ y tail rest h. h; back = λ y whole rest h. (whole, h) }

pub chunk_bytes : Chunk → List ℕ
chunk_bytes c = with_chunk c []

pub chunk_then : (c : Chunk) (y : List ℕ) → chunk_bytes c ++ y ≡ with_chunk c y
unfolding chunk_bytes
chunk_then c y = with_more c [] y

pub passes_chunk : (front body : List ℕ) (c : Chunk) → Passes front body → IsChunk c → Passes (front ++ chunk_bytes c) (body ++ c.content)
passes_chunk front body c p is = record {
  forth = λ y tail rest h.
      let one : ReadsChunks (chunk_bytes c ++ y) (c.content ++ tail) rest = (c ∷ h.0, (y, tail, is, chunk_then c y, refl, h.1)) in
      subst (λ (b : List ℕ). ReadsChunks b ((body ++ c.content) ++ tail) rest) (sym (append_assoc front (chunk_bytes c) y))
      (subst (λ (d : List ℕ). ReadsChunks (front ++ (chunk_bytes c ++ y)) d rest) (sym (append_assoc body c.content tail)) (p.forth (chunk_bytes c ++ y) (c.content ++ tail) rest one));
  back = λ y whole rest h.
      let first = p.back (chunk_bytes c ++ y) whole rest (subst (λ (b : List ℕ). ReadsChunks b whole rest) (append_assoc front (chunk_bytes c) y) h) in
      let next = next_chunk c.line first.1.0 (chunk_bytes c ++ y) (c.content ++ (13 ∷ 10 ∷ y)) first.0 rest (is.line, chunk_then c y) (λ zero. is.some (sym is.size ∙ zero)) first.1.1 in
      let same : length c.content ≡ length next.content = sym is.size ∙ next.size in
      let ends : (13 ∷ 10 ∷ y) ≡ (13 ∷ 10 ∷ next.more) =
      sym (drop_at c.content (13 ∷ 10 ∷ y) (length c.content) refl) ∙ ap (drop (length c.content)) next.whole ∙ drop_at next.content (13 ∷ 10 ∷ next.more) (length c.content) (sym same) in
      (next.tail, subst (λ (b : List ℕ). ReadsChunks b next.tail rest) (sym (ap (drop 2) ends)) next.reads);
}

-- the bytes from head on are chunks up to here, whose data is the body so far
pub record SoFar (all body : List ℕ) (head at : ℕ) : Type 0 where
  pub front : List ℕ
  pub passes : Passes front body
  pub split : drop head all ≡ front ++ drop at all
  pub long : head + length front ≡ at
  pub inside : at ≤ length all

pub so_far_begin : (all : List ℕ) (head : ℕ) → head ≤ length all → SoFar all [] head head
so_far_begin all head le = record { front = []; passes = passes_nothing; split = refl; long = omega arith; inside = le }

pub so_far_more : (old now given body : List ℕ) (head at : ℕ) → now ≡ old ++ given → SoFar old body head at → SoFar now body head at
so_far_more old now given body head at whole s =
    let le : at ≤ length old = s.inside in
    let long : head + length s.front ≡ at = s.long in
    subst (λ (all : List ℕ). SoFar all body head at) (sym whole) record {
      front = s.front;
      passes = s.passes;
      split =
          drop-append-le head old given (omega arith) ∙ ap (λ b. b ++ given) s.split ∙ append_assoc s.front (drop at old) given
          ∙ ap (λ b. s.front ++ b) (sym (drop-append-le at old given le));
      long = long;
      inside = subst (λ (k : ℕ). at ≤ k) (sym (length-append old given)) (omega arith);
    }

pub so_far_next : (all window x body : List ℕ) (head at from to next : ℕ) → drop at all ≡ window ++ x → SoFar all body head at → BeginsChunk window from to next
    → SoFar all (body ++ slice_range window from to) head (at + next)
so_far_next all window x body head at from to next whole s b =
    let c = b.chunk in
    let fits : next ≤ length window = b.inside in
    let seen : length all - at ≡ length window + length x = sym (length-drop at all) ∙ ap length whole ∙ length-append window x in
    let one : window ≡ chunk_bytes c ++ drop next window = b.whole ∙ sym (chunk_then c (drop next window)) in
    let rest : drop (at + next) all ≡ drop next window ++ x = sym (drop-drop next at all) ∙ ap (drop next) whole ∙ drop-append-le next window x fits in
    let size : length (chunk_bytes c) + (length window - next) ≡ length window =
    sym (ap length one ∙ length-append (chunk_bytes c) (drop next window) ∙ ap (λ k. length (chunk_bytes c) + k) (length-drop next window)) in
    let long : head + length s.front ≡ at = s.long in
    let le : at ≤ length all = s.inside in
    subst (λ (content : List ℕ). SoFar all (body ++ content) head (at + next)) b.content record {
      front = s.front ++ chunk_bytes c;
      passes = passes_chunk s.front body c s.passes b.is_chunk;
      split =
          s.split ∙ ap (λ r. s.front ++ r) (whole ∙ ap (λ w. w ++ x) one ∙ append_assoc (chunk_bytes c) (drop next window) x ∙ ap (λ r. chunk_bytes c ++ r) (sym rest))
          ∙ sym (append_assoc s.front (chunk_bytes c) (drop (at + next) all));
      long = ap (λ k. head + k) (length-append s.front (chunk_bytes c)) ∙ omega arith;
      inside = omega arith;
    }

-- the last chunk ends the body
pub so_far_last : (all window x body : List ℕ) (head at next : ℕ) → drop at all ≡ window ++ x → SoFar all body head at → EndsChunks window (drop next window)
    → ReadsChunks (drop head all) body (drop next window ++ x)
so_far_last all window x body head at next whole s e =
    let last : ReadsChunks (window ++ x) [] (drop next window ++ x) = reads_more window [] (drop next window) x ([], (e, refl)) in
    subst (λ (b : List ℕ). ReadsChunks b body (drop next window ++ x)) (sym (s.split ∙ ap (λ b. s.front ++ b) whole))
    (subst (λ (d : List ℕ). ReadsChunks (s.front ++ (window ++ x)) d (drop next window ++ x)) (append-nil body) (s.passes.forth (window ++ x) [] (drop next window ++ x) last))

pub take_past : (xs ys : List ℕ) (n : ℕ) → take (length xs + n) (xs ++ ys) ≡ xs ++ take n ys
take_past [] ys n = let e : 0 + n ≡ n = omega arith in ap (λ k. take k ys) e
take_past (x ∷ xs) ys n =
    let e : length (x ∷ xs) + n ≡ suc (length xs + n) = omega arith in
    ap (λ k. take k (x ∷ (xs ++ ys))) e ∙ ap (λ r. x ∷ r) (take_past xs ys n)

-- no chunk here is no body there
pub so_far_bad : (all window x body : List ℕ) (head at most : ℕ) → drop at all ≡ window ++ x → at + length window ≤ head + most → SoFar all body head at
    → ((more whole rest : List ℕ) → ¬ (ReadsChunks (window ++ more) whole rest)) → (more whole rest : List ℕ) → ¬ (ReadsChunks (take most (drop head all) ++ more) whole rest)
so_far_bad all window x body head at most split fits s bad more whole rest h =
    let n = (head + most) - at in
    let k = n - length window in
    let size : head + length s.front ≡ at = s.long in
    let count : most ≡ length s.front + n = omega arith in
    let also : n ≡ length window + k = omega arith in
    let seen : take most (drop head all) ≡ s.front ++ (window ++ take k x) =
    ap (take most) (s.split ∙ ap (λ b. s.front ++ b) split) ∙ ap (λ j. take j (s.front ++ (window ++ x))) count ∙ take_past s.front (window ++ x) n
    ∙ ap (λ b. s.front ++ b) (ap (λ j. take j (window ++ x)) also ∙ take_past window x k) in
    let same : take most (drop head all) ++ more ≡ s.front ++ (window ++ (take k x ++ more)) =
    ap (λ b. b ++ more) seen ∙ append_assoc s.front (window ++ take k x) more ∙ ap (λ b. s.front ++ b) (append_assoc window (take k x) more) in
    let after = s.passes.back (window ++ (take k x ++ more)) whole rest (subst (λ (b : List ℕ). ReadsChunks b whole rest) same h) in
    bad (take k x ++ more) after.0 rest after.1

-- chunks in front of an unfinished body are one
unfinished_after : (front body y : List ℕ) → Passes front body → AreUnfinishedChunks y → AreUnfinishedChunks (front ++ y)
unfinished_after front body y p u = record {
  short = λ whole rest h. let after = p.back y whole rest h in u.short after.0 rest after.1;
  more = u.more;
  body = body ++ u.body;
  rest = u.rest;
  whole = subst (λ (b : List ℕ). ReadsChunks b (body ++ u.body) u.rest) (sym (append_assoc front y u.more)) (p.forth (y ++ u.more) u.body u.rest u.whole);
}

-- where the bytes up to the limit are no chunk yet, they are no body yet
so_far_long : (all body : List ℕ) (head at most : ℕ) → at ≤ head + most → SoFar all body head at
    → AreUnfinishedChunks (take ((head + most) - at) (drop at all)) → AreUnfinishedChunks (take most (drop head all))
so_far_long all body head at most le s long =
    let n = (head + most) - at in
    let size : head + length s.front ≡ at = s.long in
    let count : most ≡ length s.front + n = omega arith in
    let same : take most (drop head all) ≡ s.front ++ take n (drop at all) = ap (take most) s.split ∙ ap (λ k. take k (s.front ++ drop at all)) count ∙ take_past s.front (drop at all) n in
    subst (λ (b : List ℕ). AreUnfinishedChunks b) (sym same) (unfinished_after s.front body (take n (drop at all)) s.passes long)

window_end : (all : List ℕ) (at to end : ℕ) → to ≡ min (length all) end → at ≤ length all → take (to - at) (drop at all) ≡ take (end - at) (drop at all)
window_end all at to end is inside = by_side (cases_lt end (length all))
  where
    by_side : (end < length all) ⊎ (length all ≤ end) → take (to - at) (drop at all) ≡ take (end - at) (drop at all)
    by_side (inl lt) = let same : to ≡ end = omega arith in ap (λ k. take (k - at) (drop at all)) same
    by_side (inr le) =
        let size : length (drop at all) ≡ length all - at = length-drop at all in
        take_all (to - at) (drop at all) (omega arith) ∙ sym (take_all (end - at) (drop at all) (omega arith))

-- where what is seen is no chunk yet, the bytes up to the limit are no body yet
pub so_far_unfinished : (all seen body : List ℕ) (head at to most : ℕ) → seen ≡ all → at ≤ head + most → to ≡ min (length all) (head + most) → SoFar all body head at
    → AreUnfinishedChunks (slice_range seen at to) → AreUnfinishedChunks (take most (drop head all))
so_far_unfinished all seen body head at to most same le is s u =
    so_far_long all body head at most le s
    (subst (λ (b : List ℕ). AreUnfinishedChunks b) (ap (λ v. slice_range v at to) same ∙ window_end all at to (head + most) is s.inside) u)

-- what is seen of the bytes from here on, and what is not
pub window_split : (all seen : List ℕ) (at to : ℕ) → seen ≡ all → at ≤ to → drop at all ≡ slice_range seen at to ++ drop to all
window_split all seen at to same le = drop_split all at to le ∙ ap (λ v. slice_range v at to ++ drop to all) (sym same)

pub window_fits : (seen : List ℕ) (at to : ℕ) → at ≤ to → at + length (slice_range seen at to) ≤ to
window_fits seen at to le = let size : length (slice_range seen at to) ≡ min (to - at) (length (drop at seen)) = length-take (to - at) (drop at seen) in omega arith

-- a part of what is seen is a part of all
pub inner : (all other seen : List ℕ) (at to from stop : ℕ) → other ≡ all → seen ≡ all → from ≤ stop → at + stop ≤ to
    → slice_range other (at + from) (at + stop) ≡ slice_range (slice_range seen at to) from stop
inner all other seen at to from stop same also le fits =
    let k = (to - at) - from in
    let size : to - at ≡ from + k = omega arith in
    let count : (at + stop) - (at + from) ≡ stop - from = omega arith in
    let within : stop - from ≤ k = omega arith in
    let part : drop from (take (to - at) (drop at all)) ≡ take k (drop (at + from) all) =
    ap (λ n. drop from (take n (drop at all))) size ∙ drop-take from k (drop at all) ∙ ap (take k) (drop-drop from at all) in
    ap (λ v. slice_range v (at + from) (at + stop)) same ∙ ap (λ n. take n (drop (at + from) all)) count
    ∙ sym (ap (λ v. slice_range (slice_range v at to) from stop) also ∙ ap (take (stop - from)) part ∙ take-take (stop - from) k (drop (at + from) all) within)

-- a body that ends in what is seen ends within the limit
pub last_within : (all window x : List ℕ) (head at next most : ℕ) → drop at all ≡ window ++ x → next ≤ length window → at + length window ≤ head + most → at ≤ length all
    → length (drop head all) ≤ most + length (drop next window ++ x)
last_within all window x head at next most split fits within inside =
    let seen : length all - at ≡ length window + length x = sym (length-drop at all) ∙ ap length split ∙ length-append window x in
    let whole : length (drop head all) ≡ length all - head = length-drop head all in
    let rest : length (drop next window ++ x) ≡ (length window - next) + length x = length-append (drop next window) x ∙ ap (λ k. k + length x) (length-drop next window) in
    omega arith

-- after the end of the input there is one more look
pub looks_left : Bool → ℕ
looks_left true = 0
looks_left false = 1

-- a look after more was kept is nearer to the end
pub nearer : (old now end : ℕ) (was ended : Bool) → was ≡ false → old ≤ end → old ≤ now → (ended ≡ false → old < now)
    → ((end + 1) - now) + looks_left ended < ((end + 1) - old) + looks_left was
unfolding looks_left
nearer old now end was true before room le more = let one : looks_left was ≡ 1 = ap looks_left before in omega arith
nearer old now end was false before room le more =
    let one : looks_left was ≡ 1 = ap looks_left before in let lt : old < now = more refl in omega arith
