-- What one look at the front of a chunked body tells.
use Rattle.std.proofs.Common.{◌≡◌, ◌≢◌, ◌∙◌, sym, ap, ℕ, List, ◌∷◌, ◌++◌, length, drop, subst, ◌+◌, ◌-◌, ◌<◌, ◌≤◌, arith, true, refl, length-append, slice_range, get_or}
use Rattle.std.proofs.lemmas.List.{drop_more, length-drop, get_or-append-add, get_or_append_left, get_or-drop}
use Rattle.std.proofs.lemmas.List.Folds.{drop_split}
use Rattle.std.proofs.lemmas.Grind.{common_steps}
use Rattle.httparse.specs.Grammar.{ChunkLine, ReadsChunkLine, HasNoChunkLine, NeverHasChunkLine, print_chunk_line, chunk_size}
use Rattle.httparse.specs.Spans.{IsChunkLineAt}
use Rattle.httparse.proofs.ChunkLemmas.{ReadsChunkLine-append}
use Rattle.http_wire.specs.EmptyLine.{ends_empty_line, NoEmptyLine}
use Rattle.http_wire.specs.Chunks.{EndsChunks, ReadsChunks, BeginsChunk}
use Rattle.http_wire.proofs.ChunkLists.{begins_line, next_chunk, last_chunk, line_inside}
use Rattle.http_wire.proofs.Unique.{never_both}

pub bad_line : (bytes : List ℕ) → NeverHasChunkLine bytes → (more body rest : List ℕ) → ¬ (ReadsChunks (bytes ++ more) body rest)
bad_line bytes never more body rest h = let b = begins_line h.0 (bytes ++ more) body rest h.1 in never more b.0 b.1 b.2

pub no_line : (bytes : List ℕ) → HasNoChunkLine bytes → (body rest : List ℕ) → ¬ (ReadsChunks bytes body rest)
no_line bytes none body rest h = let b = begins_line h.0 bytes body rest h.1 in none b.0 b.1 b.2

pub line_fits : (bytes : List ℕ) (from size : ℕ) (l : ChunkLine) → IsChunkLineAt bytes from size l → from ≤ length bytes
line_fits bytes from size l at =
    let whole = line_inside bytes l (drop from bytes) at.reads in
    let len : from ≡ length (print_chunk_line l) = at.len_is in
    omega arith

pub last_found : (bytes : List ℕ) (from : ℕ) (l : ChunkLine) (at : ℕ) → IsChunkLineAt bytes from 0 l → from ≤ at → at < length bytes
    → ends_empty_line bytes at ≡ true → NoEmptyLine bytes from at → EndsChunks bytes (drop (at + 1) bytes)
last_found bytes from l at line beyond inside ends first = record {
  line = l;
  reads = subst (λ (n : ℕ). ReadsChunkLine bytes l (drop n bytes)) line.len_is line.reads;
  zero = sym line.size_is;
  at = at;
  beyond = subst (λ (n : ℕ). n ≤ at) line.len_is beyond;
  inside = inside;
  ends = ends;
  first = subst (λ (n : ℕ). NoEmptyLine bytes n at) line.len_is first;
  left = refl;
}

pub last_missing : (bytes : List ℕ) (from : ℕ) (l : ChunkLine) → IsChunkLineAt bytes from 0 l → NoEmptyLine bytes from (length bytes)
    → (body rest : List ℕ) → ¬ (ReadsChunks bytes body rest)
last_missing bytes from l line none body rest h =
    let e = last_chunk l h.0 bytes (drop from bytes) body rest line.reads (sym line.size_is) h.1 in
    let len : from ≡ length (print_chunk_line l) = line.len_is in
    let same : length (print_chunk_line e.0.line) ≡ from = ap (λ k. length (print_chunk_line k)) e.1 ∙ sym len in
    let beyond : length (print_chunk_line e.0.line) ≤ e.0.at = e.0.beyond in
    never_both (sym e.0.ends ∙ none e.0.at (omega arith) e.0.inside)

size_some : (bytes : List ℕ) (from size : ℕ) (l : ChunkLine) → IsChunkLineAt bytes from size l → size ≢ 0 → chunk_size l ≢ 0
size_some bytes from size l line some zero = some (line.size_is ∙ zero)

pub content_missing : (bytes : List ℕ) (from size : ℕ) (l : ChunkLine) → IsChunkLineAt bytes from size l → size ≢ 0 → length bytes < (from + size) + 2
    → (body rest : List ℕ) → ¬ (ReadsChunks bytes body rest)
content_missing bytes from size l line some short body rest h =
    let next = next_chunk l h.0 bytes (drop from bytes) body rest line.reads (size_some bytes from size l line some) h.1 in
    let left : length bytes - from ≡ length next.content + length (13 ∷ 10 ∷ next.more) =
    sym (length-drop from bytes) ∙ ap length next.whole ∙ length-append next.content (13 ∷ 10 ∷ next.more) in
    let count : size ≡ length next.content = line.size_is ∙ next.size in
    let two : length (13 ∷ 10 ∷ next.more) ≡ length next.more + 2 = grind (arith, common_steps) in
    omega arith

-- the bytes behind the content are CR and LF
behind : (bytes more : List ℕ) (from size k : ℕ) (l : ChunkLine) → IsChunkLineAt bytes from size l → size ≢ 0 → (from + size) + k < length bytes
    → (body rest : List ℕ) → ReadsChunks (bytes ++ more) body rest → (m : List ℕ) × (get_or bytes ((from + size) + k) 0 ≡ get_or (13 ∷ 10 ∷ m) k 0)
behind bytes more from size k l line some inside body rest h =
    let q = drop from bytes in
    let next = next_chunk l h.0 (bytes ++ more) (q ++ more) body rest (ReadsChunkLine-append bytes l q more line.reads) (size_some bytes from size l line some) h.1 in
    let count : length next.content ≡ size = sym (line.size_is ∙ next.size) in
    let place : size + k < length q = subst (λ (n : ℕ). size + k < n) (sym (length-drop from bytes)) (omega arith) in
    let across : from + (size + k) ≡ (from + size) + k = omega arith in (
      next.more,
      ap (λ n. get_or bytes n 0) (sym across) ∙ sym (get_or-drop from bytes (size + k) 0) ∙ sym (get_or_append_left q more 0 (size + k) place)
          ∙ ap (λ b. get_or b (size + k) 0) next.whole ∙ ap (λ n. get_or (next.content ++ (13 ∷ 10 ∷ next.more)) (n + k) 0) (sym count)
          ∙ get_or-append-add next.content (13 ∷ 10 ∷ next.more) k 0,
    )

pub no_return : (bytes : List ℕ) (from size : ℕ) (l : ChunkLine) → IsChunkLineAt bytes from size l → size ≢ 0 → from + size < length bytes
    → get_or bytes (from + size) 0 ≢ 13 → (more body rest : List ℕ) → ¬ (ReadsChunks (bytes ++ more) body rest)
no_return bytes from size l line some inside other more body rest h =
    let b = behind bytes more from size 0 l line some (omega arith) body rest h in
    let zero : (from + size) + 0 ≡ from + size = omega arith in
    other (ap (λ n. get_or bytes n 0) (sym zero) ∙ b.1)

pub no_feed : (bytes : List ℕ) (from size : ℕ) (l : ChunkLine) → IsChunkLineAt bytes from size l → size ≢ 0 → (from + size) + 1 < length bytes
    → get_or bytes ((from + size) + 1) 0 ≢ 10 → (more body rest : List ℕ) → ¬ (ReadsChunks (bytes ++ more) body rest)
no_feed bytes from size l line some inside other more body rest h =
    let b = behind bytes more from size 1 l line some inside body rest h in other b.1

pub chunk_found : (bytes : List ℕ) (from size : ℕ) (l : ChunkLine) → IsChunkLineAt bytes from size l → size ≢ 0 → (from + size) + 1 < length bytes
    → get_or bytes (from + size) 0 ≡ 13 → get_or bytes ((from + size) + 1) 0 ≡ 10 → BeginsChunk bytes from (from + size) ((from + size) + 2)
chunk_found bytes from size l line some inside first second =
    let to = from + size in
    let here : drop to bytes ≡ 13 ∷ 10 ∷ drop (to + 2) bytes =
    drop_more bytes to 0 (omega arith) ∙ ap (λ b. b ∷ drop (to + 1) bytes) first
    ∙ ap (λ r. 13 ∷ r) (drop_more bytes (to + 1) 0 inside ∙ ap (λ b. b ∷ drop ((to + 1) + 1) bytes) second ∙ ap (λ n. 10 ∷ drop n bytes) (omega arith)) in
    let count : length (slice_range bytes from to) ≡ size = grind (arith, common_steps) in
    record {
      chunk = record { line = l; content = slice_range bytes from to };
      is_chunk = record { line = line.reads.0; size = sym line.size_is ∙ sym count; some = λ zero. some (sym count ∙ zero) };
      whole =
          line.reads.1
          ∙ ap (λ r. print_chunk_line l ++ r) (drop_split bytes from to (omega arith) ∙ ap (λ r. slice_range bytes from to ++ r) here);
      content = refl;
      ordered = omega arith;
      before = omega arith;
      inside = omega arith;
    }
