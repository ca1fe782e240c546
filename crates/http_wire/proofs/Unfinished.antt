-- More bytes can make a chunked body of one that is unfinished.
use Rattle.std.proofs.Common.{◌≡◌, ◌≢◌, ◌⊎◌, inl, inr, ◌∙◌, sym, ap, subst, ℕ, ◌+◌, ◌-◌, ◌<◌, ◌≤◌, ◌==◌, arith, Bool, true, false, List, [], ◌∷◌, ◌++◌, length, drop, slice_range, get_or, append_assoc, append-nil, length-append, refl, None}
use Rattle.std.proofs.Math.ListN.{replicate}
use Rattle.std.proofs.lemmas.Bool.{cases_lt, cases_eq}
use Rattle.std.proofs.lemmas.Bool.Decides.{nat_tests}
use Rattle.std.proofs.lemmas.Grind.{common_steps}
use Rattle.std.proofs.lemmas.List.{drop_all, drop_more, drop-append-le, get_or-append-add, length-drop, length-replicate}
use Rattle.std.proofs.lemmas.List.Elements.{All-nil, All-push}
use Rattle.std.proofs.lemmas.List.Folds.{drop_split}
use Rattle.std.specs.Char.{is_ascii_hexdigit}
use Rattle.std.specs.Prelude.{slice_index}
use Rattle.httparse.specs.Grammar.{ChunkLine, IsChunkLine, ReadsChunkLine, MayBecomeChunkLine, HasNoChunkLine, print_chunk_line, print_extension, chunk_size}
use Rattle.httparse.specs.Spans.{IsChunkLineAt}
use Rattle.httparse.proofs.ChunkLemmas.{ReadsChunkLine-append}
use Rattle.http_wire.specs.EmptyLine.{ends_empty_line, NoEmptyLine}
use Rattle.http_wire.specs.Chunks.{EndsChunks, ReadsChunks, AreUnfinishedChunks}
use Rattle.http_wire.proofs.Carrying.{same_end}
use Rattle.http_wire.proofs.StepFacts.{line_fits, last_found, last_missing, content_missing, no_line}

-- more bytes can follow that make a body
record GoesOn (bytes : List ℕ) : Type 0 where
  more : List ℕ
  body : List ℕ
  rest : List ℕ
  whole : ReadsChunks (bytes ++ more) body rest

unfinished : (bytes : List ℕ) → ((body rest : List ℕ) → ¬ (ReadsChunks bytes body rest)) → GoesOn bytes → AreUnfinishedChunks bytes
unfinished bytes short g = record { short = short; more = g.more; body = g.body; rest = g.rest; whole = g.whole }

goes_back : (bytes more : List ℕ) → GoesOn (bytes ++ more) → GoesOn bytes
goes_back bytes more g = record {
  more = more ++ g.more;
  body = g.body;
  rest = g.rest;
  whole = subst (λ (b : List ℕ). ReadsChunks b g.body g.rest) (append_assoc bytes more g.more) g.whole;
}

-- a chunk line ends in a line feed
line_front : ChunkLine → List ℕ
line_front l = l.digits ++ l.pad ++ print_extension l.extension ++ (13 ∷ [])

line_feeds : (l : ChunkLine) → print_chunk_line l ≡ line_front l ++ (10 ∷ [])
unfolding line_front print_chunk_line
line_feeds l = sym (append_assoc (l.digits ++ l.pad ++ print_extension l.extension) (13 ∷ []) (10 ∷ []))

line_stays : (bytes x : List ℕ) (from size : ℕ) (l : ChunkLine) → IsChunkLineAt bytes from size l → IsChunkLineAt (bytes ++ x) from size l
line_stays bytes x from size l line = record {
  reads =
      subst (λ (q : List ℕ). ReadsChunkLine (bytes ++ x) l q) (sym (drop-append-le from bytes x (line_fits bytes from size l line)))
      (ReadsChunkLine-append bytes l (drop from bytes) x line.reads);
  len_is = line.len_is;
  size_is = line.size_is;
}

two_feeds : (xs : List ℕ) (at : ℕ) → slice_index xs at ≡ 10 → slice_index xs (at - 1) ≡ 10 → (at == 0) ≡ false → ends_empty_line xs at ≡ true
unfolding ends_empty_line
two_feeds xs at a b e = rw (a, b, e) refl

-- the lines after the last chunk end with two line feeds at the latest
last_goes_on : (bytes : List ℕ) (from : ℕ) (l : ChunkLine) → IsChunkLineAt bytes from 0 l → NoEmptyLine bytes from (length bytes) → GoesOn bytes
last_goes_on bytes from l line none = by_first (ends_empty_line (bytes ++ (10 ∷ 10 ∷ [])) (length bytes)) refl
  where
    at_once : (all : List ℕ) (at : ℕ) → all ≡ bytes ++ (10 ∷ 10 ∷ []) → EndsChunks all (drop (at + 1) all) → GoesOn bytes
    at_once all at same e = record {
      more = 10 ∷ 10 ∷ [];
      body = [];
      rest = drop (at + 1) all;
      whole = subst (λ (b : List ℕ). ReadsChunks b [] (drop (at + 1) all)) same ([], (e, refl));
    }

    by_first : (b : Bool) → ends_empty_line (bytes ++ (10 ∷ 10 ∷ [])) (length bytes) ≡ b → GoesOn bytes
    by_first true here =
        let all = bytes ++ (10 ∷ 10 ∷ []) in
        let n = length bytes in
        let size : length all ≡ n + 2 = length-append bytes (10 ∷ 10 ∷ []) in
        let fits : from ≤ n = line_fits bytes from 0 l line in
        at_once all n refl (last_found all from l n (line_stays bytes (10 ∷ 10 ∷ []) from 0 l line) fits (omega arith) here
        (λ at low high. same_end bytes (10 ∷ 10 ∷ []) at high ∙ none at low high))
    by_first false here =
        let all = bytes ++ (10 ∷ 10 ∷ []) in
        let n = length bytes in
        let size : length all ≡ n + 2 = length-append bytes (10 ∷ 10 ∷ []) in
        let fits : from ≤ n = line_fits bytes from 0 l line in
        let zero : n + 0 ≡ n = omega arith in
        let one : (n + 1) - 1 ≡ n = omega arith in
        let second : slice_index all (n + 1) ≡ 10 = get_or-append-add bytes (10 ∷ 10 ∷ []) 1 0 in
        let first : slice_index all n ≡ 10 = ap (slice_index all) (sym zero) ∙ get_or-append-add bytes (10 ∷ 10 ∷ []) 0 0 in
        let some : ((n + 1) == 0) ≡ false = grind (arith, nat_tests) in
        at_once all (n + 1) refl
        (last_found all from l (n + 1) (line_stays bytes (10 ∷ 10 ∷ []) from 0 l line) (omega arith) (omega arith)
        (two_feeds all (n + 1) second (ap (slice_index all) one ∙ first) some) (before here))
      where
        before : ends_empty_line (bytes ++ (10 ∷ 10 ∷ [])) (length bytes) ≡ false → NoEmptyLine (bytes ++ (10 ∷ 10 ∷ [])) from (length bytes + 1)
        before here at low high = by_side (cases_lt at (length bytes))
          where
            by_side : (at < length bytes) ⊎ (length bytes ≤ at) → ends_empty_line (bytes ++ (10 ∷ 10 ∷ [])) at ≡ false
            by_side (inl lt) = same_end bytes (10 ∷ 10 ∷ []) at lt ∙ none at low lt
            by_side (inr le) = let same : at ≡ length bytes = omega arith in ap (ends_empty_line (bytes ++ (10 ∷ 10 ∷ []))) same ∙ here

line_alone : (l : ChunkLine) → IsChunkLine l → IsChunkLineAt (print_chunk_line l) (length (print_chunk_line l)) (chunk_size l) l
line_alone l is = record {
  reads = (
    is,
    sym (ap (λ r. print_chunk_line l ++ r) (drop_all (length (print_chunk_line l)) (print_chunk_line l) (omega arith)) ∙ append-nil (print_chunk_line l)),
  );
  len_is = refl;
  size_is = refl;
}

last_line_goes_on : (l : ChunkLine) → IsChunkLine l → chunk_size l ≡ 0 → GoesOn (print_chunk_line l)
last_line_goes_on l is zero =
    last_goes_on (print_chunk_line l) (length (print_chunk_line l)) l
    (subst (λ (n : ℕ). IsChunkLineAt (print_chunk_line l) (length (print_chunk_line l)) n l) zero (line_alone l is)) (λ at low high. absurd (omega arith))

abbrev last_line : ChunkLine
last_line = record { digits = 48 ∷ []; pad = []; extension = None }

is_last_line : IsChunkLine last_line
is_last_line = record {
  digits = (omega arith, omega arith, All-push (λ v. is_ascii_hexdigit v ≡ true) [] 48 (All-nil _) refl);
  pad = All-nil _;
  extension = tt;
}

-- from nothing a body comes
nothing_goes_on : GoesOn []
nothing_goes_on =
    let g = last_line_goes_on last_line is_last_line refl in
    record { more = print_chunk_line last_line ++ g.more; body = g.body; rest = g.rest; whole = g.whole }

-- the line of a chunk with data, and some of it and of the line end behind it
data_goes_on : (bytes part after content : List ℕ) (l : ChunkLine) → IsChunkLine l → chunk_size l ≢ 0 → bytes ≡ print_chunk_line l ++ part
    → chunk_size l ≡ length content → part ++ after ≡ content ++ (13 ∷ 10 ∷ []) → GoesOn bytes
data_goes_on bytes part after content l is some split size whole =
    let g = nothing_goes_on in
    let same : bytes ++ (after ++ g.more) ≡ print_chunk_line l ++ (content ++ (13 ∷ 10 ∷ g.more)) =
    ap (λ b. b ++ (after ++ g.more)) split ∙ append_assoc (print_chunk_line l) part (after ++ g.more)
    ∙ ap (λ b. print_chunk_line l ++ b) (sym (append_assoc part after g.more) ∙ ap (λ b. b ++ g.more) whole ∙ append_assoc content (13 ∷ 10 ∷ []) g.more) in
    record {
      more = after ++ g.more;
      body = content ++ g.body;
      rest = g.rest;
      whole = (
        record { line = l; content = content } ∷ g.whole.0,
        (g.more, g.body, record { line = is; size = size; some = λ zero. some (size ∙ zero) }, same, refl, g.whole.1),
      );
    }

line_goes_on : (bytes : List ℕ) (l : ChunkLine) → IsChunkLine l → bytes ≡ print_chunk_line l → GoesOn bytes
line_goes_on bytes l is same = by_size (cases_eq (chunk_size l) 0)
  where
    by_size : (chunk_size l ≡ 0) ⊎ (chunk_size l ≡ 0 → ⊥) → GoesOn bytes
    by_size (inl zero) = subst (λ (b : List ℕ). GoesOn b) (sym same) (last_line_goes_on l is zero)
    by_size (inr some) =
        data_goes_on bytes [] (replicate (chunk_size l) 0 ++ (13 ∷ 10 ∷ [])) (replicate (chunk_size l) 0) l is some
        (same ∙ sym (append-nil (print_chunk_line l))) (sym (length-replicate (chunk_size l) 0)) refl

pub line_unfinished : (bytes : List ℕ) → HasNoChunkLine bytes → MayBecomeChunkLine bytes → AreUnfinishedChunks bytes
line_unfinished bytes none may =
    unfinished bytes (no_line bytes none) (goes_back bytes may.0 (line_goes_on (bytes ++ may.0) may.1 may.2.0 (may.2.1 ∙ append-nil (print_chunk_line may.1))))

pub last_unfinished : (bytes : List ℕ) (from : ℕ) (l : ChunkLine) → IsChunkLineAt bytes from 0 l → NoEmptyLine bytes from (length bytes) → AreUnfinishedChunks bytes
last_unfinished bytes from l line none = unfinished bytes (last_missing bytes from l line none) (last_goes_on bytes from l line none)

-- less than the data is there
pub data_unfinished : (bytes : List ℕ) (from size : ℕ) (l : ChunkLine) → IsChunkLineAt bytes from size l → size ≢ 0 → length bytes - from ≤ size → AreUnfinishedChunks bytes
data_unfinished bytes from size l line some few =
    let part = drop from bytes in
    let fits : from ≤ length bytes = line_fits bytes from size l line in
    let count : length part ≡ length bytes - from = length-drop from bytes in
    let left : List ℕ = replicate (size - length part) 0 in
    let total : length (part ++ left) ≡ length part + (size - length part) =
    length-append part left ∙ ap (λ n. length part + n) (length-replicate (size - length part) 0) in
    let same : size ≡ length (part ++ left) = omega arith in
    unfinished bytes (content_missing bytes from size l line some (omega arith))
    (data_goes_on bytes part (left ++ (13 ∷ 10 ∷ [])) (part ++ left) l line.reads.0 (λ zero. some (line.size_is ∙ zero)) line.reads.1 (sym line.size_is ∙ same)
    (sym (append_assoc part left (13 ∷ 10 ∷ []))))

-- the data is there, and the first byte of the line end behind it
pub return_unfinished : (bytes : List ℕ) (from size : ℕ) (l : ChunkLine) → IsChunkLineAt bytes from size l → size ≢ 0 → (from + size) + 1 ≡ length bytes
    → get_or bytes (from + size) 0 ≡ 13 → AreUnfinishedChunks bytes
return_unfinished bytes from size l line some full first =
    let to = from + size in
    let content = slice_range bytes from to in
    let here : drop to bytes ≡ 13 ∷ [] =
    drop_more bytes to 0 (omega arith) ∙ ap (λ b. b ∷ drop (to + 1) bytes) first ∙ ap (λ r. 13 ∷ r) (drop_all (to + 1) bytes (omega arith)) in
    let part : drop from bytes ≡ content ++ (13 ∷ []) = drop_split bytes from to (omega arith) ∙ ap (λ r. content ++ r) here in
    let count : length content ≡ size = grind (arith, common_steps) in
    unfinished bytes (content_missing bytes from size l line some (omega arith))
    (data_goes_on bytes (drop from bytes) (10 ∷ []) content l line.reads.0 (λ zero. some (line.size_is ∙ zero)) line.reads.1 (sym line.size_is ∙ sym count)
    (ap (λ b. b ++ (10 ∷ [])) part ∙ append_assoc content (13 ∷ []) (10 ∷ [])))
