-- The same bytes give one reply.
use Rattle.std.proofs.Common.{suc, zero, ◌≡◌, inl, inr, ◌∙◌, sym, ap, subst, ℕ, ◌+◌, ◌-◌, ◌<◌, ◌≤◌, arith, codes, List, [], ◌∷◌, ◌++◌, length, take, drop, append_assoc, append-nil, length-append, take-append-drop, refl, Some}
use Rattle.std.specs.Prelude.{Result, Ok, Err}
use Rattle.std.proofs.Math.ListN.{replicate}
use Rattle.std.proofs.lemmas.List.{take_at, drop_at, take_all, drop_all, take-append-le, drop-append-le, length-take-le, length-replicate}
use Rattle.cache_terms.specs.declared.events.Reply.{Reply}
use Rattle.httparse.specs.Grammar.{print_chunk_line, chunk_size, status_code}
use Rattle.httparse.proofs.ChunkLemmas.{chunk_line_unique}
use Rattle.httparse.proofs.GrammarLemmas.{response_unique}
use Rattle.http_wire.specs.declared.faults.WireFault.{WireFault}
use Rattle.http_wire.specs.declared.faults.WireFault.TheVariants as fault
use Rattle.http_wire.specs.declared.framing.Framing.{Framing}
use Rattle.http_wire.specs.declared.framing.Framing.TheVariants as framing
use Rattle.http_wire.specs.declared.reply_head.ReplyHead.{ReplyHead}
use Rattle.http_wire.specs.EmptyLine.{ends_empty_line, IsHeadLength, NoEmptyLine}
use Rattle.http_wire.specs.Framings.{OpensReply, reply_fields, framing_of, joined, first_text}
use Rattle.http_wire.specs.Heads.{values_of}
use Rattle.http_wire.specs.Chunks.{Chunk, EndsChunks, AreChunks, ReadsChunks, AreUnfinishedChunks, with_chunk}
use Rattle.http_wire.specs.Bodies.{HasBody, IsBadBody, IsLongBody, IsShortBody}
use Rattle.http_wire.specs.Replies.{BeginsReply, IsReplyOf, IsBadReply, IsLongReply, IsShortReply}
use Rattle.http_wire.specs.ReplyAnswers.{MayAnswer, IsSettled, IsUndeclared, HasOpenBody, SameReply, SameReplyAnswer, OneReply}
use Rattle.http_wire.proofs.Carrying.{same_end}
use Rattle.http_wire.proofs.ChunkLists.{reads_more, take_past, with_more}
use Rattle.http_wire.proofs.OneAnswer.{head_or_none}
use Rattle.http_wire.proofs.ReplyFacts.{begins_reply_more}
use Rattle.http_wire.proofs.Unique.{head_unique}
use Rattle.http_wire.proofs.Whole.{head_more, head_inside}

-- ---- chunks

-- one reading of the chunks
chunks_unique : (cs ds : List Chunk) (y body other rest left : List ℕ) → AreChunks cs y body rest → AreChunks ds y other left → body ≡ other
chunks_unique [] [] y body other rest left h j = h.1 ∙ sym j.1
chunks_unique [] (d ∷ ds) y body other rest left h j =
    let same = chunk_line_unique y h.0.line d.line _ (d.content ++ (13 ∷ 10 ∷ j.0)) h.0.reads (j.2.line, j.3) in
    absurd (j.2.some (sym j.2.size ∙ sym (ap chunk_size same.0) ∙ h.0.zero))
chunks_unique (c ∷ cs) [] y body other rest left h j =
    let same = chunk_line_unique y c.line j.0.line (c.content ++ (13 ∷ 10 ∷ h.0)) _ (h.2.line, h.3) j.0.reads in
    absurd (h.2.some (sym h.2.size ∙ ap chunk_size same.0 ∙ j.0.zero))
chunks_unique (c ∷ cs) (d ∷ ds) y body other rest left h j =
    let same = chunk_line_unique y c.line d.line (c.content ++ (13 ∷ 10 ∷ h.0)) (d.content ++ (13 ∷ 10 ∷ j.0)) (h.2.line, h.3) (j.2.line, j.3) in
    let n = length c.content in
    let size : n ≡ length d.content = sym h.2.size ∙ ap chunk_size same.0 ∙ j.2.size in
    let content : c.content ≡ d.content = sym (take_at c.content (13 ∷ 10 ∷ h.0) n refl) ∙ ap (take n) same.1 ∙ take_at d.content (13 ∷ 10 ∷ j.0) n (sym size) in
    let ends : (13 ∷ 10 ∷ h.0) ≡ (13 ∷ 10 ∷ j.0) = sym (drop_at c.content (13 ∷ 10 ∷ h.0) n refl) ∙ ap (drop n) same.1 ∙ drop_at d.content (13 ∷ 10 ∷ j.0) n (sym size) in
    let tail : h.1 ≡ j.1 = chunks_unique cs ds h.0 h.1 j.1 rest left h.5 (subst (λ (b : List ℕ). AreChunks ds b j.1 left) (sym (ap (drop 2) ends)) j.5) in
    h.4 ∙ ap (λ b. b ++ h.1) content ∙ ap (λ t. d.content ++ t) tail ∙ sym j.4

last_front : (y rest : List ℕ) → EndsChunks y rest → (u : List ℕ) × (y ≡ u ++ rest) × EndsChunks u []
last_front y rest e =
    let n = length (print_chunk_line e.line) in
    let at = e.at in
    let k = (at + 1) - n in
    let u = take (at + 1) y in
    let beyond : n ≤ at = e.beyond in
    let inside : at < length y = e.inside in
    let count : at + 1 ≡ n + k = omega arith in
    let split : y ≡ u ++ rest = sym (take-append-drop (at + 1) y) ∙ ap (λ r. u ++ r) (sym e.left) in
    let size : length u ≡ at + 1 = length-take-le (at + 1) y (omega arith) in
    let line : u ≡ print_chunk_line e.line ++ take k (drop n y) =
    ap (take (at + 1)) e.reads.1 ∙ ap (λ j. take j (print_chunk_line e.line ++ drop n y)) count ∙ take_past (print_chunk_line e.line) (drop n y) k in
    let behind : drop n u ≡ take k (drop n y) = ap (drop n) line ∙ drop_at (print_chunk_line e.line) (take k (drop n y)) n refl in (
      u,
      split,
      record {
        line = e.line;
        reads = (e.reads.0, line ∙ ap (λ r. print_chunk_line e.line ++ r) (sym behind));
        zero = e.zero;
        at = at;
        beyond = beyond;
        inside = omega arith;
        ends = sym (ap (λ b. ends_empty_line b at) split ∙ same_end u rest at (omega arith)) ∙ e.ends;
        first = λ j low high. sym (ap (λ b. ends_empty_line b j) split ∙ same_end u rest j (omega arith)) ∙ e.first j low high;
        left = sym (drop_all (at + 1) u (omega arith));
      },
    )

-- what a body reads is in front of the rest
chunks_front : (cs : List Chunk) (y body rest : List ℕ) → AreChunks cs y body rest → (u : List ℕ) × (y ≡ u ++ rest) × AreChunks cs u body []
chunks_front [] y body rest h = let f = last_front y rest h.0 in (f.0, f.1, (f.2, h.1))
chunks_front (c ∷ cs) y body rest h =
    let f = chunks_front cs h.0 h.1 rest h.5 in
    (with_chunk c f.0, h.3 ∙ ap (with_chunk c) f.1 ∙ sym (with_more c f.0 rest), (f.0, h.1, h.2, refl, h.4, f.2))

-- a body that ends within the first bytes is read from them
reads_window : (most : ℕ) (b t x body rest : List ℕ) → b ≡ t ++ x → length t ≤ most + length rest → ReadsChunks t body rest → (left : List ℕ) × ReadsChunks (take most b) body left
reads_window most b t x body rest same within h =
    let f = chunks_front h.0 t body rest h.1 in
    let u = f.0 in
    let size : length t ≡ length u + length rest = ap length f.1 ∙ length-append u rest in
    let k = most - length u in
    let count : most ≡ length u + k = omega arith in
    let whole : take most b ≡ u ++ take k (rest ++ x) =
    ap (take most) (same ∙ ap (λ v. v ++ x) f.1 ∙ append_assoc u rest x) ∙ ap (λ j. take j (u ++ (rest ++ x))) count ∙ take_past u (rest ++ x) k in
    (take k (rest ++ x), subst (λ (v : List ℕ). ReadsChunks v body (take k (rest ++ x))) (sym whole) (reads_more u body [] (take k (rest ++ x)) (h.0, f.2)))

window_more : (n : ℕ) (t x : List ℕ) → (y : List ℕ) × (take n (t ++ x) ≡ take n t ++ y)
window_more zero t x = ([], refl)
window_more (suc n) [] x = (take (suc n) x, refl)
window_more (suc n) (a ∷ t) x = let w = window_more n t x in (w.0, ap (λ l. a ∷ l) w.1)

-- ---- what follows a head

abbrev pub Answered : Result Reply WireFault → ReplyHead → Type 0
Answered (Ok reply) h = IsReplyOf reply h
Answered (Err e) h = Unit {0}

-- what the bytes after a head give, framed so, where all are this many
pub data Tail (b : List ℕ) (total : ℕ) : Framing → Result Reply WireFault → Type 0 where
  counted : {m : ℕ} {reply : Reply} (rest : List ℕ) → b ≡ reply.body ++ rest → length reply.body ≡ m → m ≤ 4194304 → Tail b total (framing.Length m) (Ok reply)
  counted_long : {m n : ℕ} → n ≡ m → 4194304 < m → Tail b total (framing.Length m) (Err (fault.TooLong n))
  counted_short : {m n : ℕ} → n ≡ total → length b < m → m ≤ 4194304 → Tail b total (framing.Length m) (Err (fault.Cut n))
  chunked : {reply : Reply} (rest : List ℕ) → ReadsChunks (take 4194304 b) reply.body rest → Tail b total framing.Chunked (Ok reply)
  chunked_bad : {n : ℕ} → ((more body rest : List ℕ) → ¬ (ReadsChunks (take 4194304 b ++ more) body rest)) → Tail b total framing.Chunked (Err (fault.Bad n))
  chunked_long : {n : ℕ} → 4194304 < length b → AreUnfinishedChunks (take 4194304 b) → Tail b total framing.Chunked (Err (fault.TooLong n))
  chunked_short : {n : ℕ} → n ≡ total → length b ≤ 4194304 → AreUnfinishedChunks (take 4194304 b) → Tail b total framing.Chunked (Err (fault.Cut n))
  to_end : {reply : Reply} → b ≡ reply.body → length b ≤ 4194304 → Tail b total framing.ToEnd (Ok reply)
  to_end_long : {n : ℕ} → 4194304 < length b → Tail b total framing.ToEnd (Err (fault.TooLong n))

same_reply : (m q : Reply) (h : ReplyHead) → IsReplyOf m h → IsReplyOf q h → m.body ≡ q.body → SameReply m q
same_reply m q h a c same = record {
  status = a.status ∙ sym c.status;
  cache_control = a.cache_control ∙ sym c.cache_control;
  age = a.age ∙ sym c.age;
  body = same;
}

pub counted_same : (b x y rest left : List ℕ) (m : ℕ) → b ≡ x ++ rest → length x ≡ m → b ≡ y ++ left → length y ≡ m → x ≡ y
counted_same b x y rest left m p size q also =
    sym (take_at x rest m size) ∙ ap (take m) (sym p ∙ q) ∙ take_at y left m also

counted_fits : (b x rest : List ℕ) (m : ℕ) → b ≡ x ++ rest → length x ≡ m → m ≤ length b
counted_fits b x rest m p size = let total : length b ≡ length x + length rest = ap length p ∙ length-append x rest in omega arith

never_good : (w body rest : List ℕ) → ((more body rest : List ℕ) → ¬ (ReadsChunks (w ++ more) body rest)) → ReadsChunks w body rest → ⊥
never_good w body rest bad h = bad [] body rest (subst (λ (v : List ℕ). ReadsChunks v body rest) (sym (append-nil w)) h)

tails : {b : List ℕ} {total : ℕ} {f : Framing} {r s : Result Reply WireFault} (all : List ℕ) (h : ReplyHead) → (IsUndeclared f → HasOpenBody all) → Answered r h → Answered s h → Tail b total f r → Tail b total f s → SameReplyAnswer all r s
tails {b} all h loose a c (counted {reply = m} rest p size within) (counted {reply = q} left p2 size2 within2) = same_reply m q h a c (counted_same b m.body q.body rest left _ p size p2 size2)
tails {b} all h loose a c (counted rest p size within) (counted_long is above) = absurd (omega arith)
tails {b} all h loose a c (counted {m = m} {reply = q} rest p size within) (counted_short is below least) = let fits : m ≤ length b = counted_fits b q.body rest m p size in absurd (omega arith)
tails {b} all h loose a c (counted_long is above) (counted rest p size within) = absurd (omega arith)
tails {b} all h loose a c (counted_long is above) (counted_long is2 above2) = inl (is ∙ sym is2)
tails {b} all h loose a c (counted_long is above) (counted_short is2 below least) = absurd (omega arith)
tails {b} all h loose a c (counted_short is below least) (counted {m = m} {reply = q} rest p size within) = let fits : m ≤ length b = counted_fits b q.body rest m p size in absurd (omega arith)
tails {b} all h loose a c (counted_short is below least) (counted_long is2 above) = absurd (omega arith)
tails {b} all h loose a c (counted_short is below least) (counted_short is2 below2 least2) = is ∙ sym is2
tails {b} all h loose a c (chunked {reply = m} rest x) (chunked {reply = q} left y) = same_reply m q h a c (chunks_unique x.0 y.0 (take 4194304 b) m.body q.body rest left x.1 y.1)
tails {b} all h loose a c (chunked {reply = m} rest x) (chunked_bad bad) = absurd (never_good (take 4194304 b) m.body rest bad x)
tails {b} all h loose a c (chunked {reply = m} rest x) (chunked_long above u) = absurd (u.short m.body rest x)
tails {b} all h loose a c (chunked {reply = m} rest x) (chunked_short is few u) = absurd (u.short m.body rest x)
tails {b} all h loose a c (chunked_bad bad) (chunked {reply = q} left y) = absurd (never_good (take 4194304 b) q.body left bad y)
tails {b} all h loose a c (chunked_bad bad) (chunked_bad bad2) = inr (loose tt)
tails {b} all h loose a c (chunked_bad bad) (chunked_long above u) = absurd (bad u.more u.body u.rest u.whole)
tails {b} all h loose a c (chunked_bad bad) (chunked_short is few u) = absurd (bad u.more u.body u.rest u.whole)
tails {b} all h loose a c (chunked_long above u) (chunked {reply = q} left y) = absurd (u.short q.body left y)
tails {b} all h loose a c (chunked_long above u) (chunked_bad bad) = absurd (bad u.more u.body u.rest u.whole)
tails {b} all h loose a c (chunked_long above u) (chunked_long above2 v) = inr (inr (loose tt))
tails {b} all h loose a c (chunked_long above u) (chunked_short is few v) = absurd (omega arith)
tails {b} all h loose a c (chunked_short is few u) (chunked {reply = q} left y) = absurd (u.short q.body left y)
tails {b} all h loose a c (chunked_short is few u) (chunked_bad bad) = absurd (bad u.more u.body u.rest u.whole)
tails {b} all h loose a c (chunked_short is few u) (chunked_long above v) = absurd (omega arith)
tails {b} all h loose a c (chunked_short is few u) (chunked_short is2 few2 v) = is ∙ sym is2
tails {b} all h loose a c (to_end {reply = m} p within) (to_end {reply = q} p2 within2) = same_reply m q h a c (sym p ∙ p2)
tails {b} all h loose a c (to_end p within) (to_end_long above) = absurd (omega arith)
tails {b} all h loose a c (to_end_long above) (to_end p within) = absurd (omega arith)
tails {b} all h loose a c (to_end_long above) (to_end_long above2) = inr (inr (loose tt))

-- ---- which of the kinds an answer is

pub data ReplyView (all : List ℕ) : Result Reply WireFault → Type 0 where
  accepted : {r : Result Reply WireFault} (k : ℕ) (h : ReplyHead) → BeginsReply all k h → Answered r h → Tail (drop k all) (length all) h.framing r → ReplyView all r
  refused : {n : ℕ} → IsHeadLength all n → n ≤ 16384 → ((h : ReplyHead) → ¬ (OpensReply (take n all) h)) → ReplyView all (Err (fault.Bad n))
  headless_long : {n : ℕ} → 16384 < length all → NoEmptyLine all 0 16384 → ReplyView all (Err (fault.TooLong n))
  headless_short : {n : ℕ} → n ≡ length all → length all ≤ 16384 → NoEmptyLine all 0 (length all) → ReplyView all (Err (fault.Cut n))

has_body : (f : Framing) (reply : Reply) (b t x : List ℕ) (total : ℕ) → b ≡ t ++ x → HasBody f t reply.body (Some x) → Tail b total f (Ok reply)
has_body (framing.Length m) reply b t x total same has =
    let size : length reply.body ≡ m = has.reads.1 in
    let count : length t ≡ length reply.body + length has.rest = ap length has.reads.0 ∙ length-append reply.body has.rest in
    let within : length t ≤ 4194304 + length has.rest = has.within in
    counted (has.rest ++ x) (same ∙ ap (λ v. v ++ x) has.reads.0 ∙ append_assoc reply.body has.rest x) size (omega arith)
has_body framing.Chunked reply b t x total same has = let w = reads_window 4194304 b t x reply.body has.rest same has.within has.reads in chunked w.0 w.1
has_body framing.ToEnd reply b t x total same has =
    let none : length has.rest ≡ 0 = ap length has.reads.1 in
    let within : length t ≤ 4194304 + length has.rest = has.within in
    let whole : b ≡ t = same ∙ ap (λ v. t ++ v) has.ended ∙ append-nil t in
    let size : length b ≡ length t = ap length whole in
    to_end (whole ∙ has.reads.0) (omega arith)

bad_body : (f : Framing) (n : ℕ) (b t x : List ℕ) (total : ℕ) → b ≡ t ++ x → IsBadBody f t → Tail b total f (Err (fault.Bad n))
bad_body (framing.Length m) n b t x total same bad =
    let all = take 4194304 t ++ replicate m 0 in
    let size : length all ≡ length (take 4194304 t) + m = length-append (take 4194304 t) (replicate m 0) ∙ ap (λ k. length (take 4194304 t) + k) (length-replicate m 0) in
    absurd (bad (replicate m 0) (take m all) (drop m all) (sym (take-append-drop m all), length-take-le m all (omega arith)))
bad_body framing.Chunked n b t x total same bad =
    let w = window_more 4194304 t x in
    let whole : take 4194304 b ≡ take 4194304 t ++ w.0 = ap (take 4194304) same ∙ w.1 in
    chunked_bad (λ more body rest h. bad (w.0 ++ more) body rest
    (subst (λ (v : List ℕ). ReadsChunks v body rest) (ap (λ v. v ++ more) whole ∙ append_assoc (take 4194304 t) w.0 more) h))
bad_body framing.ToEnd n b t x total same bad = absurd (bad [] (take 4194304 t ++ []) [] (refl, refl))

long_body : (f : Framing) (n : ℕ) (b t x : List ℕ) (total : ℕ) → b ≡ t ++ x → IsLongBody f t n → Tail b total f (Err (fault.TooLong n))
long_body (framing.Length m) n b t x total same long = let is : n ≡ m = long.0 in let above : 4194304 < n = long.1 in counted_long is (omega arith)
long_body framing.Chunked n b t x total same long =
    let is : n ≡ length t = long.0 in
    let above : 4194304 < n = long.1 in
    let size : length b ≡ length t + length x = ap length same ∙ length-append t x in
    let window : take 4194304 b ≡ take 4194304 t = ap (take 4194304) same ∙ take-append-le 4194304 t x (omega arith) in
    chunked_long (omega arith) (subst (λ (v : List ℕ). AreUnfinishedChunks v) (sym window) long.2)
long_body framing.ToEnd n b t x total same long =
    let is : n ≡ length t = long.0 in
    let above : 4194304 < n = long.1 in
    let size : length b ≡ length t + length x = ap length same ∙ length-append t x in
    to_end_long (omega arith)

short_body : (f : Framing) (n : ℕ) (b : List ℕ) (total : ℕ) → n ≡ total → IsShortBody f b → Tail b total f (Err (fault.Cut n))
short_body (framing.Length m) n b total is short = counted_short is short.0 short.1
short_body framing.Chunked n b total is short = chunked_short is short.0 (subst (λ (v : List ℕ). AreUnfinishedChunks v) (sym (take_all 4194304 b short.0)) short.1)
short_body framing.ToEnd n b total is short = absurd short

begins_on : (all taken after : List ℕ) (k : ℕ) (h : ReplyHead) → all ≡ taken ++ after → BeginsReply taken k h → BeginsReply all k h
begins_on all taken after k h same begins = subst (λ (v : List ℕ). BeginsReply v k h) (sym same) (begins_reply_more taken after k h begins)

tail_of : (all taken after : List ℕ) (k : ℕ) → all ≡ taken ++ after → IsHeadLength taken k → drop k all ≡ drop k taken ++ after
tail_of all taken after k same head = ap (drop k) same ∙ drop-append-le k taken after (head_inside taken k head)

none_more : (all taken after : List ℕ) (to : ℕ) → all ≡ taken ++ after → to ≤ length taken → NoEmptyLine taken 0 to → NoEmptyLine all 0 to
none_more all taken after to same fits none at low high =
    ap (λ b. ends_empty_line b at) same ∙ same_end taken after at (omega arith) ∙ none at low high

bad_view : (all taken after : List ℕ) (n : ℕ) → all ≡ taken ++ after → IsBadReply taken n → ReplyView all (Err (fault.Bad n))
bad_view all taken after n same (inl (head, short, never)) =
    let front : take n all ≡ take n taken = ap (take n) same ∙ take-append-le n taken after (head_inside taken n head) in
    refused (subst (λ (v : List ℕ). IsHeadLength v n) (sym same) (head_more taken after n head)) short
    (λ h opens. never h (subst (λ (v : List ℕ). OpensReply v h) front opens))
bad_view all taken after n same (inr (k, h, begins, is, bad)) =
    accepted k h (begins_on all taken after k h same begins) tt
    (bad_body h.framing n (drop k all) (drop k taken) after (length all) (tail_of all taken after k same begins.head) bad)

long_view : (all taken after : List ℕ) (n : ℕ) → all ≡ taken ++ after → IsLongReply taken n → ReplyView all (Err (fault.TooLong n))
long_view all taken after n same (inl (is, above, none)) =
    let size : length all ≡ length taken + length after = ap length same ∙ length-append taken after in
    headless_long (omega arith) (none_more all taken after 16384 same (omega arith) none)
long_view all taken after n same (inr (k, h, begins, long)) =
    accepted k h (begins_on all taken after k h same begins) tt
    (long_body h.framing n (drop k all) (drop k taken) after (length all) (tail_of all taken after k same begins.head) long)

short_view : (all : List ℕ) (n : ℕ) → n ≡ length all → IsShortReply all → ReplyView all (Err (fault.Cut n))
short_view all n is (inl (few, none)) = headless_short is few none
short_view all n is (inr (k, h, begins, short)) = accepted k h begins tt (short_body h.framing n (drop k all) (length all) is short)

pub reply_view : (all : List ℕ) (r : Result Reply WireFault) → IsSettled r → MayAnswer all r → ReplyView all r
reply_view all (Ok reply) inside g =
    let is = g.3.2 in
    accepted is.n is.h (begins_on all g.3.0 g.0 is.n is.h g.3.1 is.begins) is.answers
    (has_body is.h.framing reply (drop is.n all) (drop is.n g.3.0) g.0 (length all) (tail_of all g.3.0 g.0 is.n g.3.1 is.begins.head) is.body)
reply_view all (Err fault.Failed) inside g = absurd inside
reply_view all (Err fault.Memory) inside g = absurd inside
reply_view all (Err (fault.Bad n)) inside g = bad_view all g.3.0 g.0 n g.3.1 g.3.2
reply_view all (Err (fault.TooLong n)) inside g = long_view all g.3.0 g.0 n g.3.1 g.3.2
reply_view all (Err (fault.Cut n)) inside g =
    let ended = g.3.2.0 in
    let same : g.3.0 ≡ all = sym (g.3.1 ∙ ap (λ v. g.3.0 ++ v) ended ∙ append-nil g.3.0) in
    short_view all n (g.3.2.1 ∙ ap length same) (subst (λ (v : List ℕ). IsShortReply v) same g.3.2.2)

-- ---- one answer

one_framing : (f g : Framing) → Some f ≡ Some g → f ≡ g
one_framing f g e = cc

same_head : (h p : ReplyHead) → h.status ≡ p.status → h.cache_control ≡ p.cache_control → h.age ≡ p.age → h.framing ≡ p.framing → h ≡ p
same_head h p a b c d = λ i. record { status = a i; cache_control = b i; age = c i; framing = d i }

opens_one : (bytes : List ℕ) (h p : ReplyHead) → OpensReply bytes h → OpensReply bytes p → h ≡ p
opens_one bytes h p x y =
    let one = (response_unique bytes x.head y.head [] [] x.reads y.reads).0 in
    let fields = ap reply_fields one in
    same_head h p (x.status ∙ ap (λ o. status_code o) one ∙ sym y.status)
    (x.cache_control ∙ ap (λ fs. joined (values_of (codes "cache-control") fs)) fields ∙ sym y.cache_control)
    (x.age ∙ ap (λ fs. first_text (values_of (codes "age") fs)) fields ∙ sym y.age)
    (one_framing h.framing p.framing (sym x.framed ∙ ap framing_of fields ∙ y.framed))

pub begins_one : (all : List ℕ) (k j : ℕ) (h p : ReplyHead) → BeginsReply all k h → BeginsReply all j p → (k ≡ j) × (h ≡ p)
begins_one all k j h p x y =
    let same = head_unique all k j x.head y.head in
    (same, opens_one (take k all) h p x.opens (subst (λ (i : ℕ). OpensReply (take i all) p) (sym same) y.opens))

pub no_head_above : (all : List ℕ) (n : ℕ) → IsHeadLength all n → n ≤ 16384 → NoEmptyLine all 0 16384 → ⊥
no_head_above all n head short none = head_or_none all n head short record { to = 16384; none = none; far = inl (omega arith) }

pub no_head_below : (all : List ℕ) (n : ℕ) → IsHeadLength all n → n ≤ 16384 → NoEmptyLine all 0 (length all) → ⊥
no_head_below all n head short none = head_or_none all n head short record { to = length all; none = none; far = inr (omega arith) }

pub good_or_refused : (all : List ℕ) (k n : ℕ) (h : ReplyHead) → BeginsReply all k h → IsHeadLength all n → ((h : ReplyHead) → ¬ (OpensReply (take n all) h)) → ⊥
good_or_refused all k n h begins head never = never h (subst (λ (i : ℕ). OpensReply (take i all) h) (head_unique all k n begins.head head) begins.opens)

two_tails : {r s : Result Reply WireFault} (all : List ℕ) (k j : ℕ) (h p : ReplyHead) → (k ≡ j) × (h ≡ p) → BeginsReply all k h → Answered r h → Answered s p
    → Tail (drop k all) (length all) h.framing r → Tail (drop j all) (length all) p.framing s → SameReplyAnswer all r s
two_tails {s} all k j h p same begins a c x y =
    tails all h (λ loose. (k, h, begins, loose)) a (subst (λ (o : ReplyHead). Answered s o) (sym same.1) c) x
    (subst (λ (o : ReplyHead). Tail (drop k all) (length all) o.framing s) (sym same.1) (subst (λ (i : ℕ). Tail (drop i all) (length all) p.framing s) (sym same.0) y))

both : {r s : Result Reply WireFault} (all : List ℕ) → ReplyView all r → ReplyView all s → SameReplyAnswer all r s
both all (accepted k h b a x) (accepted j p d c y) = two_tails all k j h p (begins_one all k j h p b d) b a c x y
both all (accepted k h b a x) (refused {n = n} head short never) = absurd (good_or_refused all k n h b head never)
both all (accepted k h b a x) (headless_long above none) = absurd (no_head_above all k b.head b.short none)
both all (accepted k h b a x) (headless_short is few none) = absurd (no_head_below all k b.head b.short none)
both all (refused {n = n} head short never) (accepted k h b a x) = absurd (good_or_refused all k n h b head never)
both all (refused {n = n} head short never) (refused {n = k} head2 short2 never2) = inl (head_unique all n k head head2)
both all (refused {n = n} head short never) (headless_long above none) = absurd (no_head_above all n head short none)
both all (refused {n = n} head short never) (headless_short is few none) = absurd (no_head_below all n head short none)
both all (headless_long above none) (accepted k h b a x) = absurd (no_head_above all k b.head b.short none)
both all (headless_long above none) (refused {n = n} head short never) = absurd (no_head_above all n head short none)
both all (headless_long above none) (headless_long above2 none2) = inr (inl none)
both all (headless_long above none) (headless_short is few none2) = absurd (omega arith)
both all (headless_short is few none) (accepted k h b a x) = absurd (no_head_below all k b.head b.short none)
both all (headless_short is few none) (refused {n = n} head short never) = absurd (no_head_below all n head short none)
both all (headless_short is few none) (headless_long above none2) = absurd (omega arith)
both all (headless_short is few none) (headless_short is2 few2 none2) = is ∙ sym is2

pub one_reply : OneReply
one_reply all first second inside within g h = both all (reply_view all first inside g) (reply_view all second within h)
