-- A reply is cut from what came.
use Rattle.std.proofs.Common.{◌≡◌, ◌∙◌, inl, inr, sym, ap, ℕ, List, [], ◌++◌, Option, length, drop, subst, ◌≤◌, arith}
use Rattle.std.proofs.lemmas.List.{take-append-le}
use Rattle.std.specs.Io.KnownBytes.{Consumes}
use Rattle.cache_terms.specs.declared.events.Reply.{Reply}
use Rattle.http_wire.specs.declared.faults.WireFault.{WireFault}
use Rattle.http_wire.specs.declared.faults.WireFault.TheVariants as fault
use Rattle.http_wire.specs.declared.reply_head.ReplyHead.{ReplyHead}
use Rattle.http_wire.specs.EmptyLine.{NoEmptyLine}
use Rattle.http_wire.specs.Taking.{Uses, KeepsAll, FillsBut, GathersBut, GathersMore}
use Rattle.http_wire.specs.declared.framing.Framing.{Framing}
use Rattle.http_wire.specs.declared.framing.Framing.TheVariants as framing
use Rattle.std.specs.Prelude.{Bool, Result, Ok, Err}
use Rattle.http_wire.specs.Framings.{OpensReply}
use Rattle.http_wire.specs.Bodies.{HasBody, BodyBut, GoesOnOr}
use Rattle.http_wire.specs.Replies.{BeginsReply, IsReplyOf, IsReply, ReplyBut}
use Rattle.http_wire.proofs.Whole.{used_twice, used_to_end, rose_before, head_more, head_inside}

-- all that is kept came from the source
pub all_came : (kept now : List ℕ) (left after : Option (List ℕ)) → kept ≡ [] → Uses kept now left after [] → Consumes left after now
all_came kept now left after none u = subst (λ (bs : List ℕ). Consumes left after bs) (ap (λ k. k ++ u.given) (sym none) ∙ u.whole) u.consumed

pub none_came : (kept now : List ℕ) (left after : Option (List ℕ)) (before count : ℕ) → kept ≡ [] → KeepsAll kept now left after → now ≡ []
    → (taken : List ℕ) × Consumes left after taken × ReplyBut (fault.Cut 0) taken after before count
none_came kept now left after before count none all nothing =
    let zero : 0 ≡ length now = ap length (sym nothing) in
    (now, all_came kept now left after none all.used, (all.ended, zero, inl (omega arith, λ at low high. absurd (omega arith))))

pub no_head_came : (e : WireFault) (kept now : List ℕ) (left after : Option (List ℕ)) (before count : ℕ) → kept ≡ [] → GathersBut e kept now left after before count
    → (taken : List ℕ) × Consumes left after taken × ReplyBut e taken after before count
no_head_came fault.Failed kept now left after before count none g = (now, all_came kept now left after none g.0, g.1)
no_head_came fault.Memory kept now left after before count none g = (now, all_came kept now left after none g, tt)
no_head_came (fault.Bad n) kept now left after before count none g = absurd g
no_head_came (fault.TooLong n) kept now left after before count none g = (now, all_came kept now left after none g.0, inl (g.1, g.2, g.3))
no_head_came (fault.Cut n) kept now left after before count none g =
    let few : n ≤ 16384 = g.3 in
    (now, all_came kept now left after none g.0.used, (g.0.ended, g.1, inl (subst (λ (k : ℕ). k ≤ 16384) g.1 few, subst (λ (k : ℕ). NoEmptyLine now 0 k) g.1 g.4)))

pub begins_reply_more : (xs ys : List ℕ) (n : ℕ) (h : ReplyHead) → BeginsReply xs n h → BeginsReply (xs ++ ys) n h
begins_reply_more xs ys n h b = record {
  head = head_more xs ys n b.head;
  short = b.short;
  opens = subst (λ (bytes : List ℕ). OpensReply bytes h) (sym (take-append-le n xs ys (head_inside xs n b.head))) b.opens;
}

begins_reply_on : (a b : List ℕ) (l m : Option (List ℕ)) (n : ℕ) (h : ReplyHead) → Uses a b l m [] → BeginsReply a n h → BeginsReply b n h
begins_reply_on a b l m n h all begins = subst (λ (bytes : List ℕ). BeginsReply bytes n h) all.whole (begins_reply_more a all.given n h begins)

-- a body that can't be had is a reply that can't be had
pub no_body_came : (e : WireFault) (k : ℕ) (h : ReplyHead) (kept mid now : List ℕ) (l m n : Option (List ℕ)) (x y z : ℕ) → x ≤ y → kept ≡ []
    → Uses kept mid l m [] → BeginsReply mid k h → BodyBut e h.framing k mid now m n y z → (taken : List ℕ) × Consumes l n taken × ReplyBut e taken n x z
no_body_came fault.Failed k h kept mid now l m n x y z le none first begins b =
    (now, all_came kept now l n none (used_twice kept mid now l m n first b.0), rose_before x y z le b.1)
no_body_came fault.Memory k h kept mid now l m n x y z le none first begins b =
    (now, all_came kept now l n none (used_twice kept mid now l m n first b), tt)
no_body_came (fault.Bad t) k h kept mid now l m n x y z le none first begins b =
    (now, all_came kept now l n none (used_twice kept mid now l m n first b.0), inr (k, h, begins_reply_on mid now m n k h b.0 begins, b.1, b.2))
no_body_came (fault.TooLong t) k h kept mid now l m n x y z le none first begins b =
    (now, all_came kept now l n none (used_twice kept mid now l m n first b.0), inr (k, h, begins_reply_on mid now m n k h b.0 begins, b.1))
no_body_came (fault.Cut t) k h kept mid now l m n x y z le none first begins b =
    (now, all_came kept now l n none (used_twice kept mid now l m n first b.0.used), (b.0.ended, b.1, inr (k, h, begins_reply_on mid now m n k h b.0.used begins, b.2)))

pub reply_came : (k : ℕ) (h : ReplyHead) (reply : Reply) (body kept mid now : List ℕ) (l m n : Option (List ℕ)) → kept ≡ []
    → Uses kept mid l m [] → BeginsReply mid k h → IsReplyOf reply h → reply.body ≡ body → Uses mid now m n [] → HasBody h.framing (drop k now) body n
    → (taken : List ℕ) × Consumes l n taken × IsReply taken reply n
reply_came k h reply body kept mid now l m n none first begins answers same then has = (
  now,
  all_came kept now l n none (used_twice kept mid now l m n first then),
  record { n = k; h = h; begins = begins_reply_on mid now m n k h then begins; answers = answers; body = subst (λ (b : List ℕ). HasBody h.framing (drop k now) b n) (sym same) has },
)

-- a body that can't be had after some more was kept
pub body_but_after : (e : WireFault) (f : Framing) (head : ℕ) (a b d : List ℕ) (l m n : Option (List ℕ)) (x y z : ℕ) → x ≤ y → Uses a b l m []
    → BodyBut e f head b d m n y z → BodyBut e f head a d l n x z
body_but_after fault.Failed f head a b d l m n x y z le first but = (used_twice a b d l m n first but.0, rose_before x y z le but.1)
body_but_after fault.Memory f head a b d l m n x y z le first but = used_twice a b d l m n first but
body_but_after (fault.Bad t) f head a b d l m n x y z le first but = (used_twice a b d l m n first but.0, but.1, but.2)
body_but_after (fault.TooLong t) f head a b d l m n x y z le first but = (used_twice a b d l m n first but.0, but.1)
body_but_after (fault.Cut t) f head a b d l m n x y z le first but = (used_to_end a b d l m n first but.0, but.1, but.2)

-- where no more could be kept
pub body_but_filled : (e : WireFault) (f : Framing) (head : ℕ) (a d : List ℕ) (l n : Option (List ℕ)) (x z : ℕ) → FillsBut e a d l n x z → BodyBut e f head a d l n x z
body_but_filled fault.Failed f head a d l n x z fills = fills
body_but_filled fault.Memory f head a d l n x z fills = fills
body_but_filled (fault.Bad t) f head a d l n x z fills = absurd fills
body_but_filled (fault.TooLong t) f head a d l n x z fills = absurd fills
body_but_filled (fault.Cut t) f head a d l n x z fills = absurd fills

pub goes_on : (r : Result Bool WireFault) (head : ℕ) (a d : List ℕ) (l n : Option (List ℕ)) (x z : ℕ) → GathersMore a d l n x z r → GoesOnOr head a d l n x z r
goes_on (Ok ended) head a d l n x z more = more
goes_on (Err e) head a d l n x z fills = body_but_filled e framing.Chunked head a d l n x z fills
