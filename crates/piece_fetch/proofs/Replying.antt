-- What comes of a reply.
use Rattle.std.proofs.Common.{◌≡◌, ◌≢◌, ◌==◌, Bool, true, false, ◌∙◌, refl, arith}
use Rattle.std.specs.Prelude.{Result, Ok, Err}
use Rattle.std.proofs.lemmas.Bool.Decides.{nat_tests}
use Rattle.cache_terms.specs.declared.events.Reply.{Reply}
use Rattle.cache_terms.specs.declared.offers.Verdict.{Verdict}
use Rattle.cache_control.specs.Rules.{IsVerdict}
use Rattle.reply_read.specs.declared.replies.Sent.{Sent}
use Rattle.reply_read.specs.declared.replies.Pieces.{Pieces}
use Rattle.reply_read.specs.declared.replies.ReplyFault.{ReplyFault}
use Rattle.reply_read.specs.declared.replies.ReplyFault.TheVariants as fault
use Rattle.reply_read.specs.Replies.{ReadsReply}
use Rattle.piece_fetch.specs.declared.came.Coming.TheVariants.{Came}
use Rattle.piece_fetch.specs.Coming.{ComesOf}
use Rattle.piece_fetch.specs.Between.{refusal}

-- another status than 200 is the answer, and else the body decides
pub record Answers (reply : Reply) (s : Sent) (r : Result Pieces ReplyFault) : Type 0 where
  pub status : reply.status ≢ 200 → r ≡ Err (fault.Status reply.status)
  pub body : reply.status ≡ 200 → ReadsReply reply.body s r

pub read_comes : (reply : Reply) (s : Sent) (p : Pieces) (verdict : Verdict) → Answers reply s (Ok p) → IsVerdict reply.cache_control reply.age verdict → ComesOf s (Ok reply) (Came reply.status verdict p)
read_comes reply s p verdict h v = by_test (reply.status == 200) refl
  where
    by_test : (b : Bool) → (reply.status == 200) ≡ b → ComesOf s (Ok reply) (Came reply.status verdict p)
    by_test true test = let good : reply.status ≡ 200 = grind (arith, nat_tests) in (good, refl, v, h.body good)
    by_test false test =
        let bad : reply.status ≢ 200 = grind (arith, nat_tests) in
        let clash : ◌≡◌ {A = Result Pieces ReplyFault} (Ok p) (Err (fault.Status reply.status)) = h.status bad in
        absurd (cc clash)

pub refused_comes : (reply : Reply) (s : Sent) (f : ReplyFault) → Answers reply s (Err f) → f ≢ fault.Memory → ComesOf s (Ok reply) (refusal f)
refused_comes reply s f h some = by_test (reply.status == 200) refl
  where
    good : (g : ReplyFault) → reply.status ≡ 200 → ReadsReply reply.body s (Err g) → g ≢ fault.Memory → ComesOf s (Ok reply) (refusal g)
    good (fault.Status status) is reads there = absurd reads
    good (fault.Json place) is reads there = (is, there, reads)
    good (fault.Shape member) is reads there = (is, there, reads)
    good (fault.Count got sent) is reads there = (is, there, reads)
    good fault.Memory is reads there = absurd (there refl)

    bad : (g : ReplyFault) → reply.status ≢ 200 → ◌≡◌ {A = Result Pieces ReplyFault} (Err g) (Err (fault.Status reply.status)) → ComesOf s (Ok reply) (refusal g)
    bad (fault.Status status) is same = let there : reply.status ≡ status = cc same in (there, λ h. is (there ∙ h))
    bad (fault.Json place) is same = absurd (cc same)
    bad (fault.Shape member) is same = absurd (cc same)
    bad (fault.Count got sent) is same = absurd (cc same)
    bad fault.Memory is same = absurd (cc same)

    by_test : (b : Bool) → (reply.status == 200) ≡ b → ComesOf s (Ok reply) (refusal f)
    by_test true test = let is : reply.status ≡ 200 = grind (arith, nat_tests) in good f is (h.body is) some
    by_test false test = let is : reply.status ≢ 200 = grind (arith, nat_tests) in bad f is (h.status is)
