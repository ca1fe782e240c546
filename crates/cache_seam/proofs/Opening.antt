-- A cache that was just opened is between two calls.
use Rattle.std.proofs.Common.{◌≡◌, ℕ, Bool, true, false, ◌||◌, ◌&&◌, ◌-◌, ◌==◌, List, [], All, refl, ap, sym, ◌∙◌, arith, subst}
use Rattle.std.specs.Prelude.{nat_le, not, ◌^◌, if◌then◌else◌}
use Rattle.std.proofs.lemmas.Bool.Decides.{nat_tests}
use Rattle.std.proofs.lemmas.List.Elements.{All-nil}
use Rattle.cache_terms.specs.declared.events.Limits.{Limits}
use Rattle.cache_model.specs.State.{State, IsWithinRanges, opened, turned, begun}
use Rattle.cache_book.specs.Permits.{Pinned}
use Rattle.cache_book.specs.Calls.{Step, Begin, Begun}
use Rattle.cache_book.proofs.Stepping.{opened_legal}
use Rattle.cache_seam.specs.declared.foreign.Foreign.{Foreign}
use Rattle.cache_seam.specs.Objects.{HasObject}
use Rattle.cache_seam.specs.Meddling.{IsFitting, IsBetweenCalls}

-- a request that begins on a book that was just opened turns no epoch
begun_opened : (limits : Limits) (first : ℕ) → IsWithinRanges limits → begun (opened limits first) ≡ opened limits first
begun_opened limits first ranges = from (nat_le limits.events 0) (nat_le limits.bytes 0) refl refl
  where
    from : (a b : Bool) → nat_le limits.events 0 ≡ a → nat_le limits.bytes 0 ≡ b → (if (a || b) && not (first == 2 ^ 64 - 1) then turned (opened limits first) else opened limits first) ≡ opened limits first
    from false false few small = refl
    from true b few small = absurd (let least = ranges.least_events in grind (arith, nat_tests))
    from false true few small = absurd (let least = ranges.least_bytes in grind (arith, nat_tests))

-- both users begin on a book that was just opened
pub meddled_opened : (limits : Limits) (later : List (List Foreign)) (old mid new : State) (p q : Pinned) → IsWithinRanges limits → All (All IsFitting) later → old ≡ opened limits 0
    → Step old (Begin 0) (Begun p) mid → Step mid (Begin 1) (Begun q) new → IsBetweenCalls new p 0 true [] q later
meddled_opened limits later old mid new p q ranges fitting is first second =
    let once : mid ≡ opened limits 0 = first.0 ∙ ap begun is ∙ begun_opened limits 0 ranges in
    let twice : new ≡ opened limits 0 = second.0 ∙ ap begun once ∙ begun_opened limits 0 ranges in
    subst (λ (s : State). IsBetweenCalls s p 0 true [] q later) (sym twice) (record {
      coherent = record {
        reached = omega arith;
        current = λ _. refl;
        over = λ past. absurd (omega (arith, past));
        lawful = record { legal = opened_legal limits 0 ranges; objects = All-nil HasObject };
      };
      own = λ _. first.1 ∙ ap (λ (s : State). record { who = 0; epoch = s.epoch }) once;
      number = ap (λ (x : Pinned). x.who) second.1;
      fitting = fitting;
    })
