use Rattle.std.proofs.Common.{◌≡◌, ℕ, subst, arith}
use Rattle.workload.specs.Steps.{StandsAfter}
use Rattle.workload.specs.Between.{midway}
use Rattle.workload.proofs.Stepping.{generated_first, generated_more, stands_more}
use Rattle.workload.proofs.steps.do_steps.Goals as goal

pub loop-k-init : goal.loop-k-init
loop-k-init c = record { within = omega arith; number = generated_first; small = omega arith; one = c.requires.one; stands = c.requires.outset }

pub loop-k-preserved : goal.loop-k-preserved
loop-k-preserved c =
    let next = generated_more c.loop-k.k c.loop-k.number c.number_after-next.result c.loop-k.invariant.number c.number_after-next.ensures.number in record {
      within = omega (arith, c.loop-k-test.true);
      number = next;
      small = c.number_after-next.ensures.small;
      one = c.step.ensures.one;
      stands = stands_more c.args.site.now c.loop-k.k c.number_after-next.result (midway c.loop-k.shop) (midway c.step.new.shop) next c.loop-k.invariant.stands c.in_ok-step.ensures.ok;
    }

pub returns : goal.returns
returns c =
    let all : c.loop-k.k ≡ c.args.steps = omega (arith, c.loop-k-test.false, c.loop-k.invariant.within) in
    record { stands = subst (λ (n : ℕ). StandsAfter c.args.site.now n (midway c.loop-k.shop)) all c.loop-k.invariant.stands }
