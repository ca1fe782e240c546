use Rattle.std.proofs.Common.{List, ℕ, ◌+◌, ◌-◌, Option, [], inr, take, drop, subst, sym, ap, ◌∙◌, refl}
use Rattle.std.specs.Prelude.{Ok, Err}
use Rattle.http_wire.specs.declared.head.HeadFault.{HeadFault}
use Rattle.http_wire.specs.Heads.{head_said, Opens, OpensOr}
use Rattle.http_wire.specs.Taking.{Uses, Gathers}
use Rattle.http_wire.proofs.Whole.{used_twice, cut_off, begins_on, is_message, stopped, body_at}
use Rattle.http_wire.proofs.read.read_one.Goals as goal

pub returns-in-Err-Bad-clause-reads : goal.returns-in-Err-Bad-clause-reads
returns-in-Err-Bad-clause-reads g c =
    let slice = c.as_slice.result.now in
    let count = c.in-Ok-Some.count in
    let found = subst (λ (r : Option ℕ). Gathers c.args.kept.now c.gather_head.new.kept (g.S.Source.left c.args.source.now) (g.S.Source.left c.gather_head.new.source) (g.S.Source.faults c.args.source.now) (g.S.Source.faults c.gather_head.new.source) (Ok r)) c.in-Ok-Some.field-0-is c.in-Ok-Some.ensures.gathers in
    let never = subst (λ (f : HeadFault). OpensOr (take count slice) (Err f)) c.in-Err-Bad.field-0-is c.in-Err-Bad.ensures.opens in (
      found.0,
      record {
        head = found.2;
        short = found.1;
        refused = λ o opens. never o (subst (λ (bytes : List ℕ). Opens (take count bytes) o) (sym c.as_slice.ensures) opens);
      },
    )

pub returns-then-opened-gt-MOST_OF_A_BODY-clause-reads :
    goal.returns-then-opened-gt-MOST_OF_A_BODY-clause-reads
returns-then-opened-gt-MOST_OF_A_BODY-clause-reads g c =
    let count = c.in-Ok-Some.count in
    let found = subst (λ (r : Option ℕ). Gathers c.args.kept.now c.gather_head.new.kept (g.S.Source.left c.args.source.now) (g.S.Source.left c.gather_head.new.source) (g.S.Source.faults c.args.source.now) (g.S.Source.faults c.gather_head.new.source) (Ok r)) c.in-Ok-Some.field-0-is c.in-Ok-Some.ensures.gathers in
    let opens = subst (λ (bytes : List ℕ). Opens (take count bytes) (head_said c.in-Ok.opened)) c.as_slice.ensures c.in-Ok.ensures.opens in
    (found.0, inr (count, head_said c.in-Ok.opened, record { head = found.2; short = found.1; opens = opens }, refl, c.if-opened-gt-MOST_OF_A_BODY.true))

pub returns-in-Err-gather_to-clause-reads : goal.returns-in-Err-gather_to-clause-reads
returns-in-Err-gather_to-clause-reads g c =
    let count = c.in-Ok-Some.count in
    let found = subst (λ (r : Option ℕ). Gathers c.args.kept.now c.gather_head.new.kept (g.S.Source.left c.args.source.now) (g.S.Source.left c.gather_head.new.source) (g.S.Source.faults c.args.source.now) (g.S.Source.faults c.gather_head.new.source) (Ok r)) c.in-Ok-Some.field-0-is c.in-Ok-Some.ensures.gathers in
    let opens = subst (λ (bytes : List ℕ). Opens (take count bytes) (head_said c.in-Ok.opened)) c.as_slice.ensures c.in-Ok.ensures.opens in
    stopped c.in-Err-gather_to.fault _ c.gather_head.new.kept _ _ (g.S.Source.left c.gather_head.new.source) _ _ (g.S.Source.faults c.gather_head.new.source) _ count (head_said c.in-Ok.opened) c.in-Ok-Some.ensures.later found.0 record { head = found.2; short = found.1; opens = opens } c.if-opened-gt-MOST_OF_A_BODY.false c.in-Err-gather_to.ensures.gathers

pub returns-clause-reads : goal.returns-clause-reads
returns-clause-reads g c =
    let count = c.in-Ok-Some.count in
    let k = count + c.in-Ok.opened.length in
    let found = subst (λ (r : Option ℕ). Gathers c.args.kept.now c.gather_head.new.kept (g.S.Source.left c.args.source.now) (g.S.Source.left c.gather_head.new.source) (g.S.Source.faults c.args.source.now) (g.S.Source.faults c.gather_head.new.source) (Ok r)) c.in-Ok-Some.field-0-is c.in-Ok-Some.ensures.gathers in
    let opens = subst (λ (bytes : List ℕ). Opens (take count bytes) (head_said c.in-Ok.opened)) c.as_slice.ensures c.in-Ok.ensures.opens in
    let all = c.in-Ok-gather_to.ensures.gathers in
    let begins = begins_on c.gather_head.new.kept c.gather_to.new.kept (g.S.Source.left c.gather_head.new.source) (g.S.Source.left c.gather_to.new.source) count (head_said c.in-Ok.opened) all.0 record { head = found.2; short = found.1; opens = opens } in
    let both = used_twice _ _ _ _ _ _ found.0 all.0 in (
      take k c.gather_to.new.kept,
      subst (λ (bytes : List ℕ). Uses c.args.kept.now bytes (g.S.Source.left c.args.source.now) (g.S.Source.left c.gather_to.new.source) (take k c.gather_to.new.kept)) (sym c.advance.ensures) (cut_off _ _ _ _ k both),
      is_message c.gather_to.new.kept [] count k (head_said c.in-Ok.opened) c.with_body.result begins c.with_body.ensures.head refl all.1 (c.with_body.ensures.body ∙ c.in-Ok-of.ensures ∙ ap (λ bytes. take (k - count) (drop count bytes)) c.as_slice-2.ensures ∙ body_at count c.in-Ok.opened.length c.gather_to.new.kept) c.if-opened-gt-MOST_OF_A_BODY.false,
    )
