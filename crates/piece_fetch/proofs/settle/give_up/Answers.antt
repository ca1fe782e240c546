use Rattle.std.proofs.Common.{◌≡◌, List, ◌∷◌, length, subst, arith}
use Rattle.std.specs.Prelude.{replicate}
use Rattle.cache_book.specs.Permits.{Granted}
use Rattle.cache_book.specs.declared.permit.Report.TheVariants as report
use Rattle.cache_seam.specs.Hand.{IsHand}
use Rattle.cache_seam.proofs.Hands.{hand_after}
use Rattle.piece_fetch.proofs.Settling.{settles_more, settles_all, SettlesOn, length_failed}
use Rattle.piece_fetch.proofs.settle.give_up.Goals as goal

pub settling-preserved : goal.settling-preserved
settling-preserved g c =
    let seen = g.C.Cache.seen in
    let permit = c.in-Some.permit in
    let ps = c.pop_front.new.self.items in
    let all = c.args.permits.items in
    let here : c.settling.permits.items ≡ permit ∷ ps = c.in-Some.ensures.items in
    let on : SettlesOn (seen c.args.cache.now) (seen c.settling.cache) (permit ∷ ps) (replicate (length (permit ∷ ps)) report.Failed) all (replicate (length all) report.Failed) =
    subst (λ (xs : List Granted). SettlesOn (seen c.args.cache.now) (seen c.settling.cache) xs (replicate (length xs) report.Failed) all (replicate (length all) report.Failed)) here c.settling.invariant.done in
    record {
      done = settles_more (seen c.args.cache.now) (seen c.settling.cache) (seen c.settle-settled.new.self) permit report.Failed c.settle-settled.result ps (replicate (length ps) report.Failed) all (replicate (length all) report.Failed) c.settle-settled.ensures on;
      hand = hand_after (seen c.settling.cache) (seen c.settle-settled.new.self) permit report.Failed c.settle-settled.result ps c.settle-settled.ensures (subst (IsHand (seen c.settling.cache)) here c.settling.invariant.hand);
    }

pub returns : goal.returns
returns g c =
    let seen = g.C.Cache.seen in
    let permits = c.settling.permits.items in
    let all = c.args.permits.items in
    let none : length permits ≡ 0 = omega (arith, c.in_default.ensures.cases, c.settling.permits.ok.0) in
    settles_all (seen c.args.cache.now) (seen c.settling.cache) permits (replicate (length permits) report.Failed) all (replicate (length all) report.Failed) none (length_failed (length permits)) c.settling.invariant.done
