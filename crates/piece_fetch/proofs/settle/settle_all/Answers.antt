use Rattle.std.proofs.Common.{◌≡◌, List, ◌∷◌, length, ap, subst, arith}
use Rattle.std.proofs.lemmas.List.Elements.{All-rest}
use Rattle.cache_book.specs.Permits.{Granted}
use Rattle.cache_book.specs.declared.permit.Report.{Report}
use Rattle.cache_book.specs.Settling.{IsInRange}
use Rattle.cache_seam.specs.Objects.{OffersObject}
use Rattle.cache_seam.specs.Hand.{IsHand}
use Rattle.cache_seam.proofs.Hands.{hand_after}
use Rattle.piece_fetch.proofs.Settling.{settles_more, settles_all, SettlesOn}
use Rattle.piece_fetch.proofs.settle.settle_all.Goals as goal

pub settling-preserved : goal.settling-preserved
settling-preserved g c =
    let seen = g.C.Cache.seen in
    let permit = c.in-Some.permit in
    let report = c.in-Some-pop_front.report in
    let ps = c.pop_front.new.self.items in
    let rs = c.pop_front-in-Some.new.self.items in
    let here : c.settling.permits.items ≡ permit ∷ ps = c.in-Some.ensures.items in
    let one : c.settling.reports.items ≡ report ∷ rs = c.in-Some-pop_front.ensures.items in
    let on : SettlesOn (seen c.args.cache.now) (seen c.settling.cache) (permit ∷ ps) (report ∷ rs) c.args.permits.items c.args.reports.items =
    subst (λ (xs : List Granted). SettlesOn (seen c.args.cache.now) (seen c.settling.cache) xs (report ∷ rs) c.args.permits.items c.args.reports.items) here
    (subst (λ (ys : List Report). SettlesOn (seen c.args.cache.now) (seen c.settling.cache) c.settling.permits.items ys c.args.permits.items c.args.reports.items) one c.settling.invariant.done) in
    record {
      done = settles_more (seen c.args.cache.now) (seen c.settling.cache) (seen c.settle-settled.new.self) permit report c.settle-settled.result ps rs c.args.permits.items c.args.reports.items c.settle-settled.ensures on;
      hand = hand_after (seen c.settling.cache) (seen c.settle-settled.new.self) permit report c.settle-settled.result ps c.settle-settled.ensures (subst (IsHand (seen c.settling.cache)) here c.settling.invariant.hand);
      same = omega (arith, ap length here, ap length one, c.settling.invariant.same);
      range = All-rest IsInRange report rs c.settling.reports.items one c.settling.invariant.range;
      objects = All-rest OffersObject report rs c.settling.reports.items one c.settling.invariant.objects;
    }

pub returns : goal.returns
returns g c =
    let seen = g.C.Cache.seen in
    let none : length c.settling.permits.items ≡ 0 = omega (arith, c.in_default.ensures.cases, c.settling.permits.ok.0) in
    settles_all (seen c.args.cache.now) (seen c.settling.cache) c.settling.permits.items c.settling.reports.items c.args.permits.items c.args.reports.items none c.settling.invariant.same c.settling.invariant.done
