use Rattle.std.proofs.Common.{◌≡◌, List, ◌∷◌, length, All, refl, sym, subst, arith}
use Rattle.std.proofs.lemmas.List.Elements.{All-head, All-tail}
use Rattle.cache_seam.specs.declared.foreign.Foreign.{Foreign}
use Rattle.cache_seam.specs.Meddling.{IsFitting, Meddles}
use Rattle.cache_seam.proofs.Amid.{nothing_left}
use Rattle.cache_seam.proofs.foreign.meddle.Goals as goal

pub act-requires : goal.act-requires
act-requires c =
    let here : c.meddling.steps.items ≡ c.in-Some.foreign ∷ c.pop_front.new.self.items = c.in-Some.ensures.items in
    All-head IsFitting c.in-Some.foreign c.pop_front.new.self.items (subst (All IsFitting) here c.meddling.invariant.fits)

pub meddling-preserved : goal.meddling-preserved
meddling-preserved c =
    let here : c.meddling.steps.items ≡ c.in-Some.foreign ∷ c.pop_front.new.self.items = c.in-Some.ensures.items in
    record {
      done = λ s p h. c.meddling.invariant.done s p (subst (λ (xs : List Foreign). Meddles xs c.meddling.pass c.meddling.book s p) (sym here) (c.act.new.book, c.act.new.pass, c.act.ensures, h));
      fits = All-tail IsFitting c.in-Some.foreign c.pop_front.new.self.items (subst (All IsFitting) here c.meddling.invariant.fits);
    }

pub returns : goal.returns
returns c =
    let none : length c.meddling.steps.items ≡ 0 = omega (arith, c.in_default.ensures.cases, c.meddling.steps.ok.0) in
    c.meddling.invariant.done c.meddling.book c.meddling.pass (subst (λ (xs : List Foreign). Meddles xs c.meddling.pass c.meddling.book c.meddling.book c.meddling.pass) (sym (nothing_left c.meddling.steps.items none)) (refl, refl))
