use Rattle.std.proofs.Common.{◌≡◌, ◌≤◌, ◌∙◌, ap, sym, subst, arith}
use Rattle.std.specs.Option.{option_copied}
use Rattle.cache_terms.specs.declared.offers.Offer.{Offer}
use Rattle.cache_terms.specs.declared.offers.Verdict.{Verdict}
use Rattle.cache_control.specs.Rules.{IsVerdict}
use Rattle.rehearsal.specs.Acts.{offered}
use Rattle.rehearsal.proofs.offers.replied.Goals as goal

pub returns-clause-verdict : goal.returns-clause-verdict
returns-clause-verdict c =
    subst (λ (v : Verdict). IsVerdict (option_copied c.args.cache_control) (option_copied c.args.age) v)
    (sym (ap (λ (o : Offer). o.verdict) c.offered.ensures)) c.verdict.ensures.verdict

pub returns-clause-offer : goal.returns-clause-offer
returns-clause-offer c =
    let same : c.offered.result.verdict ≡ c.verdict.result = ap (λ (o : Offer). o.verdict) c.offered.ensures in
    c.offered.ensures ∙ sym (ap (λ (v : Verdict). offered c.args.status v c.args.tags c.args.value) same)

pub returns-clause-lifetime : goal.returns-clause-lifetime
returns-clause-lifetime c =
    let same : c.offered.result.verdict.lifetime ≡ c.verdict.result.lifetime = ap (λ (o : Offer). o.verdict.lifetime) c.offered.ensures in
    let within : c.verdict.result.lifetime ≤ 2147483648 = c.verdict.ensures.lifetime in
    omega (arith, same, within)

pub returns-clause-age : goal.returns-clause-age
returns-clause-age c =
    let same : c.offered.result.verdict.age ≡ c.verdict.result.age = ap (λ (o : Offer). o.verdict.age) c.offered.ensures in
    let within : c.verdict.result.age ≤ 2147483648 = c.verdict.ensures.age in
    omega (arith, same, within)
