-- How long a piece lasts that was fetched.
use Rattle.std.specs.Prelude.{◌*◌, ◌-◌, Bool, Option, Some, None}
use Rattle.cache_terms.specs.declared.offers.Offer.{Offer}
use Rattle.cache_terms.specs.declared.offers.Verdict.{Verdict}
use Rattle.cache_terms.specs.declared.reasons.Why.{Why}
use Rattle.cache_terms.specs.Offers.{why_of}
use Rattle.piece_fetch.specs.declared.fetched.Lasts.{Lasts}

-- where there is no reason not to keep it, the seconds by which its lifetime is greater than its age, in milliseconds
-- (RFC 9111, section 4.2)
abbrev pub lasts_by : Option Why → Verdict → Option Lasts
lasts_by (Some why) verdict = None
lasts_by None verdict = Some (record { left_ms = 1000 * (verdict.lifetime - verdict.age); private = verdict.private })

-- how long what is offered lasts; named says whether its caller has an id
abbrev pub lasts_of : Offer → Bool → Option Lasts
lasts_of offer named = lasts_by (why_of offer.marks offer.verdict offer.tags named) offer.verdict
