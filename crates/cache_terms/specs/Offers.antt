-- What is offered to the cache, and why it may not be kept.
use Rattle.std.specs.Prelude.{ℕ, ◌+◌, ◌-◌, ◌^◌, min, Bool, true, not, ◌&&◌, ◌==◌, nat_le, if◌then◌else◌, List, [], ◌∷◌, length, Option, Some, None}
use Rattle.cache_terms.specs.declared.tags.Tags.{Tags}
use Rattle.cache_terms.specs.declared.tags.Tags.TheVariants.{Known, Many, Malformed}
use Rattle.cache_terms.specs.Tags.{tags_size}
use Rattle.cache_terms.specs.declared.offers.Offer.{Offer}
use Rattle.cache_terms.specs.declared.offers.Marks.{Marks}
use Rattle.cache_terms.specs.declared.offers.Verdict.{Verdict}
use Rattle.cache_terms.specs.declared.reasons.Why.{Why}
use Rattle.cache_terms.specs.declared.reasons.Why.TheVariants.{Status, Mutation, Uncached, Errors, Absent, NoStore, Stale, Anonymous, TagCount, TagForm}

-- the bytes of the value and of the known tags, or the greatest number where they are more
abbrev pub offer_size : Offer → ℕ
offer_size offer = min (length offer.value + tags_size offer.tags) (2 ^ 64 - 1)

-- the reasons that lie in the tags, each beside whether it holds
abbrev pub tag_reasons : Tags → List (Bool × Why)
tag_reasons (Known tags) = []
tag_reasons (Many count) = (true, TagCount count) ∷ []
tag_reasons Malformed = (true, TagForm) ∷ []

-- the reasons not to keep a piece, each beside whether it holds, the first in rank first
abbrev pub reasons : Marks → Verdict → Tags → Bool → List (Bool × Why)
reasons marks verdict tags named =
    (not (marks.status == 200), Status marks.status)
    ∷ (marks.mutation, Mutation)
    ∷ (marks.uncached, Uncached)
    ∷ (marks.errors, Errors)
    ∷ (marks.absent, Absent)
    ∷ (verdict.no_store, NoStore)
    ∷ (nat_le verdict.lifetime verdict.age, Stale verdict.lifetime verdict.age)
    ∷ (verdict.private && not named, Anonymous)
    ∷ tag_reasons tags

-- the first that holds
abbrev pub first_reason : List (Bool × Why) → Option Why
first_reason [] = None
first_reason (reason ∷ rest) = if reason.0 then Some reason.1 else first_reason rest

-- the first reason not to keep a piece
abbrev pub why_of : Marks → Verdict → Tags → Bool → Option Why
why_of marks verdict tags named = first_reason (reasons marks verdict tags named)
