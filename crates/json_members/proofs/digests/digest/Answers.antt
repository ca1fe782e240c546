use Rattle.std.proofs.Common.{ap, ◌∙◌, FoldHasher}
use Rattle.std.specs.Hash.FoldHasher as folding
use Rattle.json_members.specs.Slots.{digest_of}
use Rattle.json_members.proofs.digests.digest.Goals as goal

pub returns : goal.returns
unfolding digest_of
returns c =
    let fed = c.as_bytes.ensures.value ∙ c.as_str.ensures in
    c.finish.ensures ∙ ap (λ (h : FoldHasher). h.state) (c.write.ensures ∙ (λ i. folding.write (c.default-hasher.ensures i) (fed i)))
