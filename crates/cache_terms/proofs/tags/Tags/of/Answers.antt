use Rattle.std.proofs.Common.{◌≡◌, sym, subst, arith, true}
use Rattle.std.proofs.lemmas.Grind.{common_steps}
use Rattle.std.specs.List.{list_all}
use Rattle.cache_terms.specs.TagRules.{AreApart, serves}
use Rattle.cache_terms.proofs.Doubles.{AreApart-distinct}
use Rattle.cache_terms.proofs.tags.Tags.of.Goals as goal

pub from_vec-requires : goal.from_vec-requires
from_vec-requires c =
    let serving : list_all serves c.args.texts.items ≡ true = grind (arith, common_steps) in
    let apart : AreApart c.in_ok-tags.tags.items = subst AreApart (sym c.in_ok-tags.ensures) (AreApart-distinct c.args.texts.items serving) in
    (grind (arith, common_steps), apart)
