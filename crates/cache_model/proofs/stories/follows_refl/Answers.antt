use Rattle.cache_model.proofs.StoryLaws as laws
use Rattle.cache_model.proofs.stories.follows_refl.Goals as goal

pub returns : goal.returns
returns c = laws.follows_refl
