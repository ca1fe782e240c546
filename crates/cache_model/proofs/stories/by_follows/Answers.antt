use Rattle.cache_model.proofs.StoryLaws as laws
use Rattle.cache_model.proofs.stories.by_follows.Goals as goal

pub returns : goal.returns
returns c = laws.by_follows
