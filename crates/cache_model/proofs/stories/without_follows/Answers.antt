use Rattle.cache_model.proofs.StoryLaws as laws
use Rattle.cache_model.proofs.stories.without_follows.Goals as goal

pub returns : goal.returns
returns c = laws.without_follows
