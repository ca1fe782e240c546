use Rattle.cache_model.proofs.StoryLaws as laws
use Rattle.cache_model.proofs.stories.without_trans.Goals as goal

pub returns : goal.returns
returns c = laws.without_trans
