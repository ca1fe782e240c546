use Rattle.cache_model.proofs.StoryLaws as laws
use Rattle.cache_model.proofs.stories.follows_trans.Goals as goal

pub returns : goal.returns
returns c = laws.follows_trans
