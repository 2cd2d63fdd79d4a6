use Rattle.z_list.proofs.OneStory.{one_story}
use Rattle.z_list.proofs.listings_have_one_story.Goals as goal

pub returns : goal.returns
returns c = one_story
