use Rattle.dg_fits.proofs.Small.{story_fits}
use Rattle.dg_fits.proofs.laws.stories_fit.Goals as goal

pub returns : goal.returns
returns c = story_fits
