use Rattle.dg_story.proofs.Fitting.{has_story}
use Rattle.dg_story.proofs.laws.programs_have_stories.Goals as goal

pub returns : goal.returns
returns c = λ program code written. has_story c.stories_fit.ensures c.codes_suit.ensures c.routines_fit.ensures program code written
