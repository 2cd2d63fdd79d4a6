use Rattle.z_story.proofs.Playing.{story_does}
use Rattle.z_story.proofs.routines_do.Goals as goal

pub returns : goal.returns
returns c = λ parts story is assembled. story_does c.lists_stand.ensures c.routines_follow.ensures parts story is assembled
