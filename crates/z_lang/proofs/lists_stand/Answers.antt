use Rattle.z_lang.proofs.Lists.{list_stands}
use Rattle.z_lang.proofs.lists_stand.Goals as goal

pub returns : goal.returns
returns c = λ given names rs story. list_stands given names rs story
