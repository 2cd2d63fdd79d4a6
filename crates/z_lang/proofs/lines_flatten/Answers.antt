use Rattle.z_lang.proofs.Constructs.{flattens}
use Rattle.z_lang.proofs.lines_flatten.Goals as goal

pub returns : goal.returns
returns c = λ n around first other more t. flattens n around first other more t
