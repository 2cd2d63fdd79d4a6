use Rattle.dg_chain.proofs.Telling as telling
use Rattle.dg_chain.proofs.laws.stories_fit.Goals as goal

pub returns : goal.returns
returns c = λ searched costs looks moves heights never g code typed codes tidy w at steps z starts.
    telling.stories_fit searched costs looks moves heights never g code typed codes tidy w at steps z starts
