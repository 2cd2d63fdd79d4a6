use Rattle.dg_meaning.proofs.Trace.{erases}
use Rattle.dg_meaning.proofs.traces_erase_to_texts.Goals as goal

pub returns : goal.returns
returns c = erases
