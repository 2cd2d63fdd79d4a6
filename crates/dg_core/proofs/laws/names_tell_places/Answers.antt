use Rattle.dg_core.proofs.HeadLemmas.{name_places}
use Rattle.dg_core.proofs.laws.names_tell_places.Goals as goal

pub returns : goal.returns
returns c = name_places
