use Rattle.dg_turn.proofs.ObjectPrinted as objects
use Rattle.dg_turn.proofs.laws.names_spell.Goals as goal

pub returns : goal.returns
returns c = objects.names_spell
