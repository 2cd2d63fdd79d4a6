use Rattle.dg_mid.proofs.Heights.{all_ordered}
use Rattle.dg_mid.proofs.laws.heights_order_places.Goals as goal

pub returns : goal.returns
returns c s typed k = all_ordered s typed k
