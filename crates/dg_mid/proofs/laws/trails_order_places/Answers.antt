use Rattle.dg_mid.proofs.Standing.{all_trailed}
use Rattle.dg_mid.proofs.laws.trails_order_places.Goals as goal

pub returns : goal.returns
returns c s typed k = all_trailed s typed k
