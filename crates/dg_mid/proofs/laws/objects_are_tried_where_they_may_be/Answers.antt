use Rattle.dg_mid.proofs.Seeks.{all_seek}
use Rattle.dg_mid.proofs.laws.objects_are_tried_where_they_may_be.Goals as goal

pub returns : goal.returns
returns c s leave typed k = all_seek s leave typed k
