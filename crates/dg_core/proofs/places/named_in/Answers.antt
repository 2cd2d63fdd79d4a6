use Rattle.std.proofs.Common.{map, ap}
use Rattle.dg_core.proofs.places.named_in.Goals as goal

pub add_places-requires : goal.add_places-requires
add_places-requires c = ap (map (λ n. n.items)) c.new-names.ensures.empty
