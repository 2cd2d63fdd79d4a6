use Rattle.std.proofs.Common.{◌≡◌}
use Rattle.z_model.specs.Properties.{property_from}
use Rattle.z_full.proofs.properties.find.Given as goal

abbrev pub invariant-loop-more : goal.invariant-loop-more
invariant-loop-more g l = property_from (g.B.Bytes.memory l.mem) l.number 65 64 l.first ≡ property_from (g.B.Bytes.memory l.mem) l.number l.more l.limit l.place

abbrev pub decreases-loop-more : goal.decreases-loop-more
decreases-loop-more g l = l.more
