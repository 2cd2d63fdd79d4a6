use Rattle.std.proofs.Common.{◌≡◌}
use Rattle.z_model.specs.Objects.{link_to}
use Rattle.z_full.proofs.objects.link_to.Given as goal

abbrev pub invariant-loop-more : goal.invariant-loop-more
invariant-loop-more g l = link_to (g.B.Bytes.memory l.mem) l.objects l.a 65536 l.from ≡ link_to (g.B.Bytes.memory l.mem) l.objects l.a l.more l.place

abbrev pub decreases-loop-more : goal.decreases-loop-more
decreases-loop-more g l = l.more
