use Rattle.std.proofs.Common.{◌≡◌}
use Rattle.z_model.specs.Tables.{scanned}
use Rattle.z_full.proofs.tables.find.Given as goal

abbrev pub invariant-loop-more : goal.invariant-loop-more
invariant-loop-more g l = scanned (g.B.Bytes.memory l.mem) l.x l.f l.n l.t ≡ scanned (g.B.Bytes.memory l.mem) l.x l.f l.more l.at

abbrev pub decreases-loop-more : goal.decreases-loop-more
decreases-loop-more g l = l.more
