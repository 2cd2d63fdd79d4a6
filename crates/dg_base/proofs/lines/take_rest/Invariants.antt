use Rattle.std.proofs.Common.{◌≡◌, ◌≤◌, length}
use Rattle.dg_base.proofs.LineLemmas.{Reading}
use Rattle.dg_base.proofs.lines.take_rest.Given as goal

abbrev pub invariant-loop-failed : goal.invariant-loop-failed
invariant-loop-failed g l = record {
  within : l.kept ≤ length l.line;
  steady : (g.S.Source.view l.source).faults ≡ (g.S.Source.view l.initial.source).faults;
  reading : Reading l.first l.line l.kept l.held l.room (g.S.Source.view l.initial.source).left (g.S.Source.view l.source).left;
}

abbrev pub decreases-loop-failed : goal.decreases-loop-failed
decreases-loop-failed g l = l.room
