use Rattle.std.proofs.Common.{length, take, ◌-◌, ◌≤◌}
use Rattle.dg_watch.specs.Told.{took}
use Rattle.dg_watch.specs.Watching.{Given}
use Rattle.dg_watch.proofs.handing.hand_over.Given as goal

abbrev pub invariant-loop-at : goal.invariant-loop-at
invariant-loop-at g l = record {
  within : l.at ≤ length l.bytes;
  given : Given g.A.Showing.watching (l.initial.showing, l.initial.sink) (l.showing, l.sink) (took (take l.at l.bytes));
}

abbrev pub decreases-loop-at : goal.decreases-loop-at
decreases-loop-at g l = length l.bytes - l.at
