use Rattle.std.proofs.Common.{length, take, ◌-◌, ◌≤◌}
use Rattle.dg_base.specs.Written.{Wrote}
use Rattle.dg_base.proofs.writing.write_all.Given as goal

abbrev pub invariant-loop-at : goal.invariant-loop-at
invariant-loop-at g l = record {
  within : l.at ≤ length l.text;
  wrote : Wrote (g.K.Sink.view l.initial.sink) (g.K.Sink.view l.sink) (take l.at l.text);
}

abbrev pub decreases-loop-at : goal.decreases-loop-at
decreases-loop-at g l = length l.text - l.at
