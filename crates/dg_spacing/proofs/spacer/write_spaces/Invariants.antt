use Rattle.std.proofs.Common.{◌≤◌, ◌-◌, replicate}
use Rattle.dg_base.specs.Written.{Wrote}
use Rattle.dg_spacing.proofs.spacer.write_spaces.Given as goal

abbrev pub invariant-loop-written : goal.invariant-loop-written
invariant-loop-written g l = record { within : l.written ≤ l.count; wrote : Wrote (g.K.Sink.view l.initial.sink) (g.K.Sink.view l.sink) (replicate l.written 32) }

abbrev pub decreases-loop-written : goal.decreases-loop-written
decreases-loop-written g l = l.count - l.written
