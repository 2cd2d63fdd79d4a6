use Rattle.std.proofs.Common.{◌≡◌, ◌≤◌, ◌-◌}
use Rattle.std.specs.Prelude.{replicate}
use Rattle.dg_interp.specs.inside.Engine.{with_all}
use Rattle.dg_watch.specs.declared.watch.CallEvent.TheVariants.{Retried}
use Rattle.dg_interp.proofs.engine.telling.tell_retries.Given as goal

abbrev pub invariant-rules : goal.invariant-rules
invariant-rules l = record { within : l.done ≤ l.count; told : l.told.items ≡ with_all l.initial.told.items (replicate l.done (Retried l.pred)) }

abbrev pub decreases-rules : goal.decreases-rules
decreases-rules l = l.count - l.done
