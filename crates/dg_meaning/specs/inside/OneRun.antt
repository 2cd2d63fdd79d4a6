-- That all runs of a game are cuts of one run. Hold it against the Dialog manual, chapter "Output": what was printed is never taken back.
use Rattle.std.specs.Prelude.{ℕ, ◌+◌, ◌≡◌, ◌≢◌, ◌≤◌}
use Rattle.dg_base.specs.Begins.{Begins, EndsWith}
use Rattle.dg_base.specs.declared.run.Ending.TheVariants.{StepLimit}
use Rattle.dg_meaning.specs.World.{World, Meters}
use Rattle.dg_meaning.specs.Transcript.{Run}

-- No meter falls.
pub record MetersGrow (old new : Meters) : Type 0 where
  pub heap : old.heap ≤ new.heap
  pub trail : old.trail ≤ new.trail
  pub aux : old.aux ≤ new.aux
  pub keep : old.keep ≤ new.keep
  pub work : old.work ≤ new.work

-- A world comes later than another: events are only added, meters don't fall, and typed bytes and dice words are only taken.
pub record Grows (old new : World) : Type 0 where
  pub events : Begins old.events new.events
  pub meters : MetersGrow old.meters new.meters
  pub typed : EndsWith old.typed new.typed
  pub dice : old.dice ≤ new.dice

-- The run with the larger budget goes on as the one with the smaller began, and is the same run where that one didn't end at its budget.
pub record GoesOnFrom (shorter longer : Run) (more : ℕ) : Type 0 where
  pub grows : Grows shorter.world longer.world
  pub same : shorter.ending ≢ StepLimit → longer ≡ record shorter { left = shorter.left + more }
