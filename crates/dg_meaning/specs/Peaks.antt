-- The counts that have a limit. Hold it against the Dialog manual, chapter "Beyond the program", on memory: heap, auxiliary and long-term areas.
use Rattle.std.specs.Prelude.{ℕ, ◌≤◌, List}
use Rattle.dg_base.specs.declared.run.Ending.{Ending}
use Rattle.dg_base.specs.declared.run.Ending.TheVariants.{HeapLimit, TrailLimit, AuxLimit, KeepLimit}
use Rattle.dg_base.specs.declared.run.Limits.{Limits}
use Rattle.dg_meaning.specs.World.{Game, Meters}
use Rattle.dg_meaning.specs.Transcript.{run}

-- What has a limit of its own: cells of values and frames, bindings to be undone, values being gathered, and values of global variables.
pub data Area : Type 0 where
  Heap : Area
  Trail : Area
  Aux : Area
  Keep : Area

-- The greatest count in an area.
abbrev pub greatest : Area → Meters → ℕ
greatest Heap m = m.heap
greatest Trail m = m.trail
greatest Aux m = m.aux
greatest Keep m = m.keep

-- The limit of an area.
abbrev pub limit_of : Area → Limits → ℕ
limit_of Heap l = l.heap
limit_of Trail l = l.trail
limit_of Aux l = l.aux
limit_of Keep l = l.keep

-- The ending of a run that met the limit of an area.
abbrev pub limit_ending : Area → Ending
limit_ending Heap = HeapLimit
limit_ending Trail = TrailLimit
limit_ending Aux = AuxLimit
limit_ending Keep = KeepLimit

-- The greatest count that the run with a budget of n goals reaches in an area.
abbrev pub peak : Area → Game → List ℕ → ℕ → ℕ
peak area g typed n = greatest area (run g typed n).world.meters

-- All peaks of the run with a budget of n goals are within the limits.
abbrev pub IsWithin : Limits → Game → List ℕ → ℕ → Type 0
IsWithin limits g typed n = (area : Area) → peak area g typed n ≤ limit_of area limits
