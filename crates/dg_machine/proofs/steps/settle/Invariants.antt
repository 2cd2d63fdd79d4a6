use Rattle.std.proofs.Common.{◌≡◌}
use Rattle.dg_machine.specs.inside.Running.{Settles, IsSomewhereWith}
use Rattle.dg_machine.specs.inside.Reading.{IsEnd}
use Rattle.dg_machine.specs.Measure.{left_of}
use Rattle.dg_lasting.specs.Resting.{extent_of}
use Rattle.dg_machine.proofs.steps.settle.Given as goal

abbrev pub invariant-marks : goal.invariant-marks
invariant-marks l = record {
  settles : Settles l.tables l.code l.fn.memory l.fn.lasting l.start l.memory l.lasting l.now;
  somewhere : IsSomewhereWith l.tables l.code l.memory l.lasting l.now;
  sites : l.lasting.sites ≡ l.fn.lasting.sites;
  extent : extent_of l.lasting ≡ extent_of l.fn.lasting;
  stays : IsEnd l.start → IsEnd l.now;
}

abbrev pub decreases-marks : goal.decreases-marks
decreases-marks l = left_of l.memory l.now
