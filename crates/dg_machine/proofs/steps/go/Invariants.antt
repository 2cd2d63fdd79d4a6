use Rattle.std.proofs.Common.{◌≡◌, true, ◌≤◌, ◌-◌}
use Rattle.dg_lasting.specs.Lasting.{MayPick, picks_in}
use Rattle.dg_machine.specs.inside.Running.{Takes, IsSomewhereStill, rests}
use Rattle.dg_lasting.specs.Resting.{extent_of}
use Rattle.dg_machine.proofs.steps.go.Given as goal

abbrev pub invariant-goals : goal.invariant-goals
invariant-goals g l = record {
  takes : Takes l.tables l.code (l.steps - l.left) l.fn.memory l.fn.lasting l.start l.fn.spacer (g.K.Sink.view l.fn.sink) (g.S.Source.view l.fn.source) l.memory l.lasting l.now l.spacer (g.K.Sink.view l.sink) (g.S.Source.view l.source);
  somewhere : IsSomewhereStill l.tables l.code l.memory l.lasting l.now (g.S.Source.view l.source);
  may : MayPick l.left (picks_in l.lasting);
  extent : extent_of l.lasting ≡ extent_of l.fn.lasting;
  rests : rests l.now ≡ true;
  within : l.left ≤ l.steps;
}

abbrev pub decreases-goals : goal.decreases-goals
decreases-goals g l = l.left
