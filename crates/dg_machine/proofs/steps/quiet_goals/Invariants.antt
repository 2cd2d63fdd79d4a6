use Rattle.std.proofs.Common.{◌≡◌, ◌<◌, ◌≤◌, ◌-◌, true}
use Rattle.dg_base.specs.Streams.{SourceView}
use Rattle.dg_base.specs.Written.{SinkView}
use Rattle.dg_spacing.specs.declared.spacer.Spacer.{Spacer}
use Rattle.dg_machine.specs.inside.Running.{rests, IsQuick, Takes, IsSomewhereStill}
use Rattle.dg_lasting.specs.Resting.{extent_of}
use Rattle.dg_machine.proofs.steps.quiet_goals.Given as goal

abbrev pub invariant-goals : goal.invariant-goals
invariant-goals l = record {
  takes : (s : Spacer) (k : SinkView) (i : SourceView) →
      Takes l.tables l.code (l.steps - l.left) l.fn.memory l.fn.lasting l.initial.now s k i l.memory l.lasting l.now s k i ×
      (IsSomewhereStill l.tables l.code l.fn.memory l.fn.lasting l.initial.now i → IsSomewhereStill l.tables l.code l.memory l.lasting l.now i);
  some : (s : Spacer) × (k : SinkView) × (i : SourceView) × IsSomewhereStill l.tables l.code l.memory l.lasting l.now i;
  sites : l.lasting.sites ≡ l.fn.lasting.sites;
  extent : extent_of l.lasting ≡ extent_of l.fn.lasting;
  rests : rests l.now ≡ true;
  quick : IsQuick l.now;
  more : 0 < l.left;
  within : l.left ≤ l.steps;
}

abbrev pub decreases-goals : goal.decreases-goals
decreases-goals l = l.left
