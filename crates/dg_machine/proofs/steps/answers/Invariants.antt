use Rattle.std.proofs.Common.{◌≡◌, ◌≤◌, false}
use Rattle.dg_lasting.specs.declared.lasting.Lasting.{Lasting}
use Rattle.dg_machine.specs.inside.Running.{rests, IsQuick, Settles, IsSomewhereWith}
use Rattle.dg_machine.specs.Measure.{left_of}
use Rattle.dg_machine.proofs.steps.answers.Given as goal

abbrev pub invariant-answers : goal.invariant-answers
invariant-answers l = record {
  settles : (out : Lasting) → Settles l.tables l.code l.fn.memory out l.initial.now l.memory out l.now;
  somewhere : (out : Lasting) × IsSomewhereWith l.tables l.code l.memory out l.now;
  mark : rests l.now ≡ false;
  quick : IsQuick l.now;
  falls : left_of l.memory l.now ≤ left_of l.fn.memory l.initial.now;
}

abbrev pub decreases-answers : goal.decreases-answers
decreases-answers l = left_of l.memory l.now
