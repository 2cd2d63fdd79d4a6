use Rattle.std.proofs.Common.{◌≤◌, length}
use Rattle.dg_put.specs.inside.Chains.{marks_of, AreFirst, AreNext}
use Rattle.dg_put.proofs.finding.chains_of.Given as goal

abbrev pub invariant-loop-from : goal.invariant-loop-from
invariant-loop-from l = record {
  within : l.from ≤ length l.all;
  begun : AreFirst (marks_of l.all) l.from l.firsts.items;
  linked : AreNext (marks_of l.all) l.from l.nexts.items;
}

abbrev pub decreases-loop-from : goal.decreases-loop-from
decreases-loop-from l = l.from
