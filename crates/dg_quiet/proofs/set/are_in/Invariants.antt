use Rattle.std.proofs.Common.{◌≡◌, drop}
use Rattle.dg_quiet.specs.inside.Left.{asks_in}
use Rattle.dg_quiet.proofs.set.are_in.Given as goal

abbrev pub invariant-loop-pred : goal.invariant-loop-pred
invariant-loop-pred l = asks_in l.set (drop l.pred-index l.preds) ≡ asks_in l.set l.preds
