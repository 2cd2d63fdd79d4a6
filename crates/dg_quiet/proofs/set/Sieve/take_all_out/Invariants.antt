use Rattle.std.proofs.Common.{take}
use Rattle.dg_quiet.specs.inside.Spread.{TookAllOut}
use Rattle.dg_quiet.proofs.set.Sieve.take_all_out.Given as goal

abbrev pub invariant-loop-pred : goal.invariant-loop-pred
invariant-loop-pred l = TookAllOut l.initial.self.set.items l.initial.self.left.items (take l.pred-index l.preds) l.self.set.items l.self.left.items
