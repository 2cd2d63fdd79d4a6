use Rattle.std.proofs.Common.{ℕ, ◌+◌, List, Bool, length}
use Rattle.dg_base.specs.declared.program.Pred.{Pred}
use Rattle.dg_quiet.specs.inside.Spread.{rows_of, IsSpread, count_in}
use Rattle.dg_quiet.proofs.set.Sieve.follow.Given as goal

abbrev pub invariant-loop-pred : goal.invariant-loop-pred
invariant-loop-pred l = (preds : List Pred) (changing : ℕ → Bool) →
    IsSpread preds changing (rows_of l.askers) l.initial.self.set.items l.initial.self.left.items → IsSpread preds changing (rows_of l.askers) l.self.set.items l.self.left.items

abbrev pub decreases-loop-pred : goal.decreases-loop-pred
decreases-loop-pred l = count_in l.self.set.items + length l.self.left.items
