use Rattle.std.proofs.Common.{take, true}
use Rattle.dg_quiet.specs.inside.Spread.{rows_of, AddedTo}
use Rattle.dg_quiet.proofs.set.add_asker.Given as goal

abbrev pub invariant-loop-asked : goal.invariant-loop-asked
invariant-loop-asked l = AddedTo (rows_of l.initial.askers.items) l.pred (take l.asked-index l.asks) true (rows_of l.askers.items)
