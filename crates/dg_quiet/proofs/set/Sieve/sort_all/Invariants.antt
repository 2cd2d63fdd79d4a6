use Rattle.dg_meaning.specs.Sets.{is_in_set}
use Rattle.dg_quiet.specs.inside.Spread.{rows_of, IsSorted}
use Rattle.dg_quiet.proofs.set.Sieve.sort_all.Given as goal

abbrev pub invariant-loop-number : goal.invariant-loop-number
invariant-loop-number l =
    IsSorted l.preds (is_in_set l.changing) (rows_of l.initial.askers.items) l.initial.self.set.items l.initial.self.left.items 0 →
    IsSorted l.preds (is_in_set l.changing) (rows_of l.askers.items) l.self.set.items l.self.left.items l.number
