use Rattle.dg_single.proofs.SetLemmas.{Sieving}
use Rattle.dg_single.proofs.set.sieve.Given as goal

abbrev pub invariant-loop-at : goal.invariant-loop-at
invariant-loop-at l = Sieving l.preds l.initial.set.items l.set.items l.at l.changed
