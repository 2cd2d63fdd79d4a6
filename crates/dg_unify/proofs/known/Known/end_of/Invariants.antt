use Rattle.dg_unify.specs.Store.{Store, Holds}
use Rattle.dg_unify.specs.inside.Known.{IsEqual, AreEqual}
use Rattle.dg_unify.proofs.known.Known.end_of.Given as goal

abbrev pub invariant-steps : goal.invariant-steps
invariant-steps l = (s : Store) → AreEqual s l.fn.self → Holds s l.fn.at → IsEqual s l.fn.at l.end
