use Rattle.std.proofs.Common.{ℕ, ◌-◌}
use Rattle.dg_meaning.specs.Values.{Values}
use Rattle.dg_unify.specs.Store.{IsClosureAt}
use Rattle.dg_unify.proofs.Tops.{ManyTo}
use Rattle.dg_unify.proofs.unifying.same_count.Given as goal

abbrev pub invariant-values : goal.invariant-values
invariant-values g l = record {
  same : (p q : ℕ) (vs us : Values) → IsClosureAt (g.B.Bindings.meaning l.store) l.c p vs → IsClosureAt (g.B.Bindings.meaning l.store) l.d q us → ManyTo l.at vs us;
}

abbrev pub decreases-values : goal.decreases-values
decreases-values g l = 65536 - l.at
