use Rattle.std.proofs.Common.{ℕ, ◌-◌, take}
use Rattle.dg_meaning.specs.Values.{Values}
use Rattle.dg_meaning.specs.Copies.{values_of}
use Rattle.dg_unify.specs.Store.{IsClosureAt}
use Rattle.dg_terms.specs.Terms.{Appended}
use Rattle.dg_interp.proofs.bodies.put_captured.Given as goal

abbrev pub invariant-values : goal.invariant-values
invariant-values g l = (place : ℕ) (parts : Values) → IsClosureAt (g.B.Bindings.meaning l.store) l.closure place parts → Appended (g.B.Bindings.meaning l.store) (take l.at (values_of parts)) l.fn.to.items l.to.items

abbrev pub decreases-values : goal.decreases-values
decreases-values g l = 65536 - l.at
