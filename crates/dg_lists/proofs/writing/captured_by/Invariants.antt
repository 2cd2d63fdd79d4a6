use Rattle.std.proofs.Common.{ℕ, ◌-◌, ◌≤◌}
use Rattle.dg_meaning.specs.Values.{Values}
use Rattle.dg_unify.specs.Store.{count_of, IsClosureAt}
use Rattle.dg_lists.proofs.writing.captured_by.Given as goal

abbrev pub invariant-values : goal.invariant-values
invariant-values g l = (place : ℕ) (parts : Values) → IsClosureAt (g.B.Bindings.meaning l.store) l.closure place parts → l.count ≤ count_of parts

abbrev pub decreases-values : goal.decreases-values
decreases-values g l = 65536 - l.count
