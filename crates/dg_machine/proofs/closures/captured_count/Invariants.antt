use Rattle.std.proofs.Common.{ℕ, ◌-◌, ◌≤◌, length}
use Rattle.dg_meaning.specs.Values.{Values}
use Rattle.dg_meaning.specs.Copies.{values_of}
use Rattle.dg_unify.specs.Store.{IsClosureAt}
use Rattle.dg_arena.specs.Held.{meaning_of}
use Rattle.dg_machine.proofs.closures.captured_count.Given as goal

abbrev pub invariant-values : goal.invariant-values
invariant-values l = (place : ℕ) (parts : Values) → IsClosureAt (meaning_of l.arena) l.closure place parts → l.count ≤ length (values_of parts)

abbrev pub decreases-values : goal.decreases-values
decreases-values l = 65536 - l.count
