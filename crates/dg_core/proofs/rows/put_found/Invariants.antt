use Rattle.std.proofs.Common.{◌≡◌, ◌++◌, map, length}
use Rattle.dg_scopes.specs.inside.View.{layout_view}
use Rattle.dg_names.specs.State.{seen}
use Rattle.dg_core.specs.inside.Making.{bodies_view}
use Rattle.dg_core.specs.inside.Waiting.{stack_of, waiting_from}
use Rattle.dg_core.proofs.rows.put_found.Given as goal

abbrev pub invariant-loop-body : goal.invariant-loop-body
invariant-loop-body l =
    waiting_from (map layout_view l.layouts) (seen l.variables) l.places 0 (bodies_view l.found) ++ stack_of l.left
    ≡ waiting_from (map layout_view l.layouts) (seen l.variables) l.places 0 (bodies_view l.initial.found) ++ stack_of l.initial.left

abbrev pub decreases-loop-body : goal.decreases-loop-body
decreases-loop-body l = length l.found
