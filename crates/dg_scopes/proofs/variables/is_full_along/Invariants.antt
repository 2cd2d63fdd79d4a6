use Rattle.std.proofs.Common.{◌≡◌, [], drop}
use Rattle.dg_base.specs.Walk.{seen}
use Rattle.dg_scopes.specs.Scopes.{passes}
use Rattle.dg_scopes.specs.State.{scope_view, stack_of, total_in}
use Rattle.dg_scopes.proofs.variables.is_full_along.Given as goal

abbrev pub invariant-loop-mention : goal.invariant-loop-mention
invariant-loop-mention l = passes (total_in l.totals) (seen (drop l.mention-index l.mentions)) (scope_view l.scopes.inner.items) (stack_of l.scopes.outer.items) ≡ passes (total_in l.totals) (seen l.mentions) [] []
