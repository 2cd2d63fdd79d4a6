use Rattle.std.proofs.Common.{◌≡◌, drop}
use Rattle.dg_scopes.specs.Scopes.{merged}
use Rattle.dg_scopes.specs.State.{scope_view, total_in}
use Rattle.dg_scopes.proofs.variables.merge.Given as goal

abbrev pub invariant-loop-entry : goal.invariant-loop-entry
invariant-loop-entry l = merged (total_in l.totals) (scope_view l.outer.items) (scope_view (drop l.entry-index l.inner)) ≡ merged (total_in l.totals) (scope_view l.initial.outer.items) (scope_view l.inner)
