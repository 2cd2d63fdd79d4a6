use Rattle.std.proofs.Common.{◌≡◌, ◌+◌, drop}
use Rattle.dg_scopes.specs.Scopes as spec
use Rattle.dg_scopes.specs.State.{scope_view}
use Rattle.dg_scopes.proofs.variables.place_of.Given as goal

abbrev pub invariant-loop-at : goal.invariant-loop-at
invariant-loop-at l = spec.place_of (scope_view (drop l.at l.scope)) l.name + l.at ≡ spec.place_of (scope_view l.scope) l.name
