use Rattle.std.proofs.Common.{◌≡◌, ◌++◌, drop}
use Rattle.dg_core.specs.Goals as spec
use Rattle.dg_core.specs.inside.Making.{bodies_view}
use Rattle.dg_core.specs.inside.View.{scope_behind, directs, values_view}
use Rattle.dg_core.proofs.terms.terms_of_values.Given as goal

abbrev pub invariant-loop-value : goal.invariant-loop-value
invariant-loop-value l =
    (l.terms ++ spec.terms_of_values (scope_behind l.scope l.found) (values_view (drop l.value-index l.values)) ≡ spec.terms_of_values (scope_behind l.scope l.initial.found) (values_view l.values)) ×
    (bodies_view l.found ++ directs (values_view (drop l.value-index l.values)) ≡ bodies_view l.initial.found ++ directs (values_view l.values))
