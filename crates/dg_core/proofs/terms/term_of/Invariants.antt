use Rattle.std.proofs.Common.{◌≡◌, ◌∷◌, [], ◌++◌}
use Rattle.dg_base.specs.TreeView.{value_view}
use Rattle.dg_core.specs.Bodies.{direct, in_value}
use Rattle.dg_core.specs.Goals as spec
use Rattle.dg_core.specs.inside.Making.{bodies_view, terms_behind, terms_weight}
use Rattle.dg_core.specs.inside.View.{scope_view, scope_behind, terms_made}
use Rattle.dg_core.proofs.terms.term_of.Given as goal

abbrev pub invariant-loop-work : goal.invariant-loop-work
invariant-loop-work l = terms_behind (scope_view l.scope) l.left (terms_made l.terms l.found) ≡ record {
  terms = spec.term_of (scope_behind l.scope l.initial.found) (value_view l.value) ∷ [];
  found = bodies_view l.initial.found ++ direct (in_value (value_view l.value));
}

abbrev pub decreases-loop-work : goal.decreases-loop-work
decreases-loop-work l = terms_weight l.left
