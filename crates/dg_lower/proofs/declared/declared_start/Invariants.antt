use Rattle.std.proofs.Common.{◌≡◌, drop}
use Rattle.dg_names.specs.State.{names_view}
use Rattle.dg_core.specs.inside.View.{places_view, outer_in}
use Rattle.dg_lower.specs.Starts as spec
use Rattle.dg_lower.specs.inside.View.{heads_view}
use Rattle.dg_lower.proofs.declared.declared_start.Given as goal

abbrev pub invariant-loop-head : goal.invariant-loop-head
invariant-loop-head l =
    let around = outer_in (names_view l.names) (places_view l.places).names in
    spec.declared_start around l.name (heads_view (drop l.head-index l.heads)) ≡ spec.declared_start around l.name (heads_view l.heads)
