use Rattle.std.proofs.Common.{map}
use Rattle.dg_scopes.specs.inside.View.{layout_view}
use Rattle.dg_names.specs.State.{seen}
use Rattle.dg_core.proofs.WaitLemmas.{found_waits}
use Rattle.dg_core.proofs.rows.put_found.Goals as goal

pub loop-body-preserved : goal.loop-body-preserved
loop-body-preserved c =
    found_waits (map layout_view c.args.layouts.now) (seen c.args.variables.now) c.args.places.now c.loop-body.found c.pop.new.self c.in-Some.body _ _ _ _ c.in-Some.ensures c.len.ensures c.in_ok-put_waiting.ensures c.loop-body.invariant
