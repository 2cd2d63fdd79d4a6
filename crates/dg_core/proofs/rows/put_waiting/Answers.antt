use Rattle.std.proofs.Common.{map, refl}
use Rattle.dg_base.specs.TreeView.{body_view}
use Rattle.dg_scopes.specs.inside.View.{layout_view}
use Rattle.dg_names.specs.State.{seen}
use Rattle.dg_core.proofs.MakeLemmas.{on_ok}
use Rattle.dg_core.proofs.WaitLemmas.{put_waits}
use Rattle.dg_core.proofs.rows.put_waiting.Goals as goal

pub returns : goal.returns
returns c =
    on_ok c.push.result (λ put. put_waits (map layout_view c.args.layouts.now) (seen c.args.variables.now) c.args.places.now c.args.left.now c.push.new.self (record { body = c.args.body; place = c.place_at-place.result; captured = c.in_ok-captured.captured }) c.args.at (body_view c.args.body.now) put refl c.place_at-place.ensures c.in_ok-captured.ensures) c.push.ensures.ok
