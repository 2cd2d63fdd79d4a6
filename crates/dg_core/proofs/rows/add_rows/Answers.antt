use Rattle.dg_core.specs.inside.View.{scope_view}
use Rattle.dg_core.specs.inside.Waiting.{home_of}
use Rattle.dg_core.proofs.WaitLemmas.{next_rows, next_selects, next_fewer}
use Rattle.dg_core.proofs.rows.add_rows.Goals as goal

pub loop-waiting-smaller : goal.loop-waiting-smaller
loop-waiting-smaller c =
    next_fewer _ c.in-Some.waiting c.loop-waiting.left c.pop.new.self c.add_row.new.left c.loop-waiting.sites c.add_row.new.sites c.loop-waiting.rows c.add_row.new.rows c.in-Some.ensures c.in_ok-add_row.ensures

pub loop-waiting-preserved : goal.loop-waiting-preserved
loop-waiting-preserved c =
    let home = home_of (scope_view c.args.around.now) c.args.kept in
    record {
      same = c.loop-waiting.invariant.same;
      rows = next_rows home _ c.in-Some.waiting c.loop-waiting.left c.pop.new.self c.add_row.new.left c.loop-waiting.sites c.add_row.new.sites c.loop-waiting.rows c.add_row.new.rows _ c.loop-waiting.invariant.same c.in-Some.ensures c.in_ok-add_row.ensures c.loop-waiting.invariant.rows;
      sites = next_selects _ c.in-Some.waiting c.loop-waiting.left c.pop.new.self c.add_row.new.left c.loop-waiting.sites c.add_row.new.sites _ c.loop-waiting.rows c.add_row.new.rows c.in-Some.ensures c.in_ok-add_row.ensures c.loop-waiting.invariant.sites;
    }
