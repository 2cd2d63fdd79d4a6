use Rattle.std.proofs.Common.{◌-◌, ◌∙◌, arith, sym, subst, drop}
use Rattle.dg_lists.specs.Reading.{HasRead, row_weight, Stopped}
use Rattle.dg_lists.proofs.MakeLemmas.{stopped_more, weight_within, back_one}
use Rattle.dg_lists.proofs.reading.read_cells.Goals as goal

pub returns-in-Err-clause-read : goal.returns-in-Err-clause-read
returns-in-Err-clause-read g c =
    let s = g.B.Bindings.meaning c.args.store.now in
    let cells = c.args.cells.now in
    let behind = c.cell_at-cell.ensures.behind ∙ back_one c.cells.at cells c.cells-test.true in
    let read = subst (λ l. HasRead s (g.B.Bindings.meaning c.cells.store) l (drop c.cells.top c.cells.row)) (sym behind) c.cells.invariant.read in
    let stop = subst (λ l. Stopped (row_weight l) s (g.B.Bindings.meaning c.read_cell.new.store) c.in-Err.e) (sym c.cell_at-cell.ensures.cell) (c.in-Err.ensures.read s read) in
    stopped_more (row_weight (drop (c.cells.at - 1) cells)) (row_weight cells) s (g.B.Bindings.meaning c.read_cell.new.store) c.in-Err.e (weight_within (c.cells.at - 1) cells) stop

pub cells-preserved : goal.cells-preserved
cells-preserved g c =
    let s = g.B.Bindings.meaning c.args.store.now in
    let cells = c.args.cells.now in
    let behind = c.cell_at-cell.ensures.behind ∙ back_one c.cells.at cells c.cells-test.true in
    let read = subst (λ l. HasRead s (g.B.Bindings.meaning c.cells.store) l (drop c.cells.top c.cells.row)) (sym behind) c.cells.invariant.read in
    record {
      at = omega (arith, c.cells.invariant.at);
      top = c.in-Ok.ensures.within;
      saved = λ ms k. c.in-Ok.ensures.saved ms (c.cells.invariant.saved ms k);
      read = subst (λ l. HasRead s (g.B.Bindings.meaning c.read_cell.new.store) l (drop c.in-Ok.next c.read_cell.new.row)) (sym c.cell_at-cell.ensures.cell) (c.in-Ok.ensures.read s read);
    }
