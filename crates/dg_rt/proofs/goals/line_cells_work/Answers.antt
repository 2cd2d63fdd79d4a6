use Rattle.dg_rt.proofs.LineCells as cells
use Rattle.dg_rt.proofs.goals.line_cells_work.Goals as goal

pub returns : goal.returns
returns c = cells.line_cells_work
