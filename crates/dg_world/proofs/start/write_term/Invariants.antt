use Rattle.std.proofs.Common.{◌≡◌, ◌++◌, length}
use Rattle.dg_meaning.specs.ValueCells.{cells_of}
use Rattle.dg_meaning.specs.Facts.{start_value}
use Rattle.dg_world.specs.Starts.{unwritten}
use Rattle.dg_world.proofs.start.write_term.Given as goal

abbrev pub invariant-left : goal.invariant-left
invariant-left l = l.cells.items ++ unwritten l.left.items ≡ cells_of (start_value l.fn.term)

abbrev pub decreases-left : goal.decreases-left
decreases-left l = length (unwritten l.left.items)
