use Rattle.std.proofs.Common.{◌≡◌, ◌++◌, drop, map}
use Rattle.dg_rt.specs.Copies.{cell_word}
use Rattle.dg_story.specs.Built.{word_bytes}
use Rattle.dg_story.proofs.kept.put_cells.Given as goal

abbrev pub invariant-loop-cell : goal.invariant-loop-cell
invariant-loop-cell l = l.bytes ++ word_bytes (map cell_word (drop l.cell-index l.cells)) ≡ l.initial.bytes ++ word_bytes (map cell_word l.cells)
