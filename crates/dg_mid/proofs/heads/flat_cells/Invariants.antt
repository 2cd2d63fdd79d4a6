use Rattle.std.proofs.Common.{◌≡◌, ◌+◌, ◌*◌, ◌≤◌, length}
use Rattle.dg_base.specs.declared.program.CoreProgram.{CoreProgram}
use Rattle.dg_meaning.specs.Cells.{cells}
use Rattle.dg_mid.specs.Heads.{AreFlat}
use Rattle.dg_mid.proofs.heads.flat_cells.Given as goal

abbrev pub invariant-terms : goal.invariant-terms
invariant-terms l = record {
  flat : AreFlat l.rest → AreFlat l.fn.head;
  takes : (p : CoreProgram) → l.cells + cells p l.rest ≡ cells p l.fn.head;
  few : l.cells + 36 * length l.rest ≤ 432;
}

abbrev pub decreases-terms : goal.decreases-terms
decreases-terms l = length l.rest
