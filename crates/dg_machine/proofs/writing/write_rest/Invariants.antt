use Rattle.std.proofs.Common.{◌≡◌, List, vec_capacity}
use Rattle.dg_base.specs.declared.program.CoreProgram.{CoreProgram}
use Rattle.dg_meaning.specs.Values.{Value}
use Rattle.dg_arena.specs.Held.{meaning_of}
use Rattle.dg_machine.specs.Refs.{RowAt, Keeps}
use Rattle.dg_machine.specs.Tables.{IsOf}
use Rattle.dg_machine.specs.inside.Writing.{AreGone, cells_left, nodes_left, AreMarksBelow}
use Rattle.dg_machine.proofs.WriteSteps.{IsWriting}
use Rattle.dg_machine.proofs.writing.write_rest.Given as goal

abbrev pub invariant-lists : goal.invariant-lists
invariant-lists l = record {
  keeps : Keeps l.fn.arena l.arena;
  capacity : vec_capacity l.path ≡ vec_capacity l.fn.path;
  writing : (p : CoreProgram) (vs : List Value) → IsOf p l.tables → RowAt (meaning_of l.fn.arena) l.row vs → AreGone (meaning_of l.fn.arena) p vs l.fn.path.items l.whole →
      IsWriting p vs l.whole (cells_left p l.fn.path.items l.whole) (meaning_of l.fn.arena) (meaning_of l.arena) l.path.items;
  marks : AreMarksBelow l.path.items l.whole l.marks;
  spare : l.spare.items ≡ l.fn.spare.items;
  spare_room : vec_capacity l.spare ≡ vec_capacity l.fn.spare;
}

abbrev pub decreases-lists : goal.decreases-lists
decreases-lists l = nodes_left l.path.items l.whole
