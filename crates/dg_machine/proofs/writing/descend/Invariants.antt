use Rattle.std.proofs.Common.{◌≡◌, ◌≤◌, List, length, vec_capacity}
use Rattle.dg_base.specs.Terms.{nodes}
use Rattle.dg_base.specs.declared.program.CoreProgram.{CoreProgram}
use Rattle.dg_meaning.specs.Values.{Value}
use Rattle.dg_arena.specs.Held.{meaning_of}
use Rattle.dg_machine.specs.Refs.{RowAt, Keeps}
use Rattle.dg_machine.specs.Tables.{IsOf}
use Rattle.dg_machine.specs.inside.Writing.{reached, AreGone, GoesOn, Descends}
use Rattle.dg_machine.proofs.writing.descend.Given as goal

abbrev pub invariant-pairs : goal.invariant-pairs
invariant-pairs l = record {
  keeps : Keeps l.fn.arena l.arena;
  capacity : vec_capacity l.path ≡ vec_capacity l.fn.path;
  at : l.term ≡ reached l.path.items l.whole;
  on : GoesOn l.fn.path.items l.path.items;
  gone : (p : CoreProgram) (vs : List Value) → IsOf p l.tables → RowAt (meaning_of l.fn.arena) l.row vs → AreGone (meaning_of l.fn.arena) p vs l.fn.path.items l.whole → Descends p vs l.whole (meaning_of l.fn.arena) (meaning_of l.arena) l.fn.path.items l.path.items;
  spare : l.spare.items ≡ l.fn.spare.items;
  spare_room : vec_capacity l.spare ≡ vec_capacity l.fn.spare;
  heap : (meaning_of l.fn.arena).state.heap ≤ (meaning_of l.arena).state.heap;
}

abbrev pub decreases-pairs : goal.decreases-pairs
decreases-pairs l = length (nodes l.term)
