use Rattle.std.proofs.Common.{◌+◌, ◌≤◌, List, length, ◌-◌, drop, map}
use Rattle.dg_base.specs.declared.program.CoreProgram.{CoreProgram}
use Rattle.dg_meaning.specs.Values.{Value, value_of}
use Rattle.dg_arena.specs.Held.{meaning_of}
use Rattle.dg_machine.specs.Refs.{RowAt, RefsAt, Keeps}
use Rattle.dg_meaning.specs.Cells.{cells}
use Rattle.dg_machine.specs.Heads.{at_heap}
use Rattle.dg_machine.proofs.Matching.{Matching}
use Rattle.dg_machine.proofs.heads.match_each.Given as goal

abbrev pub invariant-pairs : goal.invariant-pairs
invariant-pairs l = record {
  keeps : Keeps l.fn.arena l.arena;
  matching : (p : CoreProgram) (us vs : List Value) → RefsAt (meaning_of l.fn.arena) l.args us → RowAt (meaning_of l.fn.arena) l.row vs → Matching (at_heap (meaning_of l.arena).state.heap (meaning_of l.fn.arena)).state (meaning_of l.arena).state us (map (value_of p vs) l.head) l.at;
  more : (meaning_of l.fn.arena).state.heap ≤ (meaning_of l.arena).state.heap;
  taken : (p : CoreProgram) → (meaning_of l.arena).state.heap + cells p (drop l.at l.head) ≤ (meaning_of l.fn.arena).state.heap + cells p l.head;
}

abbrev pub decreases-pairs : goal.decreases-pairs
decreases-pairs l = length l.args - l.at
