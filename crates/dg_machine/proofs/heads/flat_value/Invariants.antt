use Rattle.std.proofs.Common.{◌≡◌, ◌+◌, ◌*◌, List, length, take}
use Rattle.dg_base.specs.Terms.{nodes}
use Rattle.dg_base.specs.declared.program.CoreProgram.{CoreProgram}
use Rattle.dg_meaning.specs.Values.{Value, value_of}
use Rattle.dg_arena.specs.Held.{meaning_of}
use Rattle.dg_machine.specs.Refs.{RowAt, Stays}
use Rattle.dg_machine.specs.inside.Writing.{cells_of}
use Rattle.dg_machine.proofs.HeadMatching.{Rest, Written}
use Rattle.dg_machine.proofs.heads.flat_value.Given as goal

abbrev pub invariant-heads : goal.invariant-heads
invariant-heads l = record {
  stays : Stays l.fn.arena l.arena;
  size : length l.values ≡ 12;
  flat : Rest l.rest l.count;
  cells : (p : CoreProgram) → cells_of p l.term ≡ 3 * l.count + cells_of p l.rest;
  written : (p : CoreProgram) (vs : List Value) → RowAt (meaning_of l.fn.arena) l.row vs → Written (meaning_of l.arena) (take l.count l.values) (value_of p vs l.term) (value_of p vs l.rest);
}

abbrev pub decreases-heads : goal.decreases-heads
decreases-heads l = length (nodes l.rest)
