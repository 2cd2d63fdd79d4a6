use Rattle.std.proofs.Common.{◌≡◌, List, length, map, take, vec_capacity}
use Rattle.dg_base.specs.declared.program.CoreProgram.{CoreProgram}
use Rattle.dg_meaning.specs.Values.{Value, value_of}
use Rattle.dg_meaning.specs.Cells.{cells}
use Rattle.dg_arena.specs.Held.{meaning_of}
use Rattle.dg_machine.specs.Tables.{IsOf}
use Rattle.dg_machine.specs.Refs.{RowAt, Keeps, Puts}
use Rattle.dg_machine.proofs.register.write_each.Given as goal

abbrev pub invariant-terms : goal.invariant-terms
invariant-terms l = record {
  keeps : Keeps l.fn.arena l.arena;
  put : (p : CoreProgram) (vs : List Value) → IsOf p l.tables → RowAt (meaning_of l.fn.arena) l.row vs → Puts (cells p (take l.term-index l.terms)) (map (value_of p vs) (take l.term-index l.terms)) (meaning_of l.fn.arena) (meaning_of l.arena) l.to.items;
  count : length l.to.items ≡ l.term-index;
  capacity : vec_capacity l.to ≡ vec_capacity l.fn.to;
  path : vec_capacity l.path ≡ vec_capacity l.fn.path;
  spare : l.spare.items ≡ l.fn.spare.items;
  spare_room : vec_capacity l.spare ≡ vec_capacity l.fn.spare;
}
