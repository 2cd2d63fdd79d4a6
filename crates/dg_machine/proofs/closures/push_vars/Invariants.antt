use Rattle.std.proofs.Common.{◌≡◌, ◌+◌, List, length, map, take, drop, vec_capacity}
use Rattle.dg_meaning.specs.Values.{Value, value_of_var}
use Rattle.dg_arena.specs.Held.{meaning_of}
use Rattle.dg_machine.specs.Refs.{RowAt, RefsAt, Stays}
use Rattle.dg_machine.proofs.closures.push_vars.Given as goal

abbrev pub invariant-vars : goal.invariant-vars
invariant-vars l = record {
  stays : Stays l.fn.arena l.arena;
  values : (vs : List Value) → RowAt (meaning_of l.fn.arena) l.row vs → RefsAt (meaning_of l.arena) (drop (length l.fn.to.items) l.to.items) (map (value_of_var vs) (take l.var-index l.vars));
  before : take (length l.fn.to.items) l.to.items ≡ l.fn.to.items;
  count : length l.to.items ≡ length l.fn.to.items + l.var-index;
  capacity : vec_capacity l.to ≡ vec_capacity l.fn.to;
}
