use Rattle.std.proofs.Common.{◌≡◌, ◌+◌, ◌++◌, vec_len, vec_capacity}
use Rattle.dg_unify.specs.Linked.{vars_of}
use Rattle.dg_arena.specs.inside.Slots.{var_slots}
use Rattle.dg_arena.proofs.rows.push_vars.Given as goal

abbrev pub invariant-variables : goal.invariant-variables
invariant-variables l = record {
  items : l.cells.items ++ var_slots l.number l.left ≡ l.fn.cells.items ++ var_slots (vars_of l.fn.links) l.count;
  capacity : vec_capacity l.cells ≡ vec_capacity l.fn.cells;
  long : vec_len l.cells + l.left ≡ vec_len l.fn.cells + l.count;
  small : l.number + l.left ≡ vars_of l.fn.links + l.count;
}

abbrev pub decreases-variables : goal.decreases-variables
decreases-variables l = l.left
