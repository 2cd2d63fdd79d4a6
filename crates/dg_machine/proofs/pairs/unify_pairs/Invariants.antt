use Rattle.dg_unify.specs.Store.{Holds, told}
use Rattle.dg_arena.specs.Held.{meaning_of}
use Rattle.dg_machine.specs.Refs.{Keeps}
use Rattle.dg_machine.proofs.Along.{Along}
use Rattle.dg_machine.proofs.pairs.unify_pairs.Given as goal

abbrev pub invariant-pairs : goal.invariant-pairs
invariant-pairs l = record {
  keeps : Keeps l.fn.arena l.arena;
  left_in : Holds (meaning_of l.arena) l.left;
  right_in : Holds (meaning_of l.arena) l.right;
  along : Along (meaning_of l.fn.arena) (meaning_of l.arena) (told (meaning_of l.fn.arena) l.fn.a) (told (meaning_of l.fn.arena) l.fn.b) (told (meaning_of l.arena) l.left) (told (meaning_of l.arena) l.right);
}
