use Rattle.std.proofs.Common.{◌≡◌, ◌≤◌, List, Some, length}
use Rattle.dg_meaning.specs.Values.{Value}
use Rattle.dg_unify.specs.Store.{Holds}
use Rattle.dg_arena.specs.Held.{meaning_of}
use Rattle.dg_machine.specs.Refs.{RefsAt, Keeps}
use Rattle.dg_machine.proofs.HeadMatching.{Listing}
use Rattle.dg_machine.proofs.heads.make_list.Given as goal

abbrev pub invariant-values : goal.invariant-values
invariant-values l = record {
  keeps : Keeps l.fn.arena l.arena;
  there : Holds (meaning_of l.arena) l.made;
  within : l.left ≤ length l.values;
  listing : (vs : List Value) (v : Value) → RefsAt (meaning_of l.fn.arena) l.values vs → (meaning_of l.fn.arena).value l.fn.end ≡ Some v → Listing (meaning_of l.fn.arena) (meaning_of l.arena) vs v l.left l.made;
}

abbrev pub decreases-values : goal.decreases-values
decreases-values l = l.left
