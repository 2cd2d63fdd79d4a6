use Rattle.std.proofs.Common.{◌≡◌, ◌≤◌, List, [], ◌∷◌, length}
use Rattle.dg_base.specs.Terms.{nodes}
use Rattle.dg_base.specs.declared.program.CoreProgram.{CoreProgram}
use Rattle.dg_meaning.specs.Values.{Value, value_of}
use Rattle.dg_unify.specs.Store.{told, Holds}
use Rattle.dg_arena.specs.Held.{meaning_of}
use Rattle.dg_machine.specs.Refs.{RowAt, Keeps}
use Rattle.dg_mid.specs.Heads.{Flat}
use Rattle.dg_machine.specs.inside.Writing.{cells_of}
use Rattle.dg_machine.proofs.Matching.{Left}
use Rattle.dg_machine.proofs.heads.match_flat.Given as goal

abbrev pub invariant-pairs : goal.invariant-pairs
invariant-pairs l = record {
  keeps : Keeps l.fn.arena l.arena;
  flat : Flat l.rest;
  there : Holds (meaning_of l.arena) l.at;
  heap : (meaning_of l.arena).state.heap ≡ (meaning_of l.fn.arena).state.heap;
  cells : (p : CoreProgram) → cells_of p l.rest ≤ cells_of p l.term;
  left : (p : CoreProgram) (vs : List Value) → RowAt (meaning_of l.fn.arena) l.row vs →
      Left (meaning_of l.fn.arena).state (meaning_of l.arena).state ((told (meaning_of l.fn.arena) l.fn.arg, value_of p vs l.term) ∷ []) ((told (meaning_of l.arena) l.at, value_of p vs l.rest) ∷ []);
}

abbrev pub decreases-pairs : goal.decreases-pairs
decreases-pairs l = length (nodes l.rest)
