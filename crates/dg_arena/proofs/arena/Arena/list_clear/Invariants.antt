use Rattle.dg_unify.specs.inside.Ends.{TellsOf}
use Rattle.dg_arena.specs.Held.{fields_of}
use Rattle.dg_arena.specs.Joins.{IsAbsent}
use Rattle.dg_arena.proofs.arena.Arena.list_clear.Given as goal

abbrev pub invariant-steps : goal.invariant-steps
invariant-steps l = record {
  told : TellsOf (fields_of l.self) l.place;
  absent : IsAbsent (fields_of l.self) l.place l.number → IsAbsent (fields_of l.self) l.fn.at l.number;
}

abbrev pub decreases-steps : goal.decreases-steps
decreases-steps l = l.left
