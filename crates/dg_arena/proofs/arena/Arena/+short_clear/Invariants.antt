use Rattle.dg_unify.specs.inside.Ends.{TellsOf, IsEnd}
use Rattle.dg_arena.specs.Held.{fields_of}
use Rattle.dg_arena.specs.Joins.{IsAbsent}
use Rattle.dg_arena.proofs.arena.Arena.+short_clear.Given as goal

abbrev pub invariant-pairs : goal.invariant-pairs
invariant-pairs l = record {
  told : TellsOf (fields_of l.self) l.end;
  end : IsEnd (fields_of l.self) l.end;
  absent : IsAbsent (fields_of l.self) l.end l.number → IsAbsent (fields_of l.self) l.fn.at l.number;
}

abbrev pub decreases-pairs : goal.decreases-pairs
decreases-pairs l = l.left

abbrev pub decreases-short_clear : goal.decreases-short_clear
decreases-short_clear l = l.depth
