use Rattle.std.proofs.Common.{List, length, ◌-◌}
use Rattle.dg_meaning.specs.Values.{Value}
use Rattle.dg_arena.specs.Held.{meaning_of}
use Rattle.dg_machine.specs.Refs.{RefsAt, Keeps}
use Rattle.dg_machine.proofs.Matching.{Matching}
use Rattle.dg_machine.proofs.terms.match_heads.Given as goal

abbrev pub invariant-pairs : goal.invariant-pairs
invariant-pairs l = record {
  keeps : Keeps l.fn.arena l.arena;
  matching : (us ws : List Value) → RefsAt (meaning_of l.fn.arena) l.args us → RefsAt (meaning_of l.fn.arena) l.heads ws → Matching (meaning_of l.fn.arena).state (meaning_of l.arena).state us ws l.at;
}

abbrev pub decreases-pairs : goal.decreases-pairs
decreases-pairs l = length l.args - l.at
