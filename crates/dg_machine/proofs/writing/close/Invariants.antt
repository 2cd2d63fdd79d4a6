use Rattle.std.proofs.Common.{◌≡◌, List, vec_len, vec_capacity}
use Rattle.dg_base.specs.declared.program.CoreProgram.{CoreProgram}
use Rattle.dg_base.specs.declared.program.Term.{Term}
use Rattle.dg_meaning.specs.Values.{Value}
use Rattle.dg_arena.specs.Held.{meaning_of}
use Rattle.dg_machine.specs.Refs.{Keeps}
use Rattle.dg_machine.specs.inside.Writing.{IsAtPart, GoesOn}
use Rattle.dg_machine.proofs.WriteSteps.{Closing}
use Rattle.dg_machine.proofs.writing.close.Given as goal

abbrev pub invariant-sides : goal.invariant-sides
invariant-sides l = record {
  keeps : Keeps l.fn.arena l.arena;
  capacity : vec_capacity l.path ≡ vec_capacity l.fn.path;
  on : GoesOn l.path.items l.fn.path.items;
  closing : (p : CoreProgram) (vs : List Value) (t : Term) → IsAtPart (meaning_of l.fn.arena) p vs l.fn.path.items t l.initial.value → Closing p vs t (meaning_of l.fn.arena) (meaning_of l.arena) l.fn.path.items l.path.items l.value;
}

abbrev pub decreases-sides : goal.decreases-sides
decreases-sides l = vec_len l.path
