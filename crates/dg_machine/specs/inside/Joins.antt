-- Answers of a unification in one byte. The proofs alone rest on it.
use Rattle.std.specs.Prelude.{Bool, true, false, Result, Ok, Err}
use Rattle.dg_unify.specs.declared.bindings.Full.{Full}
use Rattle.dg_unify.specs.declared.bindings.Full.TheVariants as full
use Rattle.dg_machine.specs.declared.joins.Joined.{Joined}
use Rattle.dg_machine.specs.declared.joins.Joined.TheVariants as joined

-- The answer that it stands for.
abbrev pub answer_of : Joined → Result Bool Full
answer_of joined.Agrees = Ok true
answer_of joined.Clashes = Ok false
answer_of joined.LacksHeap = Err full.Heap
answer_of joined.LacksTrail = Err full.Trail
answer_of joined.LacksMemory = Err full.OutOfMemory
