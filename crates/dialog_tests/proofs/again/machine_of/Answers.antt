use Rattle.std.proofs.Common.{Result, Ok, Err, IfOk}
use Rattle.std.specs.declared.alloc.AllocError.{AllocError}
use Rattle.dg_base.specs.declared.program.CoreProgram.{CoreProgram}
use Rattle.dg_machine.specs.Program.{IsReady}
use Rattle.dg_machine.specs.declared.machine.Machine.{Machine}
use Rattle.dialog_tests.proofs.again.machine_of.Goals as goal

-- a machine of a program is one of some program
some_program : (p : CoreProgram) (made : Result Machine AllocError) → IfOk made (λ (m : Machine). IsReady p m.limits m.code m.tables m.resting) → IfOk made (λ (m : Machine). (p : CoreProgram) × IsReady p m.limits m.code m.tables m.resting)
some_program p (Ok m) ready = (p, ready)
some_program p (Err e) ready = tt

pub returns-in-Ok : goal.returns-in-Ok
returns-in-Ok c = some_program c.in-Ok.program c.of.result c.of.ensures.ready
