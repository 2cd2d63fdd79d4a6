use Rattle.std.proofs.Common.{◌≡◌, ◌∙◌, Err, ap}
use Rattle.dg_base.specs.declared.run.Fault.TheVariants.{Read, Write}
use Rattle.dg_machine.proofs.program.run_program.Goals as goal

pub returns-in-Ok-result-clause-shows : goal.returns-in-Ok-result-clause-shows
returns-in-Ok-result-clause-shows g c = rw c.in-Ok.ensures.limits at (c.in-Ok-result.ensures.shows c.args.program c.in-Ok.ensures.ready)

pub returns-in-Err-Read-clause-input : goal.returns-in-Err-Read-clause-input
returns-in-Err-Read-clause-input g c is =
    let fault : c.in-Err-Read.field-0 ≡ Read = rw c.in-Err-Read.is at c.in-Err-Read.field-0-is in
    rw c.in-Ok.ensures.limits at (c.run-result.ensures.input (c.in-Err-Read.is ∙ ap Err fault) c.args.program c.in-Ok.ensures.ready)

pub returns-in-Err-Write-clause-output : goal.returns-in-Err-Write-clause-output
returns-in-Err-Write-clause-output g c is =
    let fault : c.in-Err-Write.field-0 ≡ Write = rw c.in-Err-Write.is at c.in-Err-Write.field-0-is in
    rw c.in-Ok.ensures.limits at (c.run-result.ensures.output (c.in-Err-Write.is ∙ ap Err fault) c.args.program c.in-Ok.ensures.ready)

pub run-result-requires-clause-ready : goal.run-result-requires-clause-ready
run-result-requires-clause-ready g c = (c.args.program, c.in-Ok.ensures.ready)
