use Rattle.dg_lint.proofs.call.file_fault.Goals as goal

pub returns : goal.returns
returns g c = rw c.as_bytes.ensures.value at c.say.ensures
