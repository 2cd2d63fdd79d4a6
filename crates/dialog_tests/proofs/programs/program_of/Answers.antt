use Rattle.dialog_tests.proofs.programs.program_of.Goals as goal

pub returns-in-Ok-clause-once : goal.returns-in-Ok-clause-once
returns-in-Ok-clause-once c = c.closures_stand_once.ensures _ _ c.in-Ok.ensures.program
