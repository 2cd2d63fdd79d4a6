use Rattle.std.proofs.Common.{refl}
use Rattle.dialog_tool.specs.Promise.{held, not_held, no_room_for_it}
use Rattle.dialog_tool.proofs.AnswerLemmas.{prints}
use Rattle.dialog_tool.proofs.BuildLemmas.{later_rose}
use Rattle.dialog_tool.proofs.building.store.Goals as goal

pub returns-in-Ok-clause-stored : goal.returns-in-Ok-clause-stored
returns-in-Ok-clause-stored g c = λ command before name file dice input f. held refl c.in-Ok.ensures.stored refl refl

pub returns-in-Err-Failed-clause-stored : goal.returns-in-Err-Failed-clause-stored
returns-in-Err-Failed-clause-stored g c = λ command before name file dice input f.
    let failed = rw c.in-Err-Failed.field-0-is at c.in-Err-Failed.ensures.failed in
    let missing = rw c.in-Err-Failed.field-0-is at c.in-Err-Failed.ensures.sure in
    not_held (later_rose f.later (failed refl)) (λ sure. missing (f.sure sure) refl) (prints _ 5 _ _ refl c.file_fault.ensures)

pub returns-in-Err-OutOfMemory-clause-stored : goal.returns-in-Err-OutOfMemory-clause-stored
returns-in-Err-OutOfMemory-clause-stored g c = λ command before name file dice input f. no_room_for_it (prints _ 6 _ _ refl c.no_memory.ensures)
