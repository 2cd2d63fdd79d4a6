use Rattle.std.proofs.Common.{refl}
use Rattle.dialog_tool.proofs.AnswerLemmas.{source_long, source_lost, no_room, source_refused}
use Rattle.dialog_tool.proofs.reading.program_in.Goals as goal

pub returns-in-Err-TooLong-clause-ends : goal.returns-in-Err-TooLong-clause-ends
returns-in-Err-TooLong-clause-ends g c = λ command dice input words.
    let long = rw c.in-Err-TooLong.field-0-is at c.in-Err-TooLong.ensures.too_long in
    source_long c.long_sources_are_refused.ensures _ c.args.name.now _ c.too_long.result words c.in-Err-TooLong.ensures.kept (long refl) c.too_long.ensures refl c.refuse.ensures

pub returns-in-Err-Failed-clause-ends : goal.returns-in-Err-Failed-clause-ends
returns-in-Err-Failed-clause-ends g c = λ command dice input words.
    let failed = rw c.in-Err-Failed.field-0-is at c.in-Err-Failed.ensures.failed in
    let missing = rw c.in-Err-Failed.field-0-is at c.in-Err-Failed.ensures.sure in
    source_lost _ c.args.name.now _ words c.in-Err-Failed.ensures.kept (failed refl) (λ sure. missing sure refl) refl c.file_fault.ensures

pub returns-in-Err-OutOfMemory-clause-ends : goal.returns-in-Err-OutOfMemory-clause-ends
returns-in-Err-OutOfMemory-clause-ends g c = λ command dice input words. no_room _ _ c.in-Err-OutOfMemory.ensures.kept refl c.no_memory.ensures

pub returns-in-Ok-compile-clause-program : goal.returns-in-Ok-compile-clause-program
returns-in-Ok-compile-clause-program g c =
    (c.deref.result.now, record { told = rw c.deref.ensures.value c.in-Ok.ensures.bytes; kept = c.in-Ok.ensures.kept; later = c.in-Ok.ensures.later; sure = c.in-Ok.ensures.stays_sure }, c.in-Ok-compile.ensures.program)

pub returns-in-Err-Refused-clause-ends : goal.returns-in-Err-Refused-clause-ends
returns-in-Err-Refused-clause-ends g c = λ command dice input words.
    let compiles = rw c.in-Err-Refused.field-0-is at c.in-Err-Refused.ensures.program in
    let says = rw c.in-Err-Refused.refusal-is at c.refuse-in-Err-Refused.ensures in
    source_refused _ c.args.name.now c.deref.result.now _ c.in-Err-Refused.refusal words
    (record { told = rw c.deref.ensures.value c.in-Ok.ensures.bytes; kept = c.in-Ok.ensures.kept; later = c.in-Ok.ensures.later; sure = c.in-Ok.ensures.stays_sure }) compiles refl says

pub returns-clause-ends : goal.returns-clause-ends
returns-clause-ends g c = λ command dice input words. no_room _ _ c.in-Ok.ensures.kept refl c.no_memory-in-Err-OutOfMemory-compile.ensures

pub returns-in-Ok-compile-clause-once : goal.returns-in-Ok-compile-clause-once
returns-in-Ok-compile-clause-once g c = c.closures_stand_once.ensures _ _ c.in-Ok-compile.ensures.program
