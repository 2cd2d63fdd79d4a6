use Rattle.std.proofs.Common.{refl}
use Rattle.dialog_tool.proofs.AnswerLemmas.{no_room}
use Rattle.dialog_tool.proofs.ListLemmas.{listing_lost, listing_long}
use Rattle.dialog_tool.proofs.joining.join.Goals as goal

pub join_text-requires : goal.join_text-requires
join_text-requires g c = rw c.deref.ensures.value c.in-Ok.ensures.within

pub returns-in-Ok : goal.returns-in-Ok
returns-in-Ok g c = λ dice input.
    c.join_text.ensures (g.F.Shelf.view c.args.shelf.now) dice input
    (record { told = rw c.deref.ensures.value c.in-Ok.ensures.bytes; kept = c.in-Ok.ensures.kept; later = c.in-Ok.ensures.later; sure = c.in-Ok.ensures.stays_sure })

pub returns-in-Err-TooLong : goal.returns-in-Err-TooLong
returns-in-Err-TooLong g c = λ dice input.
    let long = rw c.in-Err-TooLong.field-0-is at c.in-Err-TooLong.ensures.too_long in
    listing_long _ c.args.name.now c.args.to.now _ refl c.in-Err-TooLong.ensures.kept (long refl) refl c.refuse_listing.ensures

pub returns-in-Err-Failed : goal.returns-in-Err-Failed
returns-in-Err-Failed g c = λ dice input.
    let failed = rw c.in-Err-Failed.field-0-is at c.in-Err-Failed.ensures.failed in
    let missing = rw c.in-Err-Failed.field-0-is at c.in-Err-Failed.ensures.sure in
    listing_lost _ c.args.name.now c.args.to.now _ refl c.in-Err-Failed.ensures.kept (failed refl) (λ sure. missing sure refl) refl c.file_fault.ensures

pub returns-in-Err-OutOfMemory : goal.returns-in-Err-OutOfMemory
returns-in-Err-OutOfMemory g c = λ dice input. no_room _ _ c.in-Err-OutOfMemory.ensures.kept refl c.no_memory.ensures
