use Rattle.std.proofs.Common.{refl, sym, subst, List, ℕ, Some}
use Rattle.dialog_tool.specs.Command.{join as join_command}
use Rattle.dialog_tool.proofs.AnswerLemmas.{no_room}
use Rattle.dialog_tool.proofs.ListLemmas.{joined, listing_bad}
use Rattle.z_list.specs.Reads.{IsListing}
use Rattle.dialog_tool.proofs.joining.join_text.Goals as goal

pub returns-in-Ok : goal.returns-in-Ok
returns-in-Ok g c = λ before dice input f.
    let is = subst (λ (l : List ℕ). IsListing c.args.text.now l) (sym c.deref.ensures.value) c.in-Ok.ensures.ok in
    let stored = c.store.ensures.stored (Some (join_command c.args.name.now c.args.to.now)) before c.args.name.now c.args.text.now dice input f in
    joined _ c.args.name.now c.args.to.now c.args.text.now _ _ (g.F.Shelf.view c.args.shelf.now) refl f c.requires is c.store.ensures.others stored

pub returns-in-Err-BadLine : goal.returns-in-Err-BadLine
returns-in-Err-BadLine g c = λ before dice input f.
    let bad = rw c.in-Err-BadLine.field-0-is at c.in-Err-BadLine.ensures.bad in
    listing_bad _ c.args.name.now c.args.to.now c.args.text.now _ c.in-Err-BadLine.line refl f c.requires (bad c.in-Err-BadLine.line refl) refl c.refuse_listing.ensures

pub returns-in-Err-OutOfMemory : goal.returns-in-Err-OutOfMemory
returns-in-Err-OutOfMemory g c = λ before dice input f. no_room _ _ f.kept refl c.no_memory.ensures
