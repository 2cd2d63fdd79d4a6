use Rattle.std.proofs.Common.{[], ◌∷◌, ◌++◌, sym, ap, ◌∙◌, subst}
use Rattle.dg_watch.specs.Told.{took, Saw}
use Rattle.dg_watch.specs.declared.watch.CallEvent.TheVariants.{Printed}
use Rattle.dg_watch.specs.Watching.{Given, Lost}
use Rattle.dg_watch.proofs.Telling.{given_nothing}
use Rattle.dg_watch.proofs.Printed.{row_growth, gap_told}
use Rattle.dg_watch.proofs.printing.print.Goals as goal

pub returns-in-Ok-clause-ok : goal.returns-in-Ok-clause-ok
returns-in-Ok-clause-ok g c = λ es h.
    subst (Given g.A.Showing.watching (c.args.printer.now.showing, c.args.sink.now) (c.hand_piece.new.showing, c.hand_piece.new.sink))
    (ap (λ l. took l ++ Saw Printed ∷ []) c.bytes.ensures
    ∙ row_growth c.args.event c.in-Piece.field-0 c.in-Piece.is es c.clear.new.self.bytes.items c.event.new.sink.bytes.items c.clear.new.self.faults c.event.new.sink.faults c.clear.ensures (c.in_default.ensures.ok es h))
    c.in-Ok.ensures.ok

pub returns-in-Err-hand_piece-clause-refused : goal.returns-in-Err-hand_piece-clause-refused
returns-in-Err-hand_piece-clause-refused g c = λ _ es h.
    subst (Lost g.A.Showing.watching (c.args.printer.now.showing, c.args.sink.now) (c.hand_piece.new.showing, c.hand_piece.new.sink))
    (ap (λ l. took l ++ Saw Printed ∷ []) c.bytes.ensures
    ∙ row_growth c.args.event c.in-Piece.field-0 c.in-Piece.is es c.clear.new.self.bytes.items c.event.new.sink.bytes.items c.clear.new.self.faults c.event.new.sink.faults c.clear.ensures (c.in_default.ensures.ok es h))
    c.in-Err-hand_piece.ensures.err

pub returns-in_default-event-clause-ok : goal.returns-in_default-event-clause-ok
returns-in_default-event-clause-ok g c = λ es h.
    subst (Given g.A.Showing.watching (c.args.printer.now.showing, c.args.sink.now) (c.args.printer.now.showing, c.args.sink.now))
    (sym (gap_told c.args.event c.in_default-event.not-Piece es)) (given_nothing g.A.Showing.watching (c.args.printer.now.showing, c.args.sink.now))
