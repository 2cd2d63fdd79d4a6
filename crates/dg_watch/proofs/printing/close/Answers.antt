use Rattle.std.proofs.Common.{[], ◌∷◌, ◌++◌, refl, ap, ◌∙◌, subst}
use Rattle.dg_watch.specs.Told.{took, Saw}
use Rattle.dg_watch.specs.declared.watch.CallEvent.TheVariants.{Printed}
use Rattle.dg_watch.specs.Watching.{Given, Lost}
use Rattle.dg_watch.proofs.Printed.{closing_growth, closing_fits}
use Rattle.dg_watch.proofs.printing.close.Goals as goal

pub returns-in-Ok-clause-ok : goal.returns-in-Ok-clause-ok
returns-in-Ok-clause-ok g c = λ es h.
    subst (Given g.A.Showing.watching (c.args.printer.now.showing, c.args.sink.now) (c.hand_piece.new.showing, c.hand_piece.new.sink))
    (ap (λ l. took l ++ Saw Printed ∷ []) c.taken.ensures ∙ closing_growth es c.args.line.now c.args.room.now.bytes c.close.new.sink.bytes _ _ _ _ c.requires.empty (c.in_default.ensures.ok es h))
    c.in-Ok.ensures.ok

pub returns-in-Err-hand_piece-clause-err : goal.returns-in-Err-hand_piece-clause-err
returns-in-Err-hand_piece-clause-err g c = λ es h.
    subst (Lost g.A.Showing.watching (c.args.printer.now.showing, c.args.sink.now) (c.hand_piece.new.showing, c.hand_piece.new.sink))
    (ap (λ l. took l ++ Saw Printed ∷ []) c.taken.ensures ∙ closing_growth es c.args.line.now c.args.room.now.bytes c.close.new.sink.bytes _ _ _ _ c.requires.empty (c.in_default.ensures.ok es h))
    c.in-Err-hand_piece.ensures.err

pub returns-in-Err-clause-err : goal.returns-in-Err-clause-err
returns-in-Err-clause-err g c = λ es h. absurd (closing_fits es c.args.line.now _ _ c.args.room.now.room refl c.requires.enough (c.in-Err.ensures.err es h))
