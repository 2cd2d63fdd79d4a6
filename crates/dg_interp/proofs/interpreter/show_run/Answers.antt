use Rattle.dg_interp.proofs.Whole.{left_within, ended_later, has_shown, closing_lost, text_lost, broken_later, broken_rose, input_shown, input_closing_lost, memory_shown, memory_closing_lost}
use Rattle.dg_interp.proofs.interpreter.show_run.Goals as goal

pub overflow_sub-result : goal.overflow_sub-result
overflow_sub-result g c =
    left_within g.A.Showing.watching c.args.program.now c.args.limits.now c.args.engine.now c.args.dice.now c.requires.starts c.args.output.now.printer.spacer c.run.new.output.printer.spacer (c.args.output.now.printer.showing, c.args.sink.now) (c.run.new.output.printer.showing, c.run.new.sink) (g.S.Source.view c.args.source.now) (g.S.Source.view c.run.new.source) c.requires.spacer c.in-Ok.ending c.run.new.engine.left c.in-Ok.ensures.ok

pub returns-in-Ok-close-clause-shows : goal.returns-in-Ok-close-clause-shows
returns-in-Ok-close-clause-shows g c =
    has_shown g.A.Showing.watching c.args.program.now c.args.limits.now c.args.engine.now c.args.dice.now c.requires.starts c.args.output.now.printer.spacer c.run.new.output.printer.spacer (c.args.output.now.printer.showing, c.args.sink.now) (c.run.new.output.printer.showing, c.run.new.sink) (g.S.Source.view c.args.source.now) (g.S.Source.view c.run.new.source) c.requires.spacer _ c.in-Ok.ending c.run.new.engine.left c.in-Ok.ensures.ok (rw c.line.ensures.is at c.in-Ok-close.ensures.ok)

pub returns-in-Ok-close-clause-later : goal.returns-in-Ok-close-clause-later
returns-in-Ok-close-clause-later g c =
    ended_later g.A.Showing.watching c.args.program.now c.args.limits.now c.args.engine.now c.args.dice.now c.requires.starts c.args.output.now.printer.spacer c.run.new.output.printer.spacer (c.args.output.now.printer.showing, c.args.sink.now) (c.run.new.output.printer.showing, c.run.new.sink) (g.S.Source.view c.args.source.now) (g.S.Source.view c.run.new.source) c.requires.spacer c.in-Ok.ending c.run.new.engine.left c.in-Ok.ensures.ok

pub returns-in-Err-clause-err : goal.returns-in-Err-clause-err
returns-in-Err-clause-err g c =
    closing_lost g.A.Showing.watching c.args.program.now c.args.limits.now c.args.engine.now c.args.dice.now c.requires.starts c.args.output.now.printer.spacer c.run.new.output.printer.spacer (c.args.output.now.printer.showing, c.args.sink.now) (c.run.new.output.printer.showing, c.run.new.sink) (g.S.Source.view c.args.source.now) (g.S.Source.view c.run.new.source) c.requires.spacer _ c.in-Ok.ending c.run.new.engine.left c.in-Ok.ensures.ok (rw c.line.ensures.is at c.in-Err.ensures.err)

pub returns-in-Err-clause-later : goal.returns-in-Err-clause-later
returns-in-Err-clause-later g c =
    ended_later g.A.Showing.watching c.args.program.now c.args.limits.now c.args.engine.now c.args.dice.now c.requires.starts c.args.output.now.printer.spacer c.run.new.output.printer.spacer (c.args.output.now.printer.showing, c.args.sink.now) (c.run.new.output.printer.showing, c.run.new.sink) (g.S.Source.view c.args.source.now) (g.S.Source.view c.run.new.source) c.requires.spacer c.in-Ok.ending c.run.new.engine.left c.in-Ok.ensures.ok

pub returns-in-Err-Write-clause-err : goal.returns-in-Err-Write-clause-err
returns-in-Err-Write-clause-err g c =
    text_lost g.A.Showing.watching c.args.program.now c.args.limits.now c.args.engine.now c.args.dice.now c.requires.starts c.args.output.now.printer.spacer c.run.new.output.printer.spacer (c.args.output.now.printer.showing, c.args.sink.now) (c.run.new.output.printer.showing, c.run.new.sink) (g.S.Source.view c.args.source.now) (g.S.Source.view c.run.new.source) c.requires.spacer (rw c.in-Err-Write.field-0-is at c.in-Err-Write.ensures.err)

pub returns-in-Err-Write-clause-later : goal.returns-in-Err-Write-clause-later
returns-in-Err-Write-clause-later g c =
    broken_later g.A.Showing.watching c.args.program.now c.args.limits.now c.args.engine.now c.args.dice.now c.requires.starts c.args.output.now.printer.spacer c.run.new.output.printer.spacer (c.args.output.now.printer.showing, c.args.sink.now) (c.run.new.output.printer.showing, c.run.new.sink) (g.S.Source.view c.args.source.now) (g.S.Source.view c.run.new.source) c.requires.spacer c.in-Err-Write.field-0 c.in-Err-Write.ensures.err

pub returns-in-Ok-close-3-clause-err : goal.returns-in-Ok-close-3-clause-err
returns-in-Ok-close-3-clause-err g c =
    memory_shown g.A.Showing.watching c.args.program.now c.args.limits.now c.args.engine.now c.args.dice.now c.requires.starts c.args.output.now.printer.spacer c.run.new.output.printer.spacer (c.args.output.now.printer.showing, c.args.sink.now) (c.run.new.output.printer.showing, c.run.new.sink) (g.S.Source.view c.args.source.now) (g.S.Source.view c.run.new.source) c.requires.spacer _ (rw c.in-Err-OutOfMemory.field-0-is at c.in-Err-OutOfMemory.ensures.err) c.in-Ok-close-3.ensures.ok

pub returns-in-Ok-close-3-clause-later : goal.returns-in-Ok-close-3-clause-later
returns-in-Ok-close-3-clause-later g c =
    broken_later g.A.Showing.watching c.args.program.now c.args.limits.now c.args.engine.now c.args.dice.now c.requires.starts c.args.output.now.printer.spacer c.run.new.output.printer.spacer (c.args.output.now.printer.showing, c.args.sink.now) (c.run.new.output.printer.showing, c.run.new.sink) (g.S.Source.view c.args.source.now) (g.S.Source.view c.run.new.source) c.requires.spacer c.in-Err-OutOfMemory.field-0 c.in-Err-OutOfMemory.ensures.err

pub returns-in-Err-close-2-clause-err : goal.returns-in-Err-close-2-clause-err
returns-in-Err-close-2-clause-err g c =
    memory_closing_lost g.A.Showing.watching c.args.program.now c.args.limits.now c.args.engine.now c.args.dice.now c.requires.starts c.args.output.now.printer.spacer c.run.new.output.printer.spacer (c.args.output.now.printer.showing, c.args.sink.now) (c.run.new.output.printer.showing, c.run.new.sink) (g.S.Source.view c.args.source.now) (g.S.Source.view c.run.new.source) c.requires.spacer _ (rw c.in-Err-OutOfMemory.field-0-is at c.in-Err-OutOfMemory.ensures.err) c.in-Err-close-2.ensures.err

pub returns-in-Err-close-2-clause-later : goal.returns-in-Err-close-2-clause-later
returns-in-Err-close-2-clause-later g c =
    broken_later g.A.Showing.watching c.args.program.now c.args.limits.now c.args.engine.now c.args.dice.now c.requires.starts c.args.output.now.printer.spacer c.run.new.output.printer.spacer (c.args.output.now.printer.showing, c.args.sink.now) (c.run.new.output.printer.showing, c.run.new.sink) (g.S.Source.view c.args.source.now) (g.S.Source.view c.run.new.source) c.requires.spacer c.in-Err-OutOfMemory.field-0 c.in-Err-OutOfMemory.ensures.err

pub returns-in-Ok-close-2-clause-err : goal.returns-in-Ok-close-2-clause-err
returns-in-Ok-close-2-clause-err g c =
    input_shown g.A.Showing.watching c.args.program.now c.args.limits.now c.args.engine.now c.args.dice.now c.requires.starts c.args.output.now.printer.spacer c.run.new.output.printer.spacer (c.args.output.now.printer.showing, c.args.sink.now) (c.run.new.output.printer.showing, c.run.new.sink) (g.S.Source.view c.args.source.now) (g.S.Source.view c.run.new.source) c.requires.spacer _ (rw c.in-Err-Read.field-0-is at c.in-Err-Read.ensures.err) c.in-Ok-close-2.ensures.ok

pub returns-in-Ok-close-2-clause-read : goal.returns-in-Ok-close-2-clause-read
returns-in-Ok-close-2-clause-read g c =
    λ _. broken_rose g.A.Showing.watching c.args.program.now c.args.limits.now c.args.engine.now c.args.dice.now c.requires.starts c.args.output.now.printer.spacer c.run.new.output.printer.spacer (c.args.output.now.printer.showing, c.args.sink.now) (c.run.new.output.printer.showing, c.run.new.sink) (g.S.Source.view c.args.source.now) (g.S.Source.view c.run.new.source) c.requires.spacer c.in-Err-Read.field-0 c.in-Err-Read.field-0-is c.in-Err-Read.ensures.err

pub returns-in-Ok-close-2-clause-later : goal.returns-in-Ok-close-2-clause-later
returns-in-Ok-close-2-clause-later g c =
    broken_later g.A.Showing.watching c.args.program.now c.args.limits.now c.args.engine.now c.args.dice.now c.requires.starts c.args.output.now.printer.spacer c.run.new.output.printer.spacer (c.args.output.now.printer.showing, c.args.sink.now) (c.run.new.output.printer.showing, c.run.new.sink) (g.S.Source.view c.args.source.now) (g.S.Source.view c.run.new.source) c.requires.spacer c.in-Err-Read.field-0 c.in-Err-Read.ensures.err

pub returns-in-Err-close-clause-err : goal.returns-in-Err-close-clause-err
returns-in-Err-close-clause-err g c =
    input_closing_lost g.A.Showing.watching c.args.program.now c.args.limits.now c.args.engine.now c.args.dice.now c.requires.starts c.args.output.now.printer.spacer c.run.new.output.printer.spacer (c.args.output.now.printer.showing, c.args.sink.now) (c.run.new.output.printer.showing, c.run.new.sink) (g.S.Source.view c.args.source.now) (g.S.Source.view c.run.new.source) c.requires.spacer _ (rw c.in-Err-Read.field-0-is at c.in-Err-Read.ensures.err) c.in-Err-close.ensures.err

pub returns-in-Err-close-clause-later : goal.returns-in-Err-close-clause-later
returns-in-Err-close-clause-later g c =
    broken_later g.A.Showing.watching c.args.program.now c.args.limits.now c.args.engine.now c.args.dice.now c.requires.starts c.args.output.now.printer.spacer c.run.new.output.printer.spacer (c.args.output.now.printer.showing, c.args.sink.now) (c.run.new.output.printer.showing, c.run.new.sink) (g.S.Source.view c.args.source.now) (g.S.Source.view c.run.new.source) c.requires.spacer c.in-Err-Read.field-0 c.in-Err-Read.ensures.err
