use Rattle.std.proofs.Common.{sym}
use Rattle.dg_meaning.specs.Engines.{game}
use Rattle.dg_trace.proofs.Entries.{traced_for, lost_for, broke_for}
use Rattle.dg_trace.proofs.tracing.trace.Goals as goal

pub returns-then-is_broken-clause-err : goal.returns-then-is_broken-clause-err
returns-then-is_broken-clause-err g c =
    broke_for g.K.Sink.view (game c.args.program.now c.args.dice.now) c.args.limits.now (g.S.Source.view c.args.source.now) (g.S.Source.view c.interpret_seen-result.new.source)
    (c.new-lines.result, c.args.sink.now) (c.interpret_seen-result.new.showing, c.interpret_seen-result.new.sink)
    (record { program = c.new-lines.ensures.program; begun = c.new-lines.ensures.begun; whole = c.new-lines.ensures.broken; faults = c.new-lines.ensures.faults })
    (sym c.if-is_broken.ensures) c.interpret_seen-result.result c.interpret_seen-result.ensures.shows c.interpret_seen-result.ensures.err

pub returns-in-Ok-clause-shows : goal.returns-in-Ok-clause-shows
returns-in-Ok-clause-shows g c =
    traced_for g.K.Sink.view (game c.args.program.now c.args.dice.now) c.args.limits.now (g.S.Source.view c.args.source.now) (g.S.Source.view c.interpret_seen-result.new.source)
    (c.new-lines.result, c.args.sink.now) (c.interpret_seen-result.new.showing, c.interpret_seen-result.new.sink)
    (record { program = c.new-lines.ensures.program; begun = c.new-lines.ensures.begun; whole = c.new-lines.ensures.broken; faults = c.new-lines.ensures.faults })
    (sym c.if-is_broken.ensures) c.in-Ok.outcome c.in-Ok.ensures.shows

pub returns-in-Err-clause-err : goal.returns-in-Err-clause-err
returns-in-Err-clause-err g c =
    lost_for g.K.Sink.view (game c.args.program.now c.args.dice.now) c.args.limits.now (g.S.Source.view c.args.source.now) (g.S.Source.view c.interpret_seen-result.new.source)
    (c.new-lines.result, c.args.sink.now) (c.interpret_seen-result.new.showing, c.interpret_seen-result.new.sink)
    (record { program = c.new-lines.ensures.program; begun = c.new-lines.ensures.begun; whole = c.new-lines.ensures.broken; faults = c.new-lines.ensures.faults })
    (sym c.if-is_broken.ensures) c.in-Err.fault c.in-Err.ensures.err
