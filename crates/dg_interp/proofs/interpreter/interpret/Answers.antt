use Rattle.dg_meaning.specs.Engines.{game, left_told}
use Rattle.dg_watch.proofs.Seen.{shown_plainly, fault_plainly}
use Rattle.dg_interp.proofs.Whole.{for_map}
use Rattle.dg_interp.proofs.interpreter.interpret.Goals as goal

pub returns-in-Ok-clause-shows : goal.returns-in-Ok-clause-shows
returns-in-Ok-clause-shows g c =
    for_map (g.S.Source.view c.args.source.now).left _ _
    (λ typed h. shown_plainly g.K.Sink.view _ _ (game c.args.program.now c.args.dice.now) typed c.args.limits.now c.in-Ok.outcome (left_told (g.S.Source.view c.args.source.now) (g.S.Source.view c.interpret_seen.new.source)) h)
    c.in-Ok.ensures.shows

pub returns-in-Err-clause-err : goal.returns-in-Err-clause-err
returns-in-Err-clause-err g c =
    for_map (g.S.Source.view c.args.source.now).left _ _
    (λ typed h. fault_plainly g.K.Sink.view _ _ (game c.args.program.now c.args.dice.now) typed c.args.limits.now c.in-Err.fault (g.S.Source.view c.args.source.now) (g.S.Source.view c.interpret_seen.new.source) h)
    c.in-Err.ensures.err
