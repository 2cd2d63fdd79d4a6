use Rattle.dg_meaning.specs.Engines.{left_told}
use Rattle.dg_meaning.proofs.Engines.{as_told}
use Rattle.dg_interp.proofs.Whole.{start_shown, start_lost, start_memory, start_memory_lost}
use Rattle.dg_interp.proofs.interpreter.show_lack.Goals as goal

pub returns-in-Ok-hand_piece-clause-shows : goal.returns-in-Ok-hand_piece-clause-shows
returns-in-Ok-hand_piece-clause-shows g c = λ typed told left.
    start_shown g.A.Showing.watching c.args.program.now c.args.limits.now c.args.dice.now typed (c.args.showing.now, c.args.sink.now) _ told left c.args.lack c.in-Ok.ending c.requires.lacks (rw c.in-Ok.is at c.limit.ensures) (rw c.line.ensures.is at c.in-Ok-hand_piece.ensures.ok)

pub returns-in-Err-hand_piece-clause-err : goal.returns-in-Err-hand_piece-clause-err
returns-in-Err-hand_piece-clause-err g c = λ typed i left.
    start_lost g.A.Showing.watching c.args.program.now c.args.limits.now c.args.dice.now typed (c.args.showing.now, c.args.sink.now) _ (left_told i i) (as_told i i typed left) c.args.lack c.in-Ok.ending c.requires.lacks (rw c.in-Ok.is at c.limit.ensures) (rw c.line.ensures.is at c.in-Err-hand_piece.ensures.err)

pub returns-in-Ok-hand_piece-2-clause-err : goal.returns-in-Ok-hand_piece-2-clause-err
returns-in-Ok-hand_piece-2-clause-err g c = λ typed i left.
    start_memory g.A.Showing.watching c.args.program.now c.args.limits.now c.args.dice.now typed (c.args.showing.now, c.args.sink.now) _ i.left left c.in-Ok-hand_piece-2.ensures.ok

pub returns-in-Err-hand_piece-2-clause-err : goal.returns-in-Err-hand_piece-2-clause-err
returns-in-Err-hand_piece-2-clause-err g c = λ typed i left.
    start_memory_lost g.A.Showing.watching c.args.program.now c.args.limits.now c.args.dice.now typed (c.args.showing.now, c.args.sink.now) _ (left_told i i) (as_told i i typed left) c.in-Err-hand_piece-2.ensures.err
