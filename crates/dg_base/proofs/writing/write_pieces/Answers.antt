use Rattle.std.proofs.Common.{◌+◌, drop}
use Rattle.std.proofs.lemmas.List.{at_drop_more}
use Rattle.dg_base.specs.Written.{texts}
use Rattle.dg_base.proofs.WrittenLemmas.{front_goes, front_broke}
use Rattle.dg_base.proofs.writing.write_pieces.Goals as goal

pub returns-in-Err-clause-err : goal.returns-in-Err-clause-err
returns-in-Err-clause-err g c = front_broke _ _ _ (texts c.args.pieces.now) (texts (drop c.loop-piece.piece-index c.args.pieces.now)) (texts (drop (c.loop-piece.piece-index + 1) c.args.pieces.now)) _ (at_drop_more texts c.args.pieces.now c.loop-piece.piece-index _ c.loop-piece-test.true) c.loop-piece.invariant c.in-Err.ensures.err

pub loop-piece-preserved : goal.loop-piece-preserved
loop-piece-preserved g c = front_goes _ _ _ (texts c.args.pieces.now) (texts (drop c.loop-piece.piece-index c.args.pieces.now)) (texts (drop (c.loop-piece.piece-index + 1) c.args.pieces.now)) _ (at_drop_more texts c.args.pieces.now c.loop-piece.piece-index _ c.loop-piece-test.true) c.loop-piece.invariant c.in-Ok.ensures.ok
