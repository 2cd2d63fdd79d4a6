use Rattle.std.proofs.Common.{drop}
use Rattle.dg_base.specs.Written.{texts}
use Rattle.dg_base.proofs.WrittenLemmas.{WroteFront}
use Rattle.dg_base.proofs.writing.write_pieces.Given as goal

abbrev pub invariant-loop-piece : goal.invariant-loop-piece
invariant-loop-piece g l = WroteFront (g.K.Sink.view l.initial.sink) (g.K.Sink.view l.sink) (texts l.pieces) (texts (drop l.piece-index l.pieces))
