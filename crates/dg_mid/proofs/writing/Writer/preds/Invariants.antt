use Rattle.dg_mid.proofs.Rules.{PredsDone}
use Rattle.dg_mid.proofs.writing.Writer.preds.Given as goal

abbrev pub invariant-loop-turn : goal.invariant-loop-turn
invariant-loop-turn l = PredsDone l.initial.self.blocks l.self.blocks l.initial.preds l.preds l.codes.items
