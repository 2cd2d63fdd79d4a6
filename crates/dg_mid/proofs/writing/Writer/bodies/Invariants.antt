use Rattle.dg_mid.proofs.Rules.{BodiesDone}
use Rattle.dg_mid.proofs.writing.Writer.bodies.Given as goal

abbrev pub invariant-loop-turn : goal.invariant-loop-turn
invariant-loop-turn l = BodiesDone l.initial.self.blocks l.self.blocks l.initial.closures l.closures l.codes.items l.captured.items
