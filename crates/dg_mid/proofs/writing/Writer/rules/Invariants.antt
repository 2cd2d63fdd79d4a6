use Rattle.dg_mid.proofs.Rules.{RulesDone}
use Rattle.dg_mid.proofs.writing.Writer.rules.Given as goal

abbrev pub invariant-loop-turn : goal.invariant-loop-turn
invariant-loop-turn l = RulesDone l.initial.self.blocks l.self.blocks l.initial.rules l.rules l.codes.items
