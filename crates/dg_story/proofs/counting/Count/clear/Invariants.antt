use Rattle.dg_story.specs.inside.Counting.{GoesOn}
use Rattle.dg_story.proofs.counting.Count.clear.Given as goal

abbrev pub invariant-loop-turn : goal.invariant-loop-turn
invariant-loop-turn l = GoesOn 0 0 l.initial.self l.self
