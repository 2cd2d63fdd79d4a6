use Rattle.std.proofs.Common.{drop}
use Rattle.dg_fits.specs.Sizes.{rules_size}
use Rattle.dg_story.specs.inside.Counting.{GoesOn}
use Rattle.dg_story.proofs.counting.Count.rules.Given as goal

abbrev pub invariant-loop-rule : goal.invariant-loop-rule
invariant-loop-rule l = GoesOn (rules_size (l.rules)) (rules_size (drop l.rule-index l.rules)) l.initial.self l.self
