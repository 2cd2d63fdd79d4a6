use Rattle.std.proofs.Common.{drop}
use Rattle.dg_story.specs.inside.Counting.{lists_size}
use Rattle.dg_story.specs.inside.Counting.{GoesOn}
use Rattle.dg_story.proofs.counting.Count.add_lists.Given as goal

abbrev pub invariant-loop-goals : goal.invariant-loop-goals
invariant-loop-goals l = GoesOn (lists_size (l.lists)) (lists_size (drop l.goals-index l.lists)) l.initial.self l.self
