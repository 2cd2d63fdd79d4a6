use Rattle.std.proofs.Common.{drop}
use Rattle.dg_fits.specs.Sizes.{starts_size}
use Rattle.dg_story.specs.inside.Counting.{GoesOn}
use Rattle.dg_story.proofs.counting.Count.starts.Given as goal

abbrev pub invariant-loop-start : goal.invariant-loop-start
invariant-loop-start l = GoesOn (starts_size (l.starts)) (starts_size (drop l.start-index l.starts)) l.initial.self l.self
