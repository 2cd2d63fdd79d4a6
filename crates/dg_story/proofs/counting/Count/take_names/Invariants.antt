use Rattle.std.proofs.Common.{drop}
use Rattle.dg_fits.specs.Sizes.{names_size}
use Rattle.dg_story.specs.inside.Counting.{GoesOn}
use Rattle.dg_story.proofs.counting.Count.take_names.Given as goal

abbrev pub invariant-loop-name : goal.invariant-loop-name
invariant-loop-name l = GoesOn (names_size (l.names)) (names_size (drop l.name-index l.names)) l.initial.self l.self
