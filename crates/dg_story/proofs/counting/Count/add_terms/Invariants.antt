use Rattle.std.proofs.Common.{drop}
use Rattle.dg_fits.specs.Sizes.{terms_size}
use Rattle.dg_story.specs.inside.Counting.{GoesOn}
use Rattle.dg_story.proofs.counting.Count.add_terms.Given as goal

abbrev pub invariant-loop-term : goal.invariant-loop-term
invariant-loop-term l = GoesOn (terms_size (l.terms)) (terms_size (drop l.term-index l.terms)) l.initial.self l.self
