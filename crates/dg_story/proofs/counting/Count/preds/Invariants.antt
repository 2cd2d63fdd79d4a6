use Rattle.std.proofs.Common.{drop}
use Rattle.dg_fits.specs.Sizes.{preds_size}
use Rattle.dg_story.specs.inside.Counting.{GoesOn}
use Rattle.dg_story.proofs.counting.Count.preds.Given as goal

abbrev pub invariant-loop-pred : goal.invariant-loop-pred
invariant-loop-pred l = GoesOn (preds_size (l.preds)) (preds_size (drop l.pred-index l.preds)) l.initial.self l.self
