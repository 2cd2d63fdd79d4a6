use Rattle.std.proofs.Common.{◌≡◌, ◌++◌, length, map, reverse}
use Rattle.dg_core.specs.Places.{place_names}
use Rattle.dg_lower.specs.Lowered.{without_starts}
use Rattle.dg_lower.specs.inside.View.{items_in}
use Rattle.dg_lower.proofs.lowering.all_without_starts.Given as goal

abbrev pub invariant-loop-pred : goal.invariant-loop-pred
invariant-loop-pred l = let without = without_starts (place_names (items_in l.around)) in
    map without l.preds ++ reverse l.kept.items ≡ map without l.initial.preds

abbrev pub decreases-loop-pred : goal.decreases-loop-pred
decreases-loop-pred l = length l.preds
