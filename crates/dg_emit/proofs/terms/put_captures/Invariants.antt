use Rattle.std.proofs.Common.{◌≡◌, ◌++◌, length}
use Rattle.dg_turn.specs.Terms.{AreCaptured, capture_acts, captures_for}
use Rattle.dg_emit.proofs.terms.put_captures.Given as goal

abbrev pub invariant-loop-left : goal.invariant-loop-left
invariant-loop-left l =
    (l.acts ++ capture_acts (captures_for (length l.left)) l.left ≡ l.initial.acts ++ capture_acts (captures_for (length l.captured)) l.captured)
    × AreCaptured l.left

abbrev pub decreases-loop-left : goal.decreases-loop-left
decreases-loop-left l = length l.left
