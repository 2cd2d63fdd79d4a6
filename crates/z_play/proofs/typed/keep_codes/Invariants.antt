use Rattle.std.proofs.Common.{length, ◌-◌}
use Rattle.z_play.proofs.Codes.{KeepsCodes}
use Rattle.z_play.proofs.typed.keep_codes.Given as goal

abbrev pub invariant-loop-line : goal.invariant-loop-line
invariant-loop-line l = KeepsCodes l.line l.bytes l.kept l.at

abbrev pub decreases-loop-line : goal.decreases-loop-line
decreases-loop-line l = length l.bytes - l.at
