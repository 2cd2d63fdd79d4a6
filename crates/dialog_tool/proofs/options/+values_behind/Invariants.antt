use Rattle.std.proofs.Common.{length}
use Rattle.dialog_tool.proofs.options.+values_behind.Given as goal

abbrev pub decreases-values_behind : goal.decreases-values_behind
decreases-values_behind l = length l.options.now
