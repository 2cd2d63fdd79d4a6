use Rattle.std.proofs.Common.{◌≡◌, ◌+◌, drop}
use Rattle.dg_story.specs.Built.{rule_count}
use Rattle.dg_story.proofs.building.rule_count.Given as goal

abbrev pub invariant-loop-pred : goal.invariant-loop-pred
invariant-loop-pred l = l.count + rule_count (drop l.pred-index l.preds) ≡ rule_count l.preds
