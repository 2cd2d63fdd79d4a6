use Rattle.std.proofs.Common.{◌≡◌, ◌+◌, drop}
use Rattle.dg_emit.specs.Numbers.{rules_count}
use Rattle.dg_emit.proofs.layout.rules_of.Given as goal

abbrev pub invariant-loop-rules : goal.invariant-loop-rules
invariant-loop-rules l = l.count + rules_count (drop l.rules-index l.preds) ≡ rules_count l.preds
