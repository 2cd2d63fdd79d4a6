use Rattle.std.proofs.Common.{◌≡◌, ◌+◌, drop}
use Rattle.dg_emit.specs.Numbers.{rules_count}
use Rattle.dg_emit.proofs.numbers.behind_rules.Given as goal

abbrev pub invariant-loop-rules : goal.invariant-loop-rules
invariant-loop-rules l = l.next + rules_count (drop l.rules-index l.preds) ≡ l.number + rules_count l.preds
