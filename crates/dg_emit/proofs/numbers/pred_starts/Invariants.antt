use Rattle.std.proofs.Common.{◌≡◌, ◌+◌, ◌++◌, drop}
use Rattle.dg_emit.specs.Numbers.{pred_starts, rules_count}
use Rattle.dg_emit.proofs.numbers.pred_starts.Given as goal

abbrev pub invariant-loop-rules : goal.invariant-loop-rules
invariant-loop-rules l =
    (l.starts ++ pred_starts l.next (drop l.rules-index l.preds) ≡ pred_starts l.number l.preds)
    × (l.next + rules_count (drop l.rules-index l.preds) ≡ l.number + rules_count l.preds)
