use Rattle.std.proofs.Common.{◌≡◌, ◌++◌, drop}
use Rattle.dg_story.specs.Marks.{rule_names}
use Rattle.dg_story.proofs.marks.rule_names.Given as goal

abbrev pub invariant-loop-number : goal.invariant-loop-number
invariant-loop-number l = l.rules.items ++ rule_names l.number (drop l.number l.preds) ≡ rule_names 0 l.preds
