use Rattle.std.proofs.Common.{◌≡◌, ◌-◌, ◌++◌}
use Rattle.dg_story.specs.Marks.{names_from}
use Rattle.dg_story.proofs.marks.push_rules.Given as goal

abbrev pub invariant-loop-rule : goal.invariant-loop-rule
invariant-loop-rule l = l.rules.items ++ names_from l.pred l.rule (l.count - l.rule) ≡ l.initial.rules.items ++ names_from l.pred 0 l.count
