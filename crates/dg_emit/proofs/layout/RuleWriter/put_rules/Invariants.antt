use Rattle.std.proofs.Common.{◌≡◌, ◌+◌, ◌++◌, length}
use Rattle.dg_emit.specs.Code.{rules_routines, RulesFit}
use Rattle.dg_emit.proofs.layout.RuleWriter.put_rules.Given as goal

abbrev pub invariant-loop-left : goal.invariant-loop-left
invariant-loop-left l =
    (l.all ++ rules_routines l.self.code.now l.self.numbers.now l.next l.left ≡ l.initial.all ++ rules_routines l.self.code.now l.self.numbers.now l.number l.rules)
    × (l.next + length l.left ≡ l.number + length l.rules)
    × RulesFit l.self.code.now l.left

abbrev pub decreases-loop-left : goal.decreases-loop-left
decreases-loop-left l = length l.left
