use Rattle.std.proofs.Common.{◌≡◌, ◌+◌, ◌++◌, drop}
use Rattle.dg_emit.specs.Numbers.{rules_count}
use Rattle.dg_emit.specs.Code.{preds_routines, PredsFit}
use Rattle.dg_emit.proofs.layout.RuleWriter.put_preds.Given as goal

abbrev pub invariant-loop-rules : goal.invariant-loop-rules
invariant-loop-rules l =
    (l.all ++ preds_routines l.self.code.now l.self.numbers.now l.next (drop l.rules-index l.preds)
    ≡ l.initial.all ++ preds_routines l.self.code.now l.self.numbers.now l.number l.preds)
    × (l.next + rules_count (drop l.rules-index l.preds) ≡ l.number + rules_count l.preds)
    × PredsFit l.self.code.now (drop l.rules-index l.preds)
