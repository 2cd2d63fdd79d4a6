use Rattle.std.proofs.Common.{◌≡◌, ◌++◌, drop, map}
use Rattle.dg_base.specs.declared.program.Pred.{Pred}
use Rattle.dg_lower.specs.inside.Left.{rules_view}
use Rattle.dg_lower.proofs.items.all_rules.Given as goal

abbrev pub invariant-loop-pred : goal.invariant-loop-pred
invariant-loop-pred l = rules_view l.rows.items ++ map (λ (p : Pred). p.rules) (drop l.pred-index l.preds) ≡ map (λ (p : Pred). p.rules) l.preds
