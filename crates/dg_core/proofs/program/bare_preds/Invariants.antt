use Rattle.std.proofs.Common.{◌≡◌, ◌++◌, [], ℕ, Vec, Global, drop, map}
use Rattle.dg_core.specs.Core.{pred_of}
use Rattle.dg_core.specs.inside.View.{scope_view}
use Rattle.dg_core.proofs.program.bare_preds.Given as goal

abbrev pub invariant-loop-name : goal.invariant-loop-name
invariant-loop-name l = l.preds.items ++ map (pred_of (scope_view l.around) []) (map (λ (n : Vec ℕ Global). n.items) (drop l.name-index l.name-items)) ≡ map (pred_of (scope_view l.around) []) (scope_view l.around).names.preds
