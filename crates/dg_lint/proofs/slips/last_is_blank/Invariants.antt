use Rattle.std.proofs.Common.{◌≡◌, false, drop, map}
use Rattle.dg_base.specs.TreeView.{branches_view, stmt_view}
use Rattle.dg_lint.specs.Slips as spec
use Rattle.dg_lint.proofs.slips.last_is_blank.Given as goal

abbrev pub invariant-loop-branch : goal.invariant-loop-branch
invariant-loop-branch l = spec.last_is_blank l.blank (branches_view (map (map stmt_view) (drop l.branch-index l.branches))) ≡ spec.last_is_blank false (branches_view (map (map stmt_view) l.branches))
