use Rattle.std.proofs.Common.{◌≡◌}
use Rattle.dg_base.specs.TreeView.{value_view}
use Rattle.dg_reader.specs.Heads as spec
use Rattle.dg_reader.specs.inside.Sizes.{all_constant, work}
use Rattle.dg_reader.proofs.heads.is_constant.Given as goal

abbrev pub invariant-loop-values : goal.invariant-loop-values
invariant-loop-values l = all_constant l.left.items ≡ spec.is_constant (value_view l.value)

abbrev pub decreases-loop-values : goal.decreases-loop-values
decreases-loop-values l = work l.left.items
