use Rattle.std.proofs.Common.{◌≡◌, map, length}
use Rattle.dg_base.specs.TreeView.{stmt_view}
use Rattle.dg_reader.specs.inside.Machine as machine
use Rattle.dg_open.specs.inside.Views.{wrapper_view}
use Rattle.dg_reader.proofs.forms.wrapped.Given as goal

abbrev pub invariant-loop-wrapper : goal.invariant-loop-wrapper
invariant-loop-wrapper l = machine.wrapped (map wrapper_view l.wrappers) (stmt_view l.stmt) ≡ machine.wrapped (map wrapper_view l.initial.wrappers) (stmt_view l.initial.stmt)

abbrev pub decreases-loop-wrapper : goal.decreases-loop-wrapper
decreases-loop-wrapper l = length l.wrappers
