use Rattle.std.proofs.Common.{◌≡◌, ◌+◌, ◌++◌}
use Rattle.dg_core.specs.inside.View.{scope_view}
use Rattle.dg_core.specs.inside.Waiting.{home_view, home_of, left_of, pending, selects_left, stack_of}
use Rattle.dg_core.proofs.rows.add_rows.Given as goal

abbrev pub invariant-loop-waiting : goal.invariant-loop-waiting
invariant-loop-waiting l =
    let home = home_of (scope_view l.fn.around) l.fn.kept in
    record {
      same : home_view l.home ≡ home;
      rows : l.rows ++ pending home l.sites (stack_of l.left) ≡ l.initial.rows ++ pending home l.initial.sites (stack_of l.fn.kept.left);
      sites : l.sites + selects_left (stack_of l.left) ≡ l.initial.sites + selects_left (stack_of l.fn.kept.left);
    }

abbrev pub decreases-loop-waiting : goal.decreases-loop-waiting
decreases-loop-waiting l = left_of (stack_of l.left)
