use Rattle.std.proofs.Common.{◌≡◌, ◌+◌, ◌++◌}
use Rattle.dg_core.specs.inside.View.{scope_view}
use Rattle.dg_core.specs.inside.Waiting.{rows_kept, selects_kept}
use Rattle.dg_core.proofs.rows.all_rows.Given as goal

abbrev pub invariant-loop-rule : goal.invariant-loop-rule
invariant-loop-rule l =
    let rest = l.rule-iterator.rest.items in
    record {
      rows : l.rows ++ rows_kept (scope_view l.around) l.sites rest ≡ rows_kept (scope_view l.around) l.initial.sites l.fn.kept.items;
      sites : l.sites + selects_kept rest ≡ l.initial.sites + selects_kept l.fn.kept.items;
    }
