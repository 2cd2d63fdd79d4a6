use Rattle.std.proofs.Common.{◌≡◌, ◌+◌, ◌++◌, ℕ, drop, map}
use Rattle.dg_base.specs.TreeView.{item_view}
use Rattle.dg_core.specs.Core.{pred_of, rows_from, all_selects, inner_selects}
use Rattle.dg_core.specs.inside.View.{scope_view, before_view, with_all, pred_names}
use Rattle.dg_core.specs.inside.Waiting.{rows_kept, selects_kept}
use Rattle.dg_core.proofs.program.rules_of.Given as goal

abbrev pub invariant-loop-item : goal.invariant-loop-item
invariant-loop-item l =
    let around = scope_view l.around in
    let rest = map item_view (drop l.item-index l.items) in
    record {
      preds : map (with_all around (before_view l.rules.before) rest) l.rules.preds.items ≡ map (pred_of around (map item_view l.items)) around.names.preds;
      named : pred_names l.rules.preds.items ≡ around.names.preds;
      kept : (n : ℕ) → rows_kept around n l.rules.kept.items ++ rows_from around (record { selects = n + selects_kept l.rules.kept.items; closures = l.rules.before.closures }) rest ≡ rows_from around (record { selects = n; closures = 0 }) (map item_view l.items);
      inner : selects_kept l.rules.kept.items + inner_selects rest ≡ inner_selects (map item_view l.items);
      sites : l.rules.before.selects + all_selects rest ≡ all_selects (map item_view l.items);
    }
