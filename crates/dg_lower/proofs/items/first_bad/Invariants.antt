use Rattle.std.proofs.Common.{[], drop, map}
use Rattle.dg_base.specs.TreeView.{item_view}
use Rattle.dg_core.specs.Core.{none_before}
use Rattle.dg_lower.specs.Lowered as spec
use Rattle.dg_lower.specs.inside.Left.{rules_view, Stands}
use Rattle.dg_lower.specs.inside.View.{names_in, items_in}
use Rattle.dg_lower.proofs.items.first_bad.Given as goal

abbrev pub invariant-loop-item : goal.invariant-loop-item
invariant-loop-item l =
    let s = spec.sight_of (names_in l.around) (items_in l.around) l.quiet in
    Stands s l.declared.items (rules_view l.rows.items) (map item_view (drop l.item-index l.item-items)) (spec.first_bad s none_before [] (items_in l.around))
