use Rattle.std.proofs.Common.{◌≡◌, ◌++◌, drop, map, flat_map}
use Rattle.dg_base.specs.TreeView.{item_view}
use Rattle.dg_lint.specs.Lines.{item_lines}
use Rattle.dg_lint.specs.inside.View.{uses_view}
use Rattle.dg_lint.proofs.lines.lines_of.Given as goal

abbrev pub invariant-loop-item : goal.invariant-loop-item
invariant-loop-item l = l.text.items ++ flat_map (item_lines l.file (uses_view l.uses)) (map item_view (drop l.item-index l.items)) ≡ flat_map (item_lines l.file (uses_view l.uses)) (map item_view l.items)
