use Rattle.std.proofs.Common.{◌≡◌, drop, map}
use Rattle.dg_base.specs.Heads.{behind, parts_behind}
use Rattle.dg_base.specs.Tree.{parts_of}
use Rattle.dg_base.specs.TreeView.{part_view}
use Rattle.dg_base.proofs.heads.behind_parts.Given as goal

abbrev pub invariant-loop-part : goal.invariant-loop-part
invariant-loop-part l = behind (parts_behind (parts_of (map part_view (drop l.part-index l.parts)))) l.rest ≡ behind (parts_behind (parts_of (map part_view l.parts))) l.name
