use Rattle.std.proofs.Common.{map, length, ◌-◌}
use Rattle.dg_base.specs.Heads.{name_of}
use Rattle.dg_base.specs.Tree.{parts_of}
use Rattle.dg_base.specs.TreeView.{part_view}
use Rattle.dg_put.proofs.ChainLemmas.{IsAt}
use Rattle.dg_put.proofs.finding.first_of.Given as goal

abbrev pub invariant-loop-at : goal.invariant-loop-at
invariant-loop-at l = IsAt l.rules.all.now (name_of (parts_of (map part_view l.parts))) l.at

abbrev pub decreases-loop-at : goal.decreases-loop-at
decreases-loop-at l = length l.rules.all.now - l.at
