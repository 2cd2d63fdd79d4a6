use Rattle.std.proofs.Common.{◌≡◌, ◌-◌, ◌≤◌, take, length}
use Rattle.dg_machine.specs.inside.Writing.{reached, AreMarks}
use Rattle.dg_machine.proofs.paths.find.Given as goal

abbrev pub invariant-sides : goal.invariant-sides
invariant-sides l = record {
  within : l.depth ≤ length l.path;
  at : l.term ≡ reached (take l.depth l.path) l.whole;
  marks : AreMarks l.path l.whole l.marks;
}

abbrev pub decreases-sides : goal.decreases-sides
decreases-sides l = length l.path - l.depth
