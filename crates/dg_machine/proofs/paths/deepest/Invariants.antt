use Rattle.std.proofs.Common.{◌≡◌, List, length}
use Rattle.std.specs.List.{AllWithin}
use Rattle.dg_machine.specs.declared.now.Side.{Side}
use Rattle.dg_machine.specs.inside.Writing.{IsMark, AreMarksBelow}
use Rattle.dg_machine.proofs.paths.deepest.Given as goal

abbrev pub invariant-marks : goal.invariant-marks
invariant-marks l = record {
  below : (path : List Side) → length path ≡ l.below → AreMarksBelow path l.whole l.fn.marks → AreMarksBelow path l.whole l.marks;
  done : (path : List Side) → length path ≡ l.below → AreMarksBelow path l.whole l.fn.marks → AllWithin (IsMark path l.whole) l.marks 0 l.mark-index;
  best : (path : List Side) → length path ≡ l.below → AreMarksBelow path l.whole l.fn.marks → IsMark path l.whole l.best;
}
