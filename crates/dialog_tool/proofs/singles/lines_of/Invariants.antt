use Rattle.std.proofs.Common.{◌≡◌, ◌++◌, length, zip, flat_map}
use Rattle.dialog_tool.specs.Report.{report_line}
use Rattle.dialog_tool.proofs.singles.lines_of.Given as goal

abbrev pub invariant-lines : goal.invariant-lines
invariant-lines l = l.text.items ++ flat_map report_line (zip l.preds l.set) ≡ flat_map report_line (zip l.fn.preds l.fn.set)

abbrev pub decreases-lines : goal.decreases-lines
decreases-lines l = length l.preds
