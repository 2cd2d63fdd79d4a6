use Rattle.std.proofs.Common.{◌≡◌, ◌++◌, length, drop}
use Rattle.z_list.specs.Listing.{AreMarks, lines}
use Rattle.z_list.specs.Texts.{texts, first_length}
use Rattle.z_list.proofs.writing.push_lines.Given as goal

abbrev pub invariant-loop-mark : goal.invariant-loop-mark
invariant-loop-mark l = record {
  rest : l.initial.text.items ++ texts (lines first_length 0 l.story l.marks)
      ≡ l.text.items ++ texts (lines first_length l.at (drop l.at l.story) (drop l.mark-index l.marks));
  marks : AreMarks l.at (length l.story) (drop l.mark-index l.marks);
}
