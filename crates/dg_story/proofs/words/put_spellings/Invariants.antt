use Rattle.std.proofs.Common.{◌≡◌, ◌++◌, length}
use Rattle.dg_rt.specs.Words.{spellings}
use Rattle.dg_story.proofs.words.put_spellings.Given as goal

abbrev pub invariant-loop-left : goal.invariant-loop-left
invariant-loop-left l = l.bytes ++ spellings l.left ≡ l.initial.bytes ++ spellings l.words

abbrev pub decreases-loop-left : goal.decreases-loop-left
decreases-loop-left l = length l.left
