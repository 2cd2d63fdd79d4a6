use Rattle.std.proofs.Common.{◌≡◌, ◌+◌, ◌≤◌, ◌++◌, length}
use Rattle.dg_fits.specs.Sizes.{words_size}
use Rattle.dg_rt.specs.Words.{word_starts}
use Rattle.dg_story.proofs.words.put_starts.Given as goal

abbrev pub invariant-loop-left : goal.invariant-loop-left
invariant-loop-left l = (l.bytes ++ word_starts l.next l.left ≡ l.initial.bytes ++ word_starts l.at l.words) × (l.next + words_size l.left ≤ 65535)

abbrev pub decreases-loop-left : goal.decreases-loop-left
decreases-loop-left l = length l.left
