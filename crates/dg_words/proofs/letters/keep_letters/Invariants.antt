use Rattle.std.proofs.Common.{length, ◌-◌}
use Rattle.dg_words.proofs.LetterLemmas.{KeepsLetters}
use Rattle.dg_words.proofs.letters.keep_letters.Given as goal

abbrev pub invariant-loop-line : goal.invariant-loop-line
invariant-loop-line l = KeepsLetters l.line l.bytes l.kept l.at

abbrev pub decreases-loop-line : goal.decreases-loop-line
decreases-loop-line l = length l.bytes - l.at
