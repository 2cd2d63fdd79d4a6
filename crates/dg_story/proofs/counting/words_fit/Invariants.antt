use Rattle.std.proofs.Common.{◌≡◌, ◌≤◌, ◌+◌, drop}
use Rattle.dg_fits.specs.Sizes.{words_size}
use Rattle.dg_story.proofs.counting.words_fit.Given as goal

abbrev pub invariant-loop-word : goal.invariant-loop-word
invariant-loop-word l = record {
  sum : l.room + words_size l.words ≡ 20000 + words_size (drop l.word-index l.words);
  most : l.room ≤ 20000;
}
