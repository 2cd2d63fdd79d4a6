use Rattle.std.proofs.Common.{◌≡◌, ◌++◌, drop}
use Rattle.dg_reader.specs.Tokens.{cut_parts, word_parts}
use Rattle.dg_reader.proofs.words.parts_of_word.Given as goal

abbrev pub invariant-loop-at : goal.invariant-loop-at
invariant-loop-at l = l.parts ++ cut_parts l.before l.part (drop l.at l.word) ≡ word_parts l.word
