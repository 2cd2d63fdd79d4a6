use Rattle.std.proofs.Common.{◌≡◌, drop}
use Rattle.dg_put.specs.inside.Marks.{mix_all}
use Rattle.dg_put.proofs.marks.mix_word.Given as goal

abbrev pub invariant-loop-byte : goal.invariant-loop-byte
invariant-loop-byte l = mix_all l.sum (drop l.byte-index l.word) ≡ mix_all l.initial.sum l.word
