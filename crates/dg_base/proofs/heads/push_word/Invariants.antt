use Rattle.std.proofs.Common.{◌≡◌, ◌++◌, drop}
use Rattle.dg_base.specs.Heads.{escaped}
use Rattle.dg_base.proofs.heads.push_word.Given as goal

abbrev pub invariant-loop-c : goal.invariant-loop-c
invariant-loop-c l = l.name.items ++ escaped (drop l.c-index l.word) ≡ l.initial.name.items ++ escaped l.word
