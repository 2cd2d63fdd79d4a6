use Rattle.std.proofs.Common.{◌≡◌, drop}
use Rattle.dg_base.specs.Heads.{behind, escaped}
use Rattle.dg_base.proofs.heads.behind_word.Given as goal

abbrev pub invariant-loop-letter : goal.invariant-loop-letter
invariant-loop-letter l = behind (escaped (drop l.letter-index l.word)) l.rest ≡ behind (escaped l.word) l.name
