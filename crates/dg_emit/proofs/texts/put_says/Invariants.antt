use Rattle.std.proofs.Common.{◌≡◌, ◌++◌, drop}
use Rattle.std.specs.Prelude.{map}
use Rattle.dg_turn.specs.Texts.{say}
use Rattle.dg_emit.proofs.texts.put_says.Given as goal

abbrev pub invariant-loop-c : goal.invariant-loop-c
invariant-loop-c l = l.acts ++ map say (drop l.c-index l.characters) ≡ l.initial.acts ++ map say l.characters
