use Rattle.std.proofs.Common.{◌≡◌}
use Rattle.dg_emit.proofs.texts.characters.Given as goal

abbrev pub invariant-loop-c : goal.invariant-loop-c
invariant-loop-c l = l.made ≡ l.yielded
