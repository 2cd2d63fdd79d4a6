use Rattle.std.proofs.Common.{◌≡◌, ◌++◌, drop}
use Rattle.dg_turn.specs.Names.{long_routines}
use Rattle.dg_emit.proofs.objects.put_long.Given as goal

abbrev pub invariant-loop-name : goal.invariant-loop-name
invariant-loop-name l = l.all ++ long_routines (drop l.name-index l.names) ≡ l.initial.all ++ long_routines l.names
