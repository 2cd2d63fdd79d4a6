use Rattle.std.proofs.Common.{◌≡◌, take}
use Rattle.dg_machine.specs.inside.Writing.{reached}
use Rattle.dg_machine.proofs.paths.reach.Given as goal

abbrev pub invariant-sides : goal.invariant-sides
invariant-sides l = l.term ≡ reached (take l.side-index l.path) l.whole
