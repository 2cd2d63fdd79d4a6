use Rattle.std.proofs.Common.{◌≡◌, drop}
use Rattle.dg_plain.specs.Items as spec
use Rattle.dg_plain.specs.State.{seen}
use Rattle.dg_plain.proofs.numbers.begins_one.Given as goal

abbrev pub invariant-loop-name : goal.invariant-loop-name
invariant-loop-name l = spec.begins_one (seen l.names) l.mark ≡ spec.begins_one (seen (drop l.name-index l.names)) l.mark
