use Rattle.std.proofs.Common.{◌≡◌, ◌++◌, drop, map}
use Rattle.dg_names.specs.State.{seen}
use Rattle.dg_core.specs.Goals.{number_in}
use Rattle.dg_core.proofs.rows.numbers_among.Given as goal

abbrev pub invariant-loop-name : goal.invariant-loop-name
invariant-loop-name l = l.numbers ++ map (number_in (seen l.variables)) (seen (drop l.name-index l.names)) ≡ map (number_in (seen l.variables)) (seen l.names)
